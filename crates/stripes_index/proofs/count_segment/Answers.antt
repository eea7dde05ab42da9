-- `stripes_index::count_segment` meets its contract. The invariant: the segment is counted in the stripes below s. Assumes nothing.
use mathlib.Core.Path.{◌≡◌, sym, ap, ◌∙◌}
use mathlib.Core.List.{List}
use Prim.Native.Nat.{ℕ, ◌+◌, ◌*◌, ◌<◌, ◌≤◌}
use lib.Ieee.{Float}
use lib.ListN.{length, get_or, set}
use native.Mathlib.Omega.{arith}
use Rattle.rings.specs.Ring.{wide}
use Rattle.room.specs.Room.{pad}
use Rattle.stripes_index.specs.Index.{part_of, first_stripe, last_stripe, crosses}
use Rattle.stripes_index.specs.Inner.States.{none, counts_at}
use Rattle.stripes_index.proofs.Turns.{part_length}
use Rattle.stripes_index.proofs.Entering.{counts_to, count_is, count_turn, counts_from, counts_done}
use Rattle.stripes_index.proofs.Crossing.{crosses_from, crosses_to, crosses_at}
use Rattle.stripes_index.proofs.count_segment.Goals as goal

pub loop-s-init : goal.loop-s-init
loop-s-init c =
    let a = c.args in
    let cross = crosses (wide a.ring.now) a.cut.least a.cut.height a.cut.stripes in
    c.requires.stripes_value
    ∙ ap (pad (length a.stripes.now))
    (sym (counts_from cross a.cut.stripes a.i c.crossed-first.result.0 none
    (λ t h. omega (arith, crosses_from (wide a.ring.now) a.cut.least a.cut.height a.cut.stripes t a.i h))))

pub overflow_add-stripes-in-loop-s : goal.overflow_add-stripes-in-loop-s
overflow_add-stripes-in-loop-s c =
    let l = c.loop-s in
    let a = c.args in
    let cross = crosses (wide a.ring.now) a.cut.least a.cut.height a.cut.stripes in
    let e : get_or l.stripes (l.s * 2 + 1) 0 ≡ length (part_of cross a.i l.s) =
    ap (λ (xs : List ℕ). get_or xs (l.s * 2 + 1) 0) l.invariant ∙ count_is cross a.cut.stripes a.i l.s (omega arith) (length a.stripes.now) none in
    omega (arith, e, part_length cross a.i l.s)

-- one stripe more, and the last
module _ (ring : ℕ → Float) (least height : Float) (m i s room : ℕ) (xs : List ℕ) where
  counted_more : first_stripe ring least height m i ≤ s → s ≤ last_stripe ring least height m i → s < m
      → xs ≡ pad room (counts_to (crosses ring least height m) m none i s)
      → set xs (s * 2 + 1) (get_or xs (s * 2 + 1) 0 + 1) ≡ pad room (counts_to (crosses ring least height m) m none i (s + 1))
  counted_more f l h e =
      ap (λ (ys : List ℕ). set ys (s * 2 + 1) (get_or ys (s * 2 + 1) 0 + 1)) e
      ∙ count_turn (crosses ring least height m) m i s h room none (crosses_at ring least height m s i f l)

  counted_all : last_stripe ring least height m i < s → xs ≡ pad room (counts_to (crosses ring least height m) m none i s)
      → xs ≡ pad room (counts_at (crosses ring least height m) m (i + 1))
  counted_all l e =
      e ∙ ap (pad room) (counts_done (crosses ring least height m) m i s none (λ t h. omega (arith, crosses_to ring least height m t i h)))

pub loop-s-preserved : goal.loop-s-preserved
loop-s-preserved c =
    let l = c.loop-s in
    let a = c.args in
    counted_more (wide a.ring.now) a.cut.least a.cut.height a.cut.stripes a.i l.s (length a.stripes.now) l.stripes (omega arith) (omega arith) (omega arith) l.invariant

pub returns : goal.returns
returns c =
    let l = c.loop-s in
    let a = c.args in
    counted_all (wide a.ring.now) a.cut.least a.cut.height a.cut.stripes a.i l.s (length a.stripes.now) l.stripes (omega arith) l.invariant

pub returns-2 : goal.returns-2
returns-2 c =
    let l = c.loop-s in
    let a = c.args in
    counted_all (wide a.ring.now) a.cut.least a.cut.height a.cut.stripes a.i (l.s + 1) (length a.stripes.now) _ (omega arith)
    (counted_more (wide a.ring.now) a.cut.least a.cut.height a.cut.stripes a.i l.s (length a.stripes.now) l.stripes (omega arith) (omega arith) (omega arith) l.invariant)
