-- `stripes_build::Sound::enter_segment` meets its contract. The invariant: the segment is entered in the stripes below s. Assumes nothing.
use mathlib.Core.Path.{◌≡◌, sym, ap, ap₂, ◌∙◌}
use mathlib.Core.List.{List}
use mathlib.Core.Bool.{true}
use Prim.Native.Nat.{ℕ, ◌+◌, ◌*◌, ◌≤◌, ◌<◌}
use lib.Ieee.{Float}
use lib.ListN.{length, get_or, set}
use native.Mathlib.Omega.{arith}
use Rattle.room.specs.Room.{pad}
use Rattle.stripes_index.specs.Index.{first_stripe, last_stripe, crosses}
use Rattle.stripes_index.specs.Inner.States.{table_at, list_at_of}
use Rattle.stripes_index.proofs.Turns.{part_length}
use Rattle.stripes_index.proofs.Entering.{counts_to, numbers_to, stripe_reads, count_turn, number_turn, slot_inside, counts_from, counts_done, numbers_from, numbers_done}
use Rattle.stripes_index.proofs.Crossing.{crosses_from, crosses_to, crosses_at}
use Rattle.rings.specs.Ring.{wide}
use Rattle.stripes_build.proofs.Sound.enter_segment.Invariants.{starts}
use Rattle.stripes_build.proofs.Sound.enter_segment.Goals as goal

pub loop-s-init : goal.loop-s-init
loop-s-init c =
    let a = c.args in
    let p = c.requires in
    let cross = crosses (wide a.self.ring.now) a.cut.least a.cut.height a.cut.stripes in
    let n = a.self.segments in
    let from : (t : ℕ) → cross t a.i ≡ true → c.crossed-first.result.0 ≤ t = λ t h. omega (arith, crosses_from (wide a.self.ring.now) a.cut.least a.cut.height a.cut.stripes t a.i h) in
    record {
      table = p.stripes_value ∙ ap (pad (length a.stripes.now)) (sym (counts_from cross a.cut.stripes a.i c.crossed-first.result.0 (starts cross n) from));
      numbers = p.list_value ∙ ap (pad (length a.list.now)) (sym (numbers_from cross a.cut.stripes a.i c.crossed-first.result.0 n from));
    }

pub bounds-list-at : goal.bounds-list-at
bounds-list-at c =
    let l = c.loop-s in
    let a = c.args in
    let e = crosses_at (wide a.self.ring.now) a.cut.least a.cut.height a.cut.stripes l.s a.i (omega arith) (omega arith) in
    omega (
      arith,
      slot_inside (crosses (wide a.self.ring.now) a.cut.least a.cut.height a.cut.stripes) a.cut.stripes a.i l.s (omega arith) a.self.segments c.requires.i_bound.0 e
          (length a.stripes.now) l.stripes c.wide.result c.wide-in-loop-s.result (length a.list.now) l.invariant.table c.wide.ensures c.wide-in-loop-s.ensures c.requires.m_in_bounds,
    )

pub overflow_add-stripes : goal.overflow_add-stripes
overflow_add-stripes c =
    let l = c.loop-s in
    let a = c.args in
    let cross = crosses (wide a.self.ring.now) a.cut.least a.cut.height a.cut.stripes in
    let r = stripe_reads cross a.cut.stripes a.i l.s (omega arith) a.self.segments (length a.stripes.now) l.stripes l.invariant.table in
    omega (arith, r.1, part_length cross a.i l.s)

-- one stripe more, and the last
module _ (ring : ℕ → Float) (least height : Float) (m n i s : ℕ) (sn ln : ℕ) (xs ys : List ℕ)
    (t : xs ≡ pad sn (counts_to (crosses ring least height m) m (starts (crosses ring least height m) n) i s))
    (u : ys ≡ pad ln (numbers_to (crosses ring least height m) m n i s)) where
  table_more : first_stripe ring least height m i ≤ s → s ≤ last_stripe ring least height m i → s < m
      → set xs (s * 2 + 1) (get_or xs (s * 2 + 1) 0 + 1) ≡ pad sn (counts_to (crosses ring least height m) m (starts (crosses ring least height m) n) i (s + 1))
  table_more f l h =
      ap (λ (zs : List ℕ). set zs (s * 2 + 1) (get_or zs (s * 2 + 1) 0 + 1)) t
      ∙ count_turn (crosses ring least height m) m i s h sn (starts (crosses ring least height m) n) (crosses_at ring least height m s i f l)

  numbers_more : (at count : ℕ) → at ≡ get_or xs (s * 2) 0 → count ≡ get_or xs (s * 2 + 1) 0 → i < n
      → first_stripe ring least height m i ≤ s → s ≤ last_stripe ring least height m i → s < m
      → set ys (at + count) i ≡ pad ln (numbers_to (crosses ring least height m) m n i (s + 1))
  numbers_more at count p q k f l h =
      let r = stripe_reads (crosses ring least height m) m i s h n sn xs t in
      ap₂ (λ (zs : List ℕ) (j : ℕ). set zs j i) u (ap₂ ◌+◌ (p ∙ r.0) (q ∙ r.1))
      ∙ number_turn (crosses ring least height m) m i s h n k (crosses_at ring least height m s i f l) ln

  table_all : last_stripe ring least height m i < s → xs ≡ pad sn (table_at (crosses ring least height m) m n (i + 1))
  table_all l = t ∙ ap (pad sn) (counts_done (crosses ring least height m) m i s (starts (crosses ring least height m) n) (λ t h. omega (arith, crosses_to ring least height m t i h)))

  numbers_all : last_stripe ring least height m i < s → ys ≡ pad ln (list_at_of (crosses ring least height m) m n (i + 1))
  numbers_all l = u ∙ ap (pad ln) (numbers_done (crosses ring least height m) m i s n (λ t h. omega (arith, crosses_to ring least height m t i h)))

pub loop-s-preserved : goal.loop-s-preserved
loop-s-preserved c =
    let l = c.loop-s in
    let v = l.invariant in
    let a = c.args in
    let n = a.self.segments in
    record {
      table = table_more (wide a.self.ring.now) a.cut.least a.cut.height a.cut.stripes n a.i l.s (length a.stripes.now) (length a.list.now) l.stripes l.list v.table v.numbers
          (omega arith) (omega arith) (omega arith);
      numbers = numbers_more (wide a.self.ring.now) a.cut.least a.cut.height a.cut.stripes n a.i l.s (length a.stripes.now) (length a.list.now) l.stripes l.list v.table v.numbers
          _ _ c.wide.ensures c.wide-in-loop-s.ensures c.requires.i_bound.0 (omega arith) (omega arith) (omega arith);
    }

pub returns : goal.returns
returns c =
    let l = c.loop-s in
    let v = l.invariant in
    let a = c.args in
    let n = a.self.segments in
    record {
      stripes_after = table_all (wide a.self.ring.now) a.cut.least a.cut.height a.cut.stripes n a.i l.s (length a.stripes.now) (length a.list.now) l.stripes l.list v.table v.numbers (omega arith);
      list_after = numbers_all (wide a.self.ring.now) a.cut.least a.cut.height a.cut.stripes n a.i l.s (length a.stripes.now) (length a.list.now) l.stripes l.list v.table v.numbers (omega arith);
    }

pub returns-2 : goal.returns-2
returns-2 c =
    let l = c.loop-s in
    let v = l.invariant in
    let a = c.args in
    let n = a.self.segments in
    let t = table_more (wide a.self.ring.now) a.cut.least a.cut.height a.cut.stripes n a.i l.s (length a.stripes.now) (length a.list.now) l.stripes l.list v.table v.numbers
    (omega arith) (omega arith) (omega arith) in
    let u = numbers_more (wide a.self.ring.now) a.cut.least a.cut.height a.cut.stripes n a.i l.s (length a.stripes.now) (length a.list.now) l.stripes l.list v.table v.numbers
    _ _ c.wide.ensures c.wide-in-loop-s.ensures c.requires.i_bound.0 (omega arith) (omega arith) (omega arith) in
    record {
      stripes_after = table_all (wide a.self.ring.now) a.cut.least a.cut.height a.cut.stripes n a.i (l.s + 1) (length a.stripes.now) (length a.list.now) _ _ t u (omega arith);
      list_after = numbers_all (wide a.self.ring.now) a.cut.least a.cut.height a.cut.stripes n a.i (l.s + 1) (length a.stripes.now) (length a.list.now) _ _ t u (omega arith);
    }
