-- `stripes_index::place_starts` meets its contract. The invariant: the starts below s are placed, `start` is the next one, and `fullest` the
-- greatest count so far. Assumes nothing.
use mathlib.Core.Path.{◌≡◌, refl, sym, ap, ap₂, ◌∙◌}
use mathlib.Core.List.{List}
use Prim.Native.Nat.{ℕ, ◌+◌, ◌*◌, ◌<◌, max}
use lib.ListN.{length, get_or, set}
use native.Mathlib.Omega.{arith}
use native.Mathlib.Numerals.{add-one}
use Rattle.room.specs.Room.{pad}
use Rattle.stripes_index.specs.Inner.States.{second_at, sum_to, most_to}
use Rattle.stripes_index.proofs.Starts.{starts_to, starts_none, starts_all, start_count, start_turn, sum_bound}
use Rattle.stripes_index.proofs.place_starts.Goals as goal

-- the count that is read
count : (c : ℕ → ℕ) (room m t : ℕ) (xs : List ℕ) → t < m → xs ≡ pad room (starts_to c m t) → get_or xs (t * 2 + 1) 0 ≡ c t
count c room m t xs h e = rw e (start_count c room m t h)

pub loop-s-init : goal.loop-s-init
unfolding sum_to most_to
loop-s-init c =
    let a = c.args in
    record {
      placed = c.requires.stripes_value ∙ ap (pad (length a.stripes.now)) (sym (starts_none (second_at a.stripes.now) (length a.stripes.now) a.m));
      next = refl;
      most = refl;
    }

pub overflow_add-start : goal.overflow_add-start
overflow_add-start c =
    let l = c.loop-s in
    let xs = c.args.stripes.now in
    omega (
      arith,
      count (second_at xs) (length xs) c.args.m l.s l.stripes (omega arith) l.invariant.placed,
      c.requires.m_bound.2 l.s (omega arith),
      sum_bound (second_at xs) 4096 l.s (λ s h. c.requires.m_bound.2 s (omega arith)),
    )

pub loop-s-preserved : goal.loop-s-preserved
unfolding sum_to most_to
loop-s-preserved c =
    let l = c.loop-s in
    let xs = c.args.stripes.now in
    let e = count (second_at xs) (length xs) c.args.m l.s l.stripes (omega arith) l.invariant.placed in
    record {
      placed = ap₂ (λ (ys : List ℕ) (v : ℕ). set (set ys (l.s * 2) v) (l.s * 2 + 1) 0) l.invariant.placed l.invariant.next
          ∙ start_turn (second_at xs) (length xs) c.args.m l.s (omega arith);
      next = rw (add-one l.s) (ap₂ ◌+◌ l.invariant.next e);
      most = rw (add-one l.s) (c.max-fullest.ensures ∙ ap₂ max l.invariant.most e);
    }

pub returns : goal.returns
returns c =
    let l = c.loop-s in
    let a = c.args in
    let xs = a.stripes.now in
    let last : l.s ≡ a.m = omega arith in
    record {
      entries_value = (c.wide.ensures ∙ rw (← last) l.invariant.next, c.wide-2.ensures ∙ rw (← last) l.invariant.most);
      stripes_after = rw last at l.invariant.placed ∙ ap (pad (length xs)) (starts_all (second_at xs) (length xs) a.m);
    }
