-- The room for all rings is enough just where it is enough for each ring in turn. Assumes nothing.
use Prim.Native.Nat.{ℕ, suc, ◌+◌, ◌≤◌, ◌<◌}
use mathlib.Core.Path.{◌≡◌, refl, sym, ◌∙◌}
use mathlib.Core.List.{List}
use mathlib.Core.Bool.{Bool, true, false, ◌&&◌, false≢true}
use native.Mathlib.Omega.{arith}
use lib.ListN.{length}
use lib.IntN.{ℤ}
use lib.Ieee.{Float}
use borrow.Author.Tests.{le-leb, leb-true}
use Rattle.rings.proofs.Checks.{both}
use Rattle.outline_check.specs.Outline.{rings, size_at, ring_of}
use Rattle.outline_index.specs.declared.BuildOptions.{BuildOptions}
use Rattle.outline_index.specs.declared.Places.{Places}
use Rattle.outline_index.specs.Pools.{in_turn, every}
use Rattle.outline_index.specs.Parts.{stripes_part, list_part, bytes_part, few_stripes, enough_work}
use Rattle.outline_index.specs.Inner.Step.{stripes_fit, tree_fits}
use Rattle.outline_index.proofs.Pools.{turn_rises, turn_more, every_one}
use Rattle.rings.specs.Ring.{wide}
use Rattle.outline_build.specs.Indexes.{stripes_to, list_to, bytes_to, spans_to, rows_to, calls, roomy}

-- parts that fit in all fit up to each ring
fits_to : (f : ℕ → List ℕ) (k m room at : ℕ) → k < m → at ≡ length (in_turn f k) → length (in_turn f m) ≤ room → at + length (f k) ≤ room
fits_to f k m room at h e l = omega (arith, turn_rises f (suc k) m (omega arith), turn_more f k)

module _ (options : BuildOptions) (sizes : List ℕ) (coords : List ℤ) (T : List ℕ) (F : List Float) (S L B W : List ℕ) where
  pub roomy_all : length (rows_to options sizes coords (rings sizes)) ≤ length T → length (spans_to options sizes coords (rings sizes)) ≤ length F
      → length (stripes_to options sizes coords (rings sizes)) ≤ length S → length (list_to options sizes coords (rings sizes)) ≤ length L
      → length (bytes_to options sizes coords (rings sizes)) ≤ length B → every (calls options sizes coords W) (rings sizes) ≡ true
      → roomy T F S L B W options sizes coords ≡ true
  unfolding roomy
  roomy_all t f s l b e = rw (le-leb _ _ t, le-leb _ _ f, le-leb _ _ s, le-leb _ _ l, le-leb _ _ b, e)

  pub record Enough : Type 0 where
    pub rows : length (rows_to options sizes coords (rings sizes)) ≤ length T
    pub heights : length (spans_to options sizes coords (rings sizes)) ≤ length F
    pub pairs : length (stripes_to options sizes coords (rings sizes)) ≤ length S
    pub entries : length (list_to options sizes coords (rings sizes)) ≤ length L
    pub packed : length (bytes_to options sizes coords (rings sizes)) ≤ length B
    pub called : every (calls options sizes coords W) (rings sizes) ≡ true

  pub roomy_is : roomy T F S L B W options sizes coords ≡ true → Enough
  unfolding roomy
  roomy_is e =
      let five = both _ _ e in
      let four = both _ _ five.0 in
      let three = both _ _ four.0 in
      let two = both _ _ three.0 in
      let one = both _ _ two.0 in
      record {
        rows = leb-true _ _ one.0;
        heights = leb-true _ _ one.1;
        pairs = leb-true _ _ two.1;
        entries = leb-true _ _ three.1;
        packed = leb-true _ _ four.1;
        called = five.1;
      }

  module _ (k : ℕ) (h : k < rings sizes) (at : Places) (s l b w : List ℕ) where
    -- where the room is enough for all, ring k's step fits
    step_fits : at.stripes ≡ length (stripes_to options sizes coords k) → at.list ≡ length (list_to options sizes coords k)
        → at.bytes ≡ length (bytes_to options sizes coords k) → length s ≡ length S → length l ≡ length L → length b ≡ length B → w ≡ W
        → Enough
        → (stripes_fit options (wide (ring_of sizes coords k)) (size_at sizes k) at s l && tree_fits options (wide (ring_of sizes coords k)) (size_at sizes k) at b w) ≡ true
    step_fits p q r ls ll lb same e =
        let one = every_one (calls options sizes coords W) k (rings sizes) h e.called in
        let two = both (few_stripes options (wide (ring_of sizes coords k)) (size_at sizes k)) (enough_work options (wide (ring_of sizes coords k)) (size_at sizes k) W) one in
        rw (
          two.0,
          le-leb (at.stripes + length (stripes_part options (wide (ring_of sizes coords k)) (size_at sizes k))) (length s)
              (omega (arith, fits_to (λ j. stripes_part options (wide (ring_of sizes coords j)) (size_at sizes j)) k (rings sizes) (length S) at.stripes h p e.pairs)),
          le-leb (at.list + length (list_part options (wide (ring_of sizes coords k)) (size_at sizes k))) (length l)
              (omega (arith, fits_to (λ j. list_part options (wide (ring_of sizes coords j)) (size_at sizes j)) k (rings sizes) (length L) at.list h q e.entries)),
          same,
          two.1,
          le-leb (at.bytes + length (bytes_part options (wide (ring_of sizes coords k)) (size_at sizes k))) (length b)
              (omega (arith, fits_to (λ j. bytes_part options (wide (ring_of sizes coords j)) (size_at sizes j)) k (rings sizes) (length B) at.bytes h r e.packed)),
        )

    -- so where the step is short, the room is
    pub step_lacks : at.stripes ≡ length (stripes_to options sizes coords k) → at.list ≡ length (list_to options sizes coords k)
        → at.bytes ≡ length (bytes_to options sizes coords k) → length s ≡ length S → length l ≡ length L → length b ≡ length B → w ≡ W
        → (stripes_fit options (wide (ring_of sizes coords k)) (size_at sizes k) at s l && tree_fits options (wide (ring_of sizes coords k)) (size_at sizes k) at b w) ≡ false
        → roomy T F S L B W options sizes coords ≡ false
    step_lacks p q r ls ll lb same e = go (roomy T F S L B W options sizes coords) refl
      where
        go : (x : Bool) → roomy T F S L B W options sizes coords ≡ x → x ≡ false
        go true y = absurd (false≢true (sym e ∙ step_fits p q r ls ll lb same (roomy_is y)))
        go false y = refl
