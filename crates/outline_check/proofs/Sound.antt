-- What an outline that passes the rules is. Assumes nothing.
use Rattle.std.specs.Prelude.{Ok}
use Prim.Native.Nat.{ℕ, ◌*◌, ◌≤◌, ◌<◌}
use mathlib.Core.Path.{◌≡◌, sym, ap, ◌∙◌}
use mathlib.Core.List.{List}
use mathlib.Core.Bool.{Bool, true, not, ◌&&◌}
use native.Mathlib.Omega.{arith}
use lib.Dec.{ltb}
use lib.ListN.{length}
use lib.IntN.{ℤ}
use lib.Ieee.{Float, binary64, of_bits, lt}
use lib.Ieee.Scale.{finite}
use borrow.Author.Tests.{ltb-false, eqb-true, eq-eqb, le-ltb, not-true}
use Rattle.answers.specs.declared.Refusal.TheVariants.{TooFew, TooMany, SizesDiffer, NotClosed, BadScale}
use Rattle.rings.specs.Checks.{Checked, ring_checked, closed, holding, then_checked}
use Rattle.rings.proofs.Checks.{both}
use Rattle.outline_check.specs.Outline.{rings, size_at, start_of, ring_of}
use Rattle.outline_check.specs.Rules.{for_each, enough, not_over, shut, add_up, sound_scale, shape_with, scale_checked, outline_with}
use Rattle.outline_check.specs.Inner.Counted.{Counted, counts_checked}
use Rattle.outline_check.proofs.Rules.{held, then_sound, each_sound, each_then, holding_then}
use Rattle.outline_check.proofs.Starts.{ring_length, start_small}

-- an outline that passes rules 1 to 4
pub record Shaped (sizes : List ℕ) (coords : List ℤ) : Type 0 where
  pub counted : Counted sizes coords
  pub shuts : (k : ℕ) → k < rings sizes → closed (ring_of sizes coords k) (size_at sizes k) ≡ true

-- rules 1 and 2, and then the others
pub counts_then : (fits : Bool) (sizes : List ℕ) (coords : List ℤ)
    → shape_with fits sizes coords
    ≡ then_checked (counts_checked sizes)
    (holding (fits && add_up sizes coords) SizesDiffer (for_each (shut sizes coords) NotClosed (rings sizes) (Ok tt)))
unfolding shape_with counts_checked
counts_then fits sizes coords =
    let n = rings sizes in
    let later = holding (fits && add_up sizes coords) SizesDiffer (for_each (shut sizes coords) NotClosed n (Ok tt)) in
    let two = for_each (not_over sizes) TooMany n (Ok tt) in
    let count = holding (not (ltb 64 n)) (TooMany 64) two in
    let one = for_each (enough sizes) TooFew n count in
    ap (λ (x : Checked). holding (not (ltb n 1)) (TooFew 0) (for_each (enough sizes) TooFew n (holding (not (ltb 64 n)) (TooMany 64) x))) (each_then (not_over sizes) TooMany n (Ok tt) later)
    ∙ ap (λ (x : Checked). holding (not (ltb n 1)) (TooFew 0) (for_each (enough sizes) TooFew n x)) (holding_then (not (ltb 64 n)) (TooMany 64) two later)
    ∙ ap (holding (not (ltb n 1)) (TooFew 0)) (each_then (enough sizes) TooFew n count later)
    ∙ holding_then (not (ltb n 1)) (TooFew 0) one later

-- all points are few enough to be counted
pub counts_points : (sizes : List ℕ) → counts_checked sizes ≡ Ok tt → (rings sizes ≤ 64) × (start_of sizes (rings sizes) ≤ 4097 * 64)
unfolding counts_checked
counts_points sizes e =
    let n = rings sizes in
    let one = held (not (ltb n 1)) (TooFew 0) _ e in
    let few = each_sound (enough sizes) TooFew n _ one.1 in
    let two = held (not (ltb 64 n)) (TooMany 64) _ few.1 in
    let many = each_sound (not_over sizes) TooMany n (Ok tt) two.1 in
    let l : n ≤ 64 = ltb-false 64 n (not-true _ two.0) in
    (l, omega (arith, start_small sizes 4097 n (λ k h. ltb-false 4097 (size_at sizes k) (not-true _ (many.0 k h)))))

module _ (sizes : List ℕ) (coords : List ℤ) where
  pub sound_counts : counts_checked sizes ≡ Ok tt → add_up sizes coords ≡ true → Counted sizes coords
  unfolding counts_checked
  sound_counts e a =
      let n = rings sizes in
      let one = held (not (ltb n 1)) (TooFew 0) _ e in
      let few = each_sound (enough sizes) TooFew n _ one.1 in
      let two = held (not (ltb 64 n)) (TooMany 64) _ few.1 in
      let many = each_sound (not_over sizes) TooMany n (Ok tt) two.1 in
      record {
        some = ltb-false n 1 (not-true _ one.0);
        few = ltb-false 64 n (not-true _ two.0);
        enough = λ k h. ltb-false (size_at sizes k) 2 (not-true _ (few.0 k h));
        small = λ k h. ltb-false 4097 (size_at sizes k) (not-true _ (many.0 k h));
        adds = eqb-true (2 * start_of sizes n) (length coords) a;
      }

  -- what the rules come to where the shape passes them: what else is lent fits, and the shape is sound
  pub sound_shape : (fits : Bool) → shape_with fits sizes coords ≡ Ok tt → (fits ≡ true) × Shaped sizes coords
  sound_shape fits e =
      let parts = then_sound (counts_checked sizes) _ (sym (counts_then fits sizes coords) ∙ e) in
      let three = held (fits && add_up sizes coords) SizesDiffer _ parts.1 in
      let sums = both fits (add_up sizes coords) three.0 in
      (sums.0, record { counted = sound_counts parts.0 sums.1; shuts = (each_sound (shut sizes coords) NotClosed (rings sizes) (Ok tt) three.1).0 })

-- each ring of a sound outline passes the rules for one ring
pub ring_sound : (sizes : List ℕ) (coords : List ℤ) (k : ℕ) → Shaped sizes coords → k < rings sizes
    → ring_checked (ring_of sizes coords k) (size_at sizes k) ≡ Ok tt
unfolding ring_checked
ring_sound sizes coords k s h =
    let n = size_at sizes k in
    let r = ring_of sizes coords k in
    rw (le-ltb n 2 (s.counted.enough k h), le-ltb 4097 n (s.counted.small k h), eq-eqb (n * 2) (length r) (sym (ring_length s.counted k h)), s.shuts k h)

-- an outline that passes rules 1 to 5
pub record Passed (scale : Float) (sizes : List ℕ) (coords : List ℤ) : Type 0 where
  pub shaped : Shaped sizes coords
  pub finite_scale : finite scale ≡ true
  pub above_zero : lt (of_bits binary64 0) scale ≡ true

pub sound_outline : (fits : Bool) (scale : Float) (sizes : List ℕ) (coords : List ℤ)
    → outline_with fits scale sizes coords ≡ Ok tt → (fits ≡ true) × Passed scale sizes coords
unfolding outline_with scale_checked
sound_outline fits scale sizes coords e =
    let parts = then_sound (shape_with fits sizes coords) (scale_checked scale) e in
    let shape = sound_shape sizes coords fits parts.0 in
    let five = held (sound_scale scale) BadScale _ parts.1 in
    let scales = both (finite scale) (lt (of_bits binary64 0) scale) five.0 in
    (shape.0, record { shaped = shape.1; finite_scale = scales.0; above_zero = scales.1 })
