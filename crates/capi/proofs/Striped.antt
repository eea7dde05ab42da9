-- The laws behind how building stripes is told.
use Prim.Native.Nat.{ℕ, zero, suc, ◌-◌, ◌≤◌}
use mathlib.Core.Path.{◌≡◌, sym}
use mathlib.Core.Bool.{true, false, ◌&&◌}
use mathlib.Core.List.{List, [], ◌∷◌}
use native.Mathlib.Omega.{arith}
use lib.Dec.{leb}
use lib.ListN.{length, replicate, set}
use lib.Ieee.{Float}
use Rattle.answers.specs.declared.Refusal.{Refusal}
use Rattle.answers.specs.declared.Refusal.TheVariants.{NoRoom}
use Rattle.answers.specs.Refusals.{zeroes_rooms}
use Rattle.room.specs.Room.{padded, pad}
use Rattle.stripes_build.specs.declared.StripesStats.{StripesStats}
use Rattle.capi.specs.Told.{Told, refusal_told}
use Rattle.capi.specs.Stripes.{zero_span, span_of, four, striped_told, refused_told}

pub put_two : (n : ℕ) (z a b : Float) → 2 ≤ n → set (set (replicate n z) 0 a) 1 b ≡ a ∷ b ∷ replicate (n - 2) z
put_two zero z a b h = absurd (omega (arith, h))
put_two (suc zero) z a b h = absurd (omega (arith, h))
put_two (suc (suc n)) z a b h = let e : suc (suc n) - 2 ≡ n = omega arith in rw e

pub put_four : (n a b c d : ℕ) → 4 ≤ n → set (set (set (set (replicate n 0) 0 a) 1 b) 2 c) 3 d ≡ pad n (a ∷ b ∷ c ∷ d ∷ [])
unfolding padded
put_four zero a b c d h = absurd (omega (arith, h))
put_four (suc zero) a b c d h = absurd (omega (arith, h))
put_four (suc (suc zero)) a b c d h = absurd (omega (arith, h))
put_four (suc (suc (suc zero))) a b c d h = absurd (omega (arith, h))
put_four (suc (suc (suc (suc n)))) a b c d h = let e : suc (suc (suc (suc n))) - 4 ≡ n = omega arith in rw e

module _ (least height : Float) (told : StripesStats) (stripes list : List ℕ) (span : List Float) (stats : List ℕ) where
  pub striped_fits : {f : List Float} {t : List ℕ} → (leb 2 (length span) && leb 4 (length stats)) ≡ true
      → f ≡ span_of least height (length span) → t ≡ pad (length stats) (four told)
      → striped_told least height told stripes list span stats ≡ ((1, told.stripes), stripes, list, f, t)
  unfolding striped_told
  striped_fits e p q = rw (e, p, q)

  pub striped_short : {said : Told} {s l t : List ℕ} {f : List Float} → (leb 2 (length span) && leb 4 (length stats)) ≡ false
      → refusal_told NoRoom ≡ said → s ≡ replicate (length stripes) 0 → l ≡ replicate (length list) 0
      → f ≡ zero_span (length span) → t ≡ replicate (length stats) 0
      → striped_told least height told stripes list span stats ≡ (said, s, l, f, t)
  unfolding striped_told
  striped_short e h p q r u = rw (e, p, q, r, u, sym h)

module _ (why : Refusal) (span : List Float) (stats : List ℕ) where
  pub refused_zero : {said : Told} {t : List ℕ} {f : List Float} → zeroes_rooms why ≡ true
      → refusal_told why ≡ said → f ≡ zero_span (length span) → t ≡ replicate (length stats) 0
      → refused_told why span stats ≡ (said, f, t)
  unfolding refused_told
  refused_zero e h p q = rw (e, p, q, sym h)

  pub refused_kept : {said : Told} → zeroes_rooms why ≡ false → refusal_told why ≡ said → refused_told why span stats ≡ (said, span, stats)
  unfolding refused_told
  refused_kept e h = rw (e, sym h)
