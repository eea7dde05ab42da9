-- The stripe of y is monotone in y, each operation rounded as IEEE 754 has it: for any y ≤ y', a finite least, a height that is 0, or finite
-- and above 0, and up to 2 ^ 53 stripes. Assumes nothing.
use Rattle.std.proofs.Common.{◌≡◌, ℕ, ◌-◌, ◌^◌, ◌<◌, ◌≤◌, min, Bool, true, false, cond, T, ◌⊎◌, pos, refl, inl, inr, zero-le, arith}
use lib.Ieee.{Float, binary64, eq, le, sub, div, of_int, of_bits, round, to_unsigned}
use lib.Ieee.Back.{round_whole}
use lib.Ieee.Scale.{finite}
use lib.Ieee.Positive.{positive, positive_of_value}
use Rattle.floats.proofs.Keeps.{sub_keeps, div_keeps, mul_keeps_positive}
use Rattle.whole.specs.Floor.{floor_within}
use Rattle.whole.proofs.Within.{within_mono, within_is}
use Rattle.stripes_place.specs.Stripe.{stripe_of, place_of}

count_positive : (n : ℕ) → 0 < n → n ≤ 2 ^ 53 → T (positive (of_int binary64 (pos n)))
unfolding of_int
count_positive n p h = positive_of_value (round binary64 false n 1) n 1 (round_whole binary64 false n h) p

-- a height that a ring has: none, or finite and above 0
abbrev pub Tall : Float → Type 0
Tall height = (eq height (of_bits binary64 0) ≡ true) ⊎ T (positive height)

-- a higher y is in no lower stripe
pub stripe_mono : (y y' least height : Float) (n : ℕ) → T (finite least) → Tall height → 0 < n → n ≤ 2 ^ 53 → T (le y y')
    → stripe_of y least height n ≤ stripe_of y' least height n
unfolding stripe_of
stripe_mono y y' least height n f (inl z) d e h = rw z zero-le
stripe_mono y y' least height n f (inr p) d e h = go (eq height (of_bits binary64 0))
  where
    places : T (le (place_of y least height n) (place_of y' least height n))
    places =
        mul_keeps_positive binary64 (div binary64 (sub binary64 y least) height) (div binary64 (sub binary64 y' least) height) (of_int binary64 (pos n)) (count_positive n d e)
        (div_keeps binary64 (sub binary64 y least) (sub binary64 y' least) height p (sub_keeps binary64 y y' least f h))

    go : (z : Bool) → cond z 0 (floor_within (n - 1) (place_of y least height n)) ≤ cond z 0 (floor_within (n - 1) (place_of y' least height n))
    go true = zero-le
    go false = within_mono (n - 1) (place_of y least height n) (place_of y' least height n) places

-- ---- there is such a stripe
last : (n : ℕ) (x : Float) → n < 2 ^ 64 → floor_within (n - 1) x ≤ n - 1
last n x h = rw (within_is (n - 1) x (omega arith)) (most (to_unsigned 64 x) (n - 1))
  where
    most : (a b : ℕ) → min a b ≤ b
    most a b = omega arith

pub stripe_below : (y least height : Float) (n : ℕ) → 0 < n → n < 2 ^ 64 → stripe_of y least height n < n
unfolding stripe_of
stripe_below y least height n h k = go (eq height (of_bits binary64 0))
  where
    go : (z : Bool) → cond z 0 (floor_within (n - 1) (place_of y least height n)) < n
    go true = h
    go false = omega (arith, last n (place_of y least height n) k)

pub no_stripes : (y least height : Float) (n : ℕ) → n ≡ 0 → stripe_of y least height n ≡ 0
unfolding stripe_of
no_stripes y least height n h = go (eq height (of_bits binary64 0))
  where
    go : (z : Bool) → cond z 0 (floor_within (n - 1) (place_of y least height n)) ≡ 0
    go true = refl
    go false = omega (arith, last n (place_of y least height n) (omega arith))
