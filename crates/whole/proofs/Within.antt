-- The floor held to 0 .. top. Assumes nothing.
use Rattle.std.proofs.Common.{◌≡◌, ℕ, zero, suc, ◌-◌, ◌*◌, ◌/◌, ◌^◌, ◌<◌, ◌≤◌, min, Bool, true, false, cond, T, ltb, ℤ, pos, negsuc, neg_ℤ, nat_abs, sym, refl, ap, ◌∙◌, subst, zero-le, arith, lit<, le→leb, leb→le}
use native.Mathlib.Nat.{zero-div}
use lib.Signed.{le_z, le_z_yes, yes_non_neg, pos-nat_abs}
use lib.Ieee.{Float, nan, inf, fin, up, down, le, to_unsigned}
use lib.Ieee.Casts.{to_unsigned-lt}
use Rattle.whole.specs.Held.{signed, clamp, Held, held, first, last}
use Rattle.whole.specs.Floor.{Floor, floor_of, FloorWithin, floor_within, floor_to}
use Rattle.whole.proofs.Held.{held_meets, held_only, clamp_low}
use Rattle.whole.proofs.Floors.{floor_meets, floor_only, held_mono}
use Rattle.whole.proofs.Width.{clamp_top, clamp_plus, first_is}

-- ---- what it means
pub within_pos : (top : ℕ) (x : Float) → pos (floor_within top x) ≡ held floor_of (pos 0) (pos top) x
unfolding floor_within
within_pos top nan = refl
within_pos top (inf true) = refl
within_pos top (inf false) = refl
within_pos top (fin s m e) =
    let z = clamp (pos 0) (pos top) (floor_of (signed s (m * up e)) (down e)) in
    pos-nat_abs z (yes_non_neg {z = z} (le_z_yes (clamp_low (pos 0) (pos top) (le→leb 0 top zero-le) (floor_of (signed s (m * up e)) (down e)))))

pub within_meets : (top : ℕ) (x : Float) → FloorWithin top x (floor_within top x)
within_meets top x = subst (λ (z : ℤ). Held Floor (pos 0) (pos top) x z) (sym (within_pos top x)) (held_meets Floor (pos 0) (pos top) floor_of floor_meets x)

pub within_only : (top : ℕ) (x : Float) (r r' : ℕ) → FloorWithin top x r → FloorWithin top x r' → r ≡ r'
within_only top x r r' p q = ap nat_abs (held_only Floor (pos 0) (pos top) (λ v d k k' D. floor_only v d k k') x (pos r) (pos r') p q)

pub within_mono : (top : ℕ) (x y : Float) → T (le x y) → floor_within top x ≤ floor_within top y
within_mono top x y h =
    leb→le (floor_within top x) (floor_within top y)
    (subst (λ (z : ℤ). T (le_z z (pos (floor_within top y)))) (sym (within_pos top x))
    (subst (λ (z : ℤ). T (le_z (held floor_of (pos 0) (pos top) x) z)) (sym (within_pos top y)) (held_mono (pos 0) (pos top) (le→leb 0 top zero-le) x y h)))

-- ---- and how it is computed: the whole part, as the machine cuts it
minus_none : (top a d : ℕ) → nat_abs (clamp (pos 0) (pos top) (floor_of (neg_ℤ (pos a)) d)) ≡ 0
minus_none top zero d = ap nat_abs (clamp_top top (0 / d)) ∙ rw (zero-div d) (omega arith)
minus_none top (suc a) d = refl

pub within_is : (top : ℕ) (x : Float) → top < 2 ^ 64 → floor_within top x ≡ min (to_unsigned 64 x) top
unfolding floor_within to_unsigned
within_is top nan t = omega arith
within_is top (inf true) t = omega arith
within_is top (inf false) t = omega arith
within_is top (fin true m e) t = minus_none top (m * up e) (down e) ∙ none top
  where
    none : (k : ℕ) → 0 ≡ min 0 k
    none k = omega arith
within_is top (fin false m e) t = ap nat_abs (clamp_top top (m * up e / down e)) ∙ lower (m * up e / down e)
  where
    lower : (k : ℕ) → min k top ≡ min (min k (2 ^ 64 - 1)) top
    lower k = omega arith

-- the part that `floor_within` gives where it holds nothing back
abbrev pub MAX : ℕ
MAX = 0xffff_ffff_ffff_ffff

pub whole_part : (x : Float) (k : ℕ) → k ≡ floor_within MAX x → k ≡ to_unsigned 64 x
whole_part x k e = e ∙ within_is MAX x (lit< tt) ∙ below (to_unsigned 64 x) (to_unsigned-lt 64 x)
  where
    below : (u : ℕ) → u < 2 ^ 64 → min u MAX ≡ u
    below u h = omega arith

-- 0
abbrev pub nought : Float
nought = fin false 0 (pos 0)

-- ---- what `floor_within` promises
pub promised : (x : Float) (top r : ℕ) → top < 2 ^ 64 → r ≡ min (to_unsigned 64 x) top → FloorWithin top x r × (r ≡ floor_within top x)
promised x top r t e =
    let k : r ≡ floor_within top x = e ∙ sym (within_is top x t) in
    (subst (λ (z : ℕ). FloorWithin top x z) (sym k) (within_meets top x), k)

-- ---- it is the floor of an h that has room for top, held once more: Rust's `(x.floor() as isize).clamp(0, top)`
clamp_first : (h top : ℕ) (k : ℤ) → top < 2 ^ h → clamp (pos 0) (pos top) (clamp (first h) (last h) k) ≡ clamp (pos 0) (pos top) k
clamp_first h top (pos n) t = ap (clamp (pos 0) (pos top)) (clamp_plus h n) ∙ clamp_top top (min n (2 ^ h - 1)) ∙ ap pos same ∙ sym (clamp_top top n)
  where
    same : min (min n (2 ^ h - 1)) top ≡ min n top
    same = omega arith
clamp_first h top (negsuc n) t = rw (first_is h) (go (ltb (2 ^ h - 1) n))
  where
    go : (b : Bool) → clamp (pos 0) (pos top) (cond b (negsuc (2 ^ h - 1)) (negsuc n)) ≡ pos 0
    go true = refl
    go false = refl

pub within_floor : (h top : ℕ) (x : Float) → top < 2 ^ h → pos (floor_within top x) ≡ clamp (pos 0) (pos top) (floor_to h x)
unfolding floor_to
within_floor h top nan t = within_pos top nan ∙ sym (clamp_top top 0 ∙ ap pos none)
  where
    none : min 0 top ≡ 0
    none = omega arith
within_floor h top (inf true) t = within_pos top (inf true) ∙ rw (first_is h)
within_floor h top (inf false) t = within_pos top (inf false) ∙ sym (clamp_top top (2 ^ h - 1) ∙ ap pos full)
  where
    full : min (2 ^ h - 1) top ≡ top
    full = omega arith
within_floor h top (fin s m e) t = within_pos top (fin s m e) ∙ sym (clamp_first h top (floor_of (signed s (m * up e)) (down e)) t)
