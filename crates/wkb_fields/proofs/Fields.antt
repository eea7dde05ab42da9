-- Laws of fields: which bytes make them up, halves of a field of eight, what the library reads in them, and that a number's bytes give the number back. Assumes nothing.
use Prim.Native.Nat.{ℕ, zero, suc, ◌+◌, ◌*◌, ◌/◌, ◌^◌, ◌≤◌, ◌<◌}
use mathlib.Core.Path.{◌≡◌, refl, sym, ap, ap₂, ◌∙◌}
use mathlib.Core.List.{List, [], ◌∷◌, ◌++◌, reverse, reverse-reverse}
use native.Mathlib.Omega.{arith}
use native.Mathlib.Nat.{pow-suc}
use lib.ListN.{length, get_or, take, drop, length-reverse}
use lib.Ieee.{Float, nan, inf, fin, is_nan, binary64, of_bits}
use mathlib.Core.Bool.{true}
use lib.Seq.{drop-cons, take-add, drop-drop, take_at, drop_at}
use Rattle.std.specs.Int.{w32, w64, from_le_bytes, from_be_bytes}
use Rattle.wkb_fields.specs.declared.ByteOrder.{ByteOrder}
use Rattle.wkb_fields.specs.declared.ByteOrder.TheVariants.{Big, Little}
use Rattle.wkb_fields.specs.Fields.{little_end, number_in, field_of, little_bytes, bytes_in}

drop_one : (l : List ℕ) (at next : ℕ) → next ≡ at + 1 → at < length l → drop at l ≡ get_or l at 0 ∷ drop next l
drop_one l at next e h =
    let s : suc at ≡ next = omega arith in drop-cons l at 0 h ∙ ap (λ (n : ℕ). get_or l at 0 ∷ drop n l) s

-- the four bytes at a place
pub four : (l : List ℕ) (at : ℕ) → at + 4 ≤ length l
    → take 4 (drop at l) ≡ get_or l at 0 ∷ get_or l (at + 1) 0 ∷ get_or l (at + 2) 0 ∷ get_or l (at + 3) 0 ∷ []
four l at h =
    rw (
      drop_one l at (at + 1) refl (omega arith),
      drop_one l (at + 1) (at + 2) (omega arith) (omega arith),
      drop_one l (at + 2) (at + 3) (omega arith) (omega arith),
      drop_one l (at + 3) (at + 4) (omega arith) (omega arith),
    )

eight : (l : List ℕ) (at : ℕ) → at + 8 ≤ length l
    → take 8 (drop at l) ≡ get_or l at 0 ∷ get_or l (at + 1) 0 ∷ get_or l (at + 2) 0 ∷ get_or l (at + 3) 0
    ∷ get_or l (at + 4) 0 ∷ get_or l (at + 4 + 1) 0 ∷ get_or l (at + 4 + 2) 0 ∷ get_or l (at + 4 + 3) 0 ∷ []
eight l at h =
    take-add 4 4 (drop at l)
    ∙ ap (λ (r : List ℕ). take 4 (drop at l) ++ take 4 r) (drop-drop 4 at l)
    ∙ ap₂ (λ (x y : List ℕ). x ++ y) (four l at (omega arith)) (four l (at + 4) (omega arith))

-- What the library makes of so many bytes is the number in them.
little_four : (a b c d : ℕ) → from_le_bytes w32 (a ∷ b ∷ c ∷ d ∷ []) ≡ little_end (a ∷ b ∷ c ∷ d ∷ [])
unfolding little_end
little_four a b c d = omega arith

little_eight : (a b c d e f g h : ℕ) → from_le_bytes w64 (a ∷ b ∷ c ∷ d ∷ e ∷ f ∷ g ∷ h ∷ []) ≡ little_end (a ∷ b ∷ c ∷ d ∷ e ∷ f ∷ g ∷ h ∷ [])
unfolding little_end
little_eight a b c d e f g h = omega arith

big_four : (a b c d : ℕ) → from_be_bytes w32 (a ∷ b ∷ c ∷ d ∷ []) ≡ little_end (d ∷ c ∷ b ∷ a ∷ [])
unfolding little_end
big_four a b c d = omega arith

big_eight : (a b c d e f g h : ℕ) → from_be_bytes w64 (a ∷ b ∷ c ∷ d ∷ e ∷ f ∷ g ∷ h ∷ []) ≡ little_end (h ∷ g ∷ f ∷ e ∷ d ∷ c ∷ b ∷ a ∷ [])
unfolding little_end
big_eight a b c d e f g h = omega arith

module _ (l : List ℕ) (at : ℕ) where
  pub four_little : at + 4 ≤ length l → from_le_bytes w32 (take 4 (drop at l)) ≡ field_of Little 4 l at
  unfolding field_of number_in
  four_little h = rw (four l at h) (little_four _ _ _ _)

  pub four_big : at + 4 ≤ length l → from_be_bytes w32 (take 4 (drop at l)) ≡ field_of Big 4 l at
  unfolding field_of number_in
  four_big h = rw (four l at h) (big_four _ _ _ _)

  pub eight_little : at + 8 ≤ length l → from_le_bytes w64 (take 8 (drop at l)) ≡ field_of Little 8 l at
  unfolding field_of number_in
  eight_little h = rw (eight l at h) (little_eight _ _ _ _ _ _ _ _)

  pub eight_big : at + 8 ≤ length l → from_be_bytes w64 (take 8 (drop at l)) ≡ field_of Big 8 l at
  unfolding field_of number_in
  eight_big h = rw (eight l at h) (big_eight _ _ _ _ _ _ _ _)

-- A field of four is its four bytes, the last ones weighing most or least.
pub little_of_four : (l : List ℕ) (at : ℕ) → at + 4 ≤ length l
    → field_of Little 4 l at ≡ little_end (get_or l at 0 ∷ get_or l (at + 1) 0 ∷ get_or l (at + 2) 0 ∷ get_or l (at + 3) 0 ∷ [])
unfolding field_of number_in
little_of_four l at h = ap little_end (four l at h)

pub big_of_four : (l : List ℕ) (at : ℕ) → at + 4 ≤ length l
    → field_of Big 4 l at ≡ little_end (get_or l (at + 3) 0 ∷ get_or l (at + 2) 0 ∷ get_or l (at + 1) 0 ∷ get_or l at 0 ∷ [])
unfolding field_of number_in
big_of_four l at h = ap (λ (bs : List ℕ). little_end (reverse bs)) (four l at h)

-- A field of eight bytes is two of four.
join_little : (a b c d e f g h : ℕ)
    → little_end (a ∷ b ∷ c ∷ d ∷ e ∷ f ∷ g ∷ h ∷ []) ≡ little_end (a ∷ b ∷ c ∷ d ∷ []) + 4294967296 * little_end (e ∷ f ∷ g ∷ h ∷ [])
unfolding little_end
join_little a b c d e f g h = omega arith

pub halves_little : (l : List ℕ) (at : ℕ) → at + 8 ≤ length l
    → field_of Little 8 l at ≡ field_of Little 4 l at + 4294967296 * field_of Little 4 l (at + 4)
unfolding field_of number_in
halves_little l at h =
    ap little_end (eight l at h)
    ∙ join_little _ _ _ _ _ _ _ _
    ∙ sym (ap₂ (λ (x y : List ℕ). little_end x + 4294967296 * little_end y) (four l at (omega arith)) (four l (at + 4) (omega arith)))

pub halves_big : (l : List ℕ) (at : ℕ) → at + 8 ≤ length l
    → field_of Big 8 l at ≡ field_of Big 4 l (at + 4) + 4294967296 * field_of Big 4 l at
unfolding field_of number_in
halves_big l at h =
    ap (λ (bs : List ℕ). little_end (reverse bs)) (eight l at h)
    ∙ join_little _ _ _ _ _ _ _ _
    ∙ sym (ap₂ (λ (x y : List ℕ). little_end (reverse y) + 4294967296 * little_end (reverse x)) (four l at (omega arith)) (four l (at + 4) (omega arith)))

-- the one NaN
nan_only : (x : Float) → is_nan x ≡ true → x ≡ nan
unfolding is_nan
nan_only nan e = refl
nan_only (inf s) e = cc
nan_only (fin s m k) e = cc

pub is_nan_lem : (n : ℕ) → is_nan (of_bits binary64 n) ≡ true → of_bits binary64 n ≡ nan
is_nan_lem n e = nan_only (of_bits binary64 n) e

-- A number's bytes.
little_length : (w n : ℕ) → length (little_bytes w n) ≡ w
unfolding little_bytes
little_length zero n = refl
little_length (suc w) n = ap suc (little_length w (n / 256))

pub bytes_length : (order : ByteOrder) (w n : ℕ) → length (bytes_in order w n) ≡ w
unfolding bytes_in
bytes_length Little w n = little_length w n
bytes_length Big w n = length-reverse (little_bytes w n) ∙ little_length w n

little_back : (w n : ℕ) → n < 256 ^ w → little_end (little_bytes w n) ≡ n
unfolding little_end little_bytes
little_back zero n h = omega arith
little_back (suc w) n h =
    let small : n / 256 < 256 ^ w = omega (arith, rw pow-suc at h) in
    let back = little_back w (n / 256) small in omega (arith, back)

pub number_back : (order : ByteOrder) (w n : ℕ) → n < 256 ^ w → number_in order (bytes_in order w n) ≡ n
unfolding number_in bytes_in
number_back Little w n h = little_back w n h
number_back Big w n h = ap little_end (reverse-reverse (little_bytes w n)) ∙ little_back w n h

-- a field that was written between others is read there
pub field_back : (order : ByteOrder) (w n : ℕ) (before after : List ℕ) (at : ℕ) → n < 256 ^ w → length before ≡ at
    → field_of order w (before ++ (bytes_in order w n ++ after)) at ≡ n
unfolding field_of
field_back order w n before after at h e =
    rw (drop_at before (bytes_in order w n ++ after) at e, take_at (bytes_in order w n) after w (bytes_length order w n)) (number_back order w n h)
