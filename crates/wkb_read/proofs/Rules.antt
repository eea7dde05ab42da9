-- The rules over a shape, and what the rooms hold behind them. Assumes nothing.
use Rattle.std.specs.Prelude.{Ok, Err}
use Prim.Native.Nat.{ℕ, zero, suc, ◌+◌, ◌*◌, ◌-◌, ◌/◌, ◌≤◌}
use mathlib.Core.Path.{◌≡◌, refl, ap, ap₂, ◌∙◌}
use mathlib.Core.List.{List, [], ◌∷◌}
use mathlib.Core.Bool.{Bool, true, false, not, cond, ◌&&◌, ◌||◌}
use native.Mathlib.Omega.{arith}
use borrow.Author.Tests.{ltb-false, not-true}
use lib.Dec.{ltb, leb}
use lib.ListN.{length, take, drop, replicate}
use lib.Seq.{take_at}
use lib.IntN.{ℤ, pos}
use lib.Ieee.{Float}
use Rattle.answers.specs.declared.Refusal.TheVariants.{NoRoom, BadScale}
use Rattle.room.specs.Room.{padded, pad, write}
use Rattle.room.proofs.Write.{write_eq, write_length}
use Rattle.outline_check.specs.Rules.{sound_scale}
use Rattle.outline_record.specs.Made.{pad_z}
use Rattle.wkb_fields.specs.declared.ByteOrder.{ByteOrder}
use Rattle.wkb_shape.specs.declared.WkbRefusal.{WkbRefusal}
use Rattle.wkb_shape.specs.declared.WkbRefusal.TheVariants.{Plain}
use Rattle.wkb_shape.specs.Wkb.{Ring, Shape, whole}
use Rattle.wkb_shape.specs.Inner.Laid.{shape_told, rings_of, Whole}
use Rattle.wkb_shape.proofs.Laid.{rings_length}
use Rattle.wkb_shape.proofs.Begins.{shape_laid, unshaped}
use Rattle.wkb_read.specs.Judged.{Judged}
use Rattle.wkb_read.specs.Stored.{all_storable, coords_of, sizes_of}
use Rattle.wkb_read.specs.Judged.{fault_at, each_ring, enough, not_over, shut, judged}
use Rattle.wkb_read.specs.Read.{refused, stored, after_judged, after_whole, wkb_read}
use Rattle.wkb_read.proofs.Walk.{leb_not}
use Rattle.wkb_read.proofs.Put.{numbers_of}

pub fault_most : (ok : Ring → Bool) (shape : Shape) → fault_at ok shape ≤ length shape
unfolding fault_at
fault_most ok [] = omega arith
fault_most ok (r ∷ rs) = by_test (ok r) (fault_most ok rs)
  where
    by_test : (b : Bool) → fault_at ok rs ≤ length rs → cond b (suc (fault_at ok rs)) zero ≤ suc (length rs)
    by_test true h = omega arith
    by_test false h = omega arith

-- a rule that was passed
held : (t : Bool) (why : WkbRefusal) (later : Judged) → cond t later (Err why) ≡ Ok tt → (t ≡ true) × (later ≡ Ok tt)
held true why later e = (refl, e)
held false why later e = (cc, cc)

each_held : (ok : Ring → Bool) (why : ℕ → WkbRefusal) (shape : Shape) (later : Judged) → each_ring ok why shape later ≡ Ok tt
    → (fault_at ok shape ≡ length shape) × (later ≡ Ok tt)
unfolding each_ring
each_held ok why shape later e = by_test (ltb (fault_at ok shape) (length shape)) refl e
  where
    by_test : (b : Bool) → ltb (fault_at ok shape) (length shape) ≡ b → cond b (Err (why (fault_at ok shape))) later ≡ Ok tt
        → (fault_at ok shape ≡ length shape) × (later ≡ Ok tt)
    by_test true t e = (cc, cc)
    by_test false t e = let l = ltb-false (fault_at ok shape) (length shape) t in (omega (arith, fault_most ok shape), e)

-- a shape that passes rules 1, 2, 12 and 4
pub record Passed (scale : Float) (shape : Shape) : Type 0 where
  pub some : 1 ≤ length shape
  pub most : length shape ≤ 64
  pub few : fault_at enough shape ≡ length shape
  pub many : fault_at not_over shape ≡ length shape
  pub kept : fault_at (all_storable scale) shape ≡ length shape
  pub shuts : fault_at (shut scale) shape ≡ length shape

pub passed : (scale : Float) (shape : Shape) → judged scale shape ≡ Ok tt → Passed scale shape
unfolding judged
passed scale shape e =
    let one = held (not (ltb (length shape) 1)) _ _ e in
    let few = each_held enough _ shape _ one.1 in
    let two = held (not (ltb 64 (length shape))) _ _ few.1 in
    let many = each_held not_over _ shape _ two.1 in
    let kept = each_held (all_storable scale) _ shape _ many.1 in
    let shuts = each_held (shut scale) _ shape _ kept.1 in
    record {
      some = ltb-false (length shape) 1 (not-true _ one.0);
      most = ltb-false 64 (length shape) (not-true _ two.0);
      few = few.0;
      many = many.0;
      kept = kept.0;
      shuts = shuts.0;
    }

-- the rooms
nor : (a b : Bool) → not a && not b ≡ not (a || b)
nor true b = refl
nor false true = refl
nor false false = refl

module _ (sizes : List ℕ) (coords : List ℤ) (scale : Float) (shape : Shape) (n m : ℕ) (en : length (sizes_of shape) ≡ n) (em : length (coords_of scale shape) ≡ m) where
  fits_test : leb (length (sizes_of shape)) (length sizes) && leb (length (coords_of scale shape)) (length coords) ≡ not (ltb (length sizes) n || ltb (length coords) m)
  fits_test = ap₂ ◌&&◌ (ap (λ (k : ℕ). leb k (length sizes)) en ∙ leb_not n (length sizes)) (ap (λ (k : ℕ). leb k (length coords)) em ∙ leb_not m (length coords)) ∙ nor (ltb (length sizes) n) (ltb (length coords) m)

  pub stored_short : (ltb (length sizes) n || ltb (length coords) m) ≡ true
      → stored sizes coords scale shape ≡ (Err (Plain NoRoom), replicate (length sizes) 0, replicate (length coords) (pos 0))
  unfolding stored
  stored_short t = rw (fits_test ∙ ap not t)

  pub stored_fits : (ltb (length sizes) n || ltb (length coords) m) ≡ false
      → stored sizes coords scale shape ≡ (Ok (n, m), pad (length sizes) (sizes_of shape), pad_z (length coords) (coords_of scale shape))
  unfolding stored
  stored_fits t = rw (fits_test ∙ ap not t, en, em)

or-false : (a b : Bool) → (a || b) ≡ false → (a ≡ false) × (b ≡ false)
or-false true b e = (cc, cc)
or-false false b e = (refl, e)

pub rooms_fit : (a n b m : ℕ) → (ltb a n || ltb b m) ≡ false → (n ≤ a) × (m ≤ b)
rooms_fit a n b m e = let p = or-false (ltb a n) (ltb b m) e in (ltb-false a n p.0, ltb-false b m p.1)

-- a list written at the front, and zeros behind it
pub written_padded : {A : Type 0} (z : A) (room mid xs : List A) (n : ℕ) → mid ≡ write room 0 xs → length xs ≡ n → n ≤ length room
    → padded z (length mid) (take n mid) ≡ padded z (length room) xs
written_padded {A} z room mid xs n w e h =
    ap (λ (m : List A). padded z (length m) (take n m)) w
    ∙ ap (λ (k : ℕ). padded z k (take n (write room 0 xs))) (write_length room 0 xs)
    ∙ ap (padded z (length room)) (ap (take n) (write_eq room 0 xs (omega arith)) ∙ take_at xs (drop (0 + length xs) room) n e)

-- the numbers that bytes call for, from how many bytes there are
pub numbers_are : (bytes : List ℕ) (order : ByteOrder) (scale : Float) (n : ℕ) → Whole bytes order n
    → (length (coords_of scale (rings_of bytes order n 9)) ≡ (length bytes - 9 - 4 * n) / 8) × (9 + 4 * n ≤ length bytes)
numbers_are bytes order scale n w = let e = numbers_of bytes order scale n 9 (length bytes) w in (omega (arith, e), omega (arith, e))

-- reading, told part by part
module _ (sizes : List ℕ) (coords : List ℤ) (scale : Float) (bytes : List ℕ) where
  pub read_bad : sound_scale scale ≡ false → wkb_read sizes coords scale bytes ≡ refused sizes coords (Plain BadScale)
  unfolding wkb_read
  read_bad e = rw e

  pub read_unshaped : (why : WkbRefusal) → sound_scale scale ≡ true → Err why ≡ shape_told (whole bytes) → wkb_read sizes coords scale bytes ≡ refused sizes coords why
  unfolding wkb_read after_whole
  read_unshaped why e s = rw (e, unshaped (whole bytes) why s)

  module _ (order : ByteOrder) (n : ℕ) (e : sound_scale scale ≡ true) (s : Ok (order, n) ≡ shape_told (whole bytes)) where
    pub read_judged : wkb_read sizes coords scale bytes
        ≡ after_judged sizes coords scale (rings_of bytes order n 9) (judged scale (rings_of bytes order n 9))
    unfolding wkb_read after_whole
    read_judged = rw (e, (shape_laid bytes order n s).read)

    pub read_faulty : (why : WkbRefusal) → judged scale (rings_of bytes order n 9) ≡ Err why → wkb_read sizes coords scale bytes ≡ refused sizes coords why
    unfolding after_judged
    read_faulty why j = read_judged ∙ rw j

    pub read_fine : judged scale (rings_of bytes order n 9) ≡ Ok tt → wkb_read sizes coords scale bytes ≡ stored sizes coords scale (rings_of bytes order n 9)
    unfolding after_judged
    read_fine j = read_judged ∙ rw j

    -- what storing asks
    pub read_kept : judged scale (rings_of bytes order n 9) ≡ Ok tt → Whole bytes order n × (fault_at (all_storable scale) (rings_of bytes order n 9) ≡ n)
    read_kept j = ((shape_laid bytes order n s).ends, (passed scale (rings_of bytes order n 9) j).kept ∙ rings_length bytes order n 9)
