-- A polygon within the limits is never refused: for every outline that passes 01's rules, there is one answer to its bytes of either order, and it is that
-- outline. Assumes nothing.
use Rattle.std.specs.Prelude.{Ok}
use Prim.Native.Nat.{ℕ, suc, ◌^◌, ◌≤◌, ◌<◌}
use mathlib.Core.Path.{◌≡◌, refl, ap, ◌∙◌}
use mathlib.Core.List.{List, [], ◌∷◌}
use mathlib.Core.Bool.{true}
use native.Mathlib.Omega.{arith}
use borrow.Author.Tests.{le-leb, ltb-false, not-true}
use lib.ListN.{length, get_or}
use lib.IntN.{ℤ}
use lib.Ieee.{Float}
use Rattle.room.specs.Room.{pad}
use Rattle.outline_check.specs.Rules.{sound_scale, shape_checked}
use Rattle.outline_record.specs.Made.{pad_z}
use Rattle.wkb_fields.specs.declared.ByteOrder.{ByteOrder}
use Rattle.wkb_shape.specs.Wkb.{Shape}
use Rattle.wkb_shape.specs.Written.{written, HeldPoints, HeldRings, Held}
use Rattle.wkb_shape.proofs.Back.{read_back}
use Rattle.wkb_read.specs.Stored.{coords_of, sizes_of}
use Rattle.wkb_read.specs.Judged.{not_over, judged}
use Rattle.wkb_read.specs.Read.{stored, after_judged, after_whole, wkb_read}
use Rattle.wkb_read.proofs.Rules.{passed}
use Rattle.wkb_read.proofs.Accepted.{told, Storable, fault_below, judged_checked}

-- each coordinate is the pattern of a double: a number of 64 bits
abbrev pub Doubles : Shape → Type 0
Doubles shape = (k : ℕ) → k < length shape → HeldPoints (get_or shape k [])

-- a shape within the limits has counts that fit their fields by far
held_rings : (shape : Shape) → Doubles shape → ((k : ℕ) → k < length shape → length (get_or shape k []) ≤ 4097) → HeldRings shape
unfolding HeldRings
held_rings [] d h = tt
held_rings (r ∷ rs) d h =
    let most : length r ≤ 4097 = h 0 (omega arith) in
    let field : 256 ^ 4 ≡ 4294967296 = refl in
    (omega arith, d 0 (omega arith), held_rings rs (λ k l. d (suc k) (omega arith)) (λ k l. h (suc k) (omega arith)))

held : (scale : Float) (shape : Shape) → Doubles shape → judged scale shape ≡ Ok tt → Held shape
held scale shape d j =
    let p = passed scale shape j in
    let field : 256 ^ 4 ≡ 4294967296 = refl in
    record {
      count = omega (arith, p.most);
      each = held_rings shape d (λ k l. ltb-false 4097 _ (not-true _ (fault_below not_over shape k (omega (arith, p.many)))));
    }

-- Take any polygon of doubles. Let each of them, scaled and rounded, be an i32, and let the outline of these numbers pass 01's rules 1 to 4, and the scale
-- rule 5. Then the polygon's bytes, in either order, are read, where the rooms hold the outline: its sizes, its numbers, and zeros behind them.
pub reads_written : (order : ByteOrder) (shape : Shape) (scale : Float) (sizes : List ℕ) (coords : List ℤ) → Doubles shape → Storable scale shape
    → shape_checked (sizes_of shape) (coords_of scale shape) ≡ Ok tt → sound_scale scale ≡ true
    → length (sizes_of shape) ≤ length sizes → length (coords_of scale shape) ≤ length coords
    → wkb_read sizes coords scale (written order shape)
    ≡ (Ok (length (sizes_of shape), length (coords_of scale shape)), pad (length sizes) (sizes_of shape), pad_z (length coords) (coords_of scale shape))
unfolding wkb_read after_whole after_judged stored told
reads_written order shape scale sizes coords d kept sound s a b =
    let j : judged scale shape ≡ Ok tt = judged_checked scale shape kept ∙ ap told sound in
    rw (s, read_back order shape (held scale shape d j), j, le-leb _ _ a, le-leb _ _ b)
