-- Reading what is written gives it back: for every polygon whose counts and doubles fit their fields, in either byte order. Assumes nothing.
use Prim.Native.Nat.{ℕ, suc, ◌+◌, ◌*◌, ◌^◌, ◌<◌}
use mathlib.Core.Path.{◌≡◌, refl, sym, ap, ap₂, ◌∙◌}
use mathlib.Core.List.{List, [], ◌∷◌, ◌++◌, append_assoc, append-nil}
use native.Mathlib.Omega.{arith}
use lib.ListN.{length, length-append}
use borrow.Author.Tests.{eq-eqb}
use Rattle.wkb_fields.specs.declared.ByteOrder.{ByteOrder}
use Rattle.wkb_fields.specs.declared.ByteOrder.TheVariants.{Big, Little}
use Rattle.wkb_fields.specs.Fields.{field_of, bytes_in}
use Rattle.wkb_fields.proofs.Fields.{bytes_length, field_back}
use Rattle.wkb_shape.specs.Wkb.{Point, Ring, Shape, got, field, point, points, ring, rings, order_at, type_at, count_at, header, polygon, whole}
use Rattle.wkb_shape.specs.Written.{order_byte, point_bytes, points_bytes, ring_bytes, rings_bytes, written, HeldPoints, HeldRings, Held}
use Rattle.wkb_shape.proofs.Reading.{then_go, field_fits}
use Rattle.wkb_shape.proofs.Begins.{order_big, order_little}

-- a field that was written between others is read there
field_there : (order : ByteOrder) (w n : ℕ) (before after all : List ℕ) (at : ℕ) → n < 256 ^ w → length before ≡ at
    → all ≡ before ++ (bytes_in order w n ++ after) → field all order w at ≡ got n (at + w)
field_there order w n before after all at h e s =
    let long : length all ≡ at + (w + length after) =
    ap length s ∙ length-append before (bytes_in order w n ++ after)
    ∙ ap₂ (λ (x y : ℕ). x + y) e (length-append (bytes_in order w n) after ∙ ap (λ (x : ℕ). x + length after) (bytes_length order w n)) in
    field_fits all order w at (omega arith)
    ∙ ap (λ (x : ℕ). got x (at + w)) (ap (λ (l : List ℕ). field_of order w l at) s ∙ field_back order w n before after at h e)

module _ (order : ByteOrder) where
  point_length : (p : Point) → length (point_bytes order p) ≡ 16
  unfolding point_bytes
  point_length (x, y) = length-append (bytes_in order 8 x) (bytes_in order 8 y) ∙ ap₂ (λ (a b : ℕ). a + b) (bytes_length order 8 x) (bytes_length order 8 y)

  point_there : (p : Point) (before after all : List ℕ) (at : ℕ) → p.0 < 256 ^ 8 → p.1 < 256 ^ 8 → length before ≡ at
      → all ≡ before ++ (point_bytes order p ++ after) → point all order at ≡ got p (at + 16)
  unfolding point_bytes point
  point_there (x, y) before after all at hx hy e s =
      let u = bytes_in order 8 x in
      let v = bytes_in order 8 y in
      let first : all ≡ before ++ (u ++ (v ++ after)) = s ∙ ap (λ (l : List ℕ). before ++ l) (append_assoc u v after) in
      let second : all ≡ (before ++ u) ++ (v ++ after) = first ∙ sym (append_assoc before u (v ++ after)) in
      let long : length (before ++ u) ≡ at + 8 = length-append before u ∙ ap₂ (λ (a b : ℕ). a + b) e (bytes_length order 8 x) in
      let sum : at + 8 + 8 ≡ at + 16 = omega arith in
      then_go (field all order 8 at) _ _ _ (field_there order 8 x before (v ++ after) all at hx e first)
      ∙ then_go (field all order 8 (at + 8)) _ _ _ (field_there order 8 y (before ++ u) after all (at + 8) hy long second)
      ∙ ap (got (x, y)) sum

  points_there : (ps : Ring) (before after all : List ℕ) (at : ℕ) → HeldPoints ps → length before ≡ at
      → all ≡ before ++ (points_bytes order ps ++ after) → points all order (length ps) at ≡ got ps (at + 16 * length ps)
  unfolding points points_bytes HeldPoints
  points_there [] before after all at h e s = let z : at ≡ at + 0 = omega arith in ap (got []) z
  points_there ((x, y) ∷ ps) before after all at (hx, hy, h) e s =
      let u = point_bytes order (x, y) in
      let v = points_bytes order ps in
      let first : all ≡ before ++ (u ++ (v ++ after)) = s ∙ ap (λ (l : List ℕ). before ++ l) (append_assoc u v after) in
      let second : all ≡ (before ++ u) ++ (v ++ after) = first ∙ sym (append_assoc before u (v ++ after)) in
      let long : length (before ++ u) ≡ at + 16 = length-append before u ∙ ap₂ (λ (a b : ℕ). a + b) e (point_length (x, y)) in
      let sum : at + 16 + 16 * length ps ≡ at + 16 * suc (length ps) = omega arith in
      then_go (point all order at) _ _ _ (point_there (x, y) before (v ++ after) all at hx hy e first)
      ∙ then_go (points all order (length ps) (at + 16)) _ _ _ (points_there ps (before ++ u) after all (at + 16) h long second)
      ∙ ap (got ((x, y) ∷ ps)) sum

  points_long : (ps : Ring) → length (points_bytes order ps) ≡ 16 * length ps
  unfolding points_bytes
  points_long [] = refl
  points_long (p ∷ ps) = length-append (point_bytes order p) (points_bytes order ps) ∙ ap₂ (λ (a b : ℕ). a + b) (point_length p) (points_long ps) ∙ omega arith

  ring_long : (r : Ring) → length (ring_bytes order r) ≡ 4 + 16 * length r
  unfolding ring_bytes
  ring_long r = length-append (bytes_in order 4 (length r)) (points_bytes order r) ∙ ap₂ (λ (a b : ℕ). a + b) (bytes_length order 4 (length r)) (points_long r)

  ring_there : (r : Ring) (before after all : List ℕ) (at : ℕ) → length r < 256 ^ 4 → HeldPoints r → length before ≡ at
      → all ≡ before ++ (ring_bytes order r ++ after) → ring all order at ≡ got r (at + (4 + 16 * length r))
  unfolding ring ring_bytes
  ring_there r before after all at n h e s =
      let u = bytes_in order 4 (length r) in
      let v = points_bytes order r in
      let first : all ≡ before ++ (u ++ (v ++ after)) = s ∙ ap (λ (l : List ℕ). before ++ l) (append_assoc u v after) in
      let second : all ≡ (before ++ u) ++ (v ++ after) = first ∙ sym (append_assoc before u (v ++ after)) in
      let long : length (before ++ u) ≡ at + 4 = length-append before u ∙ ap₂ (λ (a b : ℕ). a + b) e (bytes_length order 4 (length r)) in
      let sum : at + 4 + 16 * length r ≡ at + (4 + 16 * length r) = omega arith in
      then_go (field all order 4 at) _ _ _ (field_there order 4 (length r) before (v ++ after) all at n e first)
      ∙ points_there r (before ++ u) after all (at + 4) h long second
      ∙ ap (got r) sum

  rings_there : (rs : Shape) (before after all : List ℕ) (at : ℕ) → HeldRings rs → length before ≡ at
      → all ≡ before ++ (rings_bytes order rs ++ after) → rings all order (length rs) at ≡ got rs (at + length (rings_bytes order rs))
  unfolding rings rings_bytes HeldRings
  rings_there [] before after all at h e s = let z : at ≡ at + 0 = omega arith in ap (got []) z
  rings_there (r ∷ rs) before after all at (n, hr, h) e s =
      let u = ring_bytes order r in
      let v = rings_bytes order rs in
      let first : all ≡ before ++ (u ++ (v ++ after)) = s ∙ ap (λ (l : List ℕ). before ++ l) (append_assoc u v after) in
      let second : all ≡ (before ++ u) ++ (v ++ after) = first ∙ sym (append_assoc before u (v ++ after)) in
      let long : length (before ++ u) ≡ at + (4 + 16 * length r) = length-append before u ∙ ap₂ (λ (a b : ℕ). a + b) e (ring_long r) in
      let sum : at + (4 + 16 * length r) + length v ≡ at + length (u ++ v) = omega (arith, length-append u v, ring_long r) in
      then_go (ring all order at) _ _ _ (ring_there r before (v ++ after) all at n hr e first)
      ∙ then_go (rings all order (length rs) (at + (4 + 16 * length r))) _ _ _ (rings_there rs (before ++ u) after all (at + (4 + 16 * length r)) h long second)
      ∙ ap (got (r ∷ rs)) sum

order_there : (order : ByteOrder) (after : List ℕ) → order_at (order_byte order ∷ after) 0 ≡ got order 1
unfolding order_byte
order_there Big after = order_big (0 ∷ after) 0 (omega arith) refl
order_there Little after = order_little (1 ∷ after) 0 (omega arith) refl

-- Well-formed bytes are never refused while reading, and give the polygon that they were written from.
pub read_back : (order : ByteOrder) (shape : Shape) → Held shape → whole (written order shape) ≡ got (order, shape) (length (written order shape))
unfolding whole polygon header type_at count_at written
read_back order shape h =
    let o = order_byte order in
    let t = bytes_in order 4 3 in
    let n = bytes_in order 4 (length shape) in
    let v = rings_bytes order shape in
    let all = written order shape in
    let long : length (t ++ (n ++ v)) ≡ 8 + length v =
    length-append t (n ++ v) ∙ ap₂ (λ (a b : ℕ). a + b) (bytes_length order 4 3) (length-append n v ∙ ap (λ (a : ℕ). a + length v) (bytes_length order 4 (length shape))) ∙ omega arith in
    let ahead : length (o ∷ (t ++ n)) ≡ 9 = ap suc (length-append t n ∙ ap₂ (λ (a b : ℕ). a + b) (bytes_length order 4 3) (bytes_length order 4 (length shape))) in
    let rest : all ≡ (o ∷ (t ++ n)) ++ (v ++ []) = ap (λ (l : List ℕ). o ∷ l) (sym (append_assoc t n v) ∙ ap (λ (l : List ℕ). (t ++ n) ++ l) (sym (append-nil v))) in
    let typed = field_there order 4 3 (o ∷ []) (n ++ v) all 1 (omega arith) refl refl in
    let counted = field_there order 4 (length shape) (o ∷ t) v all 5 h.count (ap suc (bytes_length order 4 3)) refl in
    let read = rings_there order shape (o ∷ (t ++ n)) [] all 9 h.each ahead rest in
    let end : 9 + length v ≡ length all = sym (ap suc long ∙ omega arith) in
    then_go (polygon all 0) _ _ _
    (then_go (header all 0) _ _ _
    (then_go (order_at all 0) _ _ _ (order_there order (t ++ (n ++ v)))
    ∙ then_go (type_at all order 1) _ _ _ (then_go (field all order 4 1) _ _ _ typed)
    ∙ then_go (field all order 4 5) _ _ _ counted)
    ∙ then_go (rings all order (length shape) 9) _ _ _ read)
    ∙ rw (eq-eqb (9 + length v) (length all) end) (ap (got (order, shape)) end)
