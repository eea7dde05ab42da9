-- The header of a polygon, and all of its bytes. Assumes nothing.
use Rattle.std.specs.Prelude.{Ok, Err}
use Prim.Native.Nat.{ℕ, ◌+◌, ◌≤◌, ◌<◌}
use mathlib.Core.Path.{◌≡◌, refl, sym, subst, ap, ap₂, ◌∙◌}
use mathlib.Core.List.{List}
use mathlib.Core.Bool.{Bool, true, false, cond}
use native.Mathlib.Omega.{arith}
use lib.Dec.{eqb}
use lib.ListN.{length, get_or}
use lib.Seq.{drop-cons}
use borrow.Author.Tests.{eq-eqb, ne_eqb, eqb-true}
use Rattle.wkb_fields.specs.declared.ByteOrder.{ByteOrder}
use Rattle.wkb_fields.specs.declared.ByteOrder.TheVariants.{Big, Little}
use Rattle.wkb_fields.specs.Fields.{field_of, number_in, little_end}
use Rattle.wkb_shape.specs.declared.WkbRefusal.{WkbRefusal}
use Rattle.wkb_shape.specs.declared.WkbRefusal.TheVariants.{Ends, Unknown}
use Rattle.wkb_shape.specs.Wkb.{Shape, Got, got, stop, then, field, rings, order_at, type_at, count_at, header, polygon, whole}
use Rattle.wkb_shape.specs.Inner.Laid.{end_of, order_told, header_told, shape_told, rings_of, Whole}
use Rattle.wkb_shape.proofs.Reading.{end_got, then_got, then_go, then_stop, then_past, ordered_as, ordered_not, header_of, header_not, field_fits, field_cut, field_got}
use Rattle.wkb_shape.proofs.Laid.{rings_laid, rings_length}

module _ (bytes : List ℕ) where
  byte_at : (at : ℕ) → at < length bytes → field_of Little 1 bytes at ≡ get_or bytes at 0
  unfolding field_of number_in little_end
  byte_at at h = rw (drop-cons bytes at 0 h) (omega arith)

  module _ (at : ℕ) where
    -- the byte order
    pub order_cut : length bytes ≤ at → order_at bytes at ≡ stop (Ends at)
    unfolding order_at then
    order_cut h = rw (field_cut bytes Little 1 at (omega arith))

    order_read : (b : ℕ) → at < length bytes → get_or bytes at 0 ≡ b
        → order_at bytes at ≡ cond (eqb b 0) (got Big (at + 1)) (cond (eqb b 1) (got Little (at + 1)) (stop (Unknown at)))
    unfolding order_at
    order_read b h e = then_go (field bytes Little 1 at) _ _ _ (field_fits bytes Little 1 at (omega arith)) ∙ rw (byte_at at h, e)

    pub order_big : at < length bytes → get_or bytes at 0 ≡ 0 → order_at bytes at ≡ got Big (at + 1)
    order_big h e = order_read 0 h e

    pub order_little : at < length bytes → get_or bytes at 0 ≡ 1 → order_at bytes at ≡ got Little (at + 1)
    order_little h e = order_read 1 h e

    pub order_unknown : at < length bytes → (get_or bytes at 0 ≡ 0 → ⊥) → (get_or bytes at 0 ≡ 1 → ⊥) → order_at bytes at ≡ stop (Unknown at)
    order_unknown h a b = order_read (get_or bytes at 0) h refl ∙ rw (ne_eqb (get_or bytes at 0) 0 a, ne_eqb (get_or bytes at 0) 1 b)

    -- the type
    module _ (order : ByteOrder) where
      pub type_cut : length bytes < at + 4 → type_at bytes order at ≡ stop (Ends at)
      unfolding type_at then
      type_cut h = rw (field_cut bytes order 4 at h)

      pub type_other : at + 4 ≤ length bytes → (field_of order 4 bytes at ≡ 3 → ⊥) → type_at bytes order at ≡ stop (Unknown at)
      unfolding type_at then
      type_other h d = rw (field_fits bytes order 4 at h, ne_eqb (field_of order 4 bytes at) 3 d)

      pub type_polygon : at + 4 ≤ length bytes → field_of order 4 bytes at ≡ 3 → type_at bytes order at ≡ got 3 (at + 4)
      unfolding type_at then
      type_polygon h e = rw (field_fits bytes order 4 at h, e)

      -- the ring count
      pub count_cut : length bytes < at + 4 → count_at bytes order at ≡ stop (Ends at)
      unfolding count_at then
      count_cut h = rw (field_cut bytes order 4 at h)

      pub count_read : at + 4 ≤ length bytes → count_at bytes order at ≡ got (order, field_of order 4 bytes at) (at + 4)
      unfolding count_at then
      count_read h = rw (field_fits bytes order 4 at h)

      type_got : (t p : ℕ) → type_at bytes order at ≡ got t p → (at + 4 ≤ length bytes) × (p ≡ at + 4)
      unfolding type_at
      type_got t p e =
          let s = then_got (field bytes order 4 at) _ t p e in
          let f = field_got bytes order 4 at s.0 s.1 s.2 in (f.0, kept (eqb s.0 3) s.0 s.1 s.3 ∙ f.1)
        where
          kept : (b : Bool) (x q : ℕ) → cond b (got x q) (stop (Unknown at)) ≡ got t p → p ≡ q
          kept true x q e = cc
          kept false x q e = let z : ◌≡◌ {A = ℕ} 0 1 = cc in absurd (omega arith)

    order_got : (order : ByteOrder) (p : ℕ) → order_at bytes at ≡ got order p → (at + 1 ≤ length bytes) × (p ≡ at + 1)
    unfolding order_at
    order_got order p e =
        let s = then_got (field bytes Little 1 at) _ order p e in
        let f = field_got bytes Little 1 at s.0 s.1 s.2 in (f.0, kept (eqb s.0 0) (eqb s.0 1) s.1 s.3 ∙ f.1)
      where
        kept : (a b : Bool) (q : ℕ) → cond a (got Big q) (cond b (got Little q) (stop (Unknown at))) ≡ got order p → p ≡ q
        kept true b q e = cc
        kept false true q e = cc
        kept false false q e = let z : ◌≡◌ {A = ℕ} 0 1 = cc in absurd (omega arith)

    pub order_within : (order : ByteOrder) (p : ℕ) → order_told (order_at bytes at) ≡ Ok (order, p) → p ≤ length bytes
    order_within order p e = let g = order_got order p (ordered_as (order_at bytes at) order p e) in omega arith

  pub type_within : (order : ByteOrder) (at p : ℕ) → end_of (type_at bytes order at) ≡ Ok p → (p ≤ length bytes) × (p ≡ at + 4)
  unfolding end_of
  type_within order at p e = by_read (type_at bytes order at) refl
    where
      by_read : (x : Got ℕ) → type_at bytes order at ≡ x → (p ≤ length bytes) × (p ≡ at + 4)
      by_read (got t q) s = let o = sym (ap end_of s) ∙ e in let r : q ≡ p = cc in let g = type_got at order t q s in (omega arith, omega arith)
      by_read (stop why) s = let o = sym (ap end_of s) ∙ e in let z : ◌≡◌ {A = ℕ} 0 1 = cc in absurd (omega arith)

  -- the header, told part by part
  module _ (at : ℕ) where
    pub header_unordered : (why : WkbRefusal) → order_told (order_at bytes at) ≡ Err why → Err why ≡ header_told (header bytes at)
    unfolding header then header_told
    header_unordered why e = rw (ordered_not (order_at bytes at) why e)

    pub header_stopped : (order : ByteOrder) (p : ℕ) (why : WkbRefusal) → order_told (order_at bytes at) ≡ Ok (order, p)
        → end_of (type_at bytes order p) ≡ Err why → Err why ≡ header_told (header bytes at)
    unfolding header header_told
    header_stopped order p why e s =
        sym (ap header_told (then_go (order_at bytes at) _ order p (ordered_as (order_at bytes at) order p e) ∙ then_stop (type_at bytes order p) _ why s))

    header_is : (order : ByteOrder) (p q : ℕ) → order_told (order_at bytes at) ≡ Ok (order, p) → end_of (type_at bytes order p) ≡ Ok q
        → header bytes at ≡ count_at bytes order q
    unfolding header
    header_is order p q e s =
        then_go (order_at bytes at) _ order p (ordered_as (order_at bytes at) order p e) ∙ then_past (type_at bytes order p) (count_at bytes order) q s

    pub header_counted : (order : ByteOrder) (p q : ℕ) → order_told (order_at bytes at) ≡ Ok (order, p) → end_of (type_at bytes order p) ≡ Ok q
        → header_told (count_at bytes order q) ≡ header_told (header bytes at)
    header_counted order p q e s = ap header_told (sym (header_is order p q e s))

    -- it takes nine bytes
    header_nine : (order : ByteOrder) (n r : ℕ) → header bytes at ≡ got (order, n) r → (r ≤ length bytes) × (r ≡ at + 9)
    unfolding header count_at
    header_nine order n r e =
        let a = then_got (order_at bytes at) _ (order, n) r e in
        let b = then_got (type_at bytes a.0 a.1) _ (order, n) r a.3 in
        let c = then_got (field bytes a.0 4 b.1) _ (order, n) r b.3 in
        let first = order_got at a.0 a.1 a.2 in
        let second = type_got a.1 a.0 b.0 b.1 b.2 in
        let third = field_got bytes a.0 4 b.1 c.0 c.1 c.2 in
        let f = c.3 in
        let last : r ≡ c.1 = cc in (omega arith, omega arith)

    pub header_within : (order : ByteOrder) (n r : ℕ) → header_told (header bytes at) ≡ Ok (order, n, r) → (r ≤ length bytes) × (r ≡ at + 9)
    header_within order n r e = header_nine order n r (header_of (header bytes at) order n r e)

  -- all bytes, told part by part
  polygon_is : (order : ByteOrder) (n r : ℕ) → header_told (header bytes 0) ≡ Ok (order, n, r)
      → polygon bytes 0 ≡ then (rings bytes order n r) (λ shape q. got (order, shape) q)
  unfolding polygon
  polygon_is order n r e = then_go (header bytes 0) _ (order, n) r (header_of (header bytes 0) order n r e)

  whole_is : (order : ByteOrder) (n r end : ℕ) → header_told (header bytes 0) ≡ Ok (order, n, r) → end_of (rings bytes order n r) ≡ Ok end
      → whole bytes ≡ cond (eqb end (length bytes)) (got (order, rings_of bytes order n r) end) (stop (Ends end))
  unfolding whole
  whole_is order n r end e s =
      then_go (polygon bytes 0) _ _ _ (polygon_is order n r e ∙ then_go (rings bytes order n r) _ _ _ (rings_laid bytes order n r end s))

  pub shape_unheaded : (why : WkbRefusal) → header_told (header bytes 0) ≡ Err why → Err why ≡ shape_told (whole bytes)
  unfolding whole polygon then shape_told
  shape_unheaded why e = rw (header_not (header bytes 0) why e)

  pub shape_stopped : (order : ByteOrder) (n r : ℕ) (why : WkbRefusal) → header_told (header bytes 0) ≡ Ok (order, n, r)
      → end_of (rings bytes order n r) ≡ Err why → Err why ≡ shape_told (whole bytes)
  unfolding whole then shape_told
  shape_stopped order n r why e s = rw (polygon_is order n r e ∙ then_stop (rings bytes order n r) _ why s)

  module _ (order : ByteOrder) (n r end : ℕ) (e : header_told (header bytes 0) ≡ Ok (order, n, r)) (s : end_of (rings bytes order n r) ≡ Ok end) where
    pub shape_over : (end ≡ length bytes → ⊥) → Err (Ends end) ≡ shape_told (whole bytes)
    unfolding shape_told
    shape_over d = rw (whole_is order n r end e s, ne_eqb end (length bytes) d)

    pub shape_whole : end ≡ length bytes → Ok (order, n) ≡ shape_told (whole bytes)
    unfolding shape_told
    shape_whole t = rw (whole_is order n r end e s, eq-eqb end (length bytes) t) (ap (λ (m : ℕ). Ok (order, m)) (sym (rings_length bytes order n r)))

  -- what the pass has told, of the shape that is read
  pub record Laid (order : ByteOrder) (n : ℕ) : Type 0 where
    pub ends : Whole bytes order n
    pub read : whole bytes ≡ got (order, rings_of bytes order n 9) (length bytes)

  whole_end : (b : Bool) (a read : ByteOrder × Shape) (p end : ℕ) → cond b (got a p) (stop (Ends p)) ≡ got read end → (b ≡ true) × (a ≡ read) × (p ≡ end)
  whole_end true a read p end e = (refl, cc, cc)
  whole_end false a read p end e = let z : ◌≡◌ {A = ℕ} 0 1 = cc in absurd (omega arith)

  laid_in : (o : ByteOrder) (m n r end : ℕ) (shape : Shape) → rings bytes o m r ≡ got shape end → r ≡ 9 → end ≡ length bytes
      → length shape ≡ n → whole bytes ≡ got (o, shape) end → Laid o n
  laid_in o m n r end shape g place all count w =
      let there = sym (ap (λ (q : ℕ). end_of (rings bytes o m q)) place) ∙ end_got (rings bytes o m r) shape end g in
      let list : got shape end ≡ got (rings_of bytes o m 9) end = sym g ∙ ap (rings bytes o m) place ∙ rings_laid bytes o m 9 end there in
      let same : shape ≡ rings_of bytes o m 9 = cc in
      let counts : m ≡ n = sym (rings_length bytes o m 9) ∙ ap length (sym same) ∙ count in
      record {
        ends = ap (λ (k : ℕ). end_of (rings bytes o k 9)) (sym counts) ∙ there ∙ ap Ok all;
        read = w ∙ ap₂ (λ (rs : Shape) (q : ℕ). got (o, rs) q) (same ∙ ap (λ (k : ℕ). rings_of bytes o k 9) counts) all;
      }

  laid_by : (o : ByteOrder) (shape : Shape) (end : ℕ) → whole bytes ≡ got (o, shape) end → Laid o (length shape)
  unfolding whole polygon
  laid_by o shape end w =
      let a = then_got (polygon bytes 0) _ (o, shape) end w in
      let b = whole_end (eqb a.1 (length bytes)) a.0 (o, shape) a.1 end a.3 in
      let c = then_got (header bytes 0) _ a.0 a.1 a.2 in
      let d = then_got (rings bytes c.0.0 c.0.1 c.1) _ a.0 a.1 c.3 in
      let nine = header_nine 0 c.0.0 c.0.1 c.1 c.2 in
      let last : ◌≡◌ {A = Got (ByteOrder × Shape)} (got (c.0.0, d.0) d.1) (got (o, shape) end) = d.3 ∙ ap₂ got b.1 b.2 in
      let pair : ◌≡◌ {A = ByteOrder × Shape} (c.0.0, d.0) (o, shape) = cc in
      let order_same : c.0.0 ≡ o = ap (λ (y : ByteOrder × Shape). y.0) pair in
      let shape_same : d.0 ≡ shape = ap (λ (y : ByteOrder × Shape). y.1) pair in
      let end_same : d.1 ≡ end = cc in
      let all : end ≡ length bytes = sym b.2 ∙ eqb-true a.1 (length bytes) b.0 in
      laid_in o c.0.1 (length shape) c.1 end shape
      (ap (λ (q : ByteOrder). rings bytes q c.0.1 c.1) (sym order_same) ∙ d.2 ∙ ap₂ got shape_same end_same)
      nine.1 all refl w

  pub shape_laid : (order : ByteOrder) (n : ℕ) → Ok (order, n) ≡ shape_told (whole bytes) → Laid order n
  unfolding shape_told
  shape_laid order n e = by_whole (whole bytes) refl
    where
      by_whole : (x : Got (ByteOrder × Shape)) → whole bytes ≡ x → Laid order n
      by_whole (stop why) s = let t = e ∙ ap shape_told s in let z : ◌≡◌ {A = ℕ} 0 1 = cc in absurd (omega arith)
      by_whole (got (o, shape) end) s =
          let t = e ∙ ap shape_told s in
          let both : ◌≡◌ {A = ByteOrder × ℕ} (o, length shape) (order, n) = cc in
          let so = ap (λ (y : ByteOrder × ℕ). y.0) both in
          let sn = ap (λ (y : ByteOrder × ℕ). y.1) both in subst (λ (q : ByteOrder). Laid q n) so (subst (Laid o) sn (laid_by o shape end s))

pub unshaped : (x : Got (ByteOrder × Shape)) (why : WkbRefusal) → Err why ≡ shape_told x → x ≡ stop why
unfolding shape_told
unshaped (got (order, shape) end) why e = let z : ◌≡◌ {A = ℕ} 0 1 = cc in absurd (omega arith)
unshaped (stop other) why e = let s : other ≡ why = cc in ap stop s
