-- Laws of one thing read after another, and of one field. Assumes nothing.
use Rattle.std.specs.Prelude.{Ok, Err}
use Prim.Native.Nat.{ℕ, ◌+◌, ◌≤◌, ◌<◌}
use mathlib.Core.Path.{◌≡◌, refl, sym, ap, ◌∙◌}
use mathlib.Core.List.{List}
use mathlib.Core.Logic.{⊎_elim}
use native.Mathlib.Omega.{arith}
use borrow.Author.Tests.{le-leb, lt-leb}
use lib.ListN.{length}
use Rattle.room.proofs.Cases.{lt_or}
use Rattle.wkb_fields.specs.declared.ByteOrder.{ByteOrder}
use Rattle.wkb_fields.specs.Fields.{field_of}
use Rattle.wkb_shape.specs.declared.WkbRefusal.{WkbRefusal}
use Rattle.wkb_shape.specs.declared.WkbRefusal.TheVariants.{Ends}
use Rattle.wkb_shape.specs.Wkb.{Got, got, stop, then, field}
use Rattle.wkb_shape.specs.Inner.Laid.{end_of, value_of, order_told, header_told}

module _ {A B : Type 0} where
  -- what a reading that gave something was put together from
  pub then_got : (x : Got A) (f : A → ℕ → Got B) (y : B) (q : ℕ) → then x f ≡ got y q → (a : A) × (p : ℕ) × (x ≡ got a p) × (f a p ≡ got y q)
  unfolding then
  then_got (got a p) f y q e = (a, p, refl, e)
  then_got (stop why) f y q e = let z : ◌≡◌ {A = ℕ} 0 1 = cc in absurd (omega arith)

  pub then_go : (x : Got A) (f : A → ℕ → Got B) (a : A) (p : ℕ) → x ≡ got a p → then x f ≡ f a p
  unfolding then
  then_go x f a p e = rw e

  pub then_stop : (x : Got A) (f : A → ℕ → Got B) (why : WkbRefusal) → end_of x ≡ Err why → then x f ≡ stop why
  unfolding then end_of
  then_stop (got a p) f why e = let z : ◌≡◌ {A = ℕ} 0 1 = cc in absurd (omega arith)
  then_stop (stop other) f why e = let s : other ≡ why = cc in ap stop s

  -- what follows and asks only for the place
  pub then_past : (x : Got A) (f : ℕ → Got B) (p : ℕ) → end_of x ≡ Ok p → then x (λ a q. f q) ≡ f p
  unfolding then end_of
  then_past (got a q) f p e = let s : q ≡ p = cc in ap f s
  then_past (stop why) f p e = let z : ◌≡◌ {A = ℕ} 0 1 = cc in absurd (omega arith)

  -- a value made of what is read does not change where reading ends
  pub end_map : (x : Got A) (h : A → B) → end_of (then x (λ a q. got (h a) q)) ≡ end_of x
  unfolding then end_of
  end_map (got a q) h = refl
  end_map (stop why) h = refl

pub end_got : {A : Type 0} (x : Got A) (a : A) (p : ℕ) → x ≡ got a p → end_of x ≡ Ok p
unfolding end_of
end_got x a p e = rw e

module _ {A B C : Type 0} where
  pub end_both : (x : Got A) (g : ℕ → Got B) (h : A → B → C) (p : ℕ) → end_of x ≡ Ok p
      → end_of (then x (λ a q. then (g q) (λ b r. got (h a b) r))) ≡ end_of (g p)
  unfolding then end_of
  end_both (got a q) g h p e = let s : q ≡ p = cc in rw s (end_map (g p) (h a))
  end_both (stop why) g h p e = let z : ◌≡◌ {A = ℕ} 0 1 = cc in absurd (omega arith)

-- What a told reading was.
pub ordered_as : (x : Got ByteOrder) (order : ByteOrder) (p : ℕ) → order_told x ≡ Ok (order, p) → x ≡ got order p
unfolding order_told
ordered_as (got o q) order p e =
    let s : ◌≡◌ {A = ByteOrder × ℕ} (o, q) (order, p) = cc in ap (λ (y : ByteOrder × ℕ). got y.0 y.1) s
ordered_as (stop why) order p e = let z : ◌≡◌ {A = ℕ} 0 1 = cc in absurd (omega arith)

pub ordered_not : (x : Got ByteOrder) (why : WkbRefusal) → order_told x ≡ Err why → x ≡ stop why
unfolding order_told
ordered_not (got o q) why e = let z : ◌≡◌ {A = ℕ} 0 1 = cc in absurd (omega arith)
ordered_not (stop other) why e = let s : other ≡ why = cc in ap stop s

pub header_of : (x : Got (ByteOrder × ℕ)) (order : ByteOrder) (n p : ℕ) → header_told x ≡ Ok (order, n, p) → x ≡ got (order, n) p
unfolding header_told
header_of (got (o, m) q) order n p e =
    let s : ◌≡◌ {A = ByteOrder × ℕ × ℕ} (o, m, q) (order, n, p) = cc in ap (λ (y : ByteOrder × ℕ × ℕ). got (y.0, y.1) y.2) s
header_of (stop why) order n p e = let z : ◌≡◌ {A = ℕ} 0 1 = cc in absurd (omega arith)

pub header_not : (x : Got (ByteOrder × ℕ)) (why : WkbRefusal) → header_told x ≡ Err why → x ≡ stop why
unfolding header_told
header_not (got (o, m) q) why e = let z : ◌≡◌ {A = ℕ} 0 1 = cc in absurd (omega arith)
header_not (stop other) why e = let s : other ≡ why = cc in ap stop s

module _ (bytes : List ℕ) (order : ByteOrder) (w at : ℕ) where
  pub field_fits : at + w ≤ length bytes → field bytes order w at ≡ got (field_of order w bytes at) (at + w)
  unfolding field
  field_fits h = rw (le-leb (at + w) (length bytes) h)

  pub field_cut : length bytes < at + w → field bytes order w at ≡ stop (Ends at)
  unfolding field
  field_cut h = rw (lt-leb (at + w) (length bytes) h)

  -- what a field gives whose bytes are all there, or are not
  pub field_read : (n : ℕ) → value_of (field bytes order w at) ≡ Ok n → (at + w ≤ length bytes) × (field_of order w bytes at ≡ n)
  unfolding value_of
  field_read n e =
      ⊎_elim
      (λ (no : length bytes < at + w). let s = sym (ap value_of (field_cut no)) ∙ e in let z : ◌≡◌ {A = ℕ} 0 1 = cc in absurd (omega arith))
      (λ (fits : at + w ≤ length bytes). let s = sym (ap value_of (field_fits fits)) ∙ e in let t : field_of order w bytes at ≡ n = cc in (fits, t))
      (lt_or (length bytes) (at + w))

  pub field_missed : (why : WkbRefusal) → value_of (field bytes order w at) ≡ Err why → (length bytes < at + w) × (why ≡ Ends at)
  unfolding value_of
  field_missed why e =
      ⊎_elim
      (λ (no : length bytes < at + w). let s = sym (ap value_of (field_cut no)) ∙ e in let t : why ≡ Ends at = cc in (no, t))
      (λ (fits : at + w ≤ length bytes). let s = sym (ap value_of (field_fits fits)) ∙ e in let z : ◌≡◌ {A = ℕ} 0 1 = cc in absurd (omega arith))
      (lt_or (length bytes) (at + w))

  pub field_got : (x p : ℕ) → field bytes order w at ≡ got x p → (at + w ≤ length bytes) × (p ≡ at + w)
  unfolding field
  field_got x p e =
      ⊎_elim
      (λ (no : length bytes < at + w). let s = sym (field_cut no) ∙ e in let z : ◌≡◌ {A = ℕ} 0 1 = cc in absurd (omega arith))
      (λ (fits : at + w ≤ length bytes). let s = sym (field_fits fits) ∙ e in let t : p ≡ at + w = cc in (fits, t))
      (lt_or (length bytes) (at + w))
