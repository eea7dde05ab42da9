-- What is read is an outline that passes 01's rules. Beside rule 12, which is the reader's own, the rules that it asks of a shape are word for word those
-- that every other call asks of an outline (`judged_checked`); so whatever the bytes are, what a success leaves in the rooms passes them (`read_accepted`).
-- Assumes nothing.
use Rattle.std.specs.Prelude.{Ok, Err}
use Prim.Native.Nat.{ℕ, zero, suc, ◌+◌, ◌*◌, ◌<◌}
use mathlib.Core.Path.{◌≡◌, refl, sym, ap, ap₂, subst, ◌∙◌}
use mathlib.Core.List.{List, [], ◌∷◌, ◌++◌}
use mathlib.Core.Bool.{Bool, true, false, not, cond, ◌&&◌}
use native.Mathlib.Omega.{arith}
use borrow.Author.Tests.{eq-eqb, ltb-true, ltb-false}
use lib.Dec.{ltb, leb}
use lib.ListN.{length, get_or, take, replicate, length-append}
use lib.Seq.{take_at, drop-append-add}
use lib.IntN.{ℤ, pos}
use lib.Ieee.{Float}
use Rattle.answers.specs.declared.Refusal.{Refusal}
use Rattle.answers.specs.declared.Refusal.TheVariants.{TooFew, TooMany, SizesDiffer, NotClosed, NoRoom, BadScale}
use Rattle.rings.specs.Checks.{Checked}
use Rattle.rings.specs.I32s.{I32s}
use Rattle.rings.specs.Checks.{closed, holding}
use Rattle.rings.proofs.Checks.{both}
use Rattle.room.specs.Room.{padded, pad}
use Rattle.outline_check.specs.Outline.{rings, size_at, start_of, ring_of}
use Rattle.outline_check.specs.Rules.{enough as enoughAt, not_over as notOverAt, shut as shutAt, add_up, sound_scale, for_each, shape_checked, shape_with}
use Rattle.outline_check.proofs.Rules.{each_all, each_lowest}
use Rattle.outline_check.proofs.Starts.{start_none}
use Rattle.outline_record.specs.Made.{pad_z}
use Rattle.wkb_fields.specs.declared.ByteOrder.{ByteOrder}
use Rattle.wkb_shape.specs.declared.WkbRefusal.{WkbRefusal}
use Rattle.wkb_shape.specs.declared.WkbRefusal.TheVariants.{Plain}
use Rattle.wkb_shape.specs.Wkb.{Ring, Shape, Got, got, stop, whole}
use Rattle.wkb_read.specs.Judged.{Judged}
use Rattle.wkb_read.specs.Read.{ReadWkb}
use Rattle.wkb_read.specs.Stored.{storable, all_storable, ring_coords, coords_of, sizes_of}
use Rattle.wkb_read.specs.Judged.{fault_at, each_ring, enough, not_over, shut, judged}
use Rattle.wkb_read.specs.Read.{Outcome, stored, after_judged, after_whole, wkb_read}
use Rattle.wkb_read.proofs.Walk.{storable_fits}
use Rattle.wkb_read.proofs.Put.{ring_numbers, sizes_length}
use Rattle.wkb_read.proofs.Rules.{passed}

-- Definitions

-- a check of 01, as the reader tells it
unfoldable pub told : Checked → Judged
told (Ok _) = Ok tt
told (Err why) = Err (Plain why)

-- every coordinate of the shape is finite once scaled, and in i32 once rounded: no ring breaks rule 12
abbrev pub Storable : Float → Shape → Type 0
Storable scale shape = (k : ℕ) → k < length shape → all_storable scale (get_or shape k []) ≡ true

-- An outline of so many rings and numbers stands at the front of the rooms. Its numbers are i32, it passes rules 1 to 4, and its scale passes 5.
pub record Accepted (scale : Float) (ringCount numberCount : ℕ) (sizes : List ℕ) (coords : List ℤ) : Type 0 where
  pub counted : length (take ringCount sizes) ≡ ringCount
  pub numbered : length (take numberCount coords) ≡ numberCount
  pub numbers : I32s (take numberCount coords)
  pub checked : shape_checked (take ringCount sizes) (take numberCount coords) ≡ Ok tt
  pub scaled : sound_scale scale ≡ true

-- The lowest ring at fault

pub fault_below : (ok : Ring → Bool) (shape : Shape) (k : ℕ) → k < fault_at ok shape → ok (get_or shape k []) ≡ true
unfolding fault_at
fault_below ok [] k h = absurd (omega arith)
fault_below ok (r ∷ rs) k h = by_test (ok r) refl (fault_below ok rs) k h
  where
    by_test : (b : Bool) → ok r ≡ b → ((k : ℕ) → k < fault_at ok rs → ok (get_or rs k []) ≡ true) → (k : ℕ) → k < cond b (suc (fault_at ok rs)) zero
        → ok (get_or (r ∷ rs) k []) ≡ true
    by_test true t later zero h = t
    by_test true t later (suc k) h = later k (omega arith)
    by_test false t later k h = absurd (omega arith)

fault_there : (ok : Ring → Bool) (shape : Shape) → fault_at ok shape < length shape → ok (get_or shape (fault_at ok shape) []) ≡ false
unfolding fault_at
fault_there ok [] h = absurd (omega arith)
fault_there ok (r ∷ rs) h = by_test (ok r) refl (fault_there ok rs) h
  where
    by_test : (b : Bool) → ok r ≡ b → (fault_at ok rs < length rs → ok (get_or rs (fault_at ok rs) []) ≡ false) → cond b (suc (fault_at ok rs)) zero < suc (length rs)
        → ok (get_or (r ∷ rs) (cond b (suc (fault_at ok rs)) zero) []) ≡ false
    by_test true t later h = later (omega arith)
    by_test false t later h = t

-- a rule that holds of each ring has none at fault
fault_none : (ok : Ring → Bool) (shape : Shape) → ((k : ℕ) → k < length shape → ok (get_or shape k []) ≡ true) → fault_at ok shape ≡ length shape
unfolding fault_at
fault_none ok [] h = refl
fault_none ok (r ∷ rs) h = rw (h 0 (omega arith)) (ap suc (fault_none ok rs (λ k l. h (suc k) (omega arith))))

-- A shape's rings, as they stand in the sizes and the numbers

size_at_lem : (shape : Shape) (k : ℕ) → size_at (sizes_of shape) k ≡ length (get_or shape k [])
unfolding sizes_of
size_at_lem [] k = refl
size_at_lem (r ∷ rs) zero = refl
size_at_lem (r ∷ rs) (suc k) = size_at_lem rs k

start_cons : (n : ℕ) (sizes : List ℕ) (k : ℕ) → start_of (n ∷ sizes) (suc k) ≡ n + start_of sizes k
unfolding start_of
start_cons n sizes zero = omega arith
start_cons n sizes (suc k) = ap (λ (m : ℕ). m + size_at sizes k) (start_cons n sizes k) ∙ omega arith

coords_length : (scale : Float) (shape : Shape) → length (coords_of scale shape) ≡ 2 * start_of (sizes_of shape) (length shape)
unfolding coords_of sizes_of
coords_length scale [] = omega (arith, start_none [])
coords_length scale (r ∷ rs) =
    omega (arith, length-append (ring_coords scale r) (coords_of scale rs), ring_numbers scale r, coords_length scale rs, start_cons (length r) (sizes_of rs) (length rs))

ring_at_lem : (scale : Float) (shape : Shape) (k : ℕ) → k < length shape → ring_of (sizes_of shape) (coords_of scale shape) k ≡ ring_coords scale (get_or shape k [])
unfolding ring_of coords_of sizes_of
ring_at_lem scale [] k h = absurd (omega arith)
ring_at_lem scale (r ∷ rs) zero h =
    let none : 2 * start_of (length r ∷ sizes_of rs) 0 ≡ 0 = omega (arith, start_none (length r ∷ sizes_of rs)) in
    rw none (take_at (ring_coords scale r) (coords_of scale rs) (2 * length r) (ring_numbers scale r))
ring_at_lem scale (r ∷ rs) (suc k) h =
    let e : 2 * start_of (length r ∷ sizes_of rs) (suc k) ≡ length (ring_coords scale r) + 2 * start_of (sizes_of rs) k =
    omega (arith, start_cons (length r) (sizes_of rs) k, ring_numbers scale r) in
    rw (e, drop-append-add (ring_coords scale r) (coords_of scale rs) (2 * start_of (sizes_of rs) k)) (ring_at_lem scale rs k (omega arith))

-- rule 3 cannot be broken: the sizes are those of the rings that were read
adds_up : (scale : Float) (shape : Shape) → add_up (sizes_of shape) (coords_of scale shape) ≡ true
adds_up scale shape = eq-eqb _ _ (ap (λ (m : ℕ). 2 * start_of (sizes_of shape) m) (sizes_length shape) ∙ sym (coords_length scale shape))

-- what passes rule 12 is i32
ring_i32s : (scale : Float) (ps : Ring) (behind : List ℤ) → all_storable scale ps ≡ true → I32s behind → I32s (ring_coords scale ps ++ behind)
unfolding all_storable ring_coords
ring_i32s scale [] behind s nums i h = nums i h
ring_i32s scale ((x, y) ∷ ps) behind s nums zero h =
    (storable_fits scale x (both (storable scale x) (storable scale y) (both (storable scale x && storable scale y) (all_storable scale ps) s).0).0).sfits
ring_i32s scale ((x, y) ∷ ps) behind s nums (suc zero) h =
    (storable_fits scale y (both (storable scale x) (storable scale y) (both (storable scale x && storable scale y) (all_storable scale ps) s).0).1).sfits
ring_i32s scale ((x, y) ∷ ps) behind s nums (suc (suc i)) h =
    ring_i32s scale ps behind (both (storable scale x && storable scale y) (all_storable scale ps) s).1 nums i (omega arith)

coords_i32s : (scale : Float) (shape : Shape) → Storable scale shape → I32s (coords_of scale shape)
unfolding coords_of
coords_i32s scale [] kept = λ i h. absurd (omega arith)
coords_i32s scale (r ∷ rs) kept = ring_i32s scale r (coords_of scale rs) (kept 0 (omega arith)) (coords_i32s scale rs (λ k h. kept (suc k) (omega arith)))

-- The reader's rules beside 01's

told_holding : (t t' : Bool) (why : Refusal) (later : Judged) (later' : Checked) → t ≡ t' → later ≡ told later'
    → cond t later (Err (Plain why)) ≡ told (holding t' why later')
unfolding told
told_holding t true why later later' e l = rw (e, l)
told_holding t false why later later' e l = rw e

told_each : (ok : Ring → Bool) (ok' : ℕ → Bool) (why : ℕ → Refusal) (shape : Shape) (n : ℕ) (later : Judged) (later' : Checked) → n ≡ length shape
    → ((k : ℕ) → k < n → ok' k ≡ ok (get_or shape k [])) → later ≡ told later' → each_ring ok (λ k. Plain (why k)) shape later ≡ told (for_each ok' why n later')
unfolding each_ring told
told_each ok ok' why shape n later later' e same l = by_test (ltb (fault_at ok shape) (length shape)) refl
  where
    by_test : (b : Bool) → ltb (fault_at ok shape) (length shape) ≡ b
        → cond b (Err (Plain (why (fault_at ok shape)))) later ≡ told (for_each ok' why n later')
    by_test true t =
        let h = ltb-true (fault_at ok shape) (length shape) t in
        ap told (sym (each_lowest ok' why n later' (fault_at ok shape) (omega arith) (same _ (omega arith) ∙ fault_there ok shape h)
        (λ i b. same i (omega arith) ∙ fault_below ok shape i b)))
    by_test false t =
        let h = ltb-false (fault_at ok shape) (length shape) t in
        l ∙ ap told (sym (each_all ok' why n later' (λ k b. same k b ∙ fault_below ok shape k (omega arith))))

-- a rule that no ring breaks leaves the answer to those after it
each_passes : (ok : Ring → Bool) (why : ℕ → WkbRefusal) (shape : Shape) (later : Judged) → ((k : ℕ) → k < length shape → ok (get_or shape k []) ≡ true)
    → each_ring ok why shape later ≡ later
unfolding each_ring
each_passes ok why shape later h = by_test (ltb (fault_at ok shape) (length shape)) refl
  where
    by_test : (b : Bool) → ltb (fault_at ok shape) (length shape) ≡ b → cond b (Err (why (fault_at ok shape))) later ≡ later
    by_test true t = let l = ltb-true (fault_at ok shape) (length shape) t in absurd (omega (arith, fault_none ok shape h))
    by_test false t = refl

-- Where every coordinate can be stored, the reader says of a shape what 01's rules 1 to 4 say of the outline that would be stored: it finds nothing at
-- fault where they find nothing, and else gives their refusal, with their place.
pub judged_checked : (scale : Float) (shape : Shape) → Storable scale shape → judged scale shape ≡ told (shape_checked (sizes_of shape) (coords_of scale shape))
unfolding judged shape_with told
judged_checked scale shape kept =
    let sizes = sizes_of shape in
    let coords = coords_of scale shape in
    let n : rings sizes ≡ length shape = sizes_length shape in
    told_holding _ _ (TooFew 0) _ _ (ap (λ (m : ℕ). not (ltb m 1)) (sym n))
    (told_each enough (enoughAt sizes) TooFew shape (rings sizes) _ _ n (λ k h. ap (λ (m : ℕ). not (ltb m 2)) (size_at_lem shape k))
    (told_holding _ _ (TooMany 64) _ _ (ap (λ (m : ℕ). not (ltb 64 m)) (sym n))
    (told_each not_over (notOverAt sizes) TooMany shape (rings sizes) _ _ n (λ k h. ap (λ (m : ℕ). not (ltb 4097 m)) (size_at_lem shape k))
    (each_passes (all_storable scale) _ shape _ kept
    ∙ told_holding true (true && add_up sizes coords) SizesDiffer _ _ (sym (adds_up scale shape))
    (told_each (shut scale) (shutAt sizes coords) NotClosed shape (rings sizes) _ _ n
    (λ k h. ap₂ closed (ring_at_lem scale shape k (omega arith)) (size_at_lem shape k)) refl)))))

-- and a shape with nothing at fault can be stored
fine_storable : (scale : Float) (shape : Shape) → judged scale shape ≡ Ok tt → Storable scale shape
fine_storable scale shape j k h = fault_below (all_storable scale) shape k (omega (arith, (passed scale shape j).kept))

told_fine : (c : Checked) → told c ≡ Ok tt → c ≡ Ok tt
unfolding told
told_fine (Ok _) e = refl
told_fine (Err why) e = cc

-- What a success leaves

abbrev rings_read : ReadWkb → ℕ
rings_read (Ok (r, m)) = r
rings_read (Err why) = 0

abbrev numbers_read : ReadWkb → ℕ
numbers_read (Ok (r, m)) = m
numbers_read (Err why) = 0

abbrev times_read : ReadWkb → ℕ
times_read (Ok (r, m)) = 1
times_read (Err why) = 0

front : {A : Type 0} (z : A) (n : ℕ) (xs : List A) → take (length xs) (padded z n xs) ≡ xs
unfolding padded
front z n xs = take_at xs _ (length xs) refl

module _ (sizes : List ℕ) (coords : List ℤ) (scale : Float) (r m : ℕ) (s : List ℕ) (c : List ℤ) where
  -- a refusal is no success
  refused_not : (why : WkbRefusal) (a : List ℕ) (b : List ℤ) → ◌≡◌ {A = Outcome} (Err why, a, b) (Ok (r, m), s, c) → Accepted scale r m s c
  refused_not why a b e = let no : ◌≡◌ {A = ℕ} 0 1 = ap (λ (o : Outcome). times_read o.0) e in absurd (omega arith)

  stored_accepted : (shape : Shape) → sound_scale scale ≡ true → judged scale shape ≡ Ok tt → stored sizes coords scale shape ≡ (Ok (r, m), s, c) → Accepted scale r m s c
  unfolding stored
  stored_accepted shape sound j e = by_test (leb (length (sizes_of shape)) (length sizes) && leb (length (coords_of scale shape)) (length coords)) e
    where
      good : shape_checked (sizes_of shape) (coords_of scale shape) ≡ Ok tt
      good = told_fine _ (sym (judged_checked scale shape (fine_storable scale shape j)) ∙ j)

      by_test : (b : Bool)
          → ◌≡◌ {A = Outcome}
          (cond b
          (Ok (length (sizes_of shape), length (coords_of scale shape)), pad (length sizes) (sizes_of shape), pad_z (length coords) (coords_of scale shape))
          (Err (Plain NoRoom), replicate (length sizes) 0, replicate (length coords) (pos 0)))
          (Ok (r, m), s, c)
          → Accepted scale r m s c
      by_test true e =
          let er : length (sizes_of shape) ≡ r = ap (λ (o : Outcome). rings_read o.0) e in
          let em : length (coords_of scale shape) ≡ m = ap (λ (o : Outcome). numbers_read o.0) e in
          let fs : take r s ≡ sizes_of shape = ap₂ take (sym er) (sym (ap (λ (o : Outcome). o.1) e)) ∙ front 0 (length sizes) (sizes_of shape) in
          let fc : take m c ≡ coords_of scale shape = ap₂ take (sym em) (sym (ap (λ (o : Outcome). o.2) e)) ∙ front (pos 0) (length coords) (coords_of scale shape) in
          record {
            counted = ap length fs ∙ er;
            numbered = ap length fc ∙ em;
            numbers = subst I32s (sym fc) (coords_i32s scale shape (fine_storable scale shape j));
            checked = ap₂ shape_checked fs fc ∙ good;
            scaled = sound;
          }
      by_test false e = refused_not _ _ _ e

  judged_accepted : (shape : Shape) (j : Judged) → sound_scale scale ≡ true → judged scale shape ≡ j → after_judged sizes coords scale shape j ≡ (Ok (r, m), s, c) → Accepted scale r m s c
  unfolding after_judged
  judged_accepted shape (Ok _) sound j e = stored_accepted shape sound j e
  judged_accepted shape (Err why) sound j e = refused_not why sizes coords e

  whole_accepted : (g : Got (ByteOrder × Shape)) → sound_scale scale ≡ true → after_whole sizes coords scale g ≡ (Ok (r, m), s, c) → Accepted scale r m s c
  unfolding after_whole
  whole_accepted (got (order, shape) end) sound e = judged_accepted shape (judged scale shape) sound refl e
  whole_accepted (stop why) sound e = refused_not why sizes coords e

  -- For any bytes, any scale and any rooms: where reading answers r rings and m numbers, the first r sizes and the first m numbers that it leaves are an
  -- outline of i32 that passes 01's rules 1 to 4, and the scale passes rule 5. So what 01 demands of an outline that passes holds of the one that was read:
  -- demand 2 is what `inside` of `outline_ask` promises (`inside_of`), demand 3 is `inside` and `one_answer` of the record `Demand3` of `demand_3`.
  pub read_accepted : (bytes : List ℕ) → wkb_read sizes coords scale bytes ≡ (Ok (r, m), s, c) → Accepted scale r m s c
  unfolding wkb_read
  read_accepted bytes e = by_test (sound_scale scale) refl e
    where
      by_test : (b : Bool) → sound_scale scale ≡ b → cond b (after_whole sizes coords scale (whole bytes)) (Err (Plain BadScale), sizes, coords) ≡ (Ok (r, m), s, c)
          → Accepted scale r m s c
      by_test true sound e = whole_accepted (whole bytes) sound e
      by_test false sound e = refused_not (Plain BadScale) sizes coords e
