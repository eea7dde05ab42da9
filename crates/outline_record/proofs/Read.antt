-- A made record read again: ring k's box is the box of ring k's points. Assumes nothing.
use Rattle.std.specs.Prelude.{Ok, Err}
use Prim.Native.Nat.{ℕ, zero, suc, ◌+◌, ◌-◌, ◌*◌, ◌^◌, ◌≤◌, ◌<◌}
use mathlib.Core.Path.{◌≡◌, refl, sym, ap, ◌∙◌}
use mathlib.Core.List.{List, [], ◌++◌, append_assoc, append-nil}
use mathlib.Core.Logic.{⊎_elim}
use mathlib.Core.Bool.{◌&&◌}
use native.Mathlib.Omega.{arith}
use lib.ListN.{length, get_or, drop, get_or-append}
use lib.Seq.{get_or-append-add, get_or-take, get_or-drop}
use lib.IntN.{ℤ, pos, nat_abs}
use lib.Signed.{le_z}
use lib.Ieee.{Float, binary64, of_int}
use Rattle.room.proofs.Cases.{lt_or, eq_or, both}
use Rattle.floats.proofs.Ints.{i32_small}
use Rattle.boxes.specs.Quads.{box}
use Rattle.rings.specs.Checks.{Checked}
use Rattle.rings.specs.Ring.{wide, point_at}
use Rattle.rings.specs.I32s.{I32s}
use Rattle.tree.specs.Tree.{ring_box}
use Rattle.outline_check.specs.Outline.{rings, size_at, start_of, ring_of}
use Rattle.outline_check.specs.Rules.{outline_checked}
use Rattle.outline_check.specs.Inner.Counted.{Counted}
use Rattle.outline_check.proofs.Starts.{part_within}
use Rattle.outline_record.specs.Record.{least_z, greatest_z, box_numbers, boxes_to, boxes_of, rect_at, grid_box_holds}
use Rattle.outline_record.specs.Made.{Outcome, pad_z, recorded, when_passed, boxes_made}
use Rattle.outline_record.proofs.Pad.{recorded_fits, recorded_short}
use Rattle.outline_record.proofs.Boxes.{boxes_length, numbers_length}
use Rattle.outline_record.proofs.Extremes.{least_float, greatest_float}

module _ (sizes : List ℕ) (coords : List ℤ) where
  -- number j of ring k's four, whatever stands behind the boxes
  pub boxes_at : (n k j : ℕ) (rest : List ℤ) → k < n → j < 4
      → get_or (boxes_to sizes coords n ++ rest) (4 * k + j) (pos 0) ≡ get_or (box_numbers (ring_of sizes coords k) (size_at sizes k)) j (pos 0)
  unfolding boxes_to
  boxes_at zero k j rest h l = absurd (omega arith)
  boxes_at (suc n) k j rest h l =
      let before = boxes_to sizes coords n in
      let b = box_numbers (ring_of sizes coords n) (size_at sizes n) in
      let four = numbers_length sizes coords (ring_of sizes coords n) (size_at sizes n) in
      ap (λ (zs : List ℤ). get_or zs (4 * k + j) (pos 0)) (append_assoc before b rest)
      ∙ ⊎_elim
      (λ (s : k ≡ n).
      let e : 4 * k + j ≡ length before + j = omega (arith, boxes_length sizes coords n) in
      let f : j < length b = omega (arith, four) in
      ap (λ (i : ℕ). get_or (before ++ (b ++ rest)) i (pos 0)) e
      ∙ get_or-append-add before (b ++ rest) j (pos 0)
      ∙ get_or-append b rest (pos 0) j f
      ∙ ap (λ (i : ℕ). get_or (box_numbers (ring_of sizes coords i) (size_at sizes i)) j (pos 0)) (sym s))
      (λ (d : k ≡ n → ⊥). let less : k < n = omega (arith, d) in boxes_at n k j (b ++ rest) less l)
      (eq_or k n)

box_same : {a b c d a' b' c' d' : Float} → a ≡ a' → b ≡ b' → c ≡ c' → d ≡ d' → box a b c d ≡ box a' b' c' d'
box_same p q r s = rw (p, q, r, s)

module _ (sizes : List ℕ) (coords : List ℤ) (i32s : I32s coords) (s : Counted sizes coords) (k : ℕ) (h : k < rings sizes) where
  -- a ring's numbers are the outline's
  ring_at_lem : (i : ℕ) → i < 2 * size_at sizes k → nat_abs (get_or (ring_of sizes coords k) i (pos 0)) ≤ 2 ^ 53
  unfolding ring_of
  ring_at_lem i l =
      let at = 2 * start_of sizes k in
      let n = 2 * size_at sizes k in
      let e = get_or-take n (drop at coords) i (pos 0) l ∙ get_or-drop at coords i (pos 0) in
      rw e (i32_small (get_or coords (at + i) (pos 0)) (i32s (at + i) (omega (arith, part_within s k h))))

  pub rect_in : (rest : List ℤ) → rect_at (boxes_of sizes coords ++ rest) k ≡ ring_box (wide (ring_of sizes coords k)) (size_at sizes k)
  unfolding ring_box box_numbers
  rect_in rest =
      let ring = ring_of sizes coords k in
      let last = size_at sizes k - 1 in
      let two = s.enough k h in
      let xs : (i : ℕ) → i ≤ last → nat_abs (get_or ring (i * 2) (pos 0)) ≤ 2 ^ 53 = λ i l. ring_at_lem (i * 2) (omega arith) in
      let ys : (i : ℕ) → i ≤ last → nat_abs (get_or ring (i * 2 + 1) (pos 0)) ≤ 2 ^ 53 = λ i l. ring_at_lem (i * 2 + 1) (omega arith) in
      let z : 4 * k ≡ 4 * k + 0 = omega arith in
      let zs = boxes_of sizes coords ++ rest in
      box_same
      (ap (λ (i : ℕ). of_int binary64 (get_or zs i (pos 0))) z ∙ ap (of_int binary64) (boxes_at sizes coords (rings sizes) k 0 rest h (omega arith)) ∙ least_float (λ i. (point_at ring i).x) last xs)
      (ap (of_int binary64) (boxes_at sizes coords (rings sizes) k 1 rest h (omega arith)) ∙ least_float (λ i. (point_at ring i).y) last ys)
      (ap (of_int binary64) (boxes_at sizes coords (rings sizes) k 2 rest h (omega arith)) ∙ greatest_float (λ i. (point_at ring i).x) last xs)
      (ap (of_int binary64) (boxes_at sizes coords (rings sizes) k 3 rest h (omega arith)) ∙ greatest_float (λ i. (point_at ring i).y) last ys)

  -- the record alone
  pub rect_of_ring : rect_at (boxes_of sizes coords) k ≡ ring_box (wide (ring_of sizes coords k)) (size_at sizes k)
  rect_of_ring = sym (ap (λ (zs : List ℤ). rect_at zs k) (append-nil (boxes_of sizes coords))) ∙ rect_in []

-- the whole-number test of a box asks the least and the greatest
pub grid_box_in : (sizes : List ℕ) (coords rest : List ℤ) (k : ℕ) (x y : ℤ) → k < rings sizes
    → let ring = ring_of sizes coords k in let last = size_at sizes k - 1 in
    grid_box_holds (boxes_of sizes coords ++ rest) k x y
    ≡ (le_z (least_z (λ i. (point_at ring i).x) last) x && le_z x (greatest_z (λ i. (point_at ring i).x) last)
    && le_z (least_z (λ i. (point_at ring i).y) last) y && le_z y (greatest_z (λ i. (point_at ring i).y) last))
unfolding box_numbers
grid_box_in sizes coords rest k x y h =
    let z : 4 * k ≡ 4 * k + 0 = omega arith in
    let zs = boxes_of sizes coords ++ rest in
    let at : (j : ℕ) → j < 4 → get_or zs (4 * k + j) (pos 0) ≡ get_or (box_numbers (ring_of sizes coords k) (size_at sizes k)) j (pos 0) = λ j l. boxes_at sizes coords (rings sizes) k j rest h l in
    rw (ap (λ (i : ℕ). get_or zs i (pos 0)) z ∙ at 0 (omega arith), at 1 (omega arith), at 2 (omega arith), at 3 (omega arith))

-- what a record that was made tells: the outline passed the rules, and the room holds the boxes and zeros behind them
pub made_record : (scale : Float) (sizes : List ℕ) (coords boxes out : List ℤ) (n : ℕ)
    → boxes_made scale sizes coords boxes ≡ (Ok n, out)
    → (outline_checked scale sizes coords ≡ Ok tt) × (n ≡ rings sizes) × (out ≡ pad_z (length boxes) (boxes_of sizes coords))
unfolding boxes_made
made_record scale sizes coords boxes out n e = go (outline_checked scale sizes coords) refl e
  where
    go : (x : Checked) → outline_checked scale sizes coords ≡ x → when_passed x boxes (recorded sizes coords boxes) ≡ (Ok n, out)
        → (outline_checked scale sizes coords ≡ Ok tt) × (n ≡ rings sizes) × (out ≡ pad_z (length boxes) (boxes_of sizes coords))
    go (Err why) p q = let u : Err why ≡ Ok n = ap (λ (y : Outcome). y.0) q in let z : ◌≡◌ {A = ℕ} 0 1 = cc in absurd (omega arith)
    go (Ok _) p q =
        ⊎_elim
        (λ (short : length boxes < 4 * rings sizes).
        let u = (both q (recorded_short sizes coords boxes short)).0 in let z : ◌≡◌ {A = ℕ} 0 1 = cc in absurd (omega arith))
        (λ (fits : 4 * rings sizes ≤ length boxes).
        let b = both q (recorded_fits sizes coords boxes fits) in
        let u = b.0 in
        let m : n ≡ rings sizes = cc in (p, m, b.1))
        (lt_or (length boxes) (4 * rings sizes))
