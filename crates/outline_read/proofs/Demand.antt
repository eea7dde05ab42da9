-- Demand 3, from end to end: an outline whose record and indexes were made by the calls for it has, at every point and under both edge rules, the
-- answer of its segments alone, whatever the options were. Assumes nothing.
use Rattle.std.specs.Prelude.{Ok}
use Prim.Native.Nat.{ℕ, zero, suc, ◌-◌, ◌*◌, ◌+◌, ◌/◌, ◌%◌}
use mathlib.Core.Path.{◌≡◌, refl, sym, ap, ◌∙◌}
use mathlib.Core.List.{List, [], ◌++◌}
use mathlib.Core.Bool.{Bool, false≢true}
use lib.Dec.{eqb}
use lib.ListN.{length, get_or, replicate}
use lib.IntN.{ℤ, pos}
use lib.Ieee.{Float}
use Rattle.boxes.specs.declared.Point.{Point}
use Rattle.room.specs.Room.{padded}
use Rattle.rings.specs.I32s.{I32s}
use Rattle.outline_check.specs.declared.Outline.{Outline}
use Rattle.outline_record.specs.Record.{boxes_of}
use Rattle.outline_record.specs.Made.{pad_z, boxes_made}
use Rattle.outline_record.proofs.Read.{made_record}
use Rattle.outline_ring.specs.RingIndex.{Indexes, lent}
use Rattle.outline_ask.specs.Inside.{inside_of}
use Rattle.outline_index.specs.declared.BuildOptions.{BuildOptions}
use Rattle.outline_build.specs.Indexes.{indexes_built}
use Rattle.outline_agree.specs.Plain.{plain_inside}
use Rattle.outline_agree.specs.Own.{OwnIndexes}
use Rattle.outline_agree.proofs.Demand.{demand_3}
use Rattle.outline_read.proofs.Left.{left_own}

pad_parts : (n : ℕ) (xs : List ℤ) → pad_z n xs ≡ xs ++ replicate (n - length xs) (pos 0)
unfolding padded
pad_parts n xs = refl

module _ (outline : Outline) (sizes : List ℕ) (coords : List ℤ) (nums : I32s coords) (boxes bx : List ℤ) (n : ℕ)
    (record-made : boxes_made outline.scale sizes coords boxes ≡ (Ok n, bx)) (p : Point) (edge : Bool) where
  -- any choice of own indexes, beside a record that was made
  pub made_answers : (x : Indexes) → OwnIndexes x sizes coords → inside_of outline sizes coords bx x p edge ≡ plain_inside outline sizes coords p edge
  made_answers x own =
      ap (λ (r : List ℤ). inside_of outline sizes coords r x p edge)
      ((made_record outline.scale sizes coords boxes bx n record-made).2 ∙ pad_parts (length boxes) (boxes_of sizes coords))
      ∙ demand_3 outline sizes coords nums (replicate (length boxes - length (boxes_of sizes coords)) (pos 0)) x own p edge

  -- and so the indexes that were built
  pub built_answers : (options : BuildOptions) (table : List ℕ) (spans : List Float) (stripes list bytes work : List ℕ)
      (count : ℕ) (t : List ℕ) (sp : List Float) (s l b w : List ℕ)
      → indexes_built sizes coords options table spans stripes list bytes work ≡ (Ok count, t, sp, s, l, b, w)
      → inside_of outline sizes coords bx (lent t sp s l b) p edge ≡ plain_inside outline sizes coords p edge
  built_answers options table spans stripes list bytes work count t sp s l b w built =
      made_answers (lent t sp s l b) (left_own sizes coords options table spans stripes list bytes work count t sp s l b w built)

-- ---- no index is a choice: a table of zeros, as 8 leaves it, and an empty one
zeros_at : (z n i : ℕ) → get_or (replicate n z) i z ≡ z
zeros_at z zero i = refl
zeros_at z (suc n) zero = refl
zeros_at z (suc n) (suc i) = zeros_at z n i

pub zeros_own : (n : ℕ) (sp : List Float) (s l b : List ℕ) (sizes : List ℕ) (coords : List ℤ) → OwnIndexes (lent (replicate n 0) sp s l b) sizes coords
zeros_own n sp s l b sizes coords k below =
    let e = zeros_at 0 n (10 * k + 2) in
    record {
      stripes = λ h. absurd (false≢true (sym (ap (λ (m : ℕ). eqb (m % 2) 1) e) ∙ h));
      lies = λ h. absurd (false≢true (sym (ap (λ (m : ℕ). eqb (m / 2 % 2) 1) e) ∙ h));
      tree = λ h. absurd (false≢true (sym (ap (λ (m : ℕ). eqb (m / 2 % 2) 1) e) ∙ h));
    }

pub none_own : (sizes : List ℕ) (coords : List ℤ) → OwnIndexes (lent [] [] [] [] []) sizes coords
none_own = zeros_own 0 [] [] [] []
