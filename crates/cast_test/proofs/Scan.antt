-- The ring test by scan, one segment at a time, and the ways through it. Assumes nothing.
use Rattle.std.specs.Prelude.{Ok}
use Rattle.std.specs.declared.ops.ControlFlow.TheVariants.{Continue, Break}
use mathlib.Core.Path.{◌≡◌, sym, ap, ◌∙◌}
use mathlib.Core.Bool.{Bool, true, false, ◌&&◌}
use Prim.Native.Nat.{ℕ, ◌+◌, ◌≤◌, ◌<◌}
use lib.Ieee.{Float}
use lib.Ieee.Scale.{finite}
use Rattle.answers.specs.Answers.{said}
use Rattle.boxes.specs.declared.Point.{Point}
use Rattle.room.specs.Numbers.{up_to}
use Rattle.room.proofs.UpTo.{up_to_done, up_to_more}
use Rattle.rings.specs.Checks.{Checked}
use Rattle.rings.specs.Ring.{side_at, segments, holds_height, meeting}
use Rattle.cast_test.specs.Test.{scan_of, scan_test, scan_tested_by}
use Rattle.cast_test.specs.Inner.Steps.{Seen, step_of}
use Rattle.cast_test.proofs.Steps.{settled, settled_step, settled_on, settled_done, settled_none}

module _ (ring : ℕ → Float) (n : ℕ) (p : Point) (edge : Bool) where
  -- what is seen before segment i and the segments from it on make the answer
  abbrev pub Scanning : Seen → ℕ → Type 0
  Scanning s i = settled ring p edge s (up_to (λ i. holds_height (side_at ring i) p.y) n i) ≡ scan_of ring n p edge

  pub scanning_start : Scanning (Continue false) 0
  scanning_start = settled_none ring p edge _

  pub scanning_more : (s : Seen) (i : ℕ) → i < n → Scanning s i → Scanning (step_of ring i p s) (i + 1)
  scanning_more s i h e =
      sym (settled_step ring p edge s i (up_to (λ i. holds_height (side_at ring i) p.y) n (i + 1)))
      ∙ sym (ap (settled ring p edge s) (up_to_more (λ i. holds_height (side_at ring i) p.y) n i h))
      ∙ e

  -- "on" ends it
  pub scanning_on : (inside : Bool) (i : ℕ) → Scanning (Break inside) i → edge ≡ scan_of ring n p edge
  scanning_on inside i e = sym (settled_on ring p edge inside _) ∙ e

  pub scanning_done : (inside : Bool) (i : ℕ) → n ≤ i → Scanning (Continue inside) i → inside ≡ scan_of ring n p edge
  scanning_done inside i h e =
      sym (settled_done ring p edge inside)
      ∙ sym (ap (settled ring p edge (Continue inside)) (up_to_done (λ i. holds_height (side_at ring i) p.y) n i h))
      ∙ e

-- all segments of a ring
pub scan_meeting : (ring : ℕ → Float) (points : ℕ) (p : Point) (edge : Bool) → (finite p.x && finite p.y) ≡ true
    → said (scan_of ring (segments points) p edge) ≡ scan_test ring points p edge
unfolding meeting
scan_meeting ring points p edge f = rw f

module _ (checked : Checked) (ring : ℕ → Float) (points : ℕ) (p : Point) (edge : Bool) where
  -- of a ring that passed its checks
  pub tested_checked : checked ≡ Ok tt → scan_tested_by checked ring points p edge ≡ scan_test ring points p edge
  unfolding scan_tested_by
  tested_checked e = rw e
