-- What an outline's own record, made in room for 64 rings, leads to: the answer of the segments alone. Assumes nothing.
use Rattle.std.specs.Prelude.{Ok, Err}
use Prim.Native.Nat.{ℕ, ◌*◌, ◌≤◌}
use mathlib.Core.Path.{◌≡◌, refl, sym, ap, ◌∙◌}
use mathlib.Core.List.{List}
use mathlib.Core.Bool.{Bool, true}
use native.Mathlib.Omega.{arith}
use lib.ListN.{length, replicate}
use lib.IntN.{ℤ}
use lib.Ieee.{Float}
use Rattle.answers.specs.declared.Refusal.{Refusal}
use Rattle.boxes.specs.declared.Point.{Point}
use Rattle.rings.specs.I32s.{I32s}
use Rattle.rings.specs.Checks.{Checked}
use Rattle.rings.specs.Checks.{when_sound}
use Rattle.outline_check.specs.declared.Outline.{Outline}
use Rattle.outline_check.specs.Outline.{rings}
use Rattle.outline_check.specs.Rules.{outline_checked}
use Rattle.outline_check.proofs.Sound.{sound_outline}
use Rattle.outline_record.specs.Made.{Made}
use Rattle.outline_record.specs.Made.{Outcome, recorded, when_passed, boxes_made}
use Rattle.outline_record.proofs.Pad.{recorded_fits}
use Rattle.outline_ring.specs.RingIndex.{lent}
use Rattle.outline_ask.specs.Inside.{inside_of}
use Rattle.outline_ask.specs.Query.{scaled_query}
use Rattle.outline_agree.specs.Plain.{plain_asked, plain_inside}
use Rattle.outline_read.proofs.Demand.{made_answers, zeros_own}

module _ (outline : Outline) (sizes : List ℕ) (coords : List ℤ) (boxes : List ℤ) (p : Point) (edge : Bool) (made : Made) (out : List ℤ)
    (said : boxes_made outline.scale sizes coords boxes ≡ (made, out)) where
  -- a record that could not be made, in room for 64 rings, is a rule that refused
  pub plain_refused : length boxes ≡ 256 → (why : Refusal) → made ≡ Err why → Err why ≡ plain_inside outline sizes coords p edge
  unfolding boxes_made plain_inside
  plain_refused wide why e = go (outline_checked outline.scale sizes coords) refl said
    where
      go : (c : Checked) → outline_checked outline.scale sizes coords ≡ c
          → when_passed c boxes (recorded sizes coords boxes) ≡ (made, out)
          → Err why ≡ when_sound c (plain_asked sizes coords edge (scaled_query outline p))
      go (Err w) k f = let same : Err w ≡ Err why = ap (λ (o : Outcome). o.0) f ∙ e in cc
      go (Ok _) k f =
          let few = (sound_outline true outline.scale sizes coords k).1.shaped.counted.few in
          let fits : 4 * rings sizes ≤ length boxes = omega arith in
          let clash : Ok (rings sizes) ≡ Err why = ap (λ (o : Outcome). o.0) (sym (recorded_fits sizes coords boxes fits) ∙ f) ∙ e in
          let z : ◌≡◌ {A = ℕ} 0 1 = cc in
          absurd (omega arith)

  -- one that was made, with a table of zeros beside it, gives the answer of the segments alone
  pub plain_made : I32s coords → (n : ℕ) → made ≡ Ok n → (zeros : ℕ) (sp : List Float) (s l b : List ℕ)
      → inside_of outline sizes coords out (lent (replicate zeros 0) sp s l b) p edge ≡ plain_inside outline sizes coords p edge
  plain_made nums n e zeros sp s l b =
      made_answers outline sizes coords nums boxes out n (said ∙ ap (λ (m : Made). (m, out)) e) p edge (lent (replicate zeros 0) sp s l b)
      (zeros_own zeros sp s l b sizes coords)
