-- 01, "What a call says when it says no": rules 1 to 5 on an outline.
use Rattle.std.specs.Prelude.{Ok, ℕ, zero, suc, ◌+◌, ◌*◌, List, Bool, true, not, ◌&&◌, ltb, eqb, length, ℤ, Float}
use Rattle.std.specs.Float.{binary64}
use Rattle.std.specs.Float.Ieee.{of_bits, lt}
use Rattle.std.specs.Float.Ieee.Scale.{finite}
use Rattle.answers.specs.declared.Refusal.{Refusal}
use Rattle.answers.specs.declared.Refusal.TheVariants.{TooFew, TooMany, SizesDiffer, NotClosed, BadScale}
use Rattle.rings.specs.Checks.{Checked, min_points, max_points, closed, holding, then_checked}
use Rattle.outline_check.specs.Outline.{rings, size_at, start_of, ring_of}

-- "1 to 64 rings"
abbrev pub min_rings : ℕ
min_rings = 1

abbrev pub max_rings : ℕ
max_rings = 64

-- a rule over the n rings from k on
unfoldable pub for_from : (ℕ → Bool) → (ℕ → Refusal) → ℕ → ℕ → Checked → Checked
for_from ok why zero k later = later
for_from ok why (suc n) k later = holding (ok k) (why k) (for_from ok why n (k + 1) later)

-- "each rule over all rings before the next", "the lowest at fault is named"
abbrev pub for_each : (ℕ → Bool) → (ℕ → Refusal) → ℕ → Checked → Checked
for_each ok why n later = for_from ok why n 0 later

-- The rules by ring: under 2 points, over 4,097 points, the first and the last point differ.
abbrev pub enough : List ℕ → ℕ → Bool
enough sizes k = not (ltb (size_at sizes k) min_points)

abbrev pub not_over : List ℕ → ℕ → Bool
not_over sizes k = not (ltb max_points (size_at sizes k))

abbrev pub shut : List ℕ → List ℤ → ℕ → Bool
shut sizes coords k = closed (ring_of sizes coords k) (size_at sizes k)

-- "ring sizes add up to the coordinates lent (two a point)"
abbrev pub add_up : List ℕ → List ℤ → Bool
add_up sizes coords = eqb (2 * start_of sizes (rings sizes)) (length coords)

-- Rules 1 to 4. A call that is lent more beside the coordinates says in `fits` whether that is as long as the rings call for, which rule 3 then asks too.
unfoldable pub shape_with : Bool → List ℕ → List ℤ → Checked
shape_with fits sizes coords =
    holding (not (ltb (rings sizes) min_rings)) (TooFew 0)
    (for_each (enough sizes) TooFew (rings sizes)
    (holding (not (ltb max_rings (rings sizes))) (TooMany max_rings)
    (for_each (not_over sizes) TooMany (rings sizes)
    (holding (fits && add_up sizes coords) SizesDiffer
    (for_each (shut sizes coords) NotClosed (rings sizes) (Ok tt))))))

-- "scale finite, and above 0"
abbrev pub sound_scale : Float → Bool
sound_scale scale = finite scale && lt (of_bits binary64 0) scale

-- rule 5
unfoldable pub scale_checked : Float → Checked
scale_checked scale = holding (sound_scale scale) BadScale (Ok tt)

-- rules 1 to 5; whatever the mode, any coordinate is taken
unfoldable pub outline_with : Bool → Float → List ℕ → List ℤ → Checked
outline_with fits scale sizes coords = then_checked (shape_with fits sizes coords) (scale_checked scale)

abbrev pub shape_checked : List ℕ → List ℤ → Checked
shape_checked sizes coords = shape_with true sizes coords

abbrev pub outline_checked : Float → List ℕ → List ℤ → Checked
outline_checked scale sizes coords = outline_with true scale sizes coords
