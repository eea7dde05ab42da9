-- 01, "Sample sheet": the cases marked *, one field a case, each an equation of what a call promises: its answer, and what it leaves in the rooms that it is
-- lent, whatever stood there. `proofs/Table.antt` proves them all.
use Rattle.std.specs.Prelude.{Ok, Err, Some}
use Rattle.std.specs.Prelude.{◌≡◌, List, [], ◌∷◌, ◌++◌, ℕ, ◌≤◌, length, replicate, ℤ, pos, negsuc, Bool, true, false, Float}
use Rattle.std.specs.Float.{binary64}
use Rattle.std.specs.Float.Ieee.{of_int, of_bits, to_bits}
use Rattle.floats.specs.Next.{next_up_of}
use Rattle.varint.specs.Uvarint.{read_uvarint, append_uvarint}
use Rattle.boxes.specs.declared.Point.{Point}
use Rattle.rings.specs.Listing.{scanned}
use Rattle.answers.specs.Answers.{Answer}
use Rattle.answers.specs.declared.Refusal.TheVariants.{Loose}
use Rattle.turn.specs.declared.Turning.TheVariants.{Anticlockwise, Clockwise, None}
use Rattle.turn.specs.Turn.{turned}
use Rattle.turn.specs.Order.{reversed}
use Rattle.stripes_place.specs.Stripe.{stripe_of}
use Rattle.tree_build.specs.Build.{tree_built}
use Rattle.outline_check.specs.declared.Outline.{Outline}
use Rattle.outline_check.specs.declared.RaycastMode.{RaycastMode}
use Rattle.outline_check.specs.declared.RaycastMode.TheVariants.{Float as FloatMode, Integer as IntegerMode}
use Rattle.outline_check.specs.Outline.{outline_of}
use Rattle.outline_record.specs.Record.{boxes_of}
use Rattle.outline_ring.specs.RingIndex.{lent}
use Rattle.outline_ask.specs.declared.Query.TheVariants.{Grid}
use Rattle.outline_ask.specs.Query.{scaled_query}
use Rattle.outline_ask.specs.Inside.{inside_of}

-- "S is the square (0,0) (10,0) (10,10) (0,10) (0,0), scale 1"
abbrev pub S : List ℤ
S = pos 0 ∷ pos 0 ∷ pos 10 ∷ pos 0 ∷ pos 10 ∷ pos 10 ∷ pos 0 ∷ pos 10 ∷ pos 0 ∷ pos 0 ∷ []

-- "H is S with hole (2,2) (8,2) (8,8) (2,8) (2,2)"
abbrev pub H : List ℤ
H = S ++ (pos 2 ∷ pos 2 ∷ pos 8 ∷ pos 2 ∷ pos 8 ∷ pos 8 ∷ pos 2 ∷ pos 8 ∷ pos 2 ∷ pos 2 ∷ [])

-- "S reversed"
abbrev pub S_reversed : List ℤ
S_reversed = pos 0 ∷ pos 0 ∷ pos 0 ∷ pos 10 ∷ pos 10 ∷ pos 10 ∷ pos 10 ∷ pos 0 ∷ pos 0 ∷ pos 0 ∷ []

-- "(0,0) (5,5) (0,0)", and "one point repeated"
abbrev pub to_and_fro : List ℤ
to_and_fro = pos 0 ∷ pos 0 ∷ pos 5 ∷ pos 5 ∷ pos 0 ∷ pos 0 ∷ []

abbrev pub one_point : List ℤ
one_point = pos 7 ∷ negsuc 2 ∷ pos 7 ∷ negsuc 2 ∷ pos 7 ∷ negsuc 2 ∷ pos 7 ∷ negsuc 2 ∷ []

-- a ring of five points, and two of them
abbrev pub one : List ℕ
one = 5 ∷ []

abbrev pub two : List ℕ
two = 5 ∷ 5 ∷ []

abbrev pub whole : ℤ → Float
whole n = of_int binary64 n

abbrev pub place : ℤ → ℤ → Point
place x y = record { x = whole x; y = whole y }

-- the places (9.5, 5) and (-0.5, 5)
abbrev pub near_edge : Point
near_edge = record { x = of_bits binary64 0x4023_0000_0000_0000; y = whole (pos 5) }

abbrev pub left_of : Point
left_of = record { x = of_bits binary64 0xBFE0_0000_0000_0000; y = whole (pos 5) }

abbrev pub scale_one : RaycastMode → Outline
scale_one mode = outline_of (whole (pos 1)) mode

-- the inside question of an outline of scale 1, with the record that `make_boxes` makes of it and no index
abbrev pub asked : RaycastMode → List ℕ → List ℤ → Point → Bool → Answer
asked mode sizes coords p edge = inside_of (scale_one mode) sizes coords (boxes_of sizes coords) (lent [] [] [] [] []) p edge

pub record SampleSheet : Type 0 where
  -- "S holds (5,5); (11,5) out. (0,5): out, or in with edge allowed."
  pub holds_5_5 : (edge : Bool) → asked FloatMode one S (place (pos 5) (pos 5)) edge ≡ Ok true
  pub out_11_5 : (edge : Bool) → asked FloatMode one S (place (pos 11) (pos 5)) edge ≡ Ok false
  pub edge_excluded : asked FloatMode one S (place (pos 0) (pos 5)) false ≡ Ok false
  pub edge_allowed : asked FloatMode one S (place (pos 0) (pos 5)) true ≡ Ok true
  -- "H: (5,5) out, (1,1) in, (2,5) in under both rules."
  pub in_hole : (edge : Bool) → asked FloatMode two H (place (pos 5) (pos 5)) edge ≡ Ok false
  pub around_hole : (edge : Bool) → asked FloatMode two H (place (pos 1) (pos 1)) edge ≡ Ok true
  pub on_rim : (edge : Bool) → asked FloatMode two H (place (pos 2) (pos 5)) edge ≡ Ok true
  -- "Integer, S: (9.5,5) snaps to the edge; (-0.5,5) snaps to x = -1, out."
  pub snaps_to_edge : scaled_query (scale_one IntegerMode) near_edge ≡ Grid (pos 10) (pos 5)
  pub snapped_excluded : asked IntegerMode one S near_edge false ≡ Ok false
  pub snapped_allowed : asked IntegerMode one S near_edge true ≡ Ok true
  pub snaps_away : scaled_query (scale_one IntegerMode) left_of ≡ Grid (negsuc 0) (pos 5)
  pub snapped_out : (edge : Bool) → asked IntegerMode one S left_of edge ≡ Ok false
  -- "Lists in S: y 0 gives 0,1,3; y 10 gives 1,2,3; y -1 none."
  pub list_at_0 : (room : List ℕ) → length room ≡ 4 → scanned S 5 (whole (pos 0)) room ≡ (Ok 3, 0 ∷ 1 ∷ 3 ∷ 0 ∷ [])
  pub list_at_10 : (room : List ℕ) → length room ≡ 4 → scanned S 5 (whole (pos 10)) room ≡ (Ok 3, 1 ∷ 2 ∷ 3 ∷ 0 ∷ [])
  pub list_below : (room : List ℕ) → length room ≡ 4 → scanned S 5 (whole (negsuc 0)) room ≡ (Ok 0, 0 ∷ 0 ∷ 0 ∷ 0 ∷ [])
  -- "S packs to 04 00 01 01 01 00.": built from any threshold that its four segments reach, in the ten work numbers that one node and four segments call for
  pub packs : (threshold : ℕ) → threshold ≤ 4 → (bytes work : List ℕ) → length bytes ≡ 8 → length work ≡ 10
      → tree_built S 5 threshold bytes work ≡ (Ok (Some 6), 0x04 ∷ 0x00 ∷ 0x01 ∷ 0x01 ∷ 0x01 ∷ 0x00 ∷ 0 ∷ 0 ∷ [], replicate 10 0)
  -- "300 is AC 02." "80 00 refuses 15, place 0 (CR 6)."
  pub three_hundred : (room : List ℕ) → length room ≡ 3 → append_uvarint room 0 300 ≡ (Ok 2, 0xAC ∷ 0x02 ∷ 0 ∷ [])
  pub eighty_nought : read_uvarint 64 (0x80 ∷ 0x00 ∷ []) 0 ≡ Err (Loose 0)
  -- "S is anticlockwise, S reversed clockwise; (0,0) (5,5) (0,0) and one point repeated have no turn."
  pub turns : turned S 5 ≡ Ok Anticlockwise
  pub backwards : reversed S 5 ≡ S_reversed
  pub turns_back : turned S_reversed 5 ≡ Ok Clockwise
  pub flat : turned to_and_fro 3 ≡ Ok None
  pub still : turned one_point 4 ≡ Ok None
  -- "Stripe of 5, 10 with least 0, height 10, 32 stripes: 16, 31."
  pub stripe_of_5 : stripe_of (whole (pos 5)) (whole (pos 0)) (whole (pos 10)) 32 ≡ 16
  pub stripe_of_10 : stripe_of (whole (pos 10)) (whole (pos 0)) (whole (pos 10)) 32 ≡ 31
  -- "Next up from -1 has bits BFEFFFFFFFFFFFFF."
  pub next_up : to_bits binary64 (next_up_of (whole (negsuc 0))) ≡ 0xBFEF_FFFF_FFFF_FFFF
