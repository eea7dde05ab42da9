-- Room as large as the rules call for is as large as building asks: what each ring calls for, summed over the rings, is how long the parts of all rings are.
-- Assumes nothing.
use Rattle.std.specs.Prelude.{Ok, Some}
use mathlib.Core.Path.{◌≡◌, refl, ap₂}
use mathlib.Core.Bool.{Bool, true, false, not, cond, ◌&&◌, ◌||◌}
use mathlib.Core.List.{List, []}
use Prim.Native.Nat.{ℕ, zero, suc, ◌*◌, ◌≤◌, ◌<◌}
use native.Mathlib.Omega.{arith}
use lib.Dec.{leb}
use lib.ListN.{length}
use lib.IntN.{ℤ}
use lib.Ieee.{Float}
use borrow.Author.Tests.{le-leb}
use Rattle.rings.specs.Ring.{wide, segments}
use Rattle.rings.specs.Checks.{ring_checked}
use Rattle.stripes_count.specs.Count.{stripe_count}
use Rattle.stripes_index.specs.Index.{part_of, list_of as entered}
use Rattle.stripes_index.specs.Inner.States.{sum_to}
use Rattle.stripes_index.proofs.Pairs.{pairs_length}
use Rattle.stripes_index.proofs.Starts.{sum_ext}
use Rattle.stripes_build.specs.declared.StripesStats.{StripesStats}
use Rattle.stripes_build.specs.Build.{crosses_in, stripes_built}
use Rattle.stripes_build.proofs.Enough.{builds as builds-stripes}
use Rattle.tree.specs.Tree.{work_numbers}
use Rattle.tree_build.specs.Build.{tree_bytes}
use Rattle.outline_check.specs.declared.Outline.{Outline}
use Rattle.outline_check.specs.Outline.{rings, size_at, ring_of}
use Rattle.outline_check.specs.Rules.{shape_checked, outline_checked}
use Rattle.outline_record.specs.Record.{boxes_of}
use Rattle.outline_record.specs.Made.{pad_z, boxes_made}
use Rattle.outline_record.proofs.Pad.{recorded_fits}
use Rattle.outline_index.specs.declared.BuildOptions.{BuildOptions}
use Rattle.outline_index.specs.Pools.{in_turn, every}
use Rattle.outline_index.specs.Parts.{has_stripes, has_tree, ring_stripes, stripes_part, list_part, bytes_part, span_part, few_stripes, enough_work}
use Rattle.outline_index.proofs.Pools.{turn_like, turn_more}
use Rattle.outline_build.specs.Indexes.{row_at, calls, indexes_built}
use Rattle.outline_build.proofs.Roomy.{Enough}
use Rattle.outline_build.proofs.Enough.{builds as builds-all}
use Rattle.demand_3.specs.Words.{stripes_crossed, stripes_called, entries_called, bytes_called}
use Rattle.demand_3.specs.Demand3.{RoomFor}
use Rattle.demand_3.proofs.Entries.{own_entries}

-- ---- one ring
module _ (ring : List ℤ) (points threshold : ℕ) (stripes list : List ℕ) where
  pub stripes_got : ring_checked ring points ≡ Ok tt → threshold ≤ segments points → stripe_count (wide ring) (segments points) ≤ 65536
      → stripe_count (wide ring) (segments points) * 2 ≤ length stripes → sum_to (stripes_crossed (wide ring) (segments points)) (segments points) ≤ length list
      → (least : Float) × (height : Float) × (stats : StripesStats) × (s : List ℕ) × (l : List ℕ)
      × (stripes_built ring points threshold stripes list ≡ (Ok (Some (record { least = least; height = height; stats = stats })), s, l))
  stripes_got sound reached few enough roomy = (
    _,
    _,
    _,
    _,
    _,
    builds-stripes ring points threshold stripes list sound reached few enough (omega (arith, own_entries (wide ring) (segments points) few)),
  )

pub record_got : (outline : Outline) (sizes : List ℕ) (coords boxes : List ℤ) → outline_checked outline.scale sizes coords ≡ Ok tt
    → 4 * rings sizes ≤ length boxes
    → (room : List ℤ) × (boxes_made outline.scale sizes coords boxes ≡ (Ok (rings sizes), room))
unfolding boxes_made
record_got outline sizes coords boxes sound roomy = (pad_z (length boxes) (boxes_of sizes coords), rw sound (recorded_fits sizes coords boxes roomy))

-- ---- all rings
turn_length : {A : Type 0} (f : ℕ → List A) (m : ℕ) → length (in_turn f m) ≡ sum_to (λ k. length (f k)) m
unfolding in_turn sum_to
turn_length f zero = refl
turn_length f (suc m) = omega (arith, turn_more f m, turn_length f m)

all_hold : (t : ℕ → Bool) (m : ℕ) → ((k : ℕ) → k < m → t k ≡ true) → every t m ≡ true
unfolding every
all_hold t zero h = refl
all_hold t (suc m) h = ap₂ ◌&&◌ (all_hold t m (λ k l. h k (omega arith))) (h m (omega arith))

-- a test that is asked only where it matters
unless : (b c : Bool) → (b ≡ true → c ≡ true) → (not b || c) ≡ true
unless true c h = h refl
unless false c h = refl

module _ (options : BuildOptions) (ring : ℕ → Float) (points : ℕ) where
  pairs_called : length (stripes_part options ring points) ≡ stripes_called options ring points
  unfolding stripes_part
  pairs_called = go (has_stripes options (segments points))
    where
      n : ℕ
      n = segments points

      go : (b : Bool) → length (cond b (ring_stripes ring n) []) ≡ cond b (stripe_count ring n * 2) 0
      go true = pairs_length (λ s. length (entered (crosses_in ring n) n s)) (λ s. length (part_of (crosses_in ring n) n s)) (stripe_count ring n)
      go false = refl

  numbers_called : (has_stripes options (segments points) ≡ true → stripe_count ring (segments points) ≤ 65536)
      → length (list_part options ring points) ≡ entries_called options ring points
  unfolding list_part
  numbers_called few = go (has_stripes options (segments points)) few
    where
      n : ℕ
      n = segments points

      go : (b : Bool) → (b ≡ true → stripe_count ring n ≤ 65536)
          → length (cond b (entered (crosses_in ring n) n (stripe_count ring n)) []) ≡ cond b (sum_to (stripes_crossed ring n) n) 0
      go true h = own_entries ring n (h refl)
      go false h = refl

  trees_called : length (bytes_part options ring points) ≡ bytes_called options ring points
  unfolding bytes_part
  trees_called = go (has_tree options (segments points))
    where
      go : (b : Bool) → length (cond b (tree_bytes ring points) []) ≡ cond b (length (tree_bytes ring points)) 0
      go true = refl
      go false = refl

  called : (work : List ℕ) → (has_stripes options (segments points) ≡ true → stripe_count ring (segments points) ≤ 65536)
      → (has_tree options (segments points) ≡ true → work_numbers ring points ≤ length work)
      → (few_stripes options ring points && enough_work options ring points work) ≡ true
  unfolding few_stripes enough_work
  called work few enough =
      ap₂ ◌&&◌ (unless (has_stripes options (segments points)) (leb (stripe_count ring (segments points)) 65536) (λ h. le-leb _ _ (few h)))
      (unless (has_tree options (segments points)) (leb (work_numbers ring points) (length work)) (λ h. le-leb _ _ (enough h)))

module _ (sizes : List ℕ) (coords : List ℤ) (options : BuildOptions) (table : List ℕ) (spans : List Float) (stripes list bytes work : List ℕ)
    (room : RoomFor sizes coords options table spans stripes list bytes work) where
  enough : Enough options sizes coords table spans stripes list bytes work
  enough =
      let ring : ℕ → ℕ → Float = λ k. wide (ring_of sizes coords k) in
      let size = size_at sizes in
      let m = rings sizes in
      record {
        rows = omega (arith, turn_like (row_at options sizes coords) 10 m (λ j. refl), room.rows);
        heights = omega (arith, turn_like (λ j. span_part options (ring j) (size j)) 2 m (λ j. refl), room.heights);
        pairs =
            omega (
              arith,
              turn_length (λ j. stripes_part options (ring j) (size j)) m,
              sum_ext (λ j. length (stripes_part options (ring j) (size j))) (λ j. stripes_called options (ring j) (size j)) m
                  (λ j l. pairs_called options (ring j) (size j)),
              room.pairs,
            );
        entries =
            omega (
              arith,
              turn_length (λ j. list_part options (ring j) (size j)) m,
              sum_ext (λ j. length (list_part options (ring j) (size j))) (λ j. entries_called options (ring j) (size j)) m
                  (λ j l. numbers_called options (ring j) (size j) (room.few j l)),
              room.numbers,
            );
        packed =
            omega (
              arith,
              turn_length (λ j. bytes_part options (ring j) (size j)) m,
              sum_ext (λ j. length (bytes_part options (ring j) (size j))) (λ j. bytes_called options (ring j) (size j)) m
                  (λ j l. trees_called options (ring j) (size j)),
              room.trees,
            );
        called = all_hold (calls options sizes coords work) m (λ j l. called options (ring j) (size j) work (room.few j l) (room.working j l));
      }

  pub indexes_got : shape_checked sizes coords ≡ Ok tt
      → (t : List ℕ) × (sp : List Float) × (s : List ℕ) × (l : List ℕ) × (b : List ℕ) × (w : List ℕ)
      × (indexes_built sizes coords options table spans stripes list bytes work ≡ (Ok (rings sizes), t, sp, s, l, b, w))
  indexes_got sound = (_, _, _, _, _, _, builds-all options sizes coords table spans stripes list bytes work sound enough)
