-- On a table that was built, the statistics read are the ring's true ones. Assumes nothing.
use Prim.Native.Nat.{ℕ, zero, suc, ◌+◌, ◌*◌, ◌/◌, ◌%◌, ◌≤◌, ◌<◌}
use mathlib.Core.Path.{◌≡◌, refl, sym, ap, ◌∙◌}
use mathlib.Core.List.{List, ◌++◌}
use mathlib.Core.Bool.{Bool, true, false}
use mathlib.Core.Logic.{⊎_elim}
use native.Mathlib.Omega.{arith}
use lib.ListN.{length, get_or, get_or-append}
use lib.Seq.{get_or-append-add}
use lib.IntN.{ℤ}
use lib.Dec.{eqb}
use lib.Ieee.{Float}
use Rattle.room.specs.Room.{padded, pad}
use Rattle.room.proofs.Cases.{lt_or}
use Rattle.rings.specs.Ring.{wide, segments}
use Rattle.outline_check.specs.Outline.{rings, size_at, ring_of}
use Rattle.outline_index.specs.declared.BuildOptions.{BuildOptions}
use Rattle.outline_index.specs.Pools.{in_turn}
use Rattle.outline_index.specs.Parts.{has_stripes, has_tree, says_under, list_part, stripes_in, entries_in, fullest_in, row_of}
use Rattle.outline_index.proofs.Pools.{turn_like}
use Rattle.outline_build.specs.declared.RingBuildStats.{RingBuildStats}
use Rattle.outline_build.specs.Indexes.{stripes_to, list_to, bytes_to, row_at, rows_to}
use Rattle.outline_build.specs.Statistics.{told_by, stats_at, ring_stats}
use Rattle.outline_table.specs.Row.{number}

-- number i of row k of m rows
row_get : (f : ℕ → List ℕ) → ((j : ℕ) → length (f j) ≡ 10) → (k i m : ℕ) → k < m → i < 10 → get_or (in_turn f m) (10 * k + i) 0 ≡ get_or (f k) i 0
unfolding in_turn
row_get f like k i zero h l = absurd (omega arith)
row_get f like k i (suc m) h l =
    ⊎_elim
    (λ (lt : k < m). get_or-append (in_turn f m) (f m) 0 (10 * k + i) (omega (arith, turn_like f 10 m like)) ∙ row_get f like k i m lt l)
    (λ (ge : m ≤ k). let e : k ≡ m = omega arith in
    let d : 10 * k + i ≡ length (in_turn f m) + i = omega (arith, turn_like f 10 m like) in
    ap (λ (x : ℕ). get_or (in_turn f m ++ f m) x 0) d ∙ get_or-append-add (in_turn f m) (f m) i 0 ∙ ap (λ (j : ℕ). get_or (f j) i 0) (sym e))
    (lt_or k m)

-- what a row tells
unfoldable row_stats : List ℕ → RingBuildStats
row_stats row =
    record {
      segment_count = get_or row 0 0;
      below_threshold = eqb (get_or row 1 0) 1;
      used_compressed_quad = eqb (get_or row 2 0 / 2 % 2) 1;
      used_y_stripes = eqb (get_or row 2 0 % 2) 1;
      y_stripes = told_by (eqb (get_or row 2 0 % 2) 1) (record { segments = get_or row 0 0; stripes = get_or row 4 0; entries = get_or row 6 0; fullest = get_or row 7 0 });
    }

row_tells : (options : BuildOptions) (ring : ℕ → Float) (points s l b : ℕ) → row_stats (row_of options ring points s l b) ≡ ring_stats options ring points
unfolding row_stats ring_stats stripes_in entries_in fullest_in list_part
row_tells options ring points s l b = go (has_stripes options (segments points)) (has_tree options (segments points)) (says_under options (segments points)) refl refl refl
  where
    go : (x y z : Bool) → has_stripes options (segments points) ≡ x → has_tree options (segments points) ≡ y → says_under options (segments points) ≡ z
        → row_stats (row_of options ring points s l b) ≡ ring_stats options ring points
    go true true true p q r = rw (p, q, r)
    go true true false p q r = rw (p, q, r)
    go true false true p q r = rw (p, q, r)
    go true false false p q r = rw (p, q, r)
    go false true true p q r = rw (p, q, r)
    go false true false p q r = rw (p, q, r)
    go false false true p q r = rw (p, q, r)
    go false false false p q r = rw (p, q, r)

module _ (options : BuildOptions) (sizes : List ℕ) (coords : List ℤ) (room k : ℕ) (h : k < rings sizes) where
  abbrev table : List ℕ
  table = pad room (rows_to options sizes coords (rings sizes))

  number_is : (i : ℕ) → i < 10 → number table k i ≡ get_or (row_at options sizes coords k) i 0
  unfolding padded
  number_is i l =
      get_or-append (rows_to options sizes coords (rings sizes)) _ 0 (10 * k + i) (omega (arith, turn_like (row_at options sizes coords) 10 (rings sizes) (λ j. refl)))
      ∙ row_get (row_at options sizes coords) (λ j. refl) k i (rings sizes) h l

  -- ring k's statistics, as `index_stats` tells them
  pub told : stats_at table k ≡ ring_stats options (wide (ring_of sizes coords k)) (size_at sizes k)
  unfolding stats_at row_stats
  told =
      rw (
        number_is 0 (omega arith),
        number_is 1 (omega arith),
        number_is 2 (omega arith),
        number_is 4 (omega arith),
        number_is 6 (omega arith),
        number_is 7 (omega arith),
      )
      (row_tells options (wide (ring_of sizes coords k)) (size_at sizes k) (length (stripes_to options sizes coords k)) (length (list_to options sizes coords k))
      (length (bytes_to options sizes coords k)))
