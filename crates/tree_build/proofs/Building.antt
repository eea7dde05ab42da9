-- The ways through building, each as a law. Assumes nothing.
use Rattle.std.specs.Prelude.{Ok, Err, Some, None}
use Prim.Native.Nat.{ℕ, zero, suc, ◌+◌, ◌-◌, ◌*◌, ◌≤◌, ◌<◌}
use mathlib.Core.Path.{◌≡◌, refl, sym, ap, ap₂, ◌∙◌}
use mathlib.Core.List.{List, [], append-nil}
use mathlib.Core.Bool.{Bool, true, false, cond}
use mathlib.Core.Logic.{⊎_elim}
use native.Mathlib.Omega.{arith}
use lib.ListN.{length, replicate, get_or, take, drop, set, drop_of_length-le, length-set, length-take, length-drop}
use lib.Dec.{leb}
use borrow.Author.Tests.{le-leb, lt-leb, lt-ltb, le-ltb}
use lib.Ieee.{Float}
use Rattle.answers.specs.declared.Refusal.{Refusal}
use Rattle.answers.specs.declared.Refusal.TheVariants.{NoRoom}
use Rattle.room.specs.Room.{write, pad}
use Rattle.room.specs.Numbers.{keep, up_to}
use Rattle.room.proofs.Cases.{lt_or}
use Rattle.room.proofs.Write.{write_eq}
use Rattle.room.proofs.Fill.{write_pad}
use Rattle.room.proofs.UpTo.{up_to_yes, up_to_done}
use Rattle.boxes.specs.declared.Rect.{Rect}
use Rattle.rings.specs.Checks.{Checked}
use Rattle.rings.specs.Ring.{segments}
use Rattle.tree.specs.Tree.{Tree, max_depth, grown, ring_box, all_segments, tree_of, packed, nodes, work_numbers}
use Rattle.tree.specs.All.{All}
use Rattle.tree.proofs.Lists.{all_map, all_keep}
use Rattle.tree_part.specs.Part.{Readable}
use Rattle.tree_grow.specs.Inner.Growing.{Grown, Rooted, TreeGrew}
use Rattle.tree_pack.specs.Inner.Packing.{node_of, NodeStands}
use Rattle.tree_build.specs.Build.{Outcome, zeroed, tree_bytes, packed_in, from_threshold, tree_built_by}
use Rattle.tree_build.specs.Inner.Steps.{short, put, put_grown}
use Rattle.tree_build.proofs.Standing.{Stood, standing}

-- ---- the segments by number
abbrev pub all_up_to : ℕ → ℕ → List ℕ
all_up_to n i = up_to (λ k. true) n i

keep_length : (n i : ℕ) → length (keep (λ k. true) n i) ≡ n
unfolding keep
keep_length zero i = refl
keep_length (suc n) i = ap suc (keep_length n (i + 1))

all_length : (n : ℕ) → length (all_up_to n 0) ≡ n
unfolding up_to
all_length n = keep_length (n - 0) 0 ∙ (let e : n - 0 ≡ n = omega arith in e)

-- how far the numbering came
pub record Numbering (run₀ run : List ℕ) (i : ℕ) : Type 0 where
  pub same : write run₀ 0 (all_up_to (length run₀) 0) ≡ write run i (all_up_to (length run₀) i)
  pub long : length run ≡ length run₀

pub numbering : (run : List ℕ) → Numbering run run 0
numbering run = record { same = refl; long = refl }

pub numbering_more : (run₀ run : List ℕ) (i : ℕ) → i < length run → Numbering run₀ run i → Numbering run₀ (set run i i) (i + 1)
unfolding write
numbering_more run₀ run i h s =
    let l = s.long in
    record { same = s.same ∙ ap (write run i) (up_to_yes (λ k. true) (length run₀) i (omega arith) refl); long = length-set run i i ∙ l }

pub numbering_done : (run₀ run : List ℕ) (i : ℕ) → length run ≤ i → Numbering run₀ run i → run ≡ all_up_to (length run₀) 0
unfolding write
numbering_done run₀ run i h s =
    let l = s.long in
    let e = all_length (length run₀) in
    let f : length run₀ ≤ 0 + length (all_up_to (length run₀) 0) = omega arith in
    let d : drop (0 + length (all_up_to (length run₀) 0)) run₀ ≡ [] = drop_of_length-le run₀ f in
    sym (sym (write_eq run₀ 0 (all_up_to (length run₀) 0) (omega arith) ∙ rw d (append-nil (all_up_to (length run₀) 0))) ∙ s.same ∙ ap (write run i) (up_to_done (λ k. true) (length run₀) i (omega arith)))

pub all_readable : (long points : ℕ) → points ≤ 4097 → points * 2 ≡ long → All (Readable long) (all_segments points)
unfolding up_to
all_readable long points few sizes =
    all_map (λ x. x < 0 + (points - 1 - 0)) (Readable long) (all_segments points) (λ x h. (omega arith, omega arith)) (all_keep (λ i. true) (points - 1 - 0) 0)

-- ---- the bytes where there is room for them
module _ (bs b : List ℕ) (size : ℕ) (same : size ≡ length bs) (zeros : b ≡ replicate (length b) 0) where
  pub put_short : length b < size → put bs (length b) ≡ (Err NoRoom, b)
  unfolding put
  put_short h = rw (lt-leb (length bs) (length b) (omega arith)) (ap (λ (x : List ℕ). (Err NoRoom, x)) (sym zeros))

  pub put_fits : size ≤ length b → (b' : List ℕ) → b' ≡ write b 0 bs → put bs (length b) ≡ (Ok (Some size), b')
  unfolding put
  put_fits h b' w =
      let e : b' ≡ pad (length b) bs = w ∙ ap (λ (x : List ℕ). write x 0 bs) zeros ∙ write_pad (length b) bs (omega arith) in
      rw (le-leb (length bs) (length b) (omega arith)) (ap₂ (λ (k : ℕ) (x : List ℕ). (Ok (Some k), x)) (sym same) (sym e))

-- ---- growing
-- what the packer asks of what was grown
pub record Ready (t : Tree) (run rest : List ℕ) : Type 0 where
  pub stands : NodeStands 64 run rest
  pub size : get_or rest 5 0 ≡ length (node_of 64 run rest).0
  pub bytes : (node_of 64 run rest).0 ≡ packed t

pub ready : (t : Tree) → Stood 64 t → (rest : List ℕ) (n : ℕ) (run' rest' : List ℕ) → Rooted t rest n run' rest' → Ready t run' rest'
ready t s rest n run' rest' r =
    let more = drop (6 * nodes t) rest in
    rw (r.ordered, r.recorded) (record { stands = s.stands more; size = rw (s.same more) (s.size more); bytes = rw (s.same more) refl })

module _ (ring : ℕ → Float) (points : ℕ) (box : Rect) (eb : box ≡ ring_box ring points) (run : List ℕ) (er : run ≡ all_segments points) where
  pub tree_is : grown ring max_depth box run ≡ tree_of ring points
  unfolding tree_of
  tree_is = rw (eb, er) refl

  module _ (rest : List ℕ) (r : Grown) (run' rest' : List ℕ) (g : TreeGrew (grown ring max_depth box run) rest r run' rest') (b : List ℕ) where
    pub grown_full : r ≡ None → b ≡ replicate (length b) 0 → put_grown (tree_of ring points) (length rest) (length b) ≡ (Err NoRoom, b)
    unfolding put_grown
    grown_full e zeros =
        let h : length rest < 6 * nodes (tree_of ring points) = rw (e, tree_is) at g in
        rw (lt-leb (6 * nodes (tree_of ring points)) (length rest) h) (ap (λ (x : List ℕ). (Err NoRoom, x)) (sym zeros))

    pub grown_ready : (n : ℕ) → r ≡ Some n → Ready (tree_of ring points) run' rest'
    grown_ready n e = rw tree_is at (ready (grown ring max_depth box run) (standing ring max_depth box run) rest n run' rest' (rw e at g))

    pub grown_put : (n : ℕ) → r ≡ Some n → put_grown (tree_of ring points) (length rest) (length b) ≡ put (node_of 64 run' rest').0 (length b)
    unfolding put_grown
    grown_put n e =
        let q : Rooted (tree_of ring points) rest n run' rest' = rw (e, tree_is) at g in
        rw (le-leb (6 * nodes (tree_of ring points)) (length rest) q.fits, (grown_ready n e).bytes) refl

-- ---- from the work room
module _ (ring : ℕ → Float) (points : ℕ) (bytes work : List ℕ) where
  pub packed_short : length work < points - 1 → packed_in ring points bytes work ≡ zeroed (Err NoRoom) bytes work
  unfolding packed_in
  packed_short h = rw (lt-leb (work_numbers ring points) (length work) (omega arith))

  -- the nodes have what the segments leave
  pub packed_rest : points - 1 ≤ length work → (k : ℕ) → k ≡ length work - (points - 1)
      → packed_in ring points bytes work ≡ ((put_grown (tree_of ring points) k (length bytes)).0, (put_grown (tree_of ring points) k (length bytes)).1, replicate (length work) 0)
  unfolding packed_in put_grown put
  packed_rest h k e =
      ⊎_elim
      (λ (no : k < 6 * nodes (tree_of ring points)).
      rw (lt-leb (work_numbers ring points) (length work) (omega arith), lt-leb (6 * nodes (tree_of ring points)) k no) refl)
      (λ (yes : 6 * nodes (tree_of ring points) ≤ k).
      rw (le-leb (work_numbers ring points) (length work) (omega arith), le-leb (6 * nodes (tree_of ring points)) k yes) (go (leb (length (tree_bytes ring points)) (length bytes))))
      (lt_or k (6 * nodes (tree_of ring points)))
    where
      go : (z : Bool) → ◌≡◌ {A = Outcome}
          (cond z (Ok (Some (length (tree_bytes ring points))), pad (length bytes) (tree_bytes ring points), replicate (length work) 0) (zeroed (Err NoRoom) bytes work)) (
            (cond z (Ok (Some (length (tree_bytes ring points))), pad (length bytes) (tree_bytes ring points)) (short (length bytes))).0,
            (cond z (Ok (Some (length (tree_bytes ring points))), pad (length bytes) (tree_bytes ring points)) (short (length bytes))).1,
            replicate (length work) 0,
          )
      go true = refl
      go false = refl

-- only the room's sizes count
pub packed_room : (ring : ℕ → Float) (points : ℕ) (b b' w w' : List ℕ) → length b ≡ length b' → length w ≡ length w' → packed_in ring points b w ≡ packed_in ring points b' w'
unfolding packed_in
packed_room ring points b b' w w' e f = rw (e, f)

module _ (ring : ℕ → Float) (points threshold : ℕ) (bytes work : List ℕ) where
  pub from_under : points - 1 < threshold → from_threshold ring points threshold bytes work ≡ zeroed (Ok None) bytes work
  unfolding from_threshold
  from_under h = rw (lt-ltb (segments points) threshold h)

  pub from_reached : threshold ≤ points - 1 → from_threshold ring points threshold bytes work ≡ packed_in ring points bytes work
  unfolding from_threshold
  from_reached h = rw (le-ltb (segments points) threshold h)

  module _ (checked : Checked) where
    pub built_faulty : (why : Refusal) → checked ≡ Err why → tree_built_by checked ring points threshold bytes work ≡ (Err why, bytes, work)
    unfolding tree_built_by
    built_faulty why e = rw e

    pub built_sound : checked ≡ Ok tt → tree_built_by checked ring points threshold bytes work ≡ from_threshold ring points threshold bytes work
    unfolding tree_built_by
    built_sound e = rw e

-- ---- lent parts
pub rest_length : (n : ℕ) (l : List ℕ) → length (take (length l - n) (drop n l)) ≡ length l - n
rest_length n l = simp (length-take, length-drop) (omega arith)

pub readable_run : (long points : ℕ) (run : List ℕ) → run ≡ all_segments points → points ≤ 4097 → points * 2 ≡ long → All (Readable long) run
readable_run long points run e few sizes = rw e (all_readable long points few sizes)

-- the front of a room of zeros
pub zeros_part : (k n : ℕ) → n ≤ k → length {A = ℕ} (take n (replicate k 0)) ≡ n
zeros_part k zero h = refl
zeros_part zero (suc n) h = absurd (omega arith)
zeros_part (suc k) (suc n) h = ap suc (zeros_part k n (omega arith))
