-- `tree_build::Sound::grow_and_pack` meets its contract. Assumes nothing.
use Prim.Native.Nat.{ℕ}
use mathlib.Core.Path.{◌≡◌, ap, ◌∙◌}
use Rattle.std.specs.Prelude.{Some, None}
use Rattle.std.proofs.lemmas.Result.{err_from_is_err_and}
use Rattle.answers.specs.declared.Refusal.TheVariants.{NoRoom}
use mathlib.Core.Bool.{true}
use native.Mathlib.Omega.{arith}
use Rattle.room.specs.Numbers.{up_to}
use Rattle.tree.specs.Tree.{all_segments, ring_box}
use Rattle.tree.specs.declared.QuadTree.{QuadTree}
use lib.ListN.{length}
use Rattle.rings.specs.Ring.{wide}
use Rattle.tree_build.proofs.Building.{readable_run, grown_full, grown_ready, grown_put}
use Rattle.tree_build.proofs.Sound.grow_and_pack.Goals as goal
use Rattle.tree_build.proofs.Sound.grow_and_pack.Goals.{After-of_ring-tree}

-- the segments' numbers and the box, as the tree is grown from them
known : (c : After-of_ring-tree) → (c.number_all.new.run ≡ all_segments c.args.self.points) × (c.of_ring-tree.result.bounds ≡ ring_box (wide c.args.self.ring.now) c.args.self.points)
known c = (c.number_all.ensures ∙ ap (λ (n : ℕ). up_to (λ i. true) n 0) c.requires.run_value, ap (λ (q : QuadTree). q.bounds) c.of_ring-tree.ensures)

pub grow_tree-requires : goal.grow_tree-requires
grow_tree-requires c =
    let w = known (goal.at.grow_tree-requires c).After-of_ring-tree in
    let l = c.number_all.auto.run in (
      omega (arith, l, c.requires.run_value, c.args.self.checked.0),
      omega (arith, l, c.requires.run_value, c.args.self.checked.1),
      readable_run (length c.args.self.ring.now) c.args.self.points _ w.0 c.args.self.checked.1 c.args.self.checked.2,
    )

pub pack-requires : goal.pack-requires
pack-requires c =
    let w = known (goal.at.pack-requires c).After-of_ring-tree in
    let h : c.grow_tree.result ≡ Some c.in_ok-ok_or.field-0 = grind arith in
    let r = grown_ready (wide c.args.self.ring.now) c.args.self.points _ w.1 _ w.0 _ _ _ _ c.grow_tree.ensures c.args.bytes.now _ h in
    record {
      node_stands = r.stands;
      rest_value = r.size;
      bytes_value = c.requires.bytes_value;
    }

pub returns-in_err-ok_or : goal.returns-in_err-ok_or
returns-in_err-ok_or c =
    let w = known (goal.at.returns-in_err-ok_or c).After-of_ring-tree in
    let h : c.grow_tree.result ≡ None = grind arith in
    let e : c.in_err-ok_or.field-0.0 ≡ NoRoom = grind arith in
    let p = err_from_is_err_and c.from_residual.result c.from_residual.ensures.1 in
    rw (p.1, p.2, e) (grown_full (wide c.args.self.ring.now) c.args.self.points _ w.1 _ w.0 _ _ _ _ c.grow_tree.ensures c.args.bytes.now h c.requires.bytes_value)

pub returns : goal.returns
returns c =
    let w = known (goal.at.returns c).After-of_ring-tree in
    let k : c.grow_tree.result ≡ Some c.in_ok-ok_or.field-0 = grind arith in
    grown_put (wide c.args.self.ring.now) c.args.self.points _ w.1 _ w.0 _ _ _ _ c.grow_tree.ensures c.args.bytes.now _ k
    ∙ c.pack.ensures
