-- `tree_build::pack` meets its contract. Assumes nothing.
use mathlib.Core.Path.{◌∙◌}
use native.Mathlib.Omega.{arith}
use Rattle.tree_pack.proofs.Packing.{node_long}
use Rattle.tree_build.proofs.Building.{put_short, put_fits}
use Rattle.tree_build.proofs.pack.Goals as goal

pub bounds-rest-5 : goal.bounds-rest-5
bounds-rest-5 c =
    omega (arith, node_long 64 c.args.run.now c.args.rest.now c.requires.node_stands)

pub returns-then-bytes-size : goal.returns-then-bytes-size
returns-then-bytes-size c =
    put_short _ _ _ (c.wide-size.ensures ∙ c.requires.rest_value) c.requires.bytes_value c.if-bytes-size.true

pub returns : goal.returns
returns c =
    put_fits _ _ _ (c.wide-size.ensures ∙ c.requires.rest_value) c.requires.bytes_value c.if-bytes-size.false _ c.pack_tree.ensures
