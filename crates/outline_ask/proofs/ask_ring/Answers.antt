-- `outline_ask::ask_ring` meets its contract. Assumes nothing.
use mathlib.Core.Path.{refl, ap, ◌∙◌}
use mathlib.Core.List.{List}
use Prim.Native.Nat.{◌+◌, ◌-◌, ◌*◌}
use native.Mathlib.Omega.{arith}
use lib.IntN.{ℤ}
use Rattle.outline_check.specs.Outline.{size_at}
use Rattle.outline_check.proofs.Starts.{part_within, part_is, ring_length}
use Rattle.outline_ask.proofs.ask_ring.Goals as goal

pub overflow_cast-points : goal.overflow_cast-points
overflow_cast-points g c = omega (arith, c.args.sound.counted.small c.args.k c.requires.0)

pub overflow_mul-end : goal.overflow_mul-end
overflow_mul-end g c = omega (arith, c.args.sound.counted.small c.args.k c.requires.0)

pub overflow_add-end : goal.overflow_add-end
overflow_add-end g c = omega (arith, part_within c.args.sound.counted c.args.k c.requires.0, c.requires.1)

pub offset_bounds-sound-at : goal.offset_bounds-sound-at
offset_bounds-sound-at g c = omega (arith, part_within c.args.sound.counted c.args.k c.requires.0, c.requires.1)

pub slice_bounds-ask-end : goal.slice_bounds-ask-end
slice_bounds-ask-end g c = omega (arith, part_within c.args.sound.counted c.args.k c.requires.0, c.requires.1)

pub overflow_sub-points : goal.overflow_sub-points
overflow_sub-points g c = omega (arith, c.args.sound.counted.enough c.args.k c.requires.0)

pub ask-requires : goal.ask-requires
ask-requires g c =
    let a = c.args in
    let e = part_is a.sound.sizes.now a.sound.coords.now a.k a.at (a.at + 2 * size_at a.sound.sizes.now a.k) c.requires.1 refl in
    let l = ring_length c.args.sound.counted a.k c.requires.0 in
    let n = c.args.sound.counted.enough a.k c.requires.0 in
    let s = c.args.sound.counted.small a.k c.requires.0 in
    (rw (e, l) (omega arith), omega arith, omega (arith, c.args.sound.counted.few, c.requires.0))

pub returns : goal.returns
returns g c =
    let a = c.args in
    c.ask.ensures
    ∙ ap (λ (ring : List ℤ). g.T.RingTest.asked a.test.now ring (size_at a.sound.sizes.now a.k - 1) a.k a.edge)
    (part_is a.sound.sizes.now a.sound.coords.now a.k a.at (a.at + 2 * size_at a.sound.sizes.now a.k) c.requires.1 refl)
