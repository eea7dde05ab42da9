-- `outline_build::Shaped::index_rings` meets its contract: between two rings the rooms stand as `Standing` says. Assumes nothing.
use Rattle.std.specs.Prelude.{Ok}
use mathlib.Core.Path.{◌≡◌, refl, sym, ap, ◌∙◌}
use mathlib.Core.List.{List}
use mathlib.Core.Bool.{true}
use Prim.Native.Nat.{ℕ, ◌+◌, ◌*◌, ◌≤◌, ◌<◌}
use native.Mathlib.Omega.{arith}
use lib.ListN.{length, replicate}
use lib.IntN.{ℤ}
use Rattle.rings.specs.Checks.{ring_checked}
use Rattle.outline_check.specs.Outline.{rings, size_at, start_of}
use Rattle.outline_check.specs.Rules.{shape_checked}
use Rattle.outline_check.proofs.Sound.{sound_shape, ring_sound}
use Rattle.outline_check.proofs.Starts.{part_within, part_is}
use Rattle.outline_build.proofs.Rings.{standing_first, standing_next, standing_short, standing_last, all_short, stripes_zero, list_zero, bytes_zero, fitting}
use Rattle.outline_build.proofs.Shaped.index_rings.Goals as goal
use Rattle.outline_build.proofs.Shaped.index_rings.Goals.{In-Some, Start}

-- a ring that is met stands within the coordinates
within : (sizes : List ℕ) (coords : List ℤ) (k from : ℕ) → shape_checked sizes coords ≡ Ok tt → k < rings sizes → from ≡ 2 * start_of sizes k
    → (from + 2 * size_at sizes k ≤ length coords) × (2 ≤ size_at sizes k) × (size_at sizes k ≤ 4097)
within sizes coords k from sound h e =
    let s = (sound_shape sizes coords true sound).1 in
    (omega (arith, part_within s.counted k h), s.counted.enough k h, s.counted.small k h)

-- a length is a number of the machine
small : (c : Start)
    → (length c.args.stripes.now < 18446744073709551616) × (length c.args.list.now < 18446744073709551616)
    × (length c.args.bytes.now < 18446744073709551616) × (length c.args.self.sizes.now < 18446744073709551616)
small c = (omega arith, omega arith, omega arith, omega arith)

-- what a ring that found room has got fits
room : (c : In-Some)
    → let l = c.loop-k in
    let a = c.args in
    let g = c.in-Some.gain in
    (l.at.stripes + 2 * g.stripes ≤ length a.stripes.now) × (l.at.list + g.entries ≤ length a.list.now)
    × (l.at.bytes + g.bytes ≤ length a.bytes.now)
room c =
    let l = c.loop-k in
    let a = c.args in
    let p = part_is a.self.sizes.now a.self.coords.now l.k l.from (l.from + 2 * size_at a.self.sizes.now l.k) l.invariant.1.start refl in
    let f =
    fitting a.self.options a.self.sizes.now a.self.coords.now a.table.now a.spans.now a.stripes.now a.list.now a.bytes.now a.work.now
    l.k l.at l.from l.table l.spans l.stripes l.list l.bytes l.work l.invariant.1 c.requires.zero.numbers c.loop-k-test.true c.index_ring.result c.in-Some.gain _ _ _ _
    (rw p at c.index_ring.ensures) c.in-Some.is in
    (f.stripes_room, f.list_room, f.bytes_room)

pub loop-k-init : goal.loop-k-init
loop-k-init c =
    let a = c.args in (
      omega arith,
      standing_first a.self.options a.self.sizes.now a.self.coords.now a.table.now a.spans.now a.stripes.now a.list.now a.bytes.now a.work.now
          c.requires.zero,
      refl,
      refl,
      refl,
      refl,
      refl,
      refl,
    )

pub overflow_add-end : goal.overflow_add-end
overflow_add-end c =
    let l = c.loop-k in
    omega (arith, within c.args.self.sizes.now c.args.self.coords.now l.k l.from c.args.self.shaped c.loop-k-test.true l.invariant.1.start)

pub offset_bounds-self-from : goal.offset_bounds-self-from
offset_bounds-self-from c =
    let l = c.loop-k in
    omega (arith, within c.args.self.sizes.now c.args.self.coords.now l.k l.from c.args.self.shaped c.loop-k-test.true l.invariant.1.start)

pub slice_bounds-index_ring-end : goal.slice_bounds-index_ring-end
slice_bounds-index_ring-end c =
    let l = c.loop-k in
    omega (arith, within c.args.self.sizes.now c.args.self.coords.now l.k l.from c.args.self.shaped c.loop-k-test.true l.invariant.1.start)

pub index_ring-requires : goal.index_ring-requires
index_ring-requires c =
    let l = c.loop-k in
    let a = c.args in
    let sizes = a.self.sizes.now in
    let coords = a.self.coords.now in
    let st = l.invariant.1 in
    let z = c.requires.zero in
    record {
      points_value = ap (λ (ring : List ℤ). ring_checked ring (size_at sizes l.k)) (part_is sizes coords l.k l.from (l.from + 2 * size_at sizes l.k) st.start refl)
          ∙ ring_sound sizes coords l.k (sound_shape sizes coords true c.args.self.shaped).1 c.loop-k-test.true;
      zero_from = stripes_zero a.self.options sizes coords a.table.now a.spans.now a.stripes.now a.list.now a.bytes.now a.work.now l.k l.at l.from _ _ _ _ _ _ st z.numbers;
      zero_from_2 = list_zero a.self.options sizes coords a.table.now a.spans.now a.stripes.now a.list.now a.bytes.now a.work.now l.k l.at l.from _ _ _ _ _ _ st z.numbers;
      zero_from_3 = bytes_zero a.self.options sizes coords a.table.now a.spans.now a.stripes.now a.list.now a.bytes.now a.work.now l.k l.at l.from _ _ _ _ _ _ st z.numbers;
      work_value = st.numbers ∙ ap (λ (n : ℕ). replicate n 0) (sym l.invariant.7);
    }

pub returns-in_default : goal.returns-in_default
returns-in_default c =
    let l = c.loop-k in
    let a = c.args in
    let p = part_is a.self.sizes.now a.self.coords.now l.k l.from (l.from + 2 * size_at a.self.sizes.now l.k) l.invariant.1.start refl in
    all_short a.self.options a.self.sizes.now a.self.coords.now a.table.now a.spans.now a.stripes.now a.list.now a.bytes.now a.work.now _ _ _ _ _ _
    (standing_short a.self.options a.self.sizes.now a.self.coords.now a.table.now a.spans.now a.stripes.now a.list.now a.bytes.now a.work.now
    l.k l.at l.from l.table l.spans l.stripes l.list l.bytes l.work l.invariant.1 c.requires.zero.numbers c.loop-k-test.true c.index_ring.result _ _ _ _
    (rw p at c.index_ring.ensures) c.in_default.is)

pub overflow_sub-points : goal.overflow_sub-points
overflow_sub-points c =
    let l = c.loop-k in
    omega (arith, within c.args.self.sizes.now c.args.self.coords.now l.k l.from c.args.self.shaped c.loop-k-test.true l.invariant.1.start)

pub overflow_mul-at : goal.overflow_mul-at
overflow_mul-at c = omega (arith, (room (goal.at.overflow_mul-at c).In-Some).0, (small (goal.at.overflow_mul-at c).Start).0)

pub overflow_add-at : goal.overflow_add-at
overflow_add-at c = omega (arith, (room (goal.at.overflow_add-at c).In-Some).0, (small (goal.at.overflow_add-at c).Start).0)

pub overflow_add-at-in-loop-k : goal.overflow_add-at-in-loop-k
overflow_add-at-in-loop-k c = omega (arith, (room (goal.at.overflow_add-at-in-loop-k c).In-Some).1, (small (goal.at.overflow_add-at-in-loop-k c).Start).1)

pub overflow_add-at-in-loop-k-2 : goal.overflow_add-at-in-loop-k-2
overflow_add-at-in-loop-k-2 c = omega (arith, (room (goal.at.overflow_add-at-in-loop-k-2 c).In-Some).2, (small (goal.at.overflow_add-at-in-loop-k-2 c).Start).2)

pub loop-k-preserved : goal.loop-k-preserved
loop-k-preserved c =
    let l = c.loop-k in
    let a = c.args in
    let p = part_is a.self.sizes.now a.self.coords.now l.k l.from (l.from + 2 * size_at a.self.sizes.now l.k) l.invariant.1.start refl in (
      omega (arith, c.loop-k-test.true),
      standing_next a.self.options a.self.sizes.now a.self.coords.now a.table.now a.spans.now a.stripes.now a.list.now a.bytes.now a.work.now
          l.k l.at l.from l.table l.spans l.stripes l.list l.bytes l.work l.invariant.1 c.requires.zero.numbers c.loop-k-test.true c.index_ring.result c.in-Some.gain _ _ _ _
          (rw p at c.index_ring.ensures) c.in-Some.is _ _ c.put_ring.ensures.table_after c.put_ring.ensures.spans_after c.requires.sizes_in_bounds.0 c.requires.sizes_in_bounds.1,
      c.put_ring.auto.table ∙ l.invariant.2,
      c.put_ring.auto.spans ∙ l.invariant.3,
      c.index_ring.auto.stripes ∙ l.invariant.4,
      c.index_ring.auto.list ∙ l.invariant.5,
      c.index_ring.auto.bytes ∙ l.invariant.6,
      c.index_ring.auto.work ∙ l.invariant.7,
    )

pub returns : goal.returns
returns c =
    let l = c.loop-k in
    let a = c.args in
    standing_last a.self.options a.self.sizes.now a.self.coords.now a.table.now a.spans.now a.stripes.now a.list.now a.bytes.now a.work.now
    l.k l.at l.from _ _ _ _ _ _ l.invariant.1 c.requires.zero.numbers (omega arith) c.requires.sizes_in_bounds.0 c.requires.sizes_in_bounds.1
