use Rattle.std.specs.Prelude.{Ok, Err}
use native.Mathlib.Omega.{arith}
use Prim.Native.Nat.{ℕ, ◌*◌, ◌-◌, ◌/◌}
use mathlib.Core.Path.{sym, ap₂, ◌∙◌}
use mathlib.Core.List.{List}
use lib.ListN.{length}
use lib.IntN.{ℤ, pos}
use Rattle.answers.specs.declared.Refusal.TheVariants.{NoRoom}
use Rattle.wkb_shape.specs.declared.WkbRefusal.TheVariants.{Plain}
use Rattle.wkb_shape.specs.Inner.Laid.{rings_of}
use Rattle.wkb_read.specs.Stored.{sizes_of, coords_of}
use Rattle.wkb_read.proofs.Put.{sizes_count}
use Rattle.wkb_read.proofs.Rules.{stored_short, stored_fits, rooms_fit, numbers_are, written_padded}
use Rattle.wkb_read.proofs.Polygon.store.Goals as goal

pub overflow_sub-numbers : goal.overflow_sub-numbers
overflow_sub-numbers c =
    let s = c.args.self in omega (arith, (numbers_are s.bytes.now s.order s.scale s.rings s.ends).1)

pub overflow_mul-numbers : goal.overflow_mul-numbers
overflow_mul-numbers c =
    let s = c.args.self in omega (arith, (numbers_are s.bytes.now s.order s.scale s.rings s.ends).1)

pub overflow_sub-numbers-2 : goal.overflow_sub-numbers-2
overflow_sub-numbers-2 c =
    let s = c.args.self in omega (arith, (numbers_are s.bytes.now s.order s.scale s.rings s.ends).1)

pub returns-then-sizes-n : goal.returns-then-sizes-n
returns-then-sizes-n c =
    let a = c.args in
    let s = a.self in
    let many = numbers_are s.bytes.now s.order s.scale s.rings s.ends in
    stored_short a.sizes.now a.coords.now s.scale (rings_of s.bytes.now s.order s.rings 9) s.rings ((length s.bytes.now - 9 - 4 * s.rings) / 8)
    (sizes_count s.bytes.now s.order s.rings) many.0 c.if-sizes-n.true
    ∙ ap₂ (λ (x : List ℕ) (y : List ℤ). (Err (Plain NoRoom), x, y))
    (sym (c.fill.ensures.after (λ _ e. e))) (sym (c.fill-then-sizes-n.ensures.after (λ _ e. e)))

pub put_sizes-requires : goal.put_sizes-requires
put_sizes-requires c =
    let a = c.args in
    let s = a.self in
    (rooms_fit (length a.sizes.now) s.rings (length a.coords.now) ((length s.bytes.now - 9 - 4 * s.rings) / 8) c.if-sizes-n.false).0

pub put_coords-requires : goal.put_coords-requires
put_coords-requires c =
    let a = c.args in
    let s = a.self in
    let many = numbers_are s.bytes.now s.order s.scale s.rings s.ends in
    let fit = rooms_fit (length a.sizes.now) s.rings (length a.coords.now) ((length s.bytes.now - 9 - 4 * s.rings) / 8) c.if-sizes-n.false in
    (c.requires, omega (arith, many.0, fit.1))

pub returns : goal.returns
returns c =
    let a = c.args in
    let s = a.self in
    let many = numbers_are s.bytes.now s.order s.scale s.rings s.ends in
    let m = (length s.bytes.now - 9 - 4 * s.rings) / 8 in
    let test = c.if-sizes-n.false in
    let fit = rooms_fit (length a.sizes.now) s.rings (length a.coords.now) m test in
    let count = sizes_count s.bytes.now s.order s.rings in
    stored_fits a.sizes.now a.coords.now s.scale (rings_of s.bytes.now s.order s.rings 9) s.rings m count many.0 test
    ∙ ap₂ (λ (x : List ℕ) (y : List ℤ). (Ok (s.rings, m), x, y))
    (sym (c.fill_from.ensures ∙ written_padded 0 a.sizes.now _ (sizes_of (rings_of s.bytes.now s.order s.rings 9)) s.rings c.put_sizes.ensures count fit.0))
    (sym (c.fill_from-2.ensures ∙ written_padded (pos 0) a.coords.now _ (coords_of s.scale (rings_of s.bytes.now s.order s.rings 9)) m c.put_coords.ensures many.0 fit.1))
