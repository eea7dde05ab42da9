-- `stripes_build::Sound::build_checked` meets its contract. Assumes nothing.
use Rattle.std.specs.Prelude.{Err}
use mathlib.Core.Path.{◌≡◌, sym, ap, ap₂, ◌∙◌}
use mathlib.Core.List.{List}
use Prim.Native.Nat.{ℕ}
use lib.Ieee.{Float, binary64, sub}
use native.Mathlib.Omega.{arith}
use Rattle.answers.specs.declared.Refusal.TheVariants.{NoRoom}
use Rattle.stripes_count.proofs.Least.{some_stripes}
use Rattle.rings.specs.Ring.{wide}
use Rattle.stripes_index.specs.Index.{least_y, height_y}
use Rattle.stripes_build.specs.Inner.Fill.{filled_of}
use Rattle.stripes_build.proofs.Building.{indexed_few, indexed_many, indexed_short}
use Rattle.stripes_build.proofs.Sound.build_checked.Goals as goal

pub returns-then-called-gt-MAX_STRIPES : goal.returns-then-called-gt-MAX_STRIPES
returns-then-called-gt-MAX_STRIPES c =
    let a = c.args in
    indexed_many (wide a.self.ring.now) a.self.segments a.stripes.now a.list.now (omega (arith, c.stripe_count-called.ensures))
    ∙ ap₂ (λ (s l : List ℕ). (Err NoRoom, s, l)) (sym c.requires.stripes_value) (sym c.requires.list_value)

pub returns-then-stripes-m : goal.returns-then-stripes-m
returns-then-stripes-m c =
    let a = c.args in
    indexed_short (wide a.self.ring.now) a.self.segments a.stripes.now a.list.now (omega (arith, c.stripe_count-called.ensures))
    ∙ ap₂ (λ (s l : List ℕ). (Err NoRoom, s, l)) (sym c.requires.stripes_value) (sym c.requires.list_value)

pub fill-requires : goal.fill-requires
fill-requires c =
    record {
      m_bound = (omega (arith, c.stripe_count-called.ensures, some_stripes (wide c.args.self.ring.now) c.args.self.segments), omega arith, omega arith);
      stripes_value = c.requires.stripes_value;
      list_value = c.requires.list_value;
    }

pub returns : goal.returns
returns c =
    let a = c.args in
    let m = c.stripe_count-called.ensures in
    let least = c.least_y-least.ensures in
    let height : sub binary64 c.greatest_y.result c.least_y-least.result ≡ height_y (wide a.self.ring.now) a.self.segments = ap₂ (sub binary64) c.greatest_y.ensures least in
    indexed_few (wide a.self.ring.now) a.self.segments a.stripes.now a.list.now (omega (arith, m)) (omega (arith, m))
    ∙ ap (λ (s : ℕ). filled_of (wide a.self.ring.now) a.self.segments (least_y (wide a.self.ring.now) a.self.segments) (height_y (wide a.self.ring.now) a.self.segments) s a.stripes.now a.list.now) (sym m)
    ∙ ap₂ (λ (l h : Float). filled_of (wide a.self.ring.now) a.self.segments l h c.stripe_count-called.result a.stripes.now a.list.now) (sym least) (sym height)
    ∙ c.fill.ensures
