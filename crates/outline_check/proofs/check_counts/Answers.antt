use Prim.Native.Nat.{ℕ}
use mathlib.Core.Path.{◌≡◌, sym, ◌∙◌}
use lib.ListN.{length}
use lib.Dec.{ltb}
use borrow.Author.Tests.{lt-ltb, le-ltb}
use Rattle.std.proofs.Common.{Bool, Some, None, rules, tests}
use Rattle.std.specs.List.{position}
use Rattle.std.proofs.lemmas.Iterator.{YieldsList-from_slice}
use Rattle.std.proofs.lemmas.Iterator.Search.{position_from_yields_List}
use Rattle.answers.specs.declared.Refusal.TheVariants.{TooFew, TooMany}
use Rattle.outline_check.specs.Inner.Counted.{counts_checked}
use Rattle.outline_check.proofs.Rules.{each_named}
use Rattle.outline_check.proofs.check_counts.Goals.{After-position, After-position-2}
use Rattle.outline_check.proofs.check_counts.Goals as goal

-- the tests of the two searches
abbrev under : ℕ → Bool
under n = ltb n 2

abbrev over : ℕ → Bool
over n = ltb 4097 n

few : (c : After-position) → c.position.result ≡ position under c.args.sizes.now
few c = position_from_yields_List under _ _ c.position.result c.position.ensures.ran (YieldsList-from_slice _ c.iter.ensures.rest) (λ x b q k. search (rules, tests))

many : (c : After-position-2) → c.position-2.result ≡ position over c.args.sizes.now
many c = position_from_yields_List over _ _ c.position-2.result c.position-2.ensures.ran (YieldsList-from_slice _ c.iter-2.ensures.rest) (λ x b q k. search (rules, tests))

pub returns-then-sizes-lt-MIN_RINGS : goal.returns-then-sizes-lt-MIN_RINGS
unfolding counts_checked
returns-then-sizes-lt-MIN_RINGS c = rw (lt-ltb _ 1 c.if-sizes-lt-MIN_RINGS.true)

pub returns-in-Some : goal.returns-in-Some
unfolding counts_checked
returns-in-Some c =
    let sizes = c.args.sizes.now in
    let e : position under sizes ≡ Some c.in-Some.k = sym (few (goal.at.returns-in-Some c).After-position) ∙ c.in-Some.is in
    rw (le-ltb (length sizes) 1 c.if-sizes-lt-MIN_RINGS.false, each_named under sizes TooFew _, e)

pub returns-then-sizes-gt-MAX_RINGS : goal.returns-then-sizes-gt-MAX_RINGS
unfolding counts_checked
returns-then-sizes-gt-MAX_RINGS c =
    let sizes = c.args.sizes.now in
    let e : position under sizes ≡ None = sym (few (goal.at.returns-then-sizes-gt-MAX_RINGS c).After-position) ∙ c.in_default.is in
    rw (le-ltb (length sizes) 1 c.if-sizes-lt-MIN_RINGS.false, each_named under sizes TooFew _, e, lt-ltb 64 _ c.if-sizes-gt-MAX_RINGS.true)

pub returns-in-Some-position : goal.returns-in-Some-position
unfolding counts_checked
returns-in-Some-position c =
    let sizes = c.args.sizes.now in
    let e : position under sizes ≡ None = sym (few (goal.at.returns-in-Some-position c).After-position) ∙ c.in_default.is in
    let o : position over sizes ≡ Some c.in-Some-position.k = sym (many (goal.at.returns-in-Some-position c).After-position-2) ∙ c.in-Some-position.is in
    rw (le-ltb (length sizes) 1 c.if-sizes-lt-MIN_RINGS.false, each_named under sizes TooFew _, e, le-ltb 64 _ c.if-sizes-gt-MAX_RINGS.false, each_named over sizes TooMany _, o)

pub returns : goal.returns
unfolding counts_checked
returns c =
    let sizes = c.args.sizes.now in
    let e : position under sizes ≡ None = sym (few (goal.at.returns c).After-position) ∙ c.in_default.is in
    let o : position over sizes ≡ None = sym (many (goal.at.returns c).After-position-2) ∙ c.in_default-position.is in
    rw (le-ltb (length sizes) 1 c.if-sizes-lt-MIN_RINGS.false, each_named under sizes TooFew _, e, le-ltb 64 _ c.if-sizes-gt-MAX_RINGS.false, each_named over sizes TooMany _, o)
