-- `stripes_find::list_run` meets its contract. The invariant is `Listing`. Assumes nothing.
use Rattle.std.specs.Prelude.{Ok, Err}
use mathlib.Core.Path.{◌≡◌, sym, ap, ap₂, ◌∙◌}
use mathlib.Core.List.{List}
use Prim.Native.Nat.{ℕ, ◌≤◌}
use lib.ListN.{length, replicate}
use lib.Seq.{slice}
use native.Mathlib.Omega.{arith}
use borrow.Author.Rules.{rules}
use Rattle.answers.specs.declared.Refusal.TheVariants.{NoRoom, Damaged}
use Rattle.room.specs.Room.{write}
use Rattle.room.proofs.Fill.{write_pad}
use Rattle.stripes_find.specs.Search.{found_in, end_in}
use Rattle.stripes_find.proofs.Reading.{listing_start, listing_kept, listing_passed, listing_full, listing_broken, listing_done}
use Rattle.stripes_find.proofs.Pouring.{poured_whole, poured_hurt, poured_short}
use Rattle.stripes_find.proofs.list_run.Invariants.{test}
use Rattle.stripes_find.proofs.list_run.Goals as goal

pub loop-at-init : goal.loop-at-init
loop-at-init c =
    let a = c.args in
    record { listing = listing_start a.n (test a.ring.now a.y) a.list.now a.start a.past a.out.now; fits = omega arith }

pub returns-then-n-i : goal.returns-then-n-i
returns-then-n-i c =
    let l = c.loop-at in
    let a = c.args in
    let t = test a.ring.now a.y in
    let r = listing_broken a.n t a.list.now a.start a.past a.out.now l.out l.k l.at c.wide-i.result l.invariant.listing
    c.loop-at-test.true c.requires.n_in_bounds.2 c.wide-i.ensures c.if-n-i.true in
    poured_hurt (found_in a.n t (slice a.start a.past a.list.now)) (end_in a.n a.start (slice a.start a.past a.list.now)) a.out.now l.at
    (omega (arith, r.0)) r.1
    ∙ ap (λ (o : List ℕ). (Err (Damaged l.at), o)) (sym (c.fill.ensures.after (λ _ e. e) ∙ ap (λ (j : ℕ). replicate j 0) l.auto.out))

pub loop-at-preserved-then-not-holds_height : goal.loop-at-preserved-then-not-holds_height
loop-at-preserved-then-not-holds_height c =
    let l = c.loop-at in
    let a = c.args in
    record {
      listing = listing_passed a.n (test a.ring.now a.y) a.list.now a.start a.past a.out.now l.out l.k l.at c.wide-i.result l.invariant.listing
          c.loop-at-test.true c.requires.n_in_bounds.2 c.wide-i.ensures c.if-n-i.false (sym c.holds_height.ensures ∙ c.if-not-holds_height.true);
      fits = l.invariant.fits;
    }

pub returns-then-out-k : goal.returns-then-out-k
returns-then-out-k c =
    let l = c.loop-at in
    let a = c.args in
    let t = test a.ring.now a.y in
    let r = listing_full a.n t a.list.now a.start a.past a.out.now l.out l.k l.at c.wide-i.result l.invariant.listing
    c.loop-at-test.true c.requires.n_in_bounds.2 c.wide-i.ensures c.if-n-i.false (sym c.holds_height.ensures ∙ c.if-not-holds_height.false)
    c.if-out-k.true in
    poured_short (found_in a.n t (slice a.start a.past a.list.now)) (end_in a.n a.start (slice a.start a.past a.list.now)) a.out.now
    (omega (arith, r, l.auto.out))
    ∙ ap (λ (o : List ℕ). (Err NoRoom, o)) (sym (c.fill-then-out-k.ensures.after (λ _ e. e) ∙ ap (λ (j : ℕ). replicate j 0) l.auto.out))

pub loop-at-preserved : goal.loop-at-preserved
loop-at-preserved c =
    let l = c.loop-at in
    let a = c.args in
    let r = listing_kept a.n (test a.ring.now a.y) a.list.now a.start a.past a.out.now l.out l.k l.at c.wide-i.result l.invariant.listing
    c.loop-at-test.true c.requires.n_in_bounds.2 c.wide-i.ensures c.if-n-i.false (sym c.holds_height.ensures ∙ c.if-not-holds_height.false) in
    record { listing = rw c.wide-i.ensures at r; fits = search rules }

pub returns : goal.returns
returns c =
    let l = c.loop-at in
    let a = c.args in
    let t = test a.ring.now a.y in
    let all = found_in a.n t (slice a.start a.past a.list.now) in
    let last : l.at ≡ a.past = omega arith in
    let r = listing_done a.n t a.list.now a.start a.past a.out.now l.out l.k l.at l.invariant.listing last in
    let h : length all ≤ length a.out.now = omega (arith, r.0, l.auto.out) in
    poured_whole all (end_in a.n a.start (slice a.start a.past a.list.now)) a.out.now h r.1
    ∙ ap₂ (λ (k : ℕ) (o : List ℕ). (Ok k, o)) (sym r.0)
    (sym (r.2 ∙ ap (λ (o : List ℕ). write o 0 all) c.requires.out_value ∙ write_pad (length a.out.now) all h))
