use Rattle.std.proofs.Common.{rules, arith, ◌∙◌}
use Rattle.std.proofs.lemmas.Result.{err_from_is_err_and}
use Rattle.answers.specs.declared.Refusal.TheVariants.{TooFew, TooMany, NotClosed}
use Rattle.wkb_shape.specs.declared.WkbRefusal.TheVariants.{Plain, Unstored}
use Rattle.wkb_shape.specs.Inner.Laid.{rings_of}
use Rattle.wkb_shape.proofs.Laid.{rings_length}
use Rattle.wkb_read.specs.Stored.{all_storable}
use Rattle.wkb_read.specs.Judged.{enough, not_over, shut}
use Rattle.wkb_read.proofs.Walk.{enough_told, not_over_told, judged_none, judged_few, judged_many_rings, judged_many, judged_unstored, judged_last}
use Rattle.wkb_read.proofs.Polygon.judge.Goals as goal

pub returns-then-self-lt-MIN_RINGS : goal.returns-then-self-lt-MIN_RINGS
returns-then-self-lt-MIN_RINGS c =
    let s = c.args.self in
    let shape = rings_of s.bytes.now s.order s.rings 9 in
    let many = rings_length s.bytes.now s.order s.rings 9 in
    judged_none s.scale shape (omega (arith, many))

pub returns-in_err-each_ring : goal.returns-in_err-each_ring
returns-in_err-each_ring c =
    let s = c.args.self in
    let shape = rings_of s.bytes.now s.order s.rings 9 in
    let many = rings_length s.bytes.now s.order s.rings 9 in
    let p = err_from_is_err_and c.from_residual.result c.from_residual.ensures.1 in
    let few = c.in_err-each_ring.ensures enough (λ k. Plain (TooFew k)) (λ at n r h t. enough_told _ _ at n r (search rules)) (λ k e t. search rules) in
    rw (p.1, p.2) (judged_few s.scale shape (omega (arith, many)) _ few)

pub returns-then-self-gt-MAX_RINGS : goal.returns-then-self-gt-MAX_RINGS
returns-then-self-gt-MAX_RINGS c =
    let s = c.args.self in
    let shape = rings_of s.bytes.now s.order s.rings 9 in
    let many = rings_length s.bytes.now s.order s.rings 9 in
    let few = c.in_ok-each_ring.ensures enough (λ k. Plain (TooFew k)) (λ at n r h t. enough_told _ _ at n r (search rules)) (λ k e t. search rules) in
    judged_many_rings s.scale shape (omega (arith, many)) few (omega (arith, many))

pub returns-in_err-each_ring-2 : goal.returns-in_err-each_ring-2
returns-in_err-each_ring-2 c =
    let s = c.args.self in
    let shape = rings_of s.bytes.now s.order s.rings 9 in
    let many = rings_length s.bytes.now s.order s.rings 9 in
    let p = err_from_is_err_and c.from_residual-in_err-each_ring-2.result c.from_residual-in_err-each_ring-2.ensures.1 in
    let few = c.in_ok-each_ring.ensures enough (λ k. Plain (TooFew k)) (λ at n r h t. enough_told _ _ at n r (search rules)) (λ k e t. search rules) in
    let over = c.in_err-each_ring-2.ensures not_over (λ k. Plain (TooMany k)) (λ at n r h t. not_over_told _ _ at n r (search rules)) (λ k e t. search rules) in
    rw (p.1, p.2) (judged_many s.scale shape (omega (arith, many)) few (omega (arith, many)) _ over)

pub returns-in_err-each_ring-3 : goal.returns-in_err-each_ring-3
returns-in_err-each_ring-3 c =
    let s = c.args.self in
    let shape = rings_of s.bytes.now s.order s.rings 9 in
    let many = rings_length s.bytes.now s.order s.rings 9 in
    let p = err_from_is_err_and c.from_residual-in_err-each_ring-3.result c.from_residual-in_err-each_ring-3.ensures.1 in
    let few = c.in_ok-each_ring.ensures enough (λ k. Plain (TooFew k)) (λ at n r h t. enough_told _ _ at n r (search rules)) (λ k e t. search rules) in
    let over = c.in_ok-each_ring-2.ensures not_over (λ k. Plain (TooMany k)) (λ at n r h t. not_over_told _ _ at n r (search rules)) (λ k e t. search rules) in
    let unstored = c.in_err-each_ring-3.ensures (all_storable s.scale) Unstored (λ at n r h t. search rules) (λ k e t. search rules) in
    rw (p.1, p.2) (judged_unstored s.scale shape (omega (arith, many)) few (omega (arith, many)) over _ unstored)

pub returns : goal.returns
returns c =
    let s = c.args.self in
    let shape = rings_of s.bytes.now s.order s.rings 9 in
    let many = rings_length s.bytes.now s.order s.rings 9 in
    let few = c.in_ok-each_ring.ensures enough (λ k. Plain (TooFew k)) (λ at n r h t. enough_told _ _ at n r (search rules)) (λ k e t. search rules) in
    let over = c.in_ok-each_ring-2.ensures not_over (λ k. Plain (TooMany k)) (λ at n r h t. not_over_told _ _ at n r (search rules)) (λ k e t. search rules) in
    let kept = c.in_ok-each_ring-3.ensures (all_storable s.scale) Unstored (λ at n r h t. search rules) (λ k e t. search rules) in
    c.each_ring-4.ensures (shut s.scale) (λ k. Plain (NotClosed k)) (λ at n r h t. search rules) (λ k e t. search rules)
    ∙ judged_last s.scale shape (omega (arith, many)) few (omega (arith, many)) over kept
