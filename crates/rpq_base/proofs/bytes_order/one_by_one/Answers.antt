use Rattle.std.proofs.Common.{◌+◌, slice_index, subst, ◌≡◌, ℕ, ◌∙◌, arith}
use Rattle.rpq_base.specs.Leading.{leading}
use Rattle.rpq_base.proofs.Leading.{chunk_decides, digit_more, lengths_decide}
use Rattle.rpq_base.proofs.bytes_order.one_by_one.Goals as goal

pub returns-then-first-place : goal.returns-then-first-place
returns-then-first-place c =
    let place = c.loop-place.place in
    let first = c.args.first.now in
    let second = c.args.second.now in
    c.cmp.ensures
    ∙ chunk_decides place (place + 1) 256 first second (slice_index first place) (slice_index second place)
    (λ at. omega (arith, c.type_inv.first at)) (λ at. omega (arith, c.type_inv.second at)) c.loop-place.invariant
    (digit_more first place (place + 1) (omega arith)) (digit_more second place (place + 1) (omega arith))
    (λ same. absurd (omega (arith, c.if-first-place.true, same)))

pub returns : goal.returns
returns c =
    let first = c.args.first.now in
    let second = c.args.second.now in
    let all : c.loop-place.place ≡ c.args.both = omega (arith, c.loop-place-test.false) in
    c.cmp-2.ensures
    ∙ lengths_decide c.args.both first second
    (λ at. omega (arith, c.type_inv.first at)) (λ at. omega (arith, c.type_inv.second at)) c.requires
    (subst (λ (places : ℕ). leading places first ≡ leading places second) all c.loop-place.invariant)
