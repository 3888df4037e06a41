use Rattle.std.proofs.Common.{◌≡◌, ◌+◌, ◌-◌, ◌*◌, ◌^◌, ℕ, sym, ap, subst, ◌∙◌, arith}
use Rattle.std.specs.Ordering.{nat_cmp, ordering_then}
use Rattle.rpq_base.specs.Leading.{leading}
use Rattle.rpq_base.proofs.Leading.{chunk_decides, chunk_same, last_decides, same_before}
use Rattle.rpq_base.proofs.bytes_order.by_eight.Goals as goal

pub returns-then-here-there : goal.returns-then-here-there
returns-then-here-there c =
    let place = c.loop-place.place in
    c.cmp.ensures
    ∙ chunk_decides place (place + 8) (2 ^ 64) c.args.first.now c.args.second.now c.eight_at-here.result c.eight_at-there.result
    (λ at. omega (arith, c.type_inv.first at)) (λ at. omega (arith, c.type_inv.second at))
    c.loop-place.invariant.1 c.eight_at-here.ensures c.eight_at-there.ensures
    (λ same. absurd (omega (arith, c.if-here-there.true, same)))

pub loop-place-preserved : goal.loop-place-preserved
loop-place-preserved c =
    let place = c.loop-place.place in (
      omega (arith, c.loop-place-test.true),
      chunk_same place (place + 8) (2 ^ 64) c.args.first.now c.args.second.now c.eight_at-here.result c.eight_at-there.result
          c.loop-place.invariant.1 c.eight_at-here.ensures c.eight_at-there.ensures (omega (arith, c.if-here-there.false)),
    )

pub returns : goal.returns
returns c =
    let place = c.loop-place.place in
    let both = c.args.both in
    let last = both - 8 in
    let first = c.args.first.now in
    let second = c.args.second.now in
    let there : place ≡ last + (place - last) =
    omega (arith, c.loop-place-test.false, c.requires.enough, c.loop-place.invariant.0) in
    let all : last + 8 ≡ both = omega (arith, c.requires.enough) in
    let before = same_before (place - last) last first second
    (λ at. omega (arith, c.type_inv.first at)) (λ at. omega (arith, c.type_inv.second at))
    (subst (λ (places : ℕ). leading places first ≡ leading places second) there c.loop-place.invariant.1) in
    let left : leading both first ≡ leading last first * 2 ^ 64 + c.eight_at-here-2.result =
    ap (λ (places : ℕ). leading places first) (sym all) ∙ c.eight_at-here-2.ensures in
    let right : leading both second ≡ leading last second * 2 ^ 64 + c.eight_at-there-2.result =
    ap (λ (places : ℕ). leading places second) (sym all) ∙ c.eight_at-there-2.ensures in
    c.then.ensures
    ∙ (ap (λ order. ordering_then order c.cmp-3.result) c.cmp-2.ensures
    ∙ (ap (λ order. ordering_then (nat_cmp c.eight_at-here-2.result c.eight_at-there-2.result) order) c.cmp-3.ensures
    ∙ last_decides last both (2 ^ 64) first second c.eight_at-here-2.result c.eight_at-there-2.result
    (λ at. omega (arith, c.type_inv.first at)) (λ at. omega (arith, c.type_inv.second at)) c.requires.both before left right))
