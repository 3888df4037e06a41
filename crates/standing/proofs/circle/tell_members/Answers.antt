use Rattle.std.proofs.Common.{List, map, subst, subst₂, sym, ◌∙◌, arith}
use Rattle.standing.specs.Objects.{ObjectValue}
use Rattle.standing.specs.Circles.{circle_value, TellsSome}
use Rattle.standing.proofs.Outcomes.{on_err}
use Rattle.standing.proofs.Telling.{SoFar, none_told_yet, some_told, same_members, member_stays, member_leaves}
use Rattle.standing.proofs.circle.tell_members.Goals as goal

pub loop-place-init : goal.loop-place-init
loop-place-init g c =
    let seen = g.S.Standing.seen in
    (none_told_yet c.args.event.now (circle_value (map seen c.args.members.now.items) (map seen c.args.left.now.items)), c.requires)

pub returns-in_err-hear-clause-err : goal.returns-in_err-hear-clause-err
returns-in_err-hear-clause-err g c =
    let seen = g.S.Standing.seen in
    let old = circle_value (map seen c.args.members.now.items) (map seen c.args.left.now.items) in
    let left = map seen c.loop-place.left.items in
    on_err c.from_residual.result
    (subst (λ (members : List ObjectValue). TellsSome c.args.event.now old (circle_value members left))
    (sym (same_members seen c.loop-place.members.items c.loop-place.place c.index_mut.result.now c.hear.new.object
    (omega (arith, c.loop-place-test.true, c.len.ensures, c.loop-place.members.ok.0)) c.index_mut.ensures.value c.in_err-hear.ensures.unchanged))
    (some_told c.args.event.now old (circle_value (map seen c.loop-place.members.items) left) c.loop-place.place c.loop-place.invariant.0))

pub loop-place-preserved-then-branch : goal.loop-place-preserved-then-branch
loop-place-preserved-then-branch g c =
    let seen = g.S.Standing.seen in
    let old = circle_value (map seen c.args.members.now.items) (map seen c.args.left.now.items) in
    let far = member_leaves seen c.args.event.now old c.loop-place.members.items c.loop-place.left.items c.loop-place.place c.index_mut.result.now c.hear.new.object c.remove.result
    c.loop-place.invariant.0 (omega (arith, c.loop-place-test.true, c.len.ensures, c.loop-place.members.ok.0)) c.index_mut.ensures.value
    c.in_ok-hear.ensures.heard (sym c.in_ok-hear.ensures.leaves ∙ c.if-branch.true) c.remove.ensures.value in (
      subst₂ (λ members left. SoFar c.args.event.now old (circle_value (map seen members) (map seen left)) c.loop-place.place)
          (sym c.remove.ensures.items) (sym c.push_reserved.ensures.items) far,
      omega (arith, c.loop-place.invariant.1, c.remove.ensures.len, c.push_reserved.ensures.len, c.push_reserved.ensures.capacity),
    )

pub loop-place-preserved : goal.loop-place-preserved
loop-place-preserved g c =
    let seen = g.S.Standing.seen in
    let old = circle_value (map seen c.args.members.now.items) (map seen c.args.left.now.items) in (
      member_stays seen c.args.event.now old c.loop-place.members.items c.loop-place.left.items c.loop-place.place c.index_mut.result.now c.hear.new.object
          c.loop-place.invariant.0 (omega (arith, c.loop-place-test.true, c.len.ensures, c.loop-place.members.ok.0)) c.index_mut.ensures.value
          c.in_ok-hear.ensures.heard (sym c.in_ok-hear.ensures.leaves ∙ c.if-branch.false),
      c.loop-place.invariant.1,
    )
