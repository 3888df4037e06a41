use Rattle.std.proofs.Common.{refl, sym, ap, ◌∙◌, subst}
use Rattle.std.specs.Option.{IsSome}
use Rattle.turn_lock.proofs.Joins.{closes, closed}
use Rattle.turn_lock.proofs.turns.Turns.close.Goals as goal

pub unwrap-value-requires : goal.unwrap-value-requires
unwrap-value-requires g c =
    let passes = c.self.invariant.2 ∙ ap (λ t. t.passes) c.self.view_is in
    let seat = c.gather-seat.ensures in
    let end = closes _ _ _ _ _ _ _ _ _ c.close_with-closed.ensures.values.2 seat.rest
    c.args.passes.items seat.all _ passes c.requires.all _ c.take.ensures.value in
    subst IsSome (sym end.1) refl

pub returns-clause-passes : goal.returns-clause-passes
returns-clause-passes g c =
    let passes = c.self.invariant.2 ∙ ap (λ t. t.passes) c.self.view_is in
    let seat = c.gather-seat.ensures in
    let end = closes _ _ _ _ _ _ _ _ _ c.close_with-closed.ensures.values.2 seat.rest
    c.args.passes.items seat.all _ passes c.requires.all _ c.take.ensures.value in
    (closed _ _ _ (g.V.Kept.fixed c.unwrap-value.result) 0 c.args.passes.items c.args.self.passes _
    c.unwrap-value.result c.unwrap-value.ensures end).0

pub returns-clause-authors : goal.returns-clause-authors
returns-clause-authors g c =
    let passes = c.self.invariant.2 ∙ ap (λ t. t.passes) c.self.view_is in
    let seat = c.gather-seat.ensures in
    let end = closes _ _ _ _ _ _ _ _ _ c.close_with-closed.ensures.values.2 seat.rest
    c.args.passes.items seat.all _ passes c.requires.all _ c.take.ensures.value in
    (closed _ _ _ (g.V.Kept.fixed c.unwrap-value.result) 0 c.args.passes.items c.args.self.passes _
    c.unwrap-value.result c.unwrap-value.ensures end).1
