use Rattle.std.proofs.Common.{◌≡◌, List, [], subst, ◌∙◌, arith, rules}
use Rattle.std.specs.Prelude.{⊤}
use Rattle.std.proofs.lemmas.Grind.{common_steps}
use Rattle.std.proofs.lemmas.List.{nil_from_length}
use Rattle.std.proofs.lemmas.Result.{on_err_weaker, on_ok_weaker}
use Rattle.rpq_base.specs.declared.data.Event.{Event}
use Rattle.rpq_base.proofs.Outcomes.{on_err}
use Rattle.standing.specs.Circles.{as_seen}
use Rattle.standing.proofs.HavingStood.{told_each, told_front}
use Rattle.engine_loop.specs.Telling.{TellsOn}
use Rattle.engine_loop.proofs.TellingMore.{tells_nobody, tells_no_more}
use Rattle.engine_loop.proofs.telling.tell_events.Goals as goal

pub returns-then-is_empty-clause-told : goal.returns-then-is_empty-clause-told
returns-then-is_empty-clause-told g c =
    let none : c.args.circle.now.members ≡ [] =
    first_of (search (rules, nil_from_length), grind (arith, common_steps, nil_from_length)) in
    tells_nobody g.O.Standing.seen c.args.circle.now c.args.events.now ⊤ none

pub returns-in_err-named-clause-part : goal.returns-in_err-named-clause-part
returns-in_err-named-clause-part g c =
    on_err c.from_residual.result
    (tells_no_more (as_seen g.O.Standing.seen c.args.circle.now) c.args.events.now)

pub returns-clause-told : goal.returns-clause-told
returns-clause-told g c =
    let old = as_seen g.O.Standing.seen c.args.circle.now in
    let new = as_seen g.O.Standing.seen c.tell_each.new.self in
    on_ok_weaker c.tell_each.result
    (λ tells. subst (λ (events : List Event). TellsOn events ⊤ old new)
    (c.deref.ensures.value ∙ c.in_ok-named.ensures) (λ objects before stood.
    told_each objects before c.deref.result.now old new stood tells))
    c.tell_each.ensures.ok

pub returns-clause-part : goal.returns-clause-part
returns-clause-part g c =
    let old = as_seen g.O.Standing.seen c.args.circle.now in
    let new = as_seen g.O.Standing.seen c.tell_each.new.self in
    on_err_weaker c.tell_each.result
    (λ tells. subst (λ (events : List Event). TellsOn events ⊥ old new)
    (c.deref.ensures.value ∙ c.in_ok-named.ensures) (λ objects before stood.
    told_front objects before c.deref.result.now old new stood tells))
    c.tell_each.ensures.err
