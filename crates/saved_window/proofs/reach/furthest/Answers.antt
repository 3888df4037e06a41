use Rattle.std.proofs.Common.{◌||◌, Bool, List, get_or, sym, ap, subst, ◌∙◌}
use Rattle.std.proofs.lemmas.List.{take_all}
use Rattle.std.proofs.lemmas.List.Folds.{list_any_more}
use Rattle.rpq_model.specs.Window.{is_in_window}
use Rattle.rpq_model.specs.Query.{Query}
use Rattle.saved_window.specs.Reach.{reaches, ReachesForAll}
use Rattle.saved_window.proofs.reach.furthest.Goals as goal

pub loop-query-preserved : goal.loop-query-preserved
loop-query-preserved c time =
    let queries = c.args.queries.now in
    let now = c.args.now in
    let index = c.loop-query.query-index in
    let query = c.query-item.result in
    let found = c.loop-query.found in
    list_any_more (λ (each : Query). is_in_window each.window now time) queries index query c.loop-query-test.true
    ∙ (ap (λ (seen : Bool). seen || is_in_window (get_or queries index query).window now time) (c.loop-query.invariant time)
    ∙ (ap (λ (each : Query). reaches found now time || is_in_window each.window now time) (sym c.query-item.is)
    ∙ (ap (λ (each : Query). reaches found now time || is_in_window each.window now time) (sym c.query.view_is)
    ∙ sym (c.further.ensures time))))

pub returns : goal.returns
returns c =
    subst (λ (queries : List Query). ReachesForAll queries c.args.now c.loop-query.found)
    (take_all c.loop-query.query-index c.args.queries.now c.loop-query-test.false) c.loop-query.invariant
