use Rattle.std.proofs.Common.{◌≡◌, Global}
use Rattle.std.specs.declared.sync.Arc.{Arc}
use Rattle.answer_view.specs.View.{ViewValue}
use Rattle.path_engine.specs.Engine.{definitions}
use Rattle.path_engine.specs.Views.{IsViewAt}
use Rattle.query_index.proofs.Outcomes.{if_ok_map}
use Rattle.path_engine.proofs.Feeding.{view_of}
use Rattle.path_engine.proofs.engine.Engine.view.Goals as goal

pub returns-clause-view : goal.returns-clause-view
returns-clause-view c = λ history stands.
    let engine = c.args.self.now in
    let rows = c.in_ok-rows.rows.items in
    let now = c.clock-clock.result in
    let shown : ViewValue = record { position = c.args.position; clock = now; rows = rows } in
    if_ok_map (λ (view : Arc ViewValue Global). view.value ≡ shown)
    (λ (view : Arc ViewValue Global). IsViewAt c.args.position (definitions engine) history view.value)
    (λ view is. view_of engine history c.args.position now rows view.value is
    (c.clock-clock.ensures history stands) (c.in_ok-rows.ensures.rows history stands))
    c.new.result c.new.ensures
