use Rattle.std.proofs.Common.{◌≡◌, List, All, length, Vec, Global, sym, ◌∙◌}
use Rattle.std.proofs.lemmas.List.{length-map}
use Rattle.rpq_base.specs.declared.data.Entry.{Entry}
use Rattle.rpq_base.specs.declared.data.Event.{Event}
use Rattle.entry_steps.specs.Steps.{OptionsValue, StepValue, lines_of}
use Rattle.entry_steps.specs.Joining.{TakesEach}
use Rattle.entry_steps.specs.Showing.{MayShow, AreShownBy, AreFound}
use Rattle.entry_steps.specs.Telling.{lists_in, steps_with, AreToldBeside}
use Rattle.entry_steps.specs.declared.unnamed_steps.PathsAndJoins.{PathsAndJoins}
use Rattle.entry_steps.proofs.Feeding.{ok_from_three}
use Rattle.entry_steps.proofs.Finding.{each_given, each_may_show, found_may_take}
use Rattle.entry_steps.proofs.Finding.{steps_follow}
use Rattle.entry_steps.proofs.Telling.{events_with}
use Rattle.entry_steps.proofs.steps.take_found.Goals as goal

pub make_beside-requires-clause-may_show : goal.make_beside-requires-clause-may_show
make_beside-requires-clause-may_show c =
    let engine = c.args.engine.now in
    let marks = c.take_entries.new.marks in
    let given = c.requires.found in
    each_given (MayShow engine marks) (λ (own : Vec Event Global). own.items) c.args.found.now
    (each_may_show given.0 engine c.args.joins.now given.1 c.args.entries.now
    (lists_in c.args.found.now) c.args.marks.now marks given.2 c.in_ok-take_entries.ensures)

pub make_beside-requires-clause-may_take : goal.make_beside-requires-clause-may_take
make_beside-requires-clause-may_take c =
    let given = c.requires.found in
    found_may_take c.events_lead_on.ensures given.0 c.args.engine.now c.args.marks.now
    c.args.joins.now given.1 c.args.entries.now (lists_in c.args.found.now) given.2

pub returns : goal.returns
returns c =
    let engine = c.args.engine.now in
    let marks = c.take_entries.new.marks in
    let entries = c.args.entries.now in
    let old = c.args.joins.now in
    let new = c.make_beside.new.joins in
    let lists = lists_in c.args.found.now in
    ok_from_three c.make_beside.result
    (λ (beside : Vec PathsAndJoins Global). length beside.items ≡ length c.args.found.now)
    (λ (beside : Vec PathsAndJoins Global).
    All (λ (step : StepValue). AreShownBy engine marks step.events step.shown)
    (steps_with lists beside.items))
    (λ (beside : Vec PathsAndJoins Global).
    TakesEach old lists new (lines_of (steps_with lists beside.items)))
    (λ (beside : Vec PathsAndJoins Global). (options : OptionsValue) (before : List Entry) →
    AreFound options engine c.args.marks.now old before entries lists →
    AreToldBeside options engine marks new before entries lists beside.items)
    (λ beside as_many shown taken options before found.
    let many = as_many
    ∙ sym (length-map c.args.found.now (λ (own : Vec Event Global). own.items)) in
    record {
      many = many;
      are = steps_follow c.events_lead_on.ensures c.accepted_queries_have_join_events.ensures
          options engine c.args.marks.now marks old new before entries lists
          (steps_with lists beside.items) c.in_ok-take_entries.ensures
          (events_with lists beside.items many) shown taken found;
    })
    c.make_beside.ensures.many c.make_beside.ensures.shown c.make_beside.ensures.joined
