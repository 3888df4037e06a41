use Rattle.std.proofs.Common.{◌≡◌, List, Option, None, length, ap, ap₂, subst, sym, ◌∙◌, Vec, Global}
use Rattle.std.proofs.Common.{arith, rules}
use Rattle.std.specs.Prelude.{IfOk}
use Rattle.std.specs.List.{All}
use Rattle.std.proofs.lemmas.Grind.{common_steps}
use Rattle.rpq_base.specs.declared.data.Entry.{Entry}
use Rattle.rpq_base.specs.declared.data.Event.{Event}
use Rattle.rpq_base.proofs.Outcomes.{ok_from_both}
use Rattle.join_bindings.specs.State.{JoinsValue}
use Rattle.end_events.specs.Named.{named_lists}
use Rattle.engine_feed.specs.EventLists.{lists_of}
use Rattle.path_witness.specs.Marks.{MarksValue}
use Rattle.entry_steps.specs.Showing.{AreFound}
use Rattle.entry_steps.specs.Steps.{OptionsValue}
use Rattle.entry_steps.specs.Telling.{lists_in, TellsNothing, AreToldBeside}
use Rattle.entry_steps.specs.declared.unnamed_steps.PathsAndJoins.{PathsAndJoins}
use Rattle.entry_steps.proofs.Finding.{nothing_told}
use Rattle.entry_steps.proofs.steps.tell_of.Goals as goal

pub returns-then-is_none-2 : goal.returns-then-is_none-2
returns-then-is_none-2 c =
    let engine = c.args.engine.now in
    let entries = c.args.entries.now in
    let lists = lists_of engine.names c.args.found.now in
    let no_marks : c.args.marks.now ≡ None =
    first_of (search rules, grind (arith, common_steps)) in
    let no_joins : c.args.joins.now ≡ None =
    first_of (search rules, grind (arith, common_steps)) in
    ok_from_both c.nothing_beside.result
    (λ (beside : Vec PathsAndJoins Global). length beside.items ≡ length entries)
    (λ (beside : Vec PathsAndJoins Global). All TellsNothing beside.items)
    (λ (beside : Vec PathsAndJoins Global). (options : OptionsValue) (before : List Entry) →
    AreFound options engine c.args.marks.now c.args.joins.now before entries lists →
    AreToldBeside options engine c.args.marks.now c.args.joins.now before entries lists
    beside.items)
    (λ beside many nothing options before found.
    subst (λ (marks : Option MarksValue).
    AreToldBeside options engine marks c.args.joins.now before entries lists beside.items)
    (sym no_marks)
    (subst (λ (joins : Option JoinsValue).
    AreToldBeside options engine None joins before entries lists beside.items) (sym no_joins)
    (nothing_told c.events_lead_on.ensures c.accepted_queries_have_join_events.ensures options
    engine before entries lists beside.items many nothing
    (subst (λ (joins : Option JoinsValue). AreFound options engine None joins before entries lists)
    no_joins (subst (λ (marks : Option MarksValue).
    AreFound options engine marks c.args.joins.now before entries lists) no_marks found)))))
    c.nothing_beside.ensures.many c.nothing_beside.ensures.nothing

pub returns-in_ok-own-in-Numbered : goal.returns-in_ok-own-in-Numbered
returns-in_ok-own-in-Numbered c =
    let engine = c.args.engine.now in
    let same = ap lists_in c.deref-in-Numbered.ensures.value
    ∙ (c.in_ok-own-in-Numbered.ensures
    ∙ (ap₂ named_lists c.names.ensures c.deref.ensures.value
    ∙ ap (lists_of engine.names) (sym c.in-Numbered.is))) in
    subst (λ (all : List (List Event)).
    IfOk c.take_found.result (λ (beside : Vec PathsAndJoins Global).
    (options : OptionsValue) (before : List Entry) →
    AreFound options engine c.args.marks.now c.args.joins.now before c.args.entries.now all →
    AreToldBeside options engine c.take_found.new.marks c.take_found.new.joins before
    c.args.entries.now all beside.items)) same c.take_found.ensures

pub returns-in-Named : goal.returns-in-Named
returns-in-Named c =
    let engine = c.args.engine.now in
    let same = ap lists_in c.deref-in-Named.ensures.value
    ∙ ap (lists_of engine.names) (sym c.in-Named.is) in
    subst (λ (all : List (List Event)).
    IfOk c.take_found-in-Named.result (λ (beside : Vec PathsAndJoins Global).
    (options : OptionsValue) (before : List Entry) →
    AreFound options engine c.args.marks.now c.args.joins.now before c.args.entries.now all →
    AreToldBeside options engine c.take_found-in-Named.new.marks c.take_found-in-Named.new.joins
    before c.args.entries.now all beside.items)) same c.take_found-in-Named.ensures
