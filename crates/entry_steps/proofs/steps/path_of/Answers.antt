use Rattle.std.proofs.Common.{List, sym, subst}
use Rattle.std.proofs.lemmas.Result.{IfOk-weaker}
use Rattle.rpq_base.specs.declared.data.Entry.{Entry}
use Rattle.rpq_base.specs.declared.data.Pair.{Pair}
use Rattle.rpq_model.specs.Query.{Query}
use Rattle.index_laws.specs.LawsOfPaths.{IsBestPathOf}
use Rattle.path_engine.specs.Engine.{definitions}
use Rattle.path_witness.specs.BestPaths.{IsBestFor}
use Rattle.path_witness.specs.Shows.{Shown, Shows}
use Rattle.entry_steps.specs.Steps.{IsShown}
use Rattle.entry_steps.specs.Showing.{IsOver, IsGained}
use Rattle.entry_steps.proofs.Finding.{gained_found, gained_best, best_for, is_shown}
use Rattle.entry_steps.proofs.steps.path_of.Goals as goal

pub unreachable-requires : goal.unreachable-requires
unreachable-requires c =
    gained_found c.args.engine.now c.requires.0 c.args.event.now c.in_ok-path.field-0
    c.in_default.is c.in_ok-path.ensures c.requires.1.stands c.requires.2

pub show-requires : goal.show-requires
show-requires c =
    let engine = c.args.engine.now in
    let event = c.args.event.now in
    let history = c.requires.0 in
    let over = c.requires.1 in
    let gained = c.requires.2 in
    let best = gained_best engine history event c.in_ok-path.field-0 c.in-Some.path c.in-Some.is
    c.in_ok-path.ensures over.stands gained in (
      history,
      gained.query,
      event.pair,
      best_for engine c.args.marks.now history event c.deref.result.now over gained
          (subst (IsBestPathOf gained.query history event.pair) (sym c.deref.ensures.value) best),
    )

pub returns : goal.returns
returns c =
    let engine = c.args.engine.now in
    let marks = c.args.marks.now in
    let event = c.args.event.now in
    let path = c.deref.result.now in
    IfOk-weaker c.show.result
    (λ (shown : Shown). (history : List Entry) (query : Query) (pair : Pair) →
    IsBestFor marks event.query path history query pair → Shows query history pair shown)
    (λ (shown : Shown). (history : List Entry) → IsOver engine marks history →
    IsGained (definitions engine) history event →
    IsShown (definitions engine) history event shown)
    (λ shown shows history over gained.
    let best = gained_best engine history event c.in_ok-path.field-0 c.in-Some.path c.in-Some.is
    c.in_ok-path.ensures over.stands gained in
    is_shown engine marks history event path shown over gained
    (subst (IsBestPathOf gained.query history event.pair) (sym c.deref.ensures.value) best) shows)
    c.show.ensures
