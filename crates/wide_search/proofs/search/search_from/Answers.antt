use Rattle.std.proofs.Common.{◌≡◌, ℕ, List, [], Contains, ⊎_elim, refl, sym, subst, arith}
use Rattle.std.proofs.lemmas.Result.{on_ok_weaker}
use Rattle.tree_insert.proofs.Members.{contains_none}
use Rattle.wide_search.specs.declared.batch.Batch.{Batch}
use Rattle.wide_search.specs.Ready.{AreFirst, IsSound, IsUnderWay, Start}
use Rattle.place_table.specs.Table.{TableValue, tree_in}
use Rattle.wide_search.specs.Counts.{CountsPlaces}
use Rattle.wide_search.specs.Lifts.{ReportsLifts}
use Rattle.wide_search.proofs.Counts.{counts_none}
use Rattle.wide_search.proofs.Lifted.{reports_same}
use Rattle.wide_search.proofs.Begun.{begin, counts_same, begins, ends, first_same, no_step_past, searched_no_gain, searched_no_step, searched_same, sound_same, width_pending}
use Rattle.wide_search.proofs.search.search_from.Given.{Over}
use Rattle.wide_search.proofs.search.search_from.Goals as goal
use Rattle.wide_search.proofs.search.search_from.Goals.{After-push, In_ok-push}

pub returns-then-state-states-clause-searched : goal.returns-then-state-states-clause-searched
returns-then-state-states-clause-searched g c =
    searched_no_step c.args.graph.now c.args.table.now c.args.state c.args.value c.requires.sound
    (no_step_past c.args.graph.now.dfa.now c.args.state c.args.graph.now.edge.label
    (omega (arith, c.if-state-states.true, c.states.ensures.number)))

pub returns-in_default-clause-searched : goal.returns-in_default-clause-searched
returns-in_default-clause-searched g c =
    searched_no_step c.args.graph.now c.args.table.now c.args.state c.args.value c.requires.sound
    (sym c.in_default.ensures.step)

pub returns-then-high-eq0-clause-searched : goal.returns-then-high-eq0-clause-searched
returns-then-high-eq0-clause-searched g c =
    searched_no_gain c.args.graph.now c.args.table.now c.args.state c.args.value c.requires.sound
    c.find_first.new.gains.items c.in_ok-find_first.ensures
    (λ gain has. omega (
      arith,
      has.1,
      c.if-high-eq0.true,
      c.len-high.ensures,
      c.find_first.new.gains.ok.0,
    ))
    (width_pending c.args.graph.now c.args.state c.requires.pending)

first : (g : Over) (c : In_ok-push g) →
    AreFirst c.args.graph.now c.begin_search.new.self c.args.state c.args.value
    c.find_first.new.gains.items
first g c =
    first_same c.args.graph.now c.args.table.now c.begin_search.new.self
    c.begin_search.ensures.places c.begin_search.ensures.puts c.args.state c.args.value
    c.find_first.new.gains.items c.in_ok-find_first.ensures

sound : (g : Over) (c : In_ok-push g) → IsSound c.args.graph.now c.begin_search.new.self
sound g c =
    sound_same c.args.graph.now c.args.table.now c.begin_search.new.self
    c.begin_search.ensures.places c.begin_search.ensures.puts c.requires.sound

abbrev start : (g : Over) (c : In_ok-push g) → Start
start g c =
    begin c.args.graph.now c.begin_search.new.self c.args.state c.args.value c.in-Some.next
    c.find_first.new.gains.items c.requires.raised (sound g c) (first g c)
    (sym c.in-Some.ensures.step)

under : (g : Over) (c : In_ok-push g) →
    IsUnderWay c.args.graph.now (start g c) c.begin_search.new.self c.find_first.new.gains.items
    c.push.new.self.waiting c.push.new.self.level
under g c =
    let batch : Batch =
    record {
      width = c.args.value;
      edge = c.args.graph.now.edge;
      before = c.args.state;
      state = c.in-Some.next;
      low = 0;
      high = c.len-high.result;
    } in
    begins c.args.graph.now c.begin_search.new.self c.args.state c.args.value c.in-Some.next
    c.find_first.new.gains.items c.requires.raised (sound g c) (first g c)
    (sym c.in-Some.ensures.step) batch refl refl refl refl refl
    (omega (arith, c.len-high.ensures, c.find_first.new.gains.ok.0))
    c.requires.value c.begin_search.ensures.marked c.push.new.self.waiting c.push.new.self.level
    c.in_ok-push.ensures.added
    (λ each there. ⊎_elim
    (λ (was : Contains c.clear.new.self.waiting each).
    absurd (contains_none each
    (subst (λ (waits : List Batch). Contains waits each) c.clear.ensures.empty was)))
    (λ (is : each ≡ batch). is)
    (c.push.ensures.gains.only each there))

pub settle-requires-clause-ready : goal.settle-requires-clause-ready
settle-requires-clause-ready g c =
    let at = (goal.at.settle-requires-clause-ready g c).In_ok-push in (start g at, under g at)

pub returns-clause-searched : goal.returns-clause-searched
returns-clause-searched g c =
    let at = (goal.at.returns-clause-searched g c).In_ok-push in
    on_ok_weaker c.settle.result
    (λ (ready : (each : Start) →
    IsUnderWay c.args.graph.now each c.begin_search.new.self c.find_first.new.gains.items
    c.push.new.self.waiting c.push.new.self.level →
    IsUnderWay c.args.graph.now each c.settle.new.table c.settle.new.room.gains.items [] 0).
    searched_same c.args.graph.now c.args.table.now c.begin_search.new.self
    c.begin_search.ensures.places c.begin_search.ensures.puts c.args.state c.args.value
    c.settle.new.table
    (ends c.args.graph.now c.begin_search.new.self c.args.state c.args.value c.in-Some.next
    c.find_first.new.gains.items c.requires.raised (sound g at) (first g at)
    (sym c.in-Some.ensures.step) c.requires.pending c.settle.new.table
    c.settle.new.room.gains.items (ready (start g at) (under g at))))
    c.settle.ensures.ready

pub returns-then-state-states-clause-counted : goal.returns-then-state-states-clause-counted
returns-then-state-states-clause-counted g c =
    counts_none c.args.graph.now.store.now (tree_in c.args.table.now) c.args.steps.now

pub returns-in_default-clause-counted : goal.returns-in_default-clause-counted
returns-in_default-clause-counted g c =
    counts_none c.args.graph.now.store.now (tree_in c.args.table.now) c.args.steps.now

pub returns-then-high-eq0-clause-counted : goal.returns-then-high-eq0-clause-counted
returns-then-high-eq0-clause-counted g c =
    counts_none c.args.graph.now.store.now (tree_in c.args.table.now) c.args.steps.now

pub returns-clause-lifts : goal.returns-clause-lifts
returns-clause-lifts g c =
    on_ok_weaker c.settle.result
    (λ (more : (first : TableValue) →
    ReportsLifts first c.begin_search.new.self c.args.room.now.lifts.items →
    ReportsLifts first c.settle.new.table c.settle.new.room.lifts.items). λ first are.
    more first
    (reports_same first c.args.table.now c.begin_search.new.self c.args.room.now.lifts.items
    c.begin_search.ensures.places c.begin_search.ensures.puts c.begin_search.ensures.root are))
    c.settle.ensures.lifts

pub returns-clause-counted : goal.returns-clause-counted
returns-clause-counted g c =
    let at = (goal.at.returns-clause-counted g c).In_ok-push in
    on_ok_weaker c.settle.result
    (λ (counted : (each : Start) (begins : ℕ) →
    IsUnderWay c.args.graph.now each c.begin_search.new.self c.find_first.new.gains.items
    c.push.new.self.waiting c.push.new.self.level →
    CountsPlaces c.args.graph.now.store.now each.trees (tree_in c.begin_search.new.self) begins
    c.args.steps.now →
    CountsPlaces c.args.graph.now.store.now each.trees (tree_in c.settle.new.table) begins
    c.settle.new.steps).
    counts_same c.args.graph.now c.args.table.now c.begin_search.new.self
    c.begin_search.ensures.places c.begin_search.ensures.puts c.settle.new.table c.args.steps.now
    c.settle.new.steps
    (counted (start g at) c.args.steps.now (under g at)
    (counts_none c.args.graph.now.store.now (tree_in c.begin_search.new.self) c.args.steps.now)))
    c.settle.ensures.counted
