-- An engine that is fed, and then what is told of its events.
use Rattle.std.proofs.Common.{◌≡◌, ℕ, ◌≤◌, Bool, true, false, List, length, map, sym, subst, Option}
use Rattle.std.proofs.Common.{Result, Ok, Err, ◌+◌, ◌<◌, length-append, arith}
use Rattle.std.specs.List.{All}
use Rattle.std.specs.Prelude.{IfOk}
use Rattle.rpq_base.specs.declared.data.Entry.{Entry}
use Rattle.rpq_base.specs.declared.data.Event.{Event}
use Rattle.join_bindings.specs.State.{JoinsValue}
use Rattle.engine_feed.specs.EventLists.{lists_of, HaveNames}
use Rattle.engine_feed.specs.Feeding.{FeedsEntries}
use Rattle.engine_feed.specs.declared.event_lists.EventLists.{EventLists}
use Rattle.answer_view.specs.View.{ViewValue, IsViewOf}
use Rattle.path_engine.specs.Alike.{StandsForAlike}
use Rattle.path_engine.specs.Engine.{EngineValue, StandsFor}
use Rattle.path_engine.specs.Views.{IsViewAt}
use Rattle.path_witness.specs.Marks.{MarksValue}
use Rattle.query_file.specs.Compiled.{CompiledValue}
use Rattle.two_way.specs.TwoWay.{walked, AreAllWalkedEventsFrom}
use Rattle.entry_steps.specs.Evaluator.{EvaluatorValue, queries_of, IsFedOver, TellsUpTo}
use Rattle.entry_steps.specs.Evaluator.{StandsAfter, AreNumbered, Finds, IsAhead, Tells, OnlyFeeds}
use Rattle.entry_steps.specs.Evaluator.{StandsInFor, IsViewAfter, found_in}
use Rattle.entry_steps.specs.Joining.{HaveJoins}
use Rattle.entry_steps.specs.Showing.{AreFound, HaveMarks}
use Rattle.entry_steps.specs.Steps.{OptionsValue, AreEvaluable}
use Rattle.entry_steps.specs.Telling.{AreToldBeside}
use Rattle.entry_steps.specs.declared.unnamed_steps.UnnamedSteps.{UnnamedSteps}
use Rattle.entry_steps.proofs.Telling.{events_with}

-- a fact of a value from three others
pub ok_from_three : {T E : Type 0} (result : Result T E) (P Q R G : T → Type 0) →
    ((x : T) → P x → Q x → R x → G x) → IfOk result P → IfOk result Q → IfOk result R →
    IfOk result G
ok_from_three (Ok x) P Q R G gives p q r = gives x p q r
ok_from_three (Err e) P Q R G gives p q r = tt

-- ---- the engine alone

-- what is told stays where it is while the engine alone is fed
pub tells_still : (old new : EvaluatorValue) (history : List Entry) → OnlyFeeds old new →
    TellsUpTo old history → TellsUpTo new history
tells_still old new history keeps tells =
    let queries = keeps.setup.queries in
    record {
      marked = subst (λ (marks : Option MarksValue).
          HaveMarks new.options.paths (queries_of new) history marks) (sym keeps.marks)
          (subst (λ (options : OptionsValue).
          HaveMarks options.paths (queries_of new) history old.marks) (sym keeps.setup.options)
          (subst (λ (compiled : List CompiledValue). HaveMarks old.options.paths
          (map (λ (each : CompiledValue). each.def) compiled) history old.marks) (sym queries)
          tells.marked));
      joined = subst (λ (joins : Option JoinsValue).
          HaveJoins new.options.joins (queries_of new) (walked new.options.two_way history) joins)
          (sym keeps.joins)
          (subst (λ (options : OptionsValue). HaveJoins options.joins (queries_of new)
          (walked options.two_way history) old.joins) (sym keeps.setup.options)
          (subst (λ (compiled : List CompiledValue). HaveJoins old.options.joins
          (map (λ (each : CompiledValue). each.def) compiled) (walked old.options.two_way history)
          old.joins) (sym queries) tells.joined));
    }

-- so the engine is ahead once it was fed what comes next
pub ahead_by : (before : List Entry) (old new : EvaluatorValue) (later : List Entry)
    (found : EventLists) → TellsUpTo old before → OnlyFeeds old new → Finds before new later found →
    IsAhead before new later found
ahead_by before old new later found tells keeps finds =
    record { finds = finds; tells = tells_still old new before keeps tells }

-- ---- and then what is told

-- the steps of these entries can be told: the queries can be evaluated, and where paths are told,
-- edges aren't taken backwards, and there is one entry at most
pub record MayTell (evaluator : EvaluatorValue) (later : List Entry) : Type 0 where
  pub evaluable : AreEvaluable (queries_of evaluator)
  pub forwards : evaluator.options.paths ≡ true → evaluator.options.two_way ≡ false
  pub one : evaluator.options.paths ≡ true → length later ≤ 1

-- an engine that is ahead found the events of the entries that are still to be told
pub found_ahead : (evaluator : EvaluatorValue) (before later : List Entry) (found : EventLists) →
    MayTell evaluator later → IsAhead before evaluator later found →
    AreFound evaluator.options evaluator.engine evaluator.marks evaluator.joins before later
    (found_in evaluator found)
found_ahead evaluator before later found may ahead = record {
  stands = ahead.finds.fed.stands;
  events = ahead.finds.events;
  evaluable = may.evaluable;
  marked = ahead.tells.marked;
  joined = ahead.tells.joined;
  forwards = may.forwards;
  one = may.one;
}

-- where the marks took the entries and the joins their events, the steps are told
pub tells_steps : (evaluator : EvaluatorValue) (before later : List Entry) (told : UnnamedSteps)
    (marks : Option MarksValue) (joins : Option JoinsValue) →
    IsAhead before evaluator later told.found →
    AreToldBeside evaluator.options evaluator.engine marks joins before later
    (found_in evaluator told.found) told.beside.items →
    Tells before (record evaluator { marks = marks; joins = joins }) later told
tells_steps evaluator before later told marks joins ahead beside = record {
  brings = record {
    stands = record {
      fed = record { stands = ahead.finds.fed.stands; counted = ahead.finds.fed.counted };
      tells = record { marked = beside.are.marked; joined = beside.are.joined };
    };
    are_steps = beside.are.are_steps;
    numbers = subst (AreNumbered evaluator)
        (sym (events_with (found_in evaluator told.found) told.beside.items beside.many))
        ahead.finds.numbers;
  };
  told_is = record { have_names = ahead.finds.have_names; many = beside.many };
}

-- an engine that was fed entries found their events
pub finds_by : (old engine : EngineValue) (options : OptionsValue) (marks : Option MarksValue)
    (joins : Option JoinsValue) (position workers : ℕ) (entries : List Entry) (found : EventLists)
    (history : List Entry) → engine.queries ≡ old.queries →
    FeedsEntries options.two_way old entries engine (lists_of engine.names found) →
    HaveNames engine.names found →
    IsFedOver (record {
      engine = old;
      options = options;
      marks = marks;
      joins = joins;
      position = position;
      workers = workers;
    }) history →
    Finds history (record {
      engine = engine;
      options = options;
      marks = marks;
      joins = joins;
      position = position + length entries;
      workers = workers;
    }) entries found
finds_by old engine options marks joins position workers entries found history same feeds names fed =
    let lists = lists_of engine.names found in
    record {
      fed = record {
        stands = feeds.stands history fed.stands;
        counted = omega (arith, fed.counted, length-append history entries);
      };
      events = subst (λ (compiled : List CompiledValue). AreAllWalkedEventsFrom options.two_way
          (map (λ (each : CompiledValue). each.def) compiled) history entries lists) (sym same)
          (feeds.events history fed.stands);
      numbers = subst (λ (compiled : List CompiledValue). All (λ (own : List Event).
          All (λ (event : Event). event.query < length compiled) own) lists) (sym same)
          feeds.numbers;
      have_names = names;
    }

-- an engine that was fed what is kept in the place of a history stands for the history
pub stands_in_place : StandsForAlike → (evaluator : EvaluatorValue) (kept history : List Entry)
    (position : ℕ) → IsFedOver evaluator kept → StandsInFor evaluator kept history →
    position ≡ length history → IsFedOver (record evaluator { position = position }) history
stands_in_place law evaluator kept history position fed alike counts = record {
  stands = law evaluator.engine (walked evaluator.options.two_way kept)
      (walked evaluator.options.two_way history) alike fed.stands;
  counted = counts;
}

-- a view at the position of an evaluator is one after its history
pub view_after : (evaluator : EvaluatorValue) (history : List Entry) (view : ViewValue) →
    StandsAfter evaluator history →
    IsViewAt evaluator.position (queries_of evaluator) (walked evaluator.options.two_way history)
    view → IsViewAfter evaluator history view
view_after evaluator history view stands is =
    subst (λ (n : ℕ). IsViewAt n (queries_of evaluator) (walked evaluator.options.two_way history)
    view) stands.fed.counted is

-- and where edges are taken forwards alone, it is that of the queries over the history
pub view_forwards : (evaluator : EvaluatorValue) (history : List Entry) (view : ViewValue) →
    evaluator.options.two_way ≡ false → IsViewAfter evaluator history view →
    IsViewOf (queries_of evaluator) history view
view_forwards evaluator history view forwards is =
    let own = subst (λ (two_way : Bool). IsViewAt (length history) (queries_of evaluator)
    (walked two_way history) view) forwards is in
    record { position = own.says; clock = own.clock; rows = own.rows }

-- an engine that showed a view, which changes nothing of what it stands for
pub stands_viewed : (evaluator : EvaluatorValue) (engine : EngineValue) (history : List Entry) →
    engine.queries ≡ evaluator.engine.queries →
    ((seen : List Entry) → StandsFor evaluator.engine seen → StandsFor engine seen) →
    StandsAfter evaluator history → StandsAfter (record evaluator { engine = engine }) history
stands_viewed evaluator engine history same stands after = record {
  fed = record {
    stands = stands (walked evaluator.options.two_way history) after.fed.stands;
    counted = after.fed.counted;
  };
  tells = record {
    marked = subst (λ (compiled : List CompiledValue). HaveMarks evaluator.options.paths
        (map (λ (each : CompiledValue). each.def) compiled) history evaluator.marks) (sym same)
        after.tells.marked;
    joined = subst (λ (compiled : List CompiledValue). HaveJoins evaluator.options.joins
        (map (λ (each : CompiledValue). each.def) compiled)
        (walked evaluator.options.two_way history) evaluator.joins) (sym same)
        after.tells.joined;
  };
}
