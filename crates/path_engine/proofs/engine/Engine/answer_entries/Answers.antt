use Rattle.std.proofs.Common.{ℕ, ◌+◌, false, List, Option, ◌++◌, length, map}
use Rattle.std.proofs.Common.{refl, sym, ap, subst, arith}
use Rattle.std.specs.List.{AllZip}
use Rattle.rpq_base.specs.declared.data.Event.{Event}
use Rattle.end_events.specs.Named.{named}
use Rattle.query_file.specs.Compiled.{CompiledValue}
use Rattle.query_index.specs.IndexValue.{IndexValue}
use Rattle.path_engine.specs.declared.ends.EdgeNumbers.{EdgeNumbers}
use Rattle.path_engine.specs.Ends.{AreAllEndsFor}
use Rattle.path_engine.specs.Front.{HasHistoryFor, HaveAnsweredAll}
use Rattle.path_engine.specs.Engine.{EngineValue}
use Rattle.path_engine.specs.Feeding.{FeedsFront}
use Rattle.path_engine.proofs.Fronts.{front_fed, front_fed_stands, front_named, histories_for}
use Rattle.path_engine.proofs.Fronts.{items_of, lists_have_names, lists_named}
use Rattle.path_engine.proofs.engine.Engine.answer_entries.Given.{Over}
use Rattle.path_engine.proofs.engine.Engine.answer_entries.Goals as goal

abbrev Have : ℕ → List (List ℕ) → List CompiledValue → List IndexValue → Type 0
Have more names queries indexes =
    AllZip (λ (query : CompiledValue) (index : IndexValue). HasHistoryFor more query names index)
    queries indexes

-- the queries have their indexes before they answer
pub answer_by_query-requires-clause-indexes : goal.answer_by_query-requires-clause-indexes
answer_by_query-requires-clause-indexes g c = λ lifetimes within.
    let inside = c.self.inside in
    let old : EngineValue = record {
      queries = inside.queries.items;
      position = inside.position;
      spent = inside.spent;
      names = inside.names;
      indexes = inside.indexes.items;
    } in
    let names = c.ends_for_all.new.names in
    let found = c.self.invariant.stands c.if-self.false in
    subst (λ (queries : List CompiledValue). Have (length c.args.entries.now) names queries old.indexes)
    (sym {A = List CompiledValue} c.deref.ensures.value)
    (histories_for c.more_names_keep_indexes.ensures old found.0 names (length c.args.entries.now) found.1
    (omega (arith, ap (λ (engine : EngineValue). engine.position) c.self.view_is, c.requires.short))
    c.in_ok-ends.ensures.kept)

pub answer_by_query-requires-clause-ends : goal.answer_by_query-requires-clause-ends
answer_by_query-requires-clause-ends g c = λ lifetimes within.
    let names = c.ends_for_all.new.names in
    let entries = c.args.entries.now in
    subst (λ (queries : List CompiledValue).
    AreAllEndsFor names queries entries c.deref-2.result.now)
    (sym {A = List CompiledValue} c.deref.ensures.value)
    (subst (AreAllEndsFor names c.self.inside.queries.items entries)
    (sym {A = List (Option EdgeNumbers)} c.deref-2.ensures.value)
    (c.in_ok-ends.ensures.ends c.self.inside.queries.items c.self.invariant.table))

-- the engine before the call
abbrev before : (g : Over) → goal.After-drop-ends-2 g → EngineValue
before g c = record {
  queries = c.self.inside.queries.items;
  position = c.self.inside.position;
  spent = c.self.inside.spent;
  names = c.self.inside.names;
  indexes = c.self.inside.indexes.items;
}

-- the engine after it
abbrev after : (g : Over) → goal.After-drop-ends-2 g → EngineValue
after g c = record {
  queries = c.self.inside.queries.items;
  position = c.self.inside.position + length c.args.entries.now;
  spent = false;
  names = c.ends_for_all.new.names;
  indexes = c.answer_by_query.new.indexes.items;
}

-- the queries have answered the entries
answered : (g : Over) (c : goal.After-drop-ends-2 g) →
    HaveAnsweredAll c.ends_for_all.new.names c.args.entries.now 0 c.self.inside.queries.items
    c.self.inside.indexes.items c.answer_by_query.new.indexes.items
    (items_of c.in_ok-events.events.items)
answered g c =
    subst (λ (each : List CompiledValue).
    HaveAnsweredAll c.ends_for_all.new.names c.args.entries.now 0 each
    c.self.inside.indexes.items c.answer_by_query.new.indexes.items
    (items_of c.in_ok-events.events.items)) c.deref.ensures.value c.in_ok-events.ensures

pub invariant_of-self-2 : goal.invariant_of-self-2
invariant_of-self-2 g c =
    let found = c.self.invariant.stands c.if-self.false in
    record {
      some = c.self.invariant.some;
      few = c.self.invariant.few;
      table = c.self.invariant.table;
      named = c.in_ok-ends.ensures.named;
      short = omega (
        arith,
        ap (λ (engine : EngineValue). engine.position) c.self.view_is,
        c.requires.short,
      );
      stands = λ unspent. (
        found.0 ++ c.args.entries.now,
        front_fed_stands c.more_names_keep_indexes.ensures (before g c) (after g c) c.args.entries.now
            (items_of c.in_ok-events.events.items) refl refl refl c.in_ok-ends.ensures.kept
            c.in_ok-ends.ensures.grown (answered g c) found.0 found.1,
      );
    }

pub returns-clause-feeds : goal.returns-clause-feeds
returns-clause-feeds g c =
    let entries = c.args.entries.now in
    let lists = c.in_ok-events.events.items in
    subst (λ (events : List (List Event)).
    FeedsFront c.args.self.now entries (after g c) events)
    (lists_named c.ends_for_all.new.names lists)
    (subst (λ (engine : EngineValue). FeedsFront engine entries (after g c)
    (map (map (named c.ends_for_all.new.names)) (items_of lists))) c.self.view_is
    (front_fed c.more_names_keep_indexes.ensures (before g c) (after g c) entries (items_of lists) refl refl
    refl c.in_ok-ends.ensures.kept c.in_ok-ends.ensures.grown (answered g c)
    (c.in_ok-ends.ensures.same c.self.inside.queries.items c.self.invariant.table)))

pub returns-clause-have_names : goal.returns-clause-have_names
returns-clause-have_names g c =
    let names = c.ends_for_all.new.names in
    let lists = c.in_ok-events.events.items in
    lists_have_names names lists
    (front_named names c.args.entries.now c.self.inside.queries.items c.self.inside.indexes.items
    c.answer_by_query.new.indexes.items (items_of lists) (answered g c))
