use Rattle.std.proofs.Common.{◌≡◌, ◌≤◌, ◌^◌, ◌++◌, List, length, take, drop, sym, ap, subst, ◌∙◌}
use Rattle.std.proofs.lemmas.Slice.Zip.{AllZip-long}
use Rattle.rpq_base.specs.declared.data.Entry.{Entry}
use Rattle.query_file.specs.Compiled.{CompiledValue}
use Rattle.query_index.specs.IndexValue.{IndexValue}
use Rattle.query_index.specs.Answering.{HasHistory}
use Rattle.path_engine.specs.Engine.{EngineValue, StandsFor, forests}
use Rattle.path_engine.specs.Showing.{AreRefreshed, StandStill}
use Rattle.path_engine.proofs.Each.{HaveHistories, have_histories, written_back}
use Rattle.path_engine.proofs.Refreshed.{refreshed_stand}
use Rattle.path_engine.proofs.Still.{engine_still, still_long}
use Rattle.path_engine.proofs.engine.Engine.refresh.Given.{Over}
use Rattle.path_engine.proofs.engine.Engine.refresh.Goals as goal

-- the queries have their indexes
have : (engine : EngineValue) → engine.position ≤ 2 ^ 30 →
    ((history : List Entry) × StandsFor engine history) →
    HaveHistories engine.names engine.queries engine.indexes
have engine short found =
    have_histories found.0 engine.position engine.names engine.queries engine.indexes short
    found.1.indexes

pub refresh_all-requires-clause-as_many : goal.refresh_all-requires-clause-as_many
refresh_all-requires-clause-as_many g c = λ lifetimes within.
    let inside = c.self.inside in
    let unspent = ap (λ (engine : EngineValue). engine.spent) c.self.view_is ∙ c.requires.unspent in
    let engine : EngineValue = record {
      queries = inside.queries.items;
      position = inside.position;
      spent = inside.spent;
      names = inside.names;
      indexes = inside.indexes.items;
    } in
    ap (λ (all : List IndexValue). length all) c.deref_mut.ensures.value
    ∙ (AllZip-long (λ (query : CompiledValue) (index : IndexValue). HasHistory query inside.names index)
    inside.queries.items inside.indexes.items
    (have engine c.self.invariant.short (c.self.invariant.stands unspent))
    ∙ ap (λ (all : List CompiledValue). length all)
    (sym {A = List CompiledValue} c.deref.ensures.value))

pub refresh_all-requires-clause-indexes : goal.refresh_all-requires-clause-indexes
refresh_all-requires-clause-indexes g c = λ lifetimes within.
    let inside = c.self.inside in
    let unspent = ap (λ (engine : EngineValue). engine.spent) c.self.view_is ∙ c.requires.unspent in
    let engine : EngineValue = record {
      queries = inside.queries.items;
      position = inside.position;
      spent = inside.spent;
      names = inside.names;
      indexes = inside.indexes.items;
    } in
    subst (λ (queries : List CompiledValue).
    HaveHistories inside.names queries c.deref_mut.result.now)
    (sym {A = List CompiledValue} c.deref.ensures.value)
    (subst (HaveHistories inside.names inside.queries.items)
    (sym {A = List IndexValue} c.deref_mut.ensures.value)
    (have engine c.self.invariant.short (c.self.invariant.stands unspent)))

-- the engine before the call
abbrev before : (g : Over) → goal.After-self-1 g → EngineValue
before g c = record {
  queries = c.self.inside.queries.items;
  position = c.self.inside.position;
  spent = c.self.inside.spent;
  names = c.self.inside.names;
  indexes = c.self.inside.indexes.items;
}

-- the indexes after it, written back into their list
abbrev indexes : (g : Over) → goal.After-self-1 g → List IndexValue
indexes g c =
    let news = c.refresh_all.new.indexes in
    let all = c.self.inside.indexes in
    take all.len (news ++ drop (length news) all.items)

-- they stand for what they stood for
still : (g : Over) (c : goal.After-self-1 g) →
    StandStill c.self.inside.queries.items c.self.inside.names c.self.inside.indexes.items
    (indexes g c)
still g c =
    let inside = c.self.inside in
    let queries = inside.queries.items in
    let olds = inside.indexes.items in
    let news = c.refresh_all.new.indexes in
    let same : c.deref_mut.result.now ≡ olds = c.deref_mut.ensures.value in
    let long : length news ≡ length olds =
    c.refresh_all.auto.indexes ∙ ap (λ (all : List IndexValue). length all) same in
    let are : AreRefreshed queries inside.names 0 olds news =
    subst (λ (all : List CompiledValue). AreRefreshed all inside.names 0 olds news)
    c.deref.ensures.value
    (subst (λ (all : List IndexValue). AreRefreshed c.deref.result.now inside.names 0 all news)
    same c.refresh_all.ensures) in
    let unspent = ap (λ (engine : EngineValue). engine.spent) c.self.view_is ∙ c.requires.unspent in
    let as_many : length olds ≡ length queries =
    AllZip-long (λ (query : CompiledValue) (index : IndexValue). HasHistory query inside.names index)
    queries olds (have (before g c) c.self.invariant.short (c.self.invariant.stands unspent)) in
    let given = refreshed_stand queries inside.names olds news long are as_many in
    subst (StandStill queries inside.names olds)
    (sym {A = List IndexValue} (written_back news olds inside.indexes.len
    (still_long queries inside.names olds news given) inside.indexes.ok.0)) given

pub invariant_of-self : goal.invariant_of-self
invariant_of-self g c =
    let unspent = ap (λ (engine : EngineValue). engine.spent) c.self.view_is ∙ c.requires.unspent in
    let found = c.self.invariant.stands unspent in
    record {
      some = c.self.invariant.some;
      few = c.self.invariant.few;
      table = c.self.invariant.table;
      named = c.self.invariant.named;
      short = c.self.invariant.short;
      stands = λ unspent.
          (found.0, engine_still (before g c) (indexes g c) (still g c) found.0 found.1);
    }

pub returns-clause-stands : goal.returns-clause-stands
returns-clause-stands g c = λ history stands.
    let here = subst (λ (each : EngineValue). StandsFor each history) (sym c.self.view_is) stands in
    engine_still (before g c) (indexes g c) (still g c) history here

pub returns-clause-forests : goal.returns-clause-forests
returns-clause-forests g c = (still g c).forests ∙ ap forests c.self.view_is
