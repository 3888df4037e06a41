use Rattle.std.proofs.Common.{◌++◌, ℕ, List, length, take, drop, sym, ap, subst, ◌∙◌, Vec, Global}
use Rattle.std.specs.List.{AllZip}
use Rattle.std.proofs.lemmas.Slice.Zip.{AllZip-long}
use Rattle.rpq_base.specs.declared.data.Entry.{Entry}
use Rattle.rpq_model.specs.Query.{path_query}
use Rattle.answer_rows.specs.Answers.{Answer}
use Rattle.answer_view.specs.View.{AreRowsOf}
use Rattle.query_file.specs.Compiled.{CompiledValue}
use Rattle.query_index.specs.IndexValue.{IndexValue}
use Rattle.query_index.specs.Answering.{HasHistory}
use Rattle.path_engine.specs.Engine.{EngineValue, StandsFor}
use Rattle.path_engine.specs.Showing.{StandStill}
use Rattle.path_engine.proofs.Each.{AreIndexes, HaveHistories, have_histories, written_back}
use Rattle.query_index.proofs.Outcomes.{if_ok_map}
use Rattle.path_engine.proofs.Still.{engine_still, still_long}
use Rattle.path_engine.proofs.engine.Engine.rows.Goals as goal

-- the queries have their indexes
have : (c : goal.After-rows_of_each-arg-2-1) →
    HaveHistories c.self.inside.names c.self.inside.queries.items c.self.inside.indexes.items
have c =
    let inside = c.self.inside in
    let unspent = ap (λ (engine : EngineValue). engine.spent) c.self.view_is ∙ c.requires.unspent in
    let found = c.self.invariant.stands unspent in
    have_histories found.0 inside.position inside.names inside.queries.items inside.indexes.items
    c.self.invariant.short found.1.indexes

pub rows_of_each-requires-clause-as_many : goal.rows_of_each-requires-clause-as_many
rows_of_each-requires-clause-as_many c =
    let inside = c.self.inside in
    ap (λ (all : List IndexValue). length all) c.deref_mut.ensures.value
    ∙ (AllZip-long (λ (query : CompiledValue) (index : IndexValue). HasHistory query inside.names index)
    inside.queries.items inside.indexes.items (have c)
    ∙ ap (λ (all : List CompiledValue). length all)
    (sym {A = List CompiledValue} c.deref.ensures.value))

pub rows_of_each-requires-clause-indexes : goal.rows_of_each-requires-clause-indexes
rows_of_each-requires-clause-indexes c =
    let inside = c.self.inside in
    subst (λ (queries : List CompiledValue).
    HaveHistories inside.names queries c.deref_mut.result.now)
    (sym {A = List CompiledValue} c.deref.ensures.value)
    (subst (HaveHistories inside.names inside.queries.items)
    (sym {A = List IndexValue} c.deref_mut.ensures.value) (have c))

-- the engine before the call
abbrev before : goal.After-self-1 → EngineValue
before c = record {
  queries = c.self.inside.queries.items;
  position = c.self.inside.position;
  spent = c.self.inside.spent;
  names = c.self.inside.names;
  indexes = c.self.inside.indexes.items;
}

-- the indexes after it, written back into their list
abbrev indexes : goal.After-self-1 → List IndexValue
indexes c =
    let news = c.rows_of_each.new.indexes in
    let all = c.self.inside.indexes in
    take all.len (news ++ drop (length news) all.items)

-- they stand for what they stood for
still : (c : goal.After-self-1) →
    StandStill c.self.inside.queries.items c.self.inside.names c.self.inside.indexes.items
    (indexes c)
still c =
    let inside = c.self.inside in
    let queries = inside.queries.items in
    let olds = inside.indexes.items in
    let news = c.rows_of_each.new.indexes in
    let given : StandStill queries inside.names olds news =
    subst (λ (all : List CompiledValue). StandStill all inside.names olds news)
    c.deref.ensures.value
    (subst (λ (all : List IndexValue). StandStill c.deref.result.now inside.names all news)
    c.deref_mut.ensures.value c.rows_of_each.ensures.kept) in
    subst (StandStill queries inside.names olds)
    (sym {A = List IndexValue} (written_back news olds inside.indexes.len
    (still_long queries inside.names olds news given) inside.indexes.ok.0)) given

pub invariant_of-self : goal.invariant_of-self
invariant_of-self c =
    let unspent = ap (λ (engine : EngineValue). engine.spent) c.self.view_is ∙ c.requires.unspent in
    let found = c.self.invariant.stands unspent in
    record {
      some = c.self.invariant.some;
      few = c.self.invariant.few;
      table = c.self.invariant.table;
      named = c.self.invariant.named;
      short = c.self.invariant.short;
      stands = λ unspent.
          (found.0, engine_still (before c) (indexes c) (still c) found.0 found.1);
    }

pub returns-clause-rows : goal.returns-clause-rows
returns-clause-rows c = λ history stands.
    let inside = c.self.inside in
    let here = subst (λ (each : EngineValue). StandsFor each history) (sym c.self.view_is) stands in
    let are : AreIndexes history inside.position inside.names c.deref.result.now c.deref_mut.result.now =
    subst (λ (queries : List CompiledValue).
    AreIndexes history inside.position inside.names queries c.deref_mut.result.now)
    (sym {A = List CompiledValue} c.deref.ensures.value)
    (subst (AreIndexes history inside.position inside.names inside.queries.items)
    (sym {A = List IndexValue} c.deref_mut.ensures.value) here.indexes) in
    if_ok_map
    (λ (rows : Vec (List Answer) Global). (history : List Entry) (fed : ℕ) →
    AreIndexes history fed inside.names c.deref.result.now c.deref_mut.result.now →
    AllZip (λ (query : CompiledValue) (own : List Answer).
    AreRowsOf (path_query query.def) history own) c.deref.result.now rows.items)
    (λ (rows : Vec (List Answer) Global).
    AllZip (λ (query : CompiledValue) (own : List Answer).
    AreRowsOf (path_query query.def) history own) c.args.self.now.queries rows.items)
    (λ rows given.
    subst (λ (queries : List CompiledValue).
    AllZip (λ (query : CompiledValue) (own : List Answer).
    AreRowsOf (path_query query.def) history own) queries rows.items)
    (c.deref.ensures.value ∙ ap (λ (engine : EngineValue). engine.queries) c.self.view_is)
    (given history inside.position are))
    c.rows_of_each.result c.rows_of_each.ensures.rows

pub returns-clause-stands : goal.returns-clause-stands
returns-clause-stands c = λ history stands.
    let here = subst (λ (each : EngineValue). StandsFor each history) (sym c.self.view_is) stands in
    engine_still (before c) (indexes c) (still c) history here
