use Rattle.std.proofs.Common.{◌≡◌, ℕ, List, length, Option, Some, slice_get, Vec, Global, sym, ap, subst, ◌∙◌, arith}
use Rattle.std.proofs.lemmas.Option.{slice_get_within, get_or_from_slice_get}
use Rattle.std.proofs.lemmas.Slice.Zip.{AllZip-long}
use Rattle.rpq_base.specs.declared.data.Edge.{Edge}
use Rattle.rpq_base.specs.declared.data.Entry.{Entry}
use Rattle.rpq_base.specs.declared.data.Pair.{Pair}
use Rattle.query_file.specs.Compiled.{CompiledValue}
use Rattle.query_index.specs.IndexValue.{IndexValue}
use Rattle.query_index.specs.Answering.{HasHistory}
use Rattle.path_engine.specs.Engine.{EngineValue, StandsFor}
use Rattle.query_index.specs.Index.{IsIndexFor}
use Rattle.query_index.specs.Paths.{ShowsPair}
use Rattle.path_engine.proofs.Each.{have_histories, zip_at}
use Rattle.query_index.proofs.Outcomes.{if_ok_map}
use Rattle.path_engine.proofs.engine.Engine.best_path.Goals as goal

pub index-index-requires : goal.index-index-requires
index-index-requires c =
    let inside = c.self.inside in
    let unspent = ap (λ (engine : EngineValue). engine.spent) c.self.view_is ∙ c.requires.unspent in
    let found = c.self.invariant.stands unspent in
    let as_many = AllZip-long (λ (query : CompiledValue) (index : IndexValue).
    IsIndexFor query found.0 inside.position inside.names index) inside.queries.items inside.indexes.items
    found.1.indexes in
    let queries = ap (λ (engine : EngineValue). length engine.queries) c.self.view_is in
    omega (arith, as_many, inside.indexes.ok.0, queries, c.requires.some)

pub best_path-requires : goal.best_path-requires
best_path-requires c =
    let inside = c.self.inside in
    let unspent = ap (λ (engine : EngineValue). engine.spent) c.self.view_is ∙ c.requires.unspent in
    let found = c.self.invariant.stands unspent in
    let have = have_histories found.0 inside.position inside.names inside.queries.items
    inside.indexes.items c.self.invariant.short found.1.indexes in
    let queries = ap (λ (engine : EngineValue). length engine.queries) c.self.view_is in
    zip_at (λ (query : CompiledValue) (index : IndexValue). HasHistory query inside.names index)
    inside.queries.items inside.indexes.items c.args.q c.index-query.result.now
    c.index-index.result.now have
    (omega (arith, queries, c.requires.some)) c.index-query.ensures c.index-index.ensures

pub returns : goal.returns
returns c =
    let inside = c.self.inside in
    let queries = inside.queries.items in
    let here = c.index-query.result.now in
    let index = c.index-index.result.now in
    let pair : Pair = record { from = c.args.x.now; to = c.args.y.now } in
    if_ok_map
    (λ (found : Option (Vec Edge Global)). (history : List Entry) (fed : ℕ) →
    IsIndexFor here history fed inside.names index → ShowsPair here.def history pair found)
    (λ (found : Option (Vec Edge Global)). (history : List Entry) →
    StandsFor c.args.self.now history → (query : CompiledValue) →
    slice_get c.args.self.now.queries c.args.q ≡ Some query →
    ShowsPair query.def history pair found)
    (λ found shows. λ history stands query query_is.
    let engine = subst (λ (each : EngineValue). StandsFor each history) (sym c.self.view_is) stands
    in
    let there = subst (λ (each : EngineValue). slice_get each.queries c.args.q ≡ Some query)
    (sym c.self.view_is) query_is in
    let same : here ≡ query =
    c.index-query.ensures ∙ get_or_from_slice_get queries c.args.q query here there in
    let is = zip_at (λ (each : CompiledValue) (own : IndexValue).
    IsIndexFor each history inside.position inside.names own) queries inside.indexes.items c.args.q query index
    engine.indexes (slice_get_within queries c.args.q query there)
    (sym (get_or_from_slice_get queries c.args.q query query there)) c.index-index.ensures in
    subst (λ (each : CompiledValue). ShowsPair each.def history pair found) same
    (shows history inside.position (subst (λ (each : CompiledValue).
    IsIndexFor each history inside.position inside.names index) (sym {A = CompiledValue} same) is)))
    c.best_path.result c.best_path.ensures
