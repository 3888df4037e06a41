use Rattle.std.proofs.Common.{◌≡◌, ◌<◌, length, Some, slice_get, option_map, refl, sym, ap, subst, ◌∙◌, arith}
use Rattle.std.proofs.lemmas.Option.{slice_get-map, slice_get_read, slice_get_within, get_or_from_slice_get}
use Rattle.std.proofs.lemmas.Slice.Zip.{AllZip-long}
use Rattle.delta_forest.specs.Forest.{ForestValue}
use Rattle.query_file.specs.Compiled.{CompiledValue}
use Rattle.query_index.specs.Index.{IsForestFor, IsIndexFor}
use Rattle.query_index.specs.IndexValue.{IndexValue}
use Rattle.path_engine.specs.Engine.{EngineValue, StandsFor, forests}
use Rattle.path_engine.proofs.Each.{forest_of, zip_at}
use Rattle.path_engine.proofs.engine.Engine.forest.Goals as goal

pub index-index-requires : goal.index-index-requires
index-index-requires c =
    let inside = c.self.inside in
    let unspent = ap (λ (engine : EngineValue). engine.spent) c.self.view_is ∙ c.requires.unspent in
    let found = c.self.invariant.stands unspent in
    let as_many = AllZip-long (λ (query : CompiledValue) (index : IndexValue).
    IsIndexFor query found.0 inside.position inside.names index) inside.queries.items inside.indexes.items
    found.1.indexes in
    let queries = ap (λ (engine : EngineValue). length engine.queries) c.self.view_is in
    omega (arith, as_many, inside.indexes.ok.0, queries, c.requires.some)

pub returns-clause-forest : goal.returns-clause-forest
returns-clause-forest c =
    let inside = c.self.inside in
    let index = c.index-index.result.now in
    let unspent = ap (λ (engine : EngineValue). engine.spent) c.self.view_is ∙ c.requires.unspent in
    let found = c.self.invariant.stands unspent in
    let as_many = AllZip-long (λ (query : CompiledValue) (index : IndexValue).
    IsIndexFor query found.0 inside.position inside.names index) inside.queries.items inside.indexes.items
    found.1.indexes in
    let queries = ap (λ (engine : EngineValue). length engine.queries) c.self.view_is in
    let within : c.args.q < length inside.indexes.items =
    omega (arith, as_many, queries, c.requires.some) in
    let there = slice_get_read inside.indexes.items (length inside.indexes.items) c.args.q index refl
    within c.index-index.ensures in
    subst (λ (engine : EngineValue). slice_get (forests engine) c.args.q ≡ Some c.forest.result.now)
    c.self.view_is
    (slice_get-map forest_of inside.indexes.items c.args.q
    ∙ (ap (option_map forest_of) there
    ∙ ap (λ (forest : ForestValue). Some forest) (sym c.forest.ensures.forest)))

pub returns-clause-stands : goal.returns-clause-stands
returns-clause-stands c = λ history stands query query_is.
    let inside = c.self.inside in
    let index = c.index-index.result.now in
    let queries = inside.queries.items in
    let here = c.index-query.result.now in
    let engine = subst (λ (each : EngineValue). StandsFor each history) (sym c.self.view_is) stands
    in
    let there = subst (λ (each : EngineValue). slice_get each.queries c.args.q ≡ Some query)
    (sym c.self.view_is) query_is in
    let is = zip_at (λ (each : CompiledValue) (own : IndexValue).
    IsIndexFor each history inside.position inside.names own) queries inside.indexes.items c.args.q query index
    engine.indexes (slice_get_within queries c.args.q query there)
    (sym (get_or_from_slice_get queries c.args.q query query there)) c.index-index.ensures in
    let same : here ≡ query =
    c.index-query.ensures ∙ get_or_from_slice_get queries c.args.q query here there in
    subst (λ (each : EngineValue). IsForestFor query history each.names c.forest.result.now)
    c.self.view_is
    (subst (λ (each : CompiledValue). IsForestFor each history inside.names c.forest.result.now) same
    (c.forest.ensures.is history inside.position inside.names
    (subst (λ (each : CompiledValue). IsIndexFor each history inside.position inside.names index)
    (sym {A = CompiledValue} same) is)))
