use Rattle.std.proofs.Common.{◌∙◌, sym, ap, subst, arith}
use Rattle.std.proofs.lemmas.Slice.Zip.{AllZip-long}
use Rattle.query_file.specs.Compiled.{CompiledValue}
use Rattle.query_index.specs.Index.{IsIndexFor}
use Rattle.query_index.specs.IndexValue.{IndexValue}
use Rattle.path_engine.specs.Engine.{EngineValue, StandsFor}
use Rattle.path_engine.proofs.Each.{first_clock}
use Rattle.path_engine.proofs.engine.Engine.clock.Goals as goal

pub index-requires : goal.index-requires
index-requires c =
    let inside = c.self.inside in
    let unspent = ap (λ (engine : EngineValue). engine.spent) c.self.view_is ∙ c.requires.unspent in
    let found = c.self.invariant.stands unspent in
    let as_many = AllZip-long (λ (query : CompiledValue) (index : IndexValue).
    IsIndexFor query found.0 inside.position inside.names index) inside.queries.items inside.indexes.items
    found.1.indexes in
    omega (arith, as_many, inside.indexes.ok.0, c.self.invariant.some)

pub returns : goal.returns
returns c = λ history stands.
    let inside = c.self.inside in
    let engine = subst (λ (each : EngineValue). StandsFor each history) (sym c.self.view_is) stands
    in
    c.clock.ensures
    ∙ first_clock history inside.position inside.names inside.queries.items inside.indexes.items
    c.index.result.now c.self.invariant.some engine.indexes c.index.ensures
