use Rattle.std.proofs.Common.{◌+◌, List, [], take, sym, subst}
use Rattle.query_file.specs.Compiled.{CompiledValue}
use Rattle.query_index.specs.IndexValue.{IndexValue}
use Rattle.query_index.specs.Index.{IsIndexFor}
use Rattle.path_engine.proofs.Each.{AreIndexes, zip_more}
use Rattle.path_engine.proofs.indexes.indexes_of.Goals as goal

pub loop-query-preserved : goal.loop-query-preserved
loop-query-preserved c =
    let queries = c.args.queries.now in
    let place = c.loop-query.query-index in
    subst (λ (all : List IndexValue). AreIndexes [] 0 [] (take (place + 1) queries) all)
    (sym {A = List IndexValue} c.in_ok-push.ensures.items)
    (zip_more (λ (query : CompiledValue) (index : IndexValue). IsIndexFor query [] 0 [] index) queries
    c.loop-query.indexes.items place c.query-item.result c.in_ok-new.field-0
    c.loop-query-test.true c.query-item.is c.loop-query.invariant c.in_ok-new.ensures)
