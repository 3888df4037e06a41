use Rattle.std.proofs.Common.{sym, subst}
use Rattle.query_index.specs.Index.{IsForestFor}
use Rattle.query_index.proofs.Stepping.{forest_for}
use Rattle.query_index.proofs.index.QueryIndex.forest.Goals as goal

pub returns-clause-is : goal.returns-clause-is
returns-clause-is c = λ history fed names is.
    let query = c.args.query.now in
    subst (IsForestFor query history names) (sym c.trees.ensures)
    (forest_for c.kept_is_best.ensures c.index_keeps_bests.ensures query history fed names c.args.self.now
    c.mode_of-mode.ensures.slide c.mode_of-mode.ensures.compiled is)
