use Rattle.std.proofs.Common.{take}
use Rattle.std.specs.List.{AllZip}
use Rattle.rpq_model.specs.Query.{path_query}
use Rattle.answer_view.specs.View.{AreRowsOf}
use Rattle.plain_checks.proofs.view.plain_view.Given as goal

-- the rows of the queries so far are there
abbrev pub invariant-loop-query : goal.invariant-loop-query
invariant-loop-query l =
    AllZip (λ query rows. AreRowsOf (path_query query) l.entries rows) (take l.query-index l.queries) l.rows.items
