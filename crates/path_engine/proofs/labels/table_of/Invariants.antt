use Rattle.std.proofs.Common.{◌≡◌, None, take}
use Rattle.rpq_base.specs.declared.data.Label.{Label}
use Rattle.path_engine.specs.Labels.{AreRows, IsStrange, row_at}
use Rattle.path_engine.proofs.labels.table_of.Given as goal

-- the labels of the queries so far have their rows
abbrev pub invariant-loop-query : goal.invariant-loop-query
invariant-loop-query l = record {
  rows : AreRows l.queries l.table;
  others : (label : Label) → row_at l.table label ≡ None →
      IsStrange (take l.query-index l.queries) label;
}
