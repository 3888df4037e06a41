use Rattle.std.proofs.Common.{List, ap, subst, ◌∙◌, arith}
use Rattle.std.proofs.lemmas.List.{take_all}
use Rattle.query_file.specs.Compiled.{CompiledValue}
use Rattle.path_engine.specs.Labels.{IsStrange}
use Rattle.path_engine.proofs.LabelRows.{no_rows_yet, none_strange, query_added}
use Rattle.path_engine.proofs.labels.table_of.Goals as goal

pub loop-query-init : goal.loop-query-init
loop-query-init c = record {
  rows = no_rows_yet c.args.queries.now c.new-table.result c.new-table.ensures.empty;
  others = λ label none k d below. absurd (omega (arith, below));
}

pub add_labels-requires : goal.add_labels-requires
add_labels-requires c =
    none_strange c.args.queries.now c.loop-query.query-index c.query-item.result
    c.labels.result.now c.loop-query-test.true c.query-item.is
    (c.labels.ensures.labels
    ∙ ap (λ (each : CompiledValue). each.dfa.labels) c.query.view_is)

pub loop-query-preserved : goal.loop-query-preserved
loop-query-preserved c = record {
  rows = c.in_ok-add_labels.ensures.rows c.loop-query.invariant.rows;
  others = query_added c.args.queries.now c.loop-query.query-index c.query-item.result
      c.labels.result.now c.loop-query.table c.add_labels.new.table c.loop-query-test.true
      c.query-item.is
      (c.labels.ensures.labels
      ∙ ap (λ (each : CompiledValue). each.dfa.labels) c.query.view_is)
      c.in_ok-add_labels.ensures c.loop-query.invariant.others;
}

pub returns : goal.returns
returns c = record {
  rows = c.loop-query.invariant.rows;
  others = λ label none.
      subst (λ (all : List CompiledValue). IsStrange all label)
      (take_all c.loop-query.query-index c.args.queries.now c.loop-query-test.false)
      (c.loop-query.invariant.others label none);
}
