use Rattle.std.proofs.Common.{ℕ, List, take}
use Rattle.std.specs.List.{AllZip}
use Rattle.rpq_base.specs.declared.data.Entry.{Entry}
use Rattle.rpq_model.specs.Query.{path_query}
use Rattle.answer_rows.specs.Answers.{Answer}
use Rattle.answer_view.specs.View.{AreRowsOf}
use Rattle.query_file.specs.Compiled.{CompiledValue}
use Rattle.path_engine.specs.Showing.{StandStill}
use Rattle.path_engine.proofs.Each.{AreIndexes, HaveHistories}
use Rattle.path_engine.proofs.showing.rows_of_each.Given as goal

-- the queries so far have their rows, and all indexes stand for what they stood for
abbrev pub invariant-loop-place : goal.invariant-loop-place
invariant-loop-place l = record {
  have : HaveHistories l.names l.queries l.indexes;
  still : StandStill l.queries l.names l.fn.indexes l.indexes;
  shown : (history : List Entry) (fed : ℕ) →
      AreIndexes history fed l.names l.queries l.fn.indexes →
      AllZip (λ (query : CompiledValue) (own : List Answer).
      AreRowsOf (path_query query.def) history own) (take l.place l.queries) l.rows.items;
}
