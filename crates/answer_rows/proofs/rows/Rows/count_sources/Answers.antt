use Rattle.std.proofs.Common.{sym, subst, ◌∙◌}
use Rattle.std.specs.Prelude.{All}
use Rattle.std.specs.Map.{values_of}
use Rattle.answer_rows.specs.Answers.{AreTargets}
use Rattle.answer_rows.specs.BySource.{BySource, IsHeldRow}
use Rattle.answer_rows.proofs.Leading.{chunk_rows}
use Rattle.answer_rows.proofs.rows.Rows.count_sources.Goals as goal

pub count_in-requires : goal.count_in-requires
count_in-requires c =
    let chunks = c.chunks-chunk-items.result.now in
    let held = subst (λ (all : BySource). All IsHeldRow (values_of all)) (sym c.chunks-chunk-items.ensures.entries) c.self.invariant.rows in
    subst (λ (all : BySource). All AreTargets (values_of all)) (sym (c.entries.ensures ∙ c.deref.ensures))
    (chunk_rows chunks c.loop-chunk.chunk-index c.chunk-item.result c.loop-chunk-test.true c.chunk-item.is held)
