use Rattle.std.proofs.Common.{◌≡◌, ◌+◌, ℕ, List, [], ◌∷◌, ◌++◌, map, take, sym, ap, subst, ◌∙◌}
use Rattle.std.proofs.lemmas.List.{take_more}
use Rattle.rpq_base.specs.declared.data.Event.{Event}
use Rattle.rpq_base.specs.declared.data.Pair.{Pair}
use Rattle.answer_rows.specs.Answers.{pairs, row_of}
use Rattle.answer_rows.specs.BySource.{BySource, answers}
use Rattle.answer_rows.specs.Changes.{event, without}
use Rattle.answer_rows.specs.RowChanges.{row_without}
use Rattle.answer_rows.specs.declared.target.Target.{Target}
use Rattle.answer_rows.proofs.Changed.{source_told}
use Rattle.answer_rows.proofs.events.push_sources.Goals as goal

pub loop-from-preserved : goal.loop-from-preserved
loop-from-preserved c =
    let others = c.args.others.now in
    let sources = c.args.sources.now in
    let index = c.loop-from.from-index in
    let source = c.loop-from-item.result in
    let tell : Pair → Event = event c.args.kind.query c.args.kind.added in
    let so_far = c.loop-from.events.items in
    let now = c.push_row.new.events.items in
    let before = c.args.events.now.items in
    let more : now ≡ so_far ++ map tell (row_without source.0 source.1 (row_of others source.0)) =
    c.in_ok-push_row.ensures
    ∙ (ap (λ (row : List Target). so_far ++ map tell (row_without source.0 row c.targets-in-loop-from.result.now)) c.targets.ensures
    ∙ ap (λ (row : List Target). so_far ++ map tell (row_without source.0 source.1 row)) c.targets-in-loop-from.ensures.row) in
    let one : take (index + 1) sources ≡ take index sources ++ source ∷ [] =
    take_more sources index source c.loop-from-test.true
    ∙ ap (λ (each : List ℕ × List Target). take index sources ++ each ∷ []) (sym c.loop-from-item.is) in
    subst (λ (all : BySource). now ≡ before ++ map tell (without (pairs (answers all)) (pairs others))) (sym one)
    (source_told (take index sources) source.0 source.1 others tell before so_far now c.loop-from.invariant more)
