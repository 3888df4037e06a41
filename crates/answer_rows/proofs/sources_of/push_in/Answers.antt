use Rattle.std.proofs.Common.{◌∙◌, ◌++◌, ap, sym, List, ℕ, append_assoc, take, cond, []}
use Rattle.std.specs.Prelude.{flat_map}
use Rattle.answer_rows.specs.Answers.{has_target, sources_of}
use Rattle.answer_rows.specs.BySource.{answers}
use Rattle.answer_rows.specs.Listing.{source_line}
use Rattle.answer_rows.proofs.Leading.{row_at, written_more}
use Rattle.answer_rows.proofs.sources_of.push_in.Goals as goal

pub push_one-requires : goal.push_one-requires
push_one-requires c =
    row_at c.args.sources.now c.loop-from.from-index c.loop-from-item.result c.loop-from-test.true c.loop-from-item.is c.requires

pub loop-from-preserved : goal.loop-from-preserved
loop-from-preserved c =
    let to = c.args.to.now in
    let source = c.loop-from-item.result in
    let before = c.args.text.now.items in
    let so_far = flat_map source_line (sources_of (answers (take c.loop-from.from-index c.args.sources.now)) to) in
    let one : List ℕ = cond (has_target source.1 to) (source_line source.0) [] in
    let more = written_more c.args.sources.now c.loop-from.from-index source to c.loop-from-test.true c.loop-from-item.is
    (row_at c.args.sources.now c.loop-from.from-index source c.loop-from-test.true c.loop-from-item.is c.requires) in
    c.in_ok-push_one.ensures
    ∙ ap (λ (text : List ℕ). text ++ one) c.loop-from.invariant
    ∙ append_assoc before so_far one
    ∙ ap (λ (text : List ℕ). before ++ text) (sym more)
