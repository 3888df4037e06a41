use Rattle.std.proofs.Common.{ℕ, ◌+◌, List, ◌++◌, sym, ap, ◌∙◌, arith}
use Rattle.rpq_text.specs.Definitions.{definitions_of}
use Rattle.rpq_text.specs.Text.{block}
use Rattle.rpq_text.proofs.BlockLists.{read_at, blocks_with}
use Rattle.rpq_text.proofs.block.make_blocks.Goals as goal

pub loop-i-preserved : goal.loop-i-preserved
loop-i-preserved c =
    let entries = c.args.entries.now in
    let steps = c.args.steps.now in
    let many = c.requires.as_many in
    let i = c.loop-i.i in
    let entry = c.index-entries-i.result in
    let step = c.index-steps-i.result in
    let below = c.loop-i-test.true in
    let queries = definitions_of c.args.queries.now in
    let there = read_at entries i entry below c.index-entries-i.is in
    let are = read_at steps i step (omega (arith, below, many)) c.index-steps-i.is in
    c.in_ok-push_block.ensures
    ∙ (ap (λ (text : List ℕ). text ++ block queries (c.args.n + i) entry step)
    c.loop-i.invariant
    ∙ sym (blocks_with entries steps i entry step there are many queries c.args.n))
