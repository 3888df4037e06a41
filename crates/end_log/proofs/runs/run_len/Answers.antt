use Rattle.std.proofs.Common.{◌≡◌, true, sym, ◌∙◌, arith}
use Rattle.std.proofs.lemmas.List.Elements.{All-more}
use Rattle.end_log.specs.declared.moved.Moved.{Moved}
use Rattle.end_log.specs.Runs.{is_beside}
use Rattle.end_log.proofs.Left.{node_by}
use Rattle.end_log.proofs.runs.run_len.Goals as goal

pub loop-len-preserved : goal.loop-len-preserved
loop-len-preserved c = (
  omega (arith, c.loop-len-test.true),
  All-more (λ (each : Moved). is_beside c.args.first each ≡ true) c.args.moved.now c.loop-len.len
      (node_by 0 0 0) c.loop-len-test.true c.loop-len.invariant.1
      (sym c.is_beside.ensures ∙ c.if-is_beside.true),
)
