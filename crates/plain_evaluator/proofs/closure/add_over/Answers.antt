use Rattle.std.proofs.Common.{◌∙◌}
use Rattle.std.proofs.lemmas.Result.{on_ok_weaker}
use Rattle.rpq_model.proofs.Closing.{over_composed}
use Rattle.plain_evaluator.proofs.closure.add_over.Goals as goal

pub returns : goal.returns
returns c =
    on_ok_weaker c.add_composed.result
    (over_composed c.args.reached.now.keys c.args.vertex.now c.deref.result.now c.deref-2.result.now c.add_composed.new.found.keys
    (c.deref.ensures.value ∙ c.in_ok-firsts.ensures) (c.deref-2.ensures.value ∙ c.in_ok-seconds.ensures))
    c.add_composed.ensures
