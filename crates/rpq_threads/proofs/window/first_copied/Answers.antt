use Rattle.std.proofs.Common.{◌∙◌}
use Rattle.std.proofs.lemmas.Result.{IfOk-weaker}
use Rattle.rpq_threads.proofs.KeptFronts.{take_least}
use Rattle.rpq_threads.proofs.window.first_copied.Goals as goal

pub returns : goal.returns
returns c =
    IfOk-weaker c.copy_all.result _ _
    (λ copies is. is ∙ take_least c.min.result 256 c.args.entries.now c.min.ensures)
    c.copy_all.ensures
