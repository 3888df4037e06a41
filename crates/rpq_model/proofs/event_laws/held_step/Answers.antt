use Rattle.std.proofs.Common.{[], ◌∷◌, ◌++◌}
use Rattle.rpq_model.proofs.AllEvents.{queries_held_step}
use Rattle.rpq_model.proofs.event_laws.held_step.Goals as goal

pub returns : goal.returns
returns c = λ queries place query before entry events held pair. queries_held_step c.same_is_equal.ensures queries place query before
    (before ++ entry ∷ []) events held pair
