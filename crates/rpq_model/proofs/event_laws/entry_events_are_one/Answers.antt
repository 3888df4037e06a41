use Rattle.std.proofs.Common.{[], ◌∷◌, ◌++◌}
use Rattle.rpq_model.proofs.AllEvents.{under_one}
use Rattle.rpq_model.proofs.event_laws.entry_events_are_one.Goals as goal

pub returns : goal.returns
returns c = λ queries before entry events others. under_one queries 0 before (before ++ entry ∷ []) events others
