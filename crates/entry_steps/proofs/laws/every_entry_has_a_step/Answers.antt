use Rattle.entry_steps.proofs.EachStep.{every_step}
use Rattle.entry_steps.proofs.laws.every_entry_has_a_step.Goals as goal

pub returns : goal.returns
returns c =
    every_step c.accepted_queries_have_events.ensures.steps c.answers_are_shown.ensures
    c.accepted_queries_have_join_events.ensures
