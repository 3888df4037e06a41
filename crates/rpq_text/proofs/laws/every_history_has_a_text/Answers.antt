use Rattle.rpq_text.proofs.Texts.{every_text}
use Rattle.rpq_text.proofs.laws.every_history_has_a_text.Goals as goal

pub returns-clause-text : goal.returns-clause-text
returns-clause-text c = every_text c.every_entry_has_a_step.ensures
