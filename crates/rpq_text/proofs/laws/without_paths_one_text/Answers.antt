use Rattle.rpq_text.proofs.Texts.{one_text}
use Rattle.rpq_text.proofs.laws.without_paths_one_text.Goals as goal

pub returns : goal.returns
returns c = one_text c.accepted_queries_have_join_events.ensures
