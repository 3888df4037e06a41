use Rattle.rpq_model.proofs.AllEvents.{each_has_one_list}
use Rattle.rpq_model.proofs.event_laws.each_has_one_list.Goals as goal

pub returns : goal.returns
returns c = each_has_one_list
