use Rattle.rpq_run.proofs.Faultless.{small_run}
use Rattle.rpq_run.proofs.laws.small_run_can_be_done.Goals as goal

pub returns : goal.returns
returns c = small_run c.one_two_way_outcome.ensures c.two_way_examples.ensures
    c.settings_examples.ensures c.saved_text_is_read.ensures
