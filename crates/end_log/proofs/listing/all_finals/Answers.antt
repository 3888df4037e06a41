use Rattle.end_log.proofs.AllFinals.{has_finals}
use Rattle.end_log.proofs.listing.all_finals.Goals as goal

pub returns : goal.returns
returns c = has_finals c.args.dfa.now c.args.finals.now c.states.ensures.valid c.requires
