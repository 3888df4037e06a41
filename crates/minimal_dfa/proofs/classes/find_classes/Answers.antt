use Rattle.std.proofs.Common.{subst}
use Rattle.dfa_table.specs.DfaValue.{IsDfa}
use Rattle.minimal_dfa.proofs.Standing.{never_full}
use Rattle.minimal_dfa.proofs.classes.find_classes.Goals as goal

pub returns-clause-fits : goal.returns-clause-fits
returns-clause-fits c = λ is.
    never_full c.args.pairs.now (subst IsDfa c.dfa.ensures c.states.ensures.valid) (c.discover.ensures.full is)
