use Rattle.dfa_build.proofs.OneAutomaton.{one_automaton}
use Rattle.dfa_build.proofs.laws.one_automaton.Goals as goal

pub returns : goal.returns
returns c = one_automaton
