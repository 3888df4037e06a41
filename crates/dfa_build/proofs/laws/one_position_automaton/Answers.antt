use Rattle.dfa_build.proofs.OneAutomaton.{one_position_automaton}
use Rattle.dfa_build.proofs.laws.one_position_automaton.Goals as goal

pub returns : goal.returns
returns c = one_position_automaton
