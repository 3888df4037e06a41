use Rattle.std.proofs.Common.{length}
use Rattle.rpq_cases.proofs.automata.+leads_to_final.Given as goal

-- each step takes a label from the word
abbrev pub decreases-leads_to_final : goal.decreases-leads_to_final
decreases-leads_to_final l = length l.word.now
