use Rattle.std.proofs.Common.{take, []}
use Rattle.state_pairs.specs.Rounds.{Marks, LeadsToOne}
use Rattle.state_pairs.proofs.search.next_round.Given as goal

-- the nodes with a step to one of the last nodes so far are marked
abbrev pub invariant-loop-node : goal.invariant-loop-node
invariant-loop-node l = Marks (LeadsToOne l.sources (take l.node-index l.last)) l.level l.initial.levels l.levels [] l.found.items
