use Rattle.source_tree.proofs.Standing.{NoneFirst}
use Rattle.source_tree.proofs.ends.stands_in.Given as goal

-- none of the nodes so far stands beside the shifts
abbrev pub invariant-loop-k : goal.invariant-loop-k
invariant-loop-k l = NoneFirst l.product.finals l.tree l.vertex l.run l.k
