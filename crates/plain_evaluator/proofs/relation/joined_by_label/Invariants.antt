use Rattle.std.proofs.Common.{◌≡◌, [], take, fold}
use Rattle.rpq_model.proofs.Composing.{with_edge}
use Rattle.plain_evaluator.proofs.relation.joined_by_label.Given as goal

-- the ends of the edges so far that have the label are found
abbrev pub invariant-loop-edge : goal.invariant-loop-edge
invariant-loop-edge l = l.found.keys ≡ fold (λ found edge. with_edge l.label found edge.now) [] (take l.edge-index l.edges)
