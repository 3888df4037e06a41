use Rattle.std.proofs.Common.{◌≡◌, false, take}
use Rattle.std.specs.List.{list_any}
use Rattle.delta_tree.specs.Paths.{hangs_by}
use Rattle.delta_tree.proofs.node_map.NodeMap.has_edge.Given as goal

-- none of the first nodes hangs by the edge
abbrev pub invariant-loop-place : goal.invariant-loop-place
invariant-loop-place l = list_any (hangs_by l.edge) (take l.place l.self) ≡ false
