use Rattle.std.proofs.Common.{take}
use Rattle.delta_tree.specs.Nodes.{ids_of}
use Rattle.source_tree.proofs.Listing.{IsListing}
use Rattle.source_tree.proofs.reached.list_values.Given as goal

-- the values of the places so far
abbrev pub invariant-loop-k : goal.invariant-loop-k
invariant-loop-k l = IsListing l.finals l.tree (take l.k (ids_of l.tree)) l.reached.items
