-- Forests without trees.
use Rattle.std.proofs.Common.{◌≡◌, List, None, ap, subst}
use Rattle.std.specs.Option.{option_and_then}
use Rattle.delta_tree.specs.Nodes.{TreeValue, node_id, value_of}
use Rattle.delta_forest.specs.Forest.{kept, tree_in}
use Rattle.index_laws.specs.Best.{IsBestAt}
use Rattle.query_index.specs.IndexLaws.{BareForestsReachNothing}

pub reaches_nothing : BareForestsReachNothing
reaches_nothing query history names forest store is bare store_is from to state best found =
    let bests = is.bests store store_is in
    let numbers = bests.numbered from to state best found in
    let none : kept forest numbers.0 numbers.1 state ≡ None =
    ap (λ (trees : List TreeValue).
    option_and_then (λ (tree : TreeValue). value_of tree (node_id numbers.1 state))
    (tree_in trees numbers.0)) bare in
    let nothing = subst (IsBestAt store forest.dfa from to state) none
    (bests.named from to numbers.0 numbers.1 state numbers.2) in
    nothing best found.is
