-- Equal places of nodes, and look-ups by them.
use Rattle.std.proofs.Common.{◌≡◌, ℕ, option_map, Bool, true, false, ◌&&◌, ◌==◌, cond, [], Option, None, Some, refl, sym, ap, ap₂, ◌∙◌, true≢false, eq-eqb, rules}
use Rattle.std.proofs.lemmas.Bool.{eqb-true}
use Rattle.std.specs.Cmp.{IsEquivalence}
use Rattle.std.specs.Cmp.Rules.{comparing}
use Rattle.std.specs.List.{IsDistinct}
use Rattle.std.specs.Map.{keys_of}
use Rattle.std.specs.Option.{IsSome}
use Rattle.std.proofs.lemmas.Map.Views.{Contains-keys_from_lookup, IsSome-lookup_from_Contains}
use Rattle.edge_store.specs.declared.edge.EdgeId.{EdgeId}
use Rattle.edge_store.specs.Edges.{same_edge}
use Rattle.delta_tree.specs.declared.node.NodeId.{NodeId}
use Rattle.delta_tree.specs.Nodes.{Node, TreeValue, same_node, node_in, GivesNodes}

-- both parts of a test that passes
both : (a b : Bool) → (a && b) ≡ true → (a ≡ true) × (b ≡ true)
both true true is = (refl, refl)
both true false is = absurd (true≢false (sym is))
both false b is = absurd (true≢false (sym is))

-- equal places are one
pub same_node_is : (a b : NodeId) → same_node a b ≡ true → a ≡ b
same_node_is a b is =
    let parts : ((a.vertex == b.vertex) ≡ true) × ((a.state == b.state) ≡ true) =
    both (a.vertex == b.vertex) (a.state == b.state) is in
    λ i. record {
      vertex = eqb-true a.vertex b.vertex parts.0 i;
      state = eqb-true a.state b.state
          parts.1 i;
    }

-- the equality of places is one
pub same_node_laws : IsEquivalence same_node
same_node_laws = search (comparing, rules)

-- what is found is there
pub found_is_some : {X : Type 0} (found : Option X) (x : X) → found ≡ Some x → IsSome found
found_is_some None x is = absurd cc
found_is_some (Some y) x is = refl

pub some_is_found : {X : Type 0} (found : Option X) → IsSome found → (x : X) × (found ≡ Some x)
some_is_found None is = absurd (true≢false (sym is))
some_is_found (Some x) is = (x, refl)

-- the walk over distinct places gives the nodes
pub gives_nodes : (tree : TreeValue) → IsDistinct same_node (keys_of tree.nodes) → GivesNodes tree
gives_nodes tree distinct = record {
  exact = λ id. (
    (λ there. some_is_found (node_in tree.nodes id)
        (IsSome-lookup_from_Contains same_node_laws id tree.nodes there)),
    (λ (node, is). Contains-keys_from_lookup same_node_is id tree.nodes
        (found_is_some (node_in tree.nodes id) node is)),
  );
  once = distinct;
}

-- no two options differ
pub none_or_some : {X : Type 0} (x : X) → None ≡ Some x → ⊥
none_or_some x is = cc

-- what is there after a change at one place
pub changed_there : (old : Option Node) (id each : NodeId) (value : Option Node) → id ≡ each →
    cond (same_node id each) value old ≡ value
changed_there old id each value is =
    ap (λ b. cond b value old) (ap (same_node id) (sym is) ∙ same_node_laws.refl id)

-- and at another
pub changed_else : (old : Option Node) (id each : NodeId) (value : Option Node) → (id ≡ each → ⊥) →
    cond (same_node id each) value old ≡ old
changed_else old id each value apart = by (same_node id each) refl
  where
    by : (b : Bool) → same_node id each ≡ b → cond b value old ≡ old
    by true same = absurd (apart (same_node_is id each same))
    by false other = refl

-- one value at most is found
pub some_is_one : {X : Type 0} (x y : X) → Some x ≡ Some y → x ≡ y
some_is_one x y is = cc

-- the value of a node that is found
pub value_is : (found : Option Node) (node : Node) (value : ℕ) → found ≡ Some node →
    option_map (λ (each : Node). each.value) found ≡ Some value → node.value ≡ value
value_is found node value is has =
    some_is_one node.value value (sym (ap (option_map (λ (each : Node). each.value)) is) ∙ has)

pub value_has_node : (found : Option Node) (value : ℕ) →
    option_map (λ (each : Node). each.value) found ≡ Some value →
    (node : Node) × (found ≡ Some node)
value_has_node None value is = absurd (none_or_some value is)
value_has_node (Some node) value is = (node, refl)

-- an edge equals itself
pub same_edge_itself : (edge : EdgeId) → same_edge edge edge ≡ true
same_edge_itself edge =
    ap₂ (λ a b. a && b) (eq-eqb edge.from edge.from refl)
    (ap₂ (λ a b. a && b) (eq-eqb edge.label edge.label refl) (eq-eqb edge.to edge.to refl))

-- equal edges are one
pub same_edge_is : (a b : EdgeId) → same_edge a b ≡ true → a ≡ b
same_edge_is a b is =
    let parts : ((a.from == b.from) ≡ true) × (((a.label == b.label) && (a.to == b.to)) ≡ true) =
    both (a.from == b.from) ((a.label == b.label) && (a.to == b.to)) is in
    let rest : ((a.label == b.label) ≡ true) × ((a.to == b.to) ≡ true) =
    both (a.label == b.label) (a.to == b.to) parts.1 in
    λ i. record {
      from = eqb-true a.from b.from parts.0 i;
      label = eqb-true a.label b.label rest.0
          i;
      to = eqb-true a.to b.to rest.1 i;
    }

-- of no places, each is once
pub nothing_once : IsDistinct same_node []
unfolding IsDistinct
nothing_once = tt
