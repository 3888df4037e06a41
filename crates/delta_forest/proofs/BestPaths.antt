-- The paths of nodes, from the first edge to the last.
use Rattle.std.proofs.Common.{◌≡◌, ℕ, Bool, List, [], ◌∷◌, ◌++◌, Option, Some, None, Result, Ok, Err, Vec, Global, refl, sym, ap, subst, ◌∙◌, inl, ⊎_elim, Contains, reverse}
use Rattle.std.specs.Prelude.{◌↔◌, All, Any, IfOk, IfSome, option_map}
use Rattle.std.specs.Option.{option_and_then}
use Rattle.std.proofs.lemmas.List.{reverse-append, reverse-reverse}
use Rattle.std.proofs.lemmas.List.Elements.{All-append, All-cons, All-head, All-nil, All-tail, Contains-append_left, Contains-append_right}
use Rattle.std.proofs.lemmas.Option.{none-some, option_and_then_some, same_Some}
use Rattle.rpq_base.proofs.Members.{cons_members, none_in}
use Rattle.edge_store.specs.declared.edge.EdgeId.{EdgeId}
use Rattle.edge_store.specs.Edges.{Edges, value_of as value_in}
use Rattle.dfa_table.specs.DfaValue.{DfaValue, step_of}
use Rattle.dfa_table.specs.Runs.{walk}
use Rattle.delta_tree.specs.declared.node.NodeId.{NodeId}
use Rattle.delta_tree.specs.declared.node.Node.{Node}
use Rattle.delta_tree.specs.Nodes.{node_id, node_of}
use Rattle.delta_tree.specs.Paths.{IsPathTo}
use Rattle.delta_tree.specs.Laws.{IsWalk}
use Rattle.tree_insert.specs.Best.{IsAtLeast, IsLeast, IsRoute}
use Rattle.source_tree.specs.declared.change.EndChange.{EndChange}
use Rattle.source_tree.specs.Ends.{SourceValue}
use Rattle.source_table.specs.Sources.{source_in}
use Rattle.delta_forest.specs.Forest.{ForestValue, kept}
use Rattle.delta_forest.specs.Keeping.{IsKept, forest_with}
use Rattle.delta_forest.specs.Paths.{GoesForwards, IsBestPath, labels_of}
use Rattle.delta_forest.specs.declared.index.Index.{Index}
use Rattle.delta_forest.proofs.Sources.{found_kept, found_or_not, found_root, none_kept}

-- ---- lists that are turned round

turned : {X : Type 0} (x : X) (xs : List X) → reverse (x ∷ xs) ≡ reverse xs ++ x ∷ []
turned x xs = reverse-append (x ∷ []) xs

all_turned : {X : Type 0} (kind : X → Type 0) (xs : List X) → All kind xs →
    All kind (reverse xs)
all_turned kind [] all = all
all_turned kind (x ∷ xs) all =
    subst (All kind) (sym (turned x xs))
    (All-append kind (reverse xs) (x ∷ []) (all_turned kind xs (All-tail kind x xs all))
    (All-cons kind x [] (All-head kind x xs all) (All-nil kind)))

member_turned : {X : Type 0} (xs : List X) (x : X) → Contains xs x → Contains (reverse xs) x
member_turned [] x member = absurd (none_in x member)
member_turned (first ∷ rest) x member =
    subst (λ all. Contains all x) (sym (turned first rest))
    (⊎_elim
    (λ (here : first ≡ x).
    Contains-append_right (reverse rest) (first ∷ []) x ((cons_members first [] x).1 (inl here)))
    (λ further.
    Contains-append_left (reverse rest) (first ∷ []) x (member_turned rest x further))
    ((cons_members first rest x).0 member))

any_turned : {X : Type 0} (kind : X → Type 0) (xs : List X) → Any kind xs →
    Any kind (reverse xs)
any_turned kind xs any =
    let there = member_turned xs any.1 (any.0, any.2, any.3) in
    (there.0, any.1, there.1, there.2, any.4)

least_turned : (values : EdgeId → Option ℕ) (path : List EdgeId) (number : ℕ) →
    IsLeast values (reverse path) number → IsLeast values path number
least_turned values path number is = record {
  met = subst (Any (λ (edge : EdgeId). values edge ≡ Some number)) (reverse-reverse path)
      (any_turned (λ (edge : EdgeId). values edge ≡ Some number) (reverse path) is.met);
  least = subst (All (λ (edge : EdgeId). IsAtLeast number (values edge))) (reverse-reverse path)
      (all_turned (λ (edge : EdgeId). IsAtLeast number (values edge)) (reverse path) is.least);
}

-- ---- routes

-- a walk goes on by an edge behind it
walk_on : (path : List EdgeId) (edge : EdgeId) (from at : ℕ) → IsWalk from path at →
    edge.from ≡ at → IsWalk from (path ++ edge ∷ []) edge.to
walk_on [] edge from at walks leaves = (leaves ∙ sym walks, refl)
walk_on (first ∷ path) edge from at walks leaves =
    (walks.0, walk_on path edge first.to at walks.1 leaves)

-- and the automaton a step with its label
run_on : (dfa : DfaValue) (path : List EdgeId) (edge : EdgeId) (from before state : ℕ) →
    walk dfa from (labels_of path) ≡ Some before → step_of dfa before edge.label ≡ Some state →
    walk dfa from (labels_of (path ++ edge ∷ [])) ≡ Some state
run_on dfa [] edge from before state here steps =
    ap (option_and_then (λ next. walk dfa next []))
    (ap (λ (at : ℕ). step_of dfa at edge.label) (same_Some from before here) ∙ steps)
run_on dfa (first ∷ path) edge from before state here steps =
    option_and_then_some (λ next. walk dfa next (labels_of path)) (step_of dfa from first.label)
    before here
    (λ next begins further.
    ap (option_and_then (λ at. walk dfa at (labels_of (path ++ edge ∷ [])))) begins
    ∙ run_on dfa path edge next before state further steps)

-- a route goes forwards, once it is turned round
forwards : (dfa : DfaValue) (root : ℕ) (route : List EdgeId) (vertex state : ℕ) →
    IsRoute (step_of dfa) root route vertex state →
    GoesForwards dfa root (reverse route) vertex state
forwards dfa root [] vertex state leads = record {
  walk_is = sym leads.0;
  run_is = ap (λ (at : ℕ). Some at) (sym leads.1);
}
forwards dfa root (edge ∷ route) vertex state leads =
    let before = leads.1.0 in
    let further = forwards dfa root route edge.from before leads.1.1 in
    subst (λ (path : List EdgeId). GoesForwards dfa root path vertex state)
    (sym (turned edge route))
    (record {
      walk_is = subst (IsWalk root (reverse route ++ edge ∷ [])) leads.0
          (walk_on (reverse route) edge root edge.from further.walk_is refl);
      run_is = run_on dfa (reverse route) edge 0 before state further.run_is leads.1.2;
    })

-- ---- what is found

-- what is there has a value
none_where_no_node : (found : Option Node) →
    (found ≡ None) ↔ (option_map (λ (node : Node). node.value) found ≡ None)
none_where_no_node None = ((λ none. refl), (λ none. refl))
none_where_no_node (Some node) = ((λ none. absurd cc), (λ none. absurd cc))

pub both_ok : {X E : Type 0} (result : Result X E) (P Q R : X → Type 0) →
    ((x : X) → P x → Q x → R x) → IfOk result P → IfOk result Q → IfOk result R
both_ok (Ok x) P Q R gives first second = gives x first second
both_ok (Err e) P Q R gives first second = tt

module _ (dfa : DfaValue) (store : Edges) (calls : ℕ) (index : Index) (broken : Bool)
    (touched : List ℕ) (log : List EndChange) (root vertex state : ℕ) where
  abbrev forest : ForestValue
  forest = forest_with dfa store index.sources calls broken touched log

  abbrev place : NodeId
  place = node_id vertex state

  pub path_none : source_in index.sources root ≡ None →
      (result : Option (Vec EdgeId Global)) → result ≡ None →
      (result ≡ None) ↔ (kept forest root vertex state ≡ None)
  path_none none result is =
      ((λ here. none_kept index.sources root none vertex state), (λ there. is))

  module _ (source : SourceValue) (found : source_in index.sources root ≡ Some source) where
    pub none_found : (result : Option (Vec EdgeId Global)) →
        (result ≡ None) ↔ (node_of source.tree place ≡ None) →
        (result ≡ None) ↔ (kept forest root vertex state ≡ None)
    none_found result is =
        let same = found_kept index.sources root source found vertex state in
        let value = none_where_no_node (node_of source.tree place) in (
          (λ none. same ∙ value.0 (is.0 none)),
          (λ none. is.1 (value.1 (sym same ∙ none))),
        )

    best_path : IsKept dfa store calls index → (node : Node) (path : List EdgeId) →
        node_of source.tree place ≡ Some node → IsPathTo source.tree place path →
        IsBestPath forest root vertex state path
    best_path intact node path there leads =
        let sound = intact.sound root source found in
        let way = sound.optimal.paths place node (reverse path) there leads in
        record {
          some = λ none. way.some (ap reverse none);
          leads = subst (λ (at : ℕ). GoesForwards dfa at path vertex state)
              (found_root index.sources root source found)
              (subst (λ (edges : List EdgeId). GoesForwards dfa source.tree.root edges vertex state)
              (reverse-reverse path)
              (forwards dfa source.tree.root (reverse path) vertex state way.leads));
          value = node.value;
          best = found_kept index.sources root source found vertex state
              ∙ ap (option_map (λ (each : Node). each.value)) there;
          least = least_turned (value_in store) path node.value
              (sound.optimal.least place node (reverse path) there leads);
        }

    pub path_found : IsKept dfa store calls index → (result : Option (Vec EdgeId Global)) →
        (result ≡ None) ↔ (node_of source.tree place ≡ None) →
        IfSome result (λ path. IsPathTo source.tree place path.items) →
        IfSome result (λ path. IsBestPath forest root vertex state path.items)
    path_found intact None is leads = tt
    path_found intact (Some path) is leads = ⊎_elim
        (λ (has : (node : Node) × (node_of source.tree place ≡ Some node)).
        best_path intact has.0 path.items has.1 leads)
        (λ none. absurd (none-some path (sym (is.1 none))))
        (found_or_not (node_of source.tree place))
