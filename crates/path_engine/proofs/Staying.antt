-- Nodes that stay through entries.
use Rattle.std.proofs.Common.{◌≡◌, ℕ, zero, suc, List, [], ◌∷◌, ◌++◌, Some, refl, sym, ap, subst, ◌∙◌, slice_get}
use Rattle.std.specs.List.{AllZip}
use Rattle.std.proofs.lemmas.List.Elements.{All-head, All-tail}
use Rattle.std.proofs.lemmas.Option.{same_Some}
use Rattle.rpq_base.specs.declared.data.Entry.{Entry}
use Rattle.delta_tree.specs.declared.node.Node.{Node}
use Rattle.delta_tree.specs.declared.node.NodeId.{NodeId}
use Rattle.delta_forest.specs.Forest.{ForestValue, IsIndexed, kept}
use Rattle.query_file.specs.Compiled.{CompiledValue}
use Rattle.query_index.specs.Index.{IsForestFor}
use Rattle.query_index.specs.Keeping.{KeepsForest}
use Rattle.query_index.proofs.Kept.{find_node}
use Rattle.path_engine.specs.Staying.{DeletesNone, HasNode, NodesStay}

-- of lists in step, the other element at a place
zip_get : {A B : Type 0} (R : A → B → Type 0) (xs : List A) (ys : List B) (place : ℕ) (x : A) →
    AllZip R xs ys → slice_get xs place ≡ Some x →
    (y : B) × (slice_get ys place ≡ Some y) × R x y
zip_get R [] [] place x all is = absurd cc
zip_get R [] (y ∷ ys) place x all is = absurd all
zip_get R (first ∷ xs) [] place x all is = absurd all
zip_get {A} R (first ∷ xs) (second ∷ ys) zero x all is =
    (second, refl, subst (λ (each : A). R each second) (same_Some first x is) all.0)
zip_get R (first ∷ xs) (second ∷ ys) (suc place) x all is = zip_get R xs ys place x all.1 is

-- one forest keeps a node that has the same value in the next one
node_kept : (entry : Entry) (names : List (List ℕ)) (old new : ForestValue) (root : ℕ)
    (id : NodeId) (node : Node) → KeepsForest entry.tuple.act names old new →
    DeletesNone entry → HasNode old root id node →
    kept new root id.vertex id.state ≡ Some node.value → HasNode new root id node
node_kept entry names old new root id node keeps none has value =
    let found = find_node new root id node.value value in
    let same : found.node ≡ node =
    (keeps.trees root has.tree found.tree has.tree_is found.tree_is).nodes id node found.node
    has.node_is found.node_is (sym found.value_is) (λ cut. none cut.edge cut.deletes) in
    record {
      tree = found.tree;
      tree_is = found.tree_is;
      node_is = found.node_is ∙ ap (λ (each : Node). Some each) same;
    }

pub stay : NodesStay
stay [] queries names history olds news kept_is none number query old query_is old_is root id node
    has value = (
      old,
      ap (λ (forests : List ForestValue). slice_get forests number) {x = news} {y = olds} kept_is
          ∙ old_is,
      has,
    )
stay (entry ∷ entries) queries names history olds news through none number query old query_is
    old_is root id node has value =
    let middles = through.0 in
    let next = zip_get (KeepsForest entry.tuple.act names) olds middles number old through.1 old_is in
    let for_it = zip_get (λ (each : CompiledValue) (forest : ForestValue).
    IsForestFor each (history ++ entry ∷ []) names forest × IsIndexed forest) queries middles number
    query through.2 query_is in
    let same : for_it.0 ≡ next.0 =
    same_Some for_it.0 next.0 (sym for_it.1 ∙ next.1) in
    let stands = subst (IsForestFor query (history ++ entry ∷ []) names) same for_it.2.0 in
    stay entries queries names (history ++ entry ∷ []) middles news through.3
    (All-tail DeletesNone entry entries none) number query next.0 query_is next.1 root id node
    (node_kept entry names old next.0 root id node next.2 (All-head DeletesNone entry entries none)
    has (value.0 next.0 stands))
    value.1
