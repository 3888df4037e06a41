-- The nodes below an edge.
use Rattle.std.proofs.Common.{◌≡◌, ◌+◌, ◌≤◌, ℕ, Bool, true, false, ◌⊎◌, inl, inr, List, [], ◌∷◌, ◌++◌, take, option_map, All, length, slice_get, cond, eq-eqb, None, Some, refl, sym, ap, subst, ◌∙◌, true≢false, Contains, map, ap₂, ◌&&◌, ◌↔◌, arith}
use Rattle.std.specs.List.{IsDistinct, list_any}
use Rattle.std.proofs.lemmas.List.Elements.{All-nil, All-cons, Contains-append_cases, Contains-append_right}
use Rattle.std.proofs.lemmas.List.{length-map, get_or-map, take_all, take_more}
use Rattle.std.proofs.lemmas.Option.{slice_get-get_or, get_or_from_slice_get, slice_get_within}
use Rattle.std.proofs.lemmas.Map.Keys.{any_passes_from_place}
use Rattle.std.proofs.lemmas.Map.Views.{Contains-from_lookup, Contains-keys_from_lookup, Contains-from_any, list_any-from_Contains}
use Rattle.edge_store.specs.declared.edge.EdgeId.{EdgeId}
use Rattle.edge_store.specs.Edges.{same_edge}
use Rattle.delta_tree.specs.declared.node.NodeId.{NodeId}
use Rattle.delta_tree.specs.Nodes.{Node, TreeValue, same_node, node_of, ids_of, IsTree}
use Rattle.delta_tree.specs.Paths.{LeadsUp, IsBelow, hangs_by}
use Rattle.delta_tree.specs.Changes.{AreBelow, AreShifts, Cuts, IsShift, shift_ids}
use Rattle.delta_tree.specs.Losses.{loss, losses}
use Rattle.delta_tree.proofs.Ids.{same_node_is, same_node_laws, same_edge_itself, nothing_once, found_is_some}
use Rattle.due_queue.proofs.Items.{the_one}

-- ---- lists

-- a function of what a list has
pub contains_map : {X Y : Type 0} (f : X → Y) (xs : List X) (x : X) → Contains xs x →
    Contains (map f xs) (f x)
contains_map f xs x (k, within, is) =
    (k, omega (arith, length-map xs f, within), get_or-map f xs k x (f x) within ∙ ap f is)

-- ---- what is below an edge

-- of these places, the ones below the edge are found
pub record AreFoundBelow (tree : TreeValue) (edge : EdgeId) (places ids : List NodeId)
    : Type 0 where
  pub sound : (id : NodeId) → Contains ids id → IsBelow tree edge id
  pub complete : (id : NodeId) → Contains places id → IsBelow tree edge id → Contains ids id

-- of no places, none is found
pub found_none : (tree : TreeValue) (edge : EdgeId) (ids : List NodeId) → length ids ≡ 0 →
    AreFoundBelow tree edge [] ids
found_none tree edge ids empty = record {
  sound = λ id (k, within, at). absurd (omega (arith, within, empty));
  complete = λ id (k, within, at) below. absurd (omega (arith, within));
}

-- a place that is one of the first of one more is one of the first, or the next
first_or_next : (places : List NodeId) (place : ℕ) (at : NodeId) →
    slice_get places place ≡ Some at → (id : NodeId) → Contains (take (place + 1) places) id →
    Contains (take place places) id ⊎ (at ≡ id)
first_or_next places place at here id has =
    elim (Contains-append_cases (take place places) (at ∷ []) id
    (subst (λ list. Contains list id)
    (take_more places place at (slice_get_within places place at here)
    ∙ ap (λ (one : NodeId). take place places ++ one ∷ [])
    (get_or_from_slice_get places place at at here)) has)) [
      | inl first ↦ inl first
      | inr next ↦ inr (the_one at id next)
    ]

module _ (tree : TreeValue) (edge : EdgeId) (places : List NodeId) (place : ℕ) (at : NodeId)
    (ids : List NodeId) (here : slice_get places place ≡ Some at)
    (found : AreFoundBelow tree edge (take place places) ids) where
  -- one that is below the edge is found
  pub found_one : (more : List NodeId) → IsBelow tree edge at →
      ((id : NodeId) → Contains more id ↔ (Contains ids id ⊎ (at ≡ id))) →
      AreFoundBelow tree edge (take (place + 1) places) more
  found_one more below adds = record {
    sound = λ id has. elim ((adds id).0 has) [
      | inl old ↦ found.sound id old
      | inr same ↦ subst (IsBelow tree edge) same below
    ];
    complete = λ id first is. (adds id).1 (elim (first_or_next places place at here id first) [
      | inl earlier ↦ inl (found.complete id earlier is)
      | inr same ↦ inr same
    ]);
  }

  -- and one that isn't is none
  pub found_no_more : (IsBelow tree edge at → ⊥) →
      AreFoundBelow tree edge (take (place + 1) places) ids
  found_no_more free = record {
    sound = found.sound;
    complete = λ id first is. elim (first_or_next places place at here id first) [
      | inl earlier ↦ found.complete id earlier is
      | inr same ↦ absurd (free (subst (IsBelow tree edge) (sym same) is))
    ];
  }

-- among all places, all are found
pub found_all : (tree : TreeValue) (edge : EdgeId) (place : ℕ) (ids : List NodeId) →
    length (ids_of tree) ≤ place → AreFoundBelow tree edge (take place (ids_of tree)) ids →
    (id : NodeId) → Contains ids id ↔ IsBelow tree edge id
found_all tree edge place ids past found id =
    (found.sound id, λ below. found.complete id (among below) below)
  where
    among : IsBelow tree edge id → Contains (take place (ids_of tree)) id
    among ([], leads, (k, within, at)) = absurd (omega (arith, within))
    among (first ∷ up, (node, is, by_first, leads), has) =
        subst (λ list. Contains list id) (sym (take_all place (ids_of tree) past))
        (Contains-keys_from_lookup same_node_is id tree.nodes
        (found_is_some (node_of tree id) node is))

-- a set with one more
pub adds_id : (ids more : List NodeId) (at : NodeId) →
    ((id : NodeId) → list_any (same_node id) more ≡ cond (same_node at id) true
    (list_any (same_node id) ids)) →
    (id : NodeId) → Contains more id ↔ (Contains ids id ⊎ (at ≡ id))
adds_id ids more at update id = (
  old_or_new (same_node at id) refl,
  λ has. Contains-from_any same_node_is id more
      (update id ∙ test has),
)
  where
    old_or_new : (b : Bool) → same_node at id ≡ b → Contains more id → Contains ids id ⊎ (at ≡ id)
    old_or_new true same has = inr (same_node_is at id same)
    old_or_new false other has =
        inl (Contains-from_any same_node_is id ids
        (sym (ap (λ b. cond b true (list_any (same_node id) ids)) other) ∙ sym (update id)
        ∙ list_any-from_Contains same_node_laws id more has))

    test : Contains ids id
        ⊎ (at ≡ id) → cond (same_node at id) true (list_any (same_node id) ids) ≡ true
    test (inl old) =
        ap (cond (same_node at id) true) (list_any-from_Contains same_node_laws id ids old)
        ∙ either (same_node at id)
      where
        either : (b : Bool) → cond b true true ≡ true
        either true = refl
        either false = refl
    test (inr new) =
        ap (λ b. cond b true (list_any (same_node id) ids))
        (ap (same_node at) (sym new) ∙ same_node_laws.refl at)

-- where no node hangs by the edge, this one doesn't
no_edge : (tree : TreeValue) (edge : EdgeId) → IsTree tree →
    list_any (hangs_by edge) tree.nodes ≡ false →
    (id : NodeId) (node : Node) → node_of tree id ≡ Some node → node.edge ≡ edge → ⊥
no_edge tree edge kept none id node is by_edge =
    by (Contains-from_lookup same_node_is id node tree.nodes is)
  where
    ends : id.vertex ≡ edge.to
    ends = sym (kept id node is).joins.ends ∙ ap (λ (e : EdgeId). e.to) by_edge

    passes : hangs_by edge (id, node) ≡ true
    passes =
        ap₂ (λ a b. a && b) (eq-eqb id.vertex edge.to ends)
        (ap (λ e. same_edge e edge) by_edge ∙ same_edge_itself edge)

    by : Contains tree.nodes (id, node) → ⊥
    by (k, within, at) =
        true≢false
        (sym (any_passes_from_place (hangs_by edge) tree.nodes k (id, node)
        (slice_get-get_or tree.nodes k (id, node) within ∙ ap Some at) passes)
        ∙ none)

-- where no node hangs by the edge, none is below it
pub none_below : (tree : TreeValue) (edge : EdgeId) → IsTree tree →
    list_any (hangs_by edge) tree.nodes ≡ false →
    AreBelow tree edge []
none_below tree edge kept none = record {
  exact = λ id. (
    (λ (k, within, is). absurd (omega (arith, within))),
    λ (up, leads, has). absurd
        (by id up leads has),
  );
  once = nothing_once;
}
  where
    by : (id : NodeId) (up : List EdgeId) → LeadsUp tree id up → Contains up edge → ⊥
    by id [] leads (k, within, at) = absurd (omega (arith, within))
    by id (first ∷ up) (node, is, by_first, leads) has =
        elim (Contains-append_cases (first ∷ []) up edge has) [
          | inl here ↦ no_edge tree edge kept none id node is (by_first ∙ the_one first edge here)
          | inr later ↦ by node.parent up leads later
        ]

-- ---- what is cut

-- where none is below the edge, nothing changes
pub nothing_cut : (tree : TreeValue) (edge : EdgeId) (ids : List NodeId) → AreBelow tree edge ids →
    length ids ≡ 0 → Cuts tree tree edge
nothing_cut tree edge ids below empty = record {
  gone = λ id is. absurd (by ((below.exact id).1 is));
  kept = λ id _. refl;
}
  where
    by : {id : NodeId} → Contains ids id → ⊥
    by (k, within, at) = omega (arith, within, empty)

-- the nodes below the edge, taken out
pub all_cut : (old new : TreeValue) (edge : EdgeId) (ids : List NodeId) → AreBelow old edge ids →
    ((id : NodeId) → node_of new id ≡ cond (list_any (same_node id) ids) None (node_of old id)) →
    Cuts old new edge
all_cut old new edge ids below taken = record {
  gone = λ id is.
      taken id
      ∙ ap (λ b. cond b None (node_of old id))
      (list_any-from_Contains same_node_laws id ids ((below.exact id).1 is));
  kept = λ id free. taken id ∙ by id free (list_any (same_node id) ids) refl;
}
  where
    by : (id : NodeId) → (IsBelow old edge id → ⊥) → (b : Bool) → list_any (same_node id) ids ≡ b →
        cond b None (node_of old id) ≡ node_of old id
    by id free true has =
        absurd (free ((below.exact id).0 (Contains-from_any same_node_is id ids has)))
    by id free false none = refl

-- the places of the losses
pub ids_of_losses : (nodes : List (NodeId × Node)) (ids : List NodeId) →
    shift_ids (losses nodes ids) ≡ ids
ids_of_losses nodes [] = refl
ids_of_losses nodes (id ∷ ids) = ap (λ rest. id ∷ rest) (ids_of_losses nodes ids)

-- what was lost, where none stands any more
lost_values : (old new : TreeValue) (ids : List NodeId) →
    ((id : NodeId) → Contains ids id → node_of new id ≡ None) →
    All (IsShift old new) (losses old.nodes ids)
lost_values old new [] gone = All-nil (IsShift old new)
lost_values old new (id ∷ ids) gone =
    All-cons (IsShift old new)
    (loss id (option_map (λ (node : Node). node.value) (node_of old id))) (losses old.nodes ids)
    (record {
      before = refl;
      after = ap (option_map (λ (node : Node). node.value)) (gone id (0, omega arith, refl));
    })
    (lost_values old new ids
    (λ each has. gone each (Contains-append_right (id ∷ []) ids each has)))

-- the losses of the nodes below the edge are all that a cut changes
pub cut_shifts : (old new : TreeValue) (edge : EdgeId) (ids : List NodeId) →
    AreBelow old edge ids → Cuts old new edge → AreShifts old new (losses old.nodes ids)
cut_shifts old new edge ids below cuts = record {
  values = lost_values old new ids (λ id has. cuts.gone id ((below.exact id).0 has));
  once = subst (IsDistinct same_node) (sym (ids_of_losses old.nodes ids)) below.once;
  others = λ id free. cuts.kept id (λ is. free (subst (λ list. Contains list id)
      (sym (ids_of_losses old.nodes ids)) ((below.exact id).1 is)));
}
