-- The searches from one state after another.
use Rattle.std.proofs.Common.{◌≡◌, ℕ, suc, ◌≤◌, ◌<◌, ◌+◌, ◌-◌, ◌⊎◌, inl, inr, ⊎_elim, Bool, true, false, ◌&&◌, ◌||◌, ◌==◌, cond, List, [], ◌∷◌, ◌++◌, length, take, drop, slice_index_or, Option, Some, refl, sym, ap, subst, ◌∙◌, arith, Contains, length-drop, drop-cons, slice_index}
use Rattle.std.proofs.lemmas.Bool.{eqb-true, eq-eqb}
use Rattle.std.proofs.lemmas.List.Folds.{list_any_at}
use Rattle.std.proofs.lemmas.List.Elements.{Contains-append_left, Contains-append_right}
use Rattle.std.proofs.lemmas.Option.{same_Some}
use Rattle.edge_store.specs.declared.edge.EdgeId.{EdgeId}
use Rattle.edge_store.specs.Edges.{Edges, same_edge}
use Rattle.edge_store.specs.Edges as edges
use Rattle.dfa_table.specs.DfaValue.{DfaValue, step_of}
use Rattle.delta_tree.specs.declared.node.NodeId.{NodeId}
use Rattle.delta_tree.specs.declared.node.Node.{Node}
use Rattle.delta_tree.specs.Nodes.{TreeValue, IsTree, node_id, node_of, root_id}
use Rattle.delta_tree.specs.Changes.{Raises}
use Rattle.delta_tree.proofs.Ids.{same_edge_is, same_edge_itself}
use Rattle.tree_insert.specs.Best.{IsAtLeast}
use Rattle.tree_insert.specs.Trees.{IsOptimal, IsRaised, Keeps}
use Rattle.tree_insert.specs.UnderWay.{AreSupported, Rises}
use Rattle.tree_insert.proofs.Bests.{below_some}
use Rattle.tree_insert.proofs.Members.{contains_head}
use Rattle.tree_insert.proofs.Optimal.{optimal_of_served, reached_of_optimal, ways_of_raised}
use Rattle.tree_insert.proofs.Paths.{supported_of_ways}
use Rattle.place_table.specs.Table.{AreStates, TableValue, node_at, tree_in}
use Rattle.wide_search.specs.Widths.{IsClosed, is_pending, lowered, widths}
use Rattle.std.specs.Borrow.{Bor}
use Rattle.std.proofs.lemmas.List.{take_all}
use Rattle.wide_search.specs.declared.graph.Graph.{Graph}
use Rattle.wide_search.specs.declared.share.Share.{Share}
use Rattle.wide_search.specs.Shares.{HasNoOthers, Owns}
use Rattle.wide_search.specs.Spans.{HasRaised}
use Rattle.wide_search.specs.Ready.{AreSearched, IsSearched, IsSound}
use Rattle.wide_search.proofs.Begun.{owns_of_node}
use Rattle.wide_search.proofs.Searching.{rises_itself}

-- ---- states that are still to be searched

pub pending_of_contains : (pending : List ℕ) (state : ℕ) → Contains pending state →
    is_pending pending state ≡ true
pending_of_contains pending state has =
    list_any_at (λ (each : ℕ). each == state) pending has.0 state has.1
    (eq-eqb (slice_index_or pending has.0 state) state has.2)

module _ (values : EdgeId → Option ℕ) (edge : EdgeId) (before : Option ℕ) (value : ℕ)
    (is : values edge ≡ Some value)
    (raised : (number : ℕ) → IsAtLeast number before → IsAtLeast number (values edge)) where
  -- with one state fewer to be searched the widths grow there alone
  pub grow_one : (state : ℕ) (rest : List ℕ) (at number : ℕ) (each : EdgeId) →
      IsAtLeast number (widths values edge before rest at each) →
      IsAtLeast number (widths values edge before (state ∷ rest) at each)
      ⊎ ((each ≡ edge) × (at ≡ state) × (number ≤ value))
  grow_one state rest at number each wide =
      by (same_edge each edge) refl (state == at) refl (is_pending rest at) refl wide
    where
      by : (same : Bool) → same_edge each edge ≡ same → (here : Bool) → (state == at) ≡ here →
          (later : Bool) → is_pending rest at ≡ later →
          IsAtLeast number (cond (same && later) before (values each)) →
          IsAtLeast number (cond (same && (here || later)) before (values each))
          ⊎ ((each ≡ edge) × (at ≡ state) × (number ≤ value))
      by false same here here_is later later_is reached = inl reached
      by true same false here_is later later_is reached = inl reached
      by true same true here_is later later_is reached =
          let is_edge = same_edge_is each edge same in
          inr (
            is_edge,
            sym (eqb-true state at here_is),
            below_some (values edge) number value (low later is_edge reached) is,
          )
        where
          low : (later : Bool) → each ≡ edge →
              IsAtLeast number (cond (true && later) before (values each)) →
              IsAtLeast number (values edge)
          low true is_edge reached = raised number reached
          low false is_edge reached = subst (λ (e : EdgeId). IsAtLeast number (values e)) is_edge reached

-- where no state is left to be searched the widths are the values
pub widths_none : (values : EdgeId → Option ℕ) (edge : EdgeId) (before : Option ℕ) (state number : ℕ)
    (each : EdgeId) → IsAtLeast number (values each) →
    IsAtLeast number (widths values edge before [] state each)
widths_none values edge before state number each = by (same_edge each edge)
  where
    by : (same : Bool) → IsAtLeast number (values each) →
        IsAtLeast number (cond (same && false) before (values each))
    by true reached = reached
    by false reached = reached

-- ---- before the first search

module _ (values : EdgeId → Option ℕ) (dfa : DfaValue) (edge : EdgeId) (before : Option ℕ)
    (table : TableValue) (root : ℕ) (states : List ℕ) where
  pub closed_first : AreStates table edge.from states →
      IsOptimal (lowered values edge before) (step_of dfa) (tree_in table root) →
      IsClosed (widths values edge before (states ++ 0 ∷ [])) (step_of dfa) (tree_in table root)
  closed_first are optimal each state number next carries wide leads =
      reached_of_optimal (lowered values edge before) (step_of dfa) (tree_in table root) optimal each
      state number next carries
      (by (same_edge each edge) refl (is_pending (states ++ 0 ∷ []) state) refl wide) leads
    where
      there : each ≡ edge → Contains (states ++ 0 ∷ []) state
      there same = ⊎_elim
          (λ (here : node_id each.from state ≡ root_id (tree_in table root)).
          subst (Contains (states ++ 0 ∷ [])) (sym (ap (λ (id : NodeId). id.state) here))
          (Contains-append_right states (0 ∷ []) 0 (contains_head 0 [])))
          (λ (node : (node : Node) × (node_of (tree_in table root) (node_id each.from state)
          ≡ Some node) × (number ≤ node.value)).
          Contains-append_left states (0 ∷ []) state
          ((are state).1 (
            root,
            node.0,
            ap (λ (e : EdgeId). node_at table root (node_id e.from state)) (sym same) ∙ node.1,
          )))
          carries

      by : (same : Bool) → same_edge each edge ≡ same → (at : Bool) →
          is_pending (states ++ 0 ∷ []) state ≡ at →
          IsAtLeast number (cond (same && at) before (values each)) →
          IsAtLeast number (cond same before (values each))
      by false same at at_is reached = reached
      by true same true at_is reached = reached
      by true same false at_is reached =
          let pending = pending_of_contains (states ++ 0 ∷ []) state
          (there (same_edge_is each edge same)) in
          absurd cc

  pub supported_first : (share : Share) → IsTree (tree_in table root) →
      IsRaised (lowered values edge before) values edge →
      (Owns share root →
      IsOptimal (lowered values edge before) (step_of dfa) (tree_in table root)) →
      HasNoOthers share table → AreSupported values (step_of dfa) (tree_in table root)
  supported_first share is raised optimal others id node there =
      supported_of_ways values (step_of dfa) (tree_in table root) is
      (ways_of_raised (lowered values edge before) values (step_of dfa) (tree_in table root) edge
      raised (optimal (owns_of_node share table others root id node there)).paths) id node there

-- what is said of the edge before
pub raised_before : (values : EdgeId → Option ℕ) (edge : EdgeId) (before : Option ℕ) →
    IsRaised (lowered values edge before) values edge →
    (number : ℕ) → IsAtLeast number before → IsAtLeast number (values edge)
raised_before values edge before raised number reached =
    raised.rises number
    (subst (λ (b : Bool). IsAtLeast number (cond b before (values edge)))
    (sym (same_edge_itself edge)) reached)

-- ---- after the last one

pub optimal_of_closed : (values : EdgeId → Option ℕ) (dfa : DfaValue) (tree : TreeValue) →
    IsTree tree → AreSupported values (step_of dfa) tree →
    IsClosed (λ state. values) (step_of dfa) tree → IsOptimal values (step_of dfa) tree
optimal_of_closed values dfa tree is supported closed =
    optimal_of_served values (step_of dfa) tree is supported
    (λ edge before number state carries reached leads.
    inl (closed edge before number state carries reached leads))

pub keeps_risen : (first tree : TreeValue) → Rises first tree → Keeps first tree
keeps_risen first tree rises = record {
  same = λ id before after was is equal. ⊎_elim
      (λ (kept : node_of first id ≡ Some after). same_Some after before (sym kept ∙ was))
      (λ (fresh : Raises first id after.value × (first.puts ≤ after.stamp)). absurd
      (omega (arith, fresh.0 before was, equal)))
      (rises.nodes id after is);
  fresh = λ id after is other. ⊎_elim
      (λ (kept : node_of first id ≡ Some after). absurd (other after kept refl))
      (λ (fresh : Raises first id after.value × (first.puts ≤ after.stamp)). fresh.1)
      (rises.nodes id after is);
}

pub rises_twice : (first middle last : TreeValue) → Rises first middle → Rises middle last →
    Rises first last
rises_twice first middle last one two = record {
  root = two.root ∙ one.root;
  puts = omega (arith, one.puts, two.puts);
  nodes = λ id node is. ⊎_elim
      (λ (kept : node_of middle id ≡ Some node). one.nodes id node kept)
      (λ (fresh : Raises middle id node.value × (middle.puts ≤ node.stamp)).
      inr (
        (λ before was.
            let now = one.risen id before was in
            omega (arith, now.2, fresh.0 now.0 now.1)),
        omega (arith, one.puts, fresh.1),
      ))
      (two.nodes id node is);
  risen = λ id before was.
      let now = one.risen id before was in
      let then = two.risen id now.0 now.1 in
      (then.0, then.1, omega (arith, now.2, then.2));
}

-- ---- one state after another

drop_here : (xs : List ℕ) (place : ℕ) → place < length xs →
    drop place xs ≡ slice_index xs place ∷ drop (place + 1) xs
drop_here xs place within =
    let more : suc place ≡ place + 1 = omega arith in
    drop-cons xs place 0 within ∙ ap (λ (n : ℕ). slice_index xs place ∷ drop n xs) more

-- the graph with these states still to be searched
abbrev pub with_pending : Graph → Bor (List ℕ) → Graph
with_pending graph rest = record {
  store = graph.store;
  dfa = graph.dfa;
  edge = graph.edge;
  before = graph.before;
  pending = rest;
  share = graph.share;
}

pub searched_none : (graph : Graph) (table : TableValue) → IsSound graph table →
    AreSearched graph graph.pending.now table table
searched_none graph table sound = record {
  closed = sound.closed;
  others = sound.others;
  supported = sound.supported;
  rises = λ root. rises_itself (tree_in table root);
  only = λ root stands id. refl;
}

module _ (graph : Graph) (rest : Bor (List ℕ)) (place : ℕ)
    (within : place < length graph.pending.now)
    (rest_is : rest.now ≡ take (length graph.pending.now - place) (drop place graph.pending.now))
  where
    rest_drop : rest.now ≡ drop place graph.pending.now
    rest_drop =
        rest_is ∙ take_all (length graph.pending.now - place) (drop place graph.pending.now)
        (omega (arith, length-drop place graph.pending.now))

    rest_cons : rest.now ≡ slice_index graph.pending.now place ∷ drop (place + 1) graph.pending.now
    rest_cons = rest_drop ∙ drop_here graph.pending.now place within

    pub rest_sound : (old table : TableValue) →
        AreSearched graph (drop place graph.pending.now) old table →
        IsSound (with_pending graph rest) table
    rest_sound old table searched = record {
      closed = λ root owned.
          subst (λ (pending : List ℕ). IsClosed (widths (edges.value_of graph.store.now) graph.edge
          graph.before pending) (step_of graph.dfa.now) (tree_in table root)) (sym rest_drop)
          (searched.closed root owned);
      others = searched.others;
      supported = searched.supported;
    }

    pub rest_pending : is_pending rest.now (slice_index graph.pending.now place) ≡ true
    rest_pending =
        ap (λ (pending : List ℕ). is_pending pending (slice_index graph.pending.now place)) rest_cons
        ∙ ap (λ (b : Bool). b || is_pending (drop (place + 1) graph.pending.now)
        (slice_index graph.pending.now place))
        (eq-eqb (slice_index graph.pending.now place) (slice_index graph.pending.now place) refl)

    pub searched_more : (value : ℕ) → edges.value_of graph.store.now graph.edge ≡ Some value →
        HasRaised graph → (old middle new : TableValue) →
        AreSearched graph (drop place graph.pending.now) old middle →
        IsSearched (with_pending graph rest) (slice_index graph.pending.now place) value middle new →
        AreSearched graph (drop (place + 1) graph.pending.now) old new
    searched_more value is raised old middle new before searched = record {
      closed = λ root owned.
          searched.closed (widths (edges.value_of graph.store.now) graph.edge graph.before
          (drop (place + 1) graph.pending.now))
          (λ at number each wide. ⊎_elim
          (λ (reached : IsAtLeast number (widths (edges.value_of graph.store.now) graph.edge
          graph.before (slice_index graph.pending.now place
          ∷ drop (place + 1) graph.pending.now) at each)).
          inl (subst (λ (pending : List ℕ). IsAtLeast number (widths
          (edges.value_of graph.store.now) graph.edge graph.before pending at each))
          (sym rest_cons) reached))
          (λ (grown : (each ≡ graph.edge) × (at ≡ slice_index graph.pending.now place)
          × (number ≤ value)). inr grown)
          (grow_one (edges.value_of graph.store.now) graph.edge graph.before value is raised
          (slice_index graph.pending.now place) (drop (place + 1) graph.pending.now) at number each
          wide))
          root owned;
      others = searched.others;
      supported = searched.supported;
      rises = λ root.
          rises_twice (tree_in old root) (tree_in middle root) (tree_in new root)
          (before.rises root) (searched.rises root);
      only = λ root stands id.
          searched.only root
          (λ number carries. stands (slice_index graph.pending.now place) number (⊎_elim
          (λ (here : node_id graph.edge.from (slice_index graph.pending.now place)
          ≡ root_id (tree_in middle root)). inl here)
          (λ (node : (node : Node) × (node_of (tree_in middle root)
          (node_id graph.edge.from (slice_index graph.pending.now place)) ≡ Some node)
          × (number ≤ node.value)).
          inr (
            node.0,
            sym (before.only root stands
                (node_id graph.edge.from (slice_index graph.pending.now place))) ∙ node.1,
            node.2,
          ))
          carries)) id
          ∙ before.only root stands id;
    }
