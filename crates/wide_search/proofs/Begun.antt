-- A search from one state: how it begins, and what it gives at its end.
use Rattle.std.proofs.Common.{◌≡◌, ℕ, ◌≤◌, ◌<◌, ◌-◌, ◌%◌, ◌⊎◌, inl, inr, ⊎_elim, Bool, true, false, ◌&&◌, cond, min, List, [], ◌∷◌, length, take, drop, slice_index_or, Option, Some, None, refl, sym, ap, subst, ◌∙◌, arith, Contains}
use Rattle.std.proofs.lemmas.Bool.{cases_eq}
use Rattle.std.proofs.lemmas.List.{get_or_past, take_all}
use Rattle.std.proofs.lemmas.Option.{same_Some, none-some}
use Rattle.edge_store.specs.declared.edge.EdgeId.{EdgeId}
use Rattle.edge_store.specs.Edges.{value_of}
use Rattle.dfa_table.specs.DfaValue.{DfaValue, step_of}
use Rattle.delta_tree.specs.declared.node.NodeId.{NodeId}
use Rattle.delta_tree.specs.declared.node.Node.{Node}
use Rattle.delta_tree.specs.Nodes.{TreeValue, IsTree, node_id, node_of, root_id}
use Rattle.delta_tree.specs.Changes.{Carries}
use Rattle.delta_tree.proofs.Ids.{same_edge_itself}
use Rattle.tree_insert.specs.Best.{IsAtLeast}
use Rattle.tree_insert.specs.UnderWay.{AreSupported, Rises}
use Rattle.tree_insert.proofs.Bests.{at_least}
use Rattle.tree_insert.proofs.Members.{contains_none, contains_cases, contains_head}
use Rattle.tree_insert.proofs.Nodes.{carries_lower, root_is_none}
use Rattle.place_table.specs.declared.gain.Gain.{Gain}
use Rattle.place_table.specs.Table.{TableValue, AreGainsAt, is_above, node_at, nodes_of, tree_in}
use Rattle.wide_search.specs.declared.batch.Batch.{Batch}
use Rattle.wide_search.specs.declared.graph.Graph.{Graph}
use Rattle.wide_search.specs.declared.share.Share.{Share}
use Rattle.wide_search.specs.Widths.{IsClosed, is_pending}
use Rattle.wide_search.specs.Counts.{CountsPlaces}
use Rattle.wide_search.specs.Searching.{IsTask, IsOpen}
use Rattle.wide_search.specs.Shares.{HasNoOthers, Owns}
use Rattle.wide_search.specs.Spans.{HasRaised, widths_in}
use Rattle.wide_search.specs.Ready.{Start, task_of, held, StandsIn, IsUnderWay, AreFirst, IsSound, IsSearched}
use Rattle.wide_search.proofs.Searching.{rises_itself, searching_begins}
use Rattle.wide_search.proofs.Ended.{closed_after}
use Rattle.wide_search.proofs.Spans.{widths_within}
use Rattle.wide_search.proofs.Tables.{none_apart, one_apart}

-- ---- the roots of a share

-- each root is one of them or not
pub owns_or : (share : Share) (root : ℕ) → Owns share root ⊎ (Owns share root → ⊥)
owns_or share root = cases_eq (root % share.count) share.index

-- a root that has a node is one of them
pub owns_of_node : (share : Share) (table : TableValue) → HasNoOthers share table →
    (root : ℕ) (id : NodeId) (node : Node) → node_at table root id ≡ Some node → Owns share root
owns_of_node share table others root id node there = ⊎_elim
    (λ (owned : Owns share root). owned)
    (λ (apart : Owns share root → ⊥).
    absurd (none-some node (sym (others root apart id) ∙ there)))
    (owns_or share root)

-- ---- the first gains

module _ (graph : Graph) (table : TableValue) where
  -- from the state 0 the root of the vertex gains, and no other
  pub first_of_root : (value : ℕ) (gain : Gain) → ((root : ℕ) → IsTree (tree_in table root)) →
      Owns graph.share graph.edge.from → gain.root ≡ graph.edge.from → gain.cap ≡ value →
      AreFirst graph table 0 value (gain ∷ [])
  first_of_root value gain trees owned root most = record {
    carries = λ each has. ⊎_elim
        (λ (same : gain ≡ each).
        inl (ap (λ (vertex : ℕ). node_id vertex 0)
        (sym root ∙ ap (λ (x : Gain). x.root) same)))
        (λ (other : Contains [] each). absurd (contains_none each other))
        (contains_cases gain [] each has);
    owned = λ each has. ⊎_elim
        (λ (same : gain ≡ each).
        subst (Owns graph.share) (sym root ∙ ap (λ (x : Gain). x.root) same) owned)
        (λ (other : Contains [] each). absurd (contains_none each other))
        (contains_cases gain [] each has);
    firsts = λ at number ours carries below. ⊎_elim
        (λ (here : node_id graph.edge.from 0 ≡ root_id (tree_in table at)).
        inr (
          gain,
          contains_head gain [],
          root ∙ ap (λ (id : NodeId). id.vertex) here,
          omega (arith, most, below),
        ))
        (λ (node : (node : Node) × (node_of (tree_in table at) (node_id graph.edge.from 0)
        ≡ Some node) × (number ≤ node.value)).
        absurd (root_is_none (tree_in table at) (node_id graph.edge.from 0) node.0 (trees at) refl
        node.1))
        carries;
    once = one_apart gain;
  }

  -- where the share doesn't have that root, none gains
  pub first_of_none : (value : ℕ) → ((root : ℕ) → IsTree (tree_in table root)) →
      (Owns graph.share graph.edge.from → ⊥) → AreFirst graph table 0 value []
  first_of_none value trees apart = record {
    carries = λ gain has. absurd (contains_none gain has);
    owned = λ gain has. absurd (contains_none gain has);
    firsts = λ at number ours carries below. ⊎_elim
        (λ (here : node_id graph.edge.from 0 ≡ root_id (tree_in table at)).
        absurd (apart (subst (Owns graph.share) (sym (ap (λ (id : NodeId). id.vertex) here)) ours)))
        (λ (node : (node : Node) × (node_of (tree_in table at) (node_id graph.edge.from 0)
        ≡ Some node) × (number ≤ node.value)).
        absurd (root_is_none (tree_in table at) (node_id graph.edge.from 0) node.0 (trees at) refl
        node.1))
        carries;
    once = none_apart;
  }

  -- from another those of the nodes there
  pub first_of_gains : (state value : ℕ) (gains : List Gain) → 0 < state →
      HasNoOthers graph.share table →
      AreGainsAt table (node_id graph.edge.from state) graph.before value gains →
      AreFirst graph table state value gains
  first_of_gains state value gains some others are = record {
    carries = λ gain has.
        let is = (are.exact gain).0 has in
        inr (is.0, is.1, omega (arith, is.3));
    owned = λ gain has.
        let is = (are.exact gain).0 has in
        owns_of_node graph.share table others gain.root (node_id graph.edge.from state) is.0 is.1;
    firsts = λ root number ours carries below. ⊎_elim
        (λ (here : node_id graph.edge.from state ≡ root_id (tree_in table root)).
        absurd (omega (arith, some, ap (λ (id : NodeId). id.state) here)))
        (λ (node : (node : Node) × (node_of (tree_in table root) (node_id graph.edge.from state)
        ≡ Some node) × (number ≤ node.value)).
        by root number below node.0 node.1 node.2 (is_above graph.before node.0.value) refl)
        carries;
    once = are.once;
  }
    where
      lower : (before : Option ℕ) (top number : ℕ) → is_above before top ≡ false → number ≤ top →
          IsAtLeast number before
      lower None top number is low = absurd cc
      lower (Some kept) top number is low = grind (arith, is, low)

      by : (root number : ℕ) → number ≤ value → (node : Node) →
          node_of (tree_in table root) (node_id graph.edge.from state) ≡ Some node →
          number ≤ node.value → (b : Bool) → is_above graph.before node.value ≡ b →
          IsAtLeast number graph.before
          ⊎ ((gain : Gain) × Contains gains gain × (gain.root ≡ root) × (number ≤ gain.cap))
      by root number below node there low true is =
          let gain : Gain =
          record { root = root; cap = min node.value value; before = graph.before } in
          inr (
            gain,
            (are.exact gain).1 (node, there, is, refl, refl),
            refl,
            omega (arith, low, below),
          )
      by root number below node there low false is = inl (lower graph.before node.value number is low)

-- ---- where there is nothing to do

module _ (graph : Graph) (table : TableValue) (state value : ℕ) (sound : IsSound graph table) where
  unchanged : ((root number next : ℕ) → Owns graph.share root →
      Carries (tree_in table root) (node_id graph.edge.from state) number → number ≤ value →
      step_of graph.dfa.now state graph.edge.label ≡ Some next →
      IsAtLeast number (widths_in graph state graph.edge)) →
      IsSearched graph state value table table
  unchanged wide = record {
    closed = λ widths grows root owned each at number next carries reached leads. ⊎_elim
        (λ (old : IsAtLeast number (widths_in graph at each)).
        sound.closed root owned each at number next carries old leads)
        (λ (raised : (each ≡ graph.edge) × (at ≡ state) × (number ≤ value)).
        let there : IsAtLeast number (widths_in graph state graph.edge) =
        wide root number next owned
        (subst (λ (s : ℕ). Carries (tree_in table root) (node_id graph.edge.from s) number) raised.1
        (subst (λ (e : EdgeId). Carries (tree_in table root) (node_id e.from at) number) raised.0
        carries)) raised.2
        (subst (λ (s : ℕ). step_of graph.dfa.now s graph.edge.label ≡ Some next) raised.1
        (subst (λ (e : EdgeId). step_of graph.dfa.now at e.label ≡ Some next) raised.0 leads)) in
        sound.closed root owned each at number next carries
        (subst (λ (e : EdgeId). IsAtLeast number (widths_in graph at e)) (sym raised.0)
        (subst (λ (s : ℕ). IsAtLeast number (widths_in graph s graph.edge)) (sym raised.1) there))
        leads)
        (grows at number each reached);
    others = sound.others;
    supported = sound.supported;
    rises = λ root. rises_itself (tree_in table root);
    only = λ root stands id. refl;
  }

  -- the automaton has no step from the state
  pub searched_no_step : step_of graph.dfa.now state graph.edge.label ≡ None →
      IsSearched graph state value table table
  searched_no_step none =
      unchanged (λ root number next owned carries low leads.
      absurd (none-some next (sym none ∙ leads)))

  -- no root gains
  pub searched_no_gain : (gains : List Gain) → AreFirst graph table state value gains →
      ((gain : Gain) → Contains gains gain → ⊥) →
      ((number : ℕ) → IsAtLeast number graph.before →
      IsAtLeast number (widths_in graph state graph.edge)) →
      IsSearched graph state value table table
  searched_no_gain gains first none wide =
      unchanged (λ root number next owned carries low leads. ⊎_elim
      (λ (before : IsAtLeast number graph.before). wide number before)
      (λ (gain : (gain : Gain) × Contains gains gain × (gain.root ≡ root) × (number ≤ gain.cap)).
      absurd (none gain.0 gain.1))
      (first.firsts root number owned carries low))

-- the width of the edge at a state that is to be searched
pub width_pending : (graph : Graph) (state : ℕ) → is_pending graph.pending.now state ≡ true →
    (number : ℕ) → IsAtLeast number graph.before →
    IsAtLeast number (widths_in graph state graph.edge)
width_pending graph state pending number reached =
    subst (λ (b : Bool). IsAtLeast number (cond (b && is_pending graph.pending.now state)
    graph.before (value_of graph.store.now graph.edge))) (sym (same_edge_itself graph.edge))
    (subst (λ (b : Bool). IsAtLeast number (cond (true && b)
    graph.before (value_of graph.store.now graph.edge))) (sym pending) reached)

-- a number that is no state has no step
pub no_step_past : (dfa : DfaValue) (state label : ℕ) → length dfa.rows ≤ state →
    step_of dfa state label ≡ None
no_step_past dfa state label past =
    ap (λ (row : List (Option ℕ)). slice_index_or row label None)
    (get_or_past dfa.rows state [] past)
    ∙ get_or_past [] label None (omega arith)

-- ---- a table whose marks alone have changed

module _ (graph : Graph) (old middle : TableValue) (places : middle.places ≡ old.places)
    (puts : middle.puts ≡ old.puts) where
  same_trees : tree_in old ≡ tree_in middle
  same_trees i root = record {
    root = root;
    nodes = nodes_of (sym places i) root;
    puts = sym puts i;
  }

  pub first_same : (state value : ℕ) (gains : List Gain) → AreFirst graph old state value gains →
      AreFirst graph middle state value gains
  first_same state value gains first = record {
    carries = λ gain has.
        subst (λ (trees : ℕ → TreeValue).
        Carries (trees gain.root) (node_id graph.edge.from state) gain.cap) same_trees
        (first.carries gain has);
    owned = first.owned;
    firsts = λ root number owned carries below.
        first.firsts root number owned
        (subst (λ (trees : ℕ → TreeValue).
        Carries (trees root) (node_id graph.edge.from state) number) (sym same_trees) carries) below;
    once = first.once;
  }

  pub sound_same : IsSound graph old → IsSound graph middle
  sound_same sound = record {
    closed = λ root owned.
        subst (λ (trees : ℕ → TreeValue).
        IsClosed (widths_in graph) (step_of graph.dfa.now) (trees root)) same_trees
        (sound.closed root owned);
    others = λ root apart id.
        subst (λ (trees : ℕ → TreeValue). node_of (trees root) id ≡ None) same_trees
        (sound.others root apart id);
    supported = λ root.
        subst (λ (trees : ℕ → TreeValue).
        AreSupported (value_of graph.store.now) (step_of graph.dfa.now) (trees root)) same_trees
        (sound.supported root);
  }

  pub searched_same : (state value : ℕ) (new : TableValue) →
      IsSearched graph state value middle new → IsSearched graph state value old new
  searched_same state value new searched = record {
    closed = searched.closed;
    others = searched.others;
    supported = searched.supported;
    rises = λ root.
        subst (λ (trees : ℕ → TreeValue). Rises (trees root) (tree_in new root)) (sym same_trees)
        (searched.rises root);
    only = λ root stands id.
        subst (λ (trees : ℕ → TreeValue).
        node_of (tree_in new root) id ≡ node_of (trees root) id) (sym same_trees)
        (searched.only root (λ number carries.
        stands number
        (subst (λ (trees : ℕ → TreeValue).
        Carries (trees root) (node_id graph.edge.from state) number) (sym same_trees) carries)) id);
  }

  pub counts_same : (new : TableValue) (start steps : ℕ) →
      CountsPlaces graph.store.now (tree_in middle) (tree_in new) start steps →
      CountsPlaces graph.store.now (tree_in old) (tree_in new) start steps
  counts_same new start steps counts =
      subst (λ (trees : ℕ → TreeValue).
      CountsPlaces graph.store.now trees (tree_in new) start steps) (sym same_trees) counts

-- ---- the search

module _ (graph : Graph) (table : TableValue) (state value next : ℕ) (gains : List Gain)
    (raised : HasRaised graph) (sound : IsSound graph table)
    (first : AreFirst graph table state value gains)
    (leads : step_of graph.dfa.now state graph.edge.label ≡ Some next) where
  abbrev pub begin : Start
  begin = record {
    trees = tree_in table;
    first = gains;
    goal = node_id graph.edge.to next;
    most = value;
  }

  is_task : IsTask (task_of graph begin)
  is_task = record {
    within = λ at number each wide.
        widths_within (value_of graph.store.now) graph.edge graph.before graph.pending.now raised at
        number each wide;
    closed = λ root owned each at number to carries wide steps.
        sound.closed root owned each at number to carries wide steps;
    owned = first.owned;
  }

  module _ (batch : Batch) (width : batch.width ≡ value) (edge : batch.edge ≡ graph.edge)
      (before : batch.before ≡ state) (to : batch.state ≡ next) (low : batch.low ≡ 0)
      (high : batch.high ≡ length gains) where
    held_all : held gains batch ≡ gains
    held_all =
        ap (λ (at : ℕ). take (batch.high - at) (drop at gains)) low
        ∙ take_all (batch.high - 0) gains (omega (arith, high))

    open_first : value_of graph.store.now graph.edge ≡ Some value →
        IsOpen (task_of graph begin) (tree_in table) batch (held gains batch)
    open_first is =
        subst (IsOpen (task_of graph begin) (tree_in table) batch) (sym held_all) (record {
          edge = subst (λ (e : EdgeId). IsAtLeast batch.width (value_of graph.store.now e))
              (sym edge)
              (at_least (value_of graph.store.now graph.edge) batch.width value is
              (omega (arith, width)));
          leads = subst (λ (e : EdgeId).
              step_of graph.dfa.now batch.before e.label ≡ Some batch.state) (sym edge)
              (ap (λ (s : ℕ). step_of graph.dfa.now s graph.edge.label) before
              ∙ (leads ∙ ap (λ (s : ℕ). Some s) (sym to)));
          carries = λ gain has.
              subst (λ (e : EdgeId). Carries (tree_in table gain.root)
              (node_id e.from batch.before) (min gain.cap batch.width)) (sym edge)
              (subst (λ (s : ℕ). Carries (tree_in table gain.root)
              (node_id graph.edge.from s) (min gain.cap batch.width)) (sym before)
              (carries_lower (tree_in table gain.root) (node_id graph.edge.from state) gain.cap
              (min gain.cap batch.width) (first.carries gain has) (omega arith)));
          once = first.once;
          caps = λ gain has. (gain, has, refl, omega arith);
          covers = λ gain has. inr (gain, has, refl, omega arith);
        })

    pub begins : value_of graph.store.now graph.edge ≡ Some value → table.marked ≡ [] →
        (waits : List Batch) (level : ℕ) → Contains waits batch →
        ((each : Batch) → Contains waits each → each ≡ batch) →
        IsUnderWay graph begin table gains waits level
    begins is marks waits level has only = (
      is_task,
      (
        (λ id. None),
        record {
          searching =
              searching_begins (task_of graph begin) batch (held gains)
              (λ root. sound.supported root) waits
              (λ each there.
              subst (λ (x : Batch). IsOpen (task_of graph begin) (tree_in table) x (held gains x))
              (sym (only each there)) (open_first is))
              has
              (λ i. record { vertex = (edge i).to; state = to i })
              (omega (arith, width));
          firm = λ id at there. absurd (none-some at there);
          marked = λ id there.
              absurd (contains_none id (subst (λ (ids : List NodeId). Contains ids id) marks there));
          stand = λ each there.
              subst (StandsIn gains) (sym (only each there)) (record {
                some = omega (arith, low);
                within = omega (arith, high);
              });
        },
      ),
    )

  pub ends : is_pending graph.pending.now state ≡ true → (new : TableValue) (after : List Gain) →
      IsUnderWay graph begin new after [] 0 → IsSearched graph state value table new
  ends pending new after under =
      let task = task_of graph begin in
      let searching = under.1.1.searching in
      record {
        closed = λ widths grows root owned.
            closed_after task under.0 under.1.0 (tree_in new) [] (held after) searching
            (λ each has. contains_none each has) graph.edge state
            (λ at steps. ap (node_id graph.edge.to) (same_Some next at (sym leads ∙ steps)))
            (λ at number ours carries below. ⊎_elim
            (λ (had : IsAtLeast number graph.before).
            inl (width_pending graph state pending number had))
            (λ (gain : (gain : Gain) × Contains gains gain × (gain.root ≡ at) ×
            (number ≤ gain.cap)). inr gain)
            (first.firsts at number ours carries below))
            widths grows root owned;
        others = λ root apart id. ⊎_elim
            (λ (kept : node_of (tree_in new root) id ≡ node_of (tree_in table root) id).
            kept ∙ sound.others root apart id)
            (λ (lifted : (width : ℕ) × (under.1.0 id ≡ Some width) × (one : Gain) ×
            Contains gains one × (one.root ≡ root) × (node : Node) ×
            (node_of (tree_in new root) id ≡ Some node) × (node.value ≤ min one.cap width)).
            absurd (apart (subst (Owns graph.share) lifted.4 (first.owned lifted.2 lifted.3))))
            (searching.kept root id);
        supported = searching.supported;
        rises = searching.rises;
        only = λ root stands id. ⊎_elim
            (λ (kept : node_of (tree_in new root) id ≡ node_of (tree_in table root) id). kept)
            (λ (lifted : (width : ℕ) × (under.1.0 id ≡ Some width) × (one : Gain) ×
            Contains gains one × (one.root ≡ root) × (node : Node) ×
            (node_of (tree_in new root) id ≡ Some node) × (node.value ≤ min one.cap width)).
            absurd (stands lifted.2.cap
            (subst (λ (at : ℕ). Carries (tree_in table at) (node_id graph.edge.from state)
            lifted.2.cap) lifted.4 (first.carries lifted.2 lifted.3))))
            (searching.kept root id);
      }
