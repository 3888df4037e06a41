use Rattle.std.proofs.Common.{◌≡◌, ◌≤◌, ◌+◌, ◌∙◌, ℕ, List, [], ◌∷◌, ◌++◌, length, length-append, Some, ⊎_elim, sym, ap, subst}
use Rattle.std.proofs.lemmas.Option.{none-some}
use Rattle.edge_store.specs.Edges.{value_of}
use Rattle.dfa_table.specs.DfaValue.{step_of}
use Rattle.delta_tree.specs.declared.node.NodeId.{NodeId}
use Rattle.delta_tree.specs.declared.node.Node.{Node}
use Rattle.delta_tree.specs.Nodes.{node_id, node_of, root_id}
use Rattle.place_table.specs.Table.{tree_in}
use Rattle.wide_search.specs.Counts.{CountsWide}
use Rattle.wide_search.specs.Lifts.{ReportsLifts}
use Rattle.wide_search.specs.Widths.{IsClosed, widths}
use Rattle.wide_search.proofs.Lifted.{reports_none}
use Rattle.wide_search.proofs.Pending.{closed_first, keeps_risen, optimal_of_closed, raised_before, supported_first, widths_none}
use Rattle.wide_search.proofs.Searching.{rises_reached}
use Rattle.wide_search.proofs.raise.WideSearch.raise.Goals as goal

pub search_states-requires-clause-raised : goal.search_states-requires-clause-raised
search_states-requires-clause-raised g c =
    raised_before (value_of c.args.store.now) c.args.raised.edge c.args.raised.before
    c.requires.raised.0

pub search_states-requires-clause-sound : goal.search_states-requires-clause-sound
search_states-requires-clause-sound g c =
    let values = value_of c.args.store.now in
    let states = c.states_at.new.states.items in
    let edge = c.args.raised.edge in
    let before = c.args.raised.before in
    let pending : c.deref.result.now ≡ states ++ 0 ∷ [] =
    c.deref.ensures.value ∙ c.in_ok-push.ensures.items in
    record {
      closed = λ root owned.
          subst (λ (list : List ℕ). IsClosed (widths values edge before list)
          (step_of c.args.dfa.now) (tree_in c.args.table.now root)) (sym pending)
          (closed_first values c.args.dfa.now edge before c.args.table.now root states
          c.in_ok-states_at.ensures.states (c.requires.trees.optimal root owned));
      others = c.requires.trees.others;
      supported = λ root.
          supported_first values c.args.dfa.now edge before c.args.table.now root states
          c.args.share (c.has_trees.ensures root) c.requires.raised.0
          (c.requires.trees.optimal root) c.requires.trees.others;
    }

pub returns-clause-trees : goal.returns-clause-trees
returns-clause-trees g c =
    let searched = c.in_ok-search_states.ensures.searched in
    record {
      optimal = λ root owned.
          optimal_of_closed (value_of c.args.store.now) c.args.dfa.now
          (tree_in c.search_states.new.table root) (c.has_trees-2.ensures root)
          (searched.supported root)
          (λ each state number next carries reached leads.
          searched.closed root owned each state number next carries
          (widths_none (value_of c.args.store.now) c.args.raised.edge c.args.raised.before state
          number each reached)
          leads);
      others = searched.others;
    }

pub returns-clause-rises : goal.returns-clause-rises
returns-clause-rises g c =
    let rises = c.in_ok-search_states.ensures.searched.rises in
    record {
      keeps = λ root.
          keeps_risen (tree_in c.args.table.now root) (tree_in c.search_states.new.table root)
          (rises root);
      rises = λ root id number reached.
          rises_reached (tree_in c.args.table.now root) (tree_in c.search_states.new.table root) id
          number (rises root) reached;
    }

pub returns-clause-only : goal.returns-clause-only
returns-clause-only g c root apart none id =
    c.in_ok-search_states.ensures.searched.only root
    (λ state number carries. ⊎_elim
    (λ (here : node_id c.args.raised.edge.from state ≡ root_id (tree_in c.args.table.now root)).
    absurd (apart (sym (ap (λ (at : NodeId). at.vertex) here))))
    (λ (node : (node : Node) × (node_of (tree_in c.args.table.now root)
    (node_id c.args.raised.edge.from state) ≡ Some node) × (number ≤ node.value)).
    absurd (none-some node.0 (sym (none state) ∙ node.1)))
    carries) id

pub returns-clause-lifts : goal.returns-clause-lifts
returns-clause-lifts g c =
    c.in_ok-search_states.ensures.lifts c.args.table.now
    (subst (ReportsLifts c.args.table.now c.args.table.now) (sym c.clear.ensures.items)
    (reports_none c.args.table.now))

pub returns-clause-counted : goal.returns-clause-counted
returns-clause-counted g c =
    let states = c.states_at.new.states.items in
    let number : length c.deref.result.now ≡ length states + 1 =
    ap (λ (list : List ℕ). length list) (c.deref.ensures.value ∙ c.in_ok-push.ensures.items)
    ∙ length-append states (0 ∷ []) in
    record {
      states = states;
      are = c.in_ok-states_at.ensures.states;
      once = c.in_ok-states_at.ensures.rising;
      counts = subst (λ (n : ℕ). CountsWide c.args.store.now (tree_in c.args.table.now)
          (tree_in c.search_states.new.table) n c.args.steps.now c.search_states.new.steps) number
          c.in_ok-search_states.ensures.counted;
    }
