-- A forest after a change that leaves all values of the store as they are.
use Rattle.std.proofs.Common.{◌≡◌, ℕ, ◌+◌, Bool, false, cond, List, [], Option, Some, None, refl, sym, ap, subst, ◌∙◌, arith}
use Rattle.std.specs.List.Sorted.{IsStrictlySortedBy}
use Rattle.std.proofs.lemmas.Option.{same_Some}
use Rattle.std.proofs.lemmas.List.Elements.{All-contains}
use Rattle.rpq_base.proofs.Members.{none_in}
use Rattle.edge_store.specs.declared.edge.EdgeId.{EdgeId}
use Rattle.edge_store.specs.Edges.{Edges, HasSameValues, value_of as value_in}
use Rattle.dfa_table.specs.DfaValue.{DfaValue, step_of}
use Rattle.delta_tree.specs.declared.node.NodeId.{NodeId}
use Rattle.delta_tree.specs.declared.node.Node.{Node}
use Rattle.delta_tree.specs.Nodes.{TreeValue, node_of}
use Rattle.delta_tree.specs.Paths.{IsBelow}
use Rattle.delta_tree.proofs.Ids.{same_edge_itself}
use Rattle.tree_insert.specs.Best.{IsAtLeast}
use Rattle.tree_insert.specs.Trees.{IsOptimal}
use Rattle.source_tree.specs.declared.change.Change.{Change}
use Rattle.source_tree.specs.declared.change.Change.TheVariants.{Raise, Remove, Expire}
use Rattle.source_tree.specs.declared.change.EndChange.{EndChange}
use Rattle.source_tree.specs.Ends.{SourceValue}
use Rattle.source_tree.specs.Taking.{KeepsNodes}
use Rattle.source_tree.proofs.Outcomes.{none_kept}
use Rattle.delta_forest.specs.Forest.{ForestValue}
use Rattle.delta_forest.specs.Changes.{Applies, AreEndChangesOf, AreTouched, KeepsTrees, TakesChange}
use Rattle.delta_forest.specs.Keeping.{IsKept, forest_with}
use Rattle.delta_forest.specs.declared.index.Index.{Index}
use Rattle.delta_forest.proofs.Ends.{ends_are_one}
use Rattle.delta_forest.proofs.Indexed.{indexed}
use Rattle.delta_forest.proofs.Sources.{tree_source}

-- no path of a node has an edge without a value
none_below : (values : EdgeId → Option ℕ) (step : ℕ → ℕ → Option ℕ) (tree : TreeValue)
    (edge : EdgeId) (id : NodeId) (node : Node) → IsOptimal values step tree →
    values edge ≡ None → node_of tree id ≡ Some node → IsBelow tree edge id → ⊥
none_below values step tree edge id node optimal gone there below =
    let way = optimal.paths id node below.0 there below.1 in
    subst (IsAtLeast node.value) gone
    (All-contains (λ (each : EdgeId). IsAtLeast node.value (values each)) below.0 edge
    way.least below.2)

module _ (change : Change) (dfa : DfaValue) (calls : ℕ) (old new : Edges) (index : Index)
    (takes : TakesChange change old new) (same : HasSameValues old new)
    (kept : IsKept dfa old calls index) where
  values_stay : value_in old ≡ value_in new
  values_stay = λ i. λ edge. sym (same edge) i

  -- what is kept between changes is so still
  pub kept_still : IsKept dfa new (calls + 1) index
  kept_still = record {
    apart = kept.apart;
    sound = λ root source found.
        let was = kept.sound root source found in
        let puts = was.puts in
        record {
          tree = was.tree;
          optimal = subst (λ (values : EdgeId → Option ℕ).
              IsOptimal values (step_of dfa) source.tree) values_stay was.optimal;
          puts = omega (arith, puts);
        };
    some = kept.some;
    sources = λ edge value state is leads.
        kept.sources edge value state (sym (same edge) ∙ is) leads;
    held = kept.held;
    due = kept.due;
  }

  -- each node stays as it is
  nodes_stay : (root : ℕ) (source : SourceValue) →
      (optimal : IsOptimal (value_in old) (step_of dfa) source.tree) →
      KeepsNodes change source.tree source.tree
  nodes_stay root source optimal = by change takes
    where
      by : (each : Change) → TakesChange each old new →
          KeepsNodes each source.tree source.tree
      by (Raise edge value) updates = record {
        same = λ id before after is also differ. same_Some after before (sym also ∙ is);
        fresh = λ id after is differ. absurd (differ after is refl);
      }
      by (Remove edge) updates = record {
        same = λ id node is apart. is;
        fresh = λ id after is below.
            absurd (none_below (value_in old) (step_of dfa) source.tree edge id after optimal
            (sym (same edge) ∙ (updates edge
            ∙ ap (λ (b : Bool). cond b None (value_in old edge)) (same_edge_itself edge)))
            is (below after is));
      }
      by (Expire now) expires = record {
        same = λ id before after is also differ. same_Some after before (sym also ∙ is);
        fresh = λ id after is differ. absurd (differ after is refl);
      }

  module _ (broken : Bool) (olds : List ℕ) (old_log : List EndChange) where
    abbrev before_it : ForestValue
    before_it = forest_with dfa old index.sources calls broken olds old_log

    abbrev after_it : ForestValue
    after_it = forest_with dfa new index.sources (calls + 1) false [] []

    trees_stay : KeepsTrees change before_it after_it
    trees_stay = record {
      puts = λ root before after was is.
          let less = ap (λ (tree : TreeValue). tree.puts)
          (same_Some before after (sym was ∙ is)) in
          omega (arith, less);
      nodes = λ root before after was is.
          let at = tree_source index.sources root before was in
          subst (KeepsNodes change before) (same_Some before after (sym was ∙ is))
          (subst (λ (tree : TreeValue). KeepsNodes change tree tree) at.2
          (nodes_stay root at.0 (kept.sound root at.0 at.1).optimal));
    }

    none_touched : AreTouched change before_it after_it []
    unfolding IsStrictlySortedBy
    none_touched = record {
      sorted = tt;
      only = λ root member. absurd (none_in root member);
      others = λ root vertex state apart. refl;
    }

    no_ends : AreEndChangesOf before_it after_it []
    no_ends = record {
      exact = λ each before after was is. (
        (λ member. absurd (none_in each member)),
        (λ has. absurd (none_kept each.outcome before after
            (ends_are_one before_it each.root each.vertex before after was is) has)),
      );
      once = λ i j d less within. absurd (omega (arith, within));
    }

    -- and this is what the change does
    pub applies_still : Applies change before_it after_it
    applies_still = record {
      store = takes;
      indexed = indexed dfa new (calls + 1) (calls + 1) index false [] [] kept_still;
      keeps = trees_stay;
      touched = none_touched;
      log = no_ends;
      calls = refl;
      unbroken = refl;
    }
