-- A tree after a cut, and after the search that follows it.
use Rattle.std.proofs.Common.{◌≡◌, ◌≢◌, ℕ, zero, suc, ◌≤◌, ◌+◌, ◌*◌, ◌⊎◌, inl, inr, ⊎_elim, Bool, true, false, cond, List, [], ◌∷◌, length, slice_index_or, remove, Option, Some, None, refl, sym, ap, subst, ◌∙◌, arith, Contains, IsPermutation}
use Rattle.std.specs.Prelude.{All, AllPairs, sum_by}
use Rattle.std.specs.List.{IsDistinct}
use Rattle.std.proofs.lemmas.Bool.{true≢false}
use Rattle.std.proofs.lemmas.Option.{none-some}
use Rattle.std.proofs.lemmas.List.Elements.{Contains-get_or, All-from_recursion, All-tail, All-head, All-weaker}
use Rattle.std.proofs.lemmas.List.Sorted.{IsPermutation-remove, Contains-permutation, sum_by-IsPermutation}
use Rattle.std.proofs.lemmas.List.Sums.{sum_by-cons}
use Rattle.edge_store.specs.declared.edge.EdgeId.{EdgeId}
use Rattle.edge_store.specs.Edges.{Edges, ins_of, outs_of, same_edge}
use Rattle.edge_store.specs.Edges as store
use Rattle.delta_tree.specs.declared.node.NodeId.{NodeId}
use Rattle.delta_tree.specs.declared.node.Try.{Try}
use Rattle.delta_tree.specs.declared.node.Node.{Node}
use Rattle.delta_tree.specs.Nodes.{TreeValue, node_of, value_of, node_id, root_id, same_node, IsTree}
use Rattle.delta_tree.specs.Paths.{HangsBy, LeadsUp, IsBelow}
use Rattle.delta_tree.specs.Changes.{Carries, ChangesAtMost, Cuts, AreBelow, IsSameBeside}
use Rattle.delta_tree.proofs.Ids.{same_node_is, same_node_laws, same_edge_is, same_edge_itself}
use Rattle.tree_insert.specs.Best.{IsAtLeast, IsWay}
use Rattle.tree_insert.specs.Trees.{HasOwnWays, IsOptimal, HasBest, IsLater, Keeps, IsRisen, CountsOuts, count_outs}
use Rattle.tree_insert.proofs.Bests.{below_some, greatest_reached, greatest_is}
use Rattle.tree_insert.proofs.Members.{contains_head, contains_tail, contains_cases, contains_none}
use Rattle.tree_insert.proofs.Nodes.{value_is, node_reached, value_reached}
use Rattle.tree_insert.proofs.SameEdges.{edge_cases}
use Rattle.tree_insert.proofs.Paths.{path_there, supported_of_ways}
use Rattle.tree_insert.proofs.Optimal.{optimal_of_served, reached_of_optimal}
use Rattle.tree_delete.specs.Entries.{HasEntries, count_ins}
use Rattle.tree_delete.specs.Laws.{FewEdgesFewSteps, HasFewEdges, NoCutNoStep}
use Rattle.tree_delete.specs.Laws.{RemovalElsewhereKeepsOptimal, RemovalsAreRemovals}
use Rattle.tree_delete.specs.Laws.{StepsAreWithinCut}
use Rattle.tree_delete.specs.Removal.{CountsCut, CountsFound, IsRemoved, KeepsApart}

-- ---- lists of places

contains_or_not : (ids : List NodeId) (id : NodeId) → Contains ids id ⊎ (Contains ids id → ⊥)
contains_or_not [] id = inr (λ there. contains_none id there)
contains_or_not (first ∷ ids) id = by (same_node first id) refl (contains_or_not ids id)
  where
    by : (b : Bool) → same_node first id ≡ b → Contains ids id ⊎ (Contains ids id → ⊥) →
        Contains (first ∷ ids) id ⊎ (Contains (first ∷ ids) id → ⊥)
    by true is further =
        inl (subst (λ (x : NodeId). Contains (first ∷ ids) x) (same_node_is first id is)
        (contains_head first ids))
    by false is further =
        ⊎_elim (λ (there : Contains ids id). inl (contains_tail first ids id there))
        (λ (none : Contains ids id → ⊥). inr (λ there. ⊎_elim
        (λ (same : first ≡ id). true≢false
        (sym (ap (same_node first) (sym same) ∙ same_node_laws.refl first) ∙ is))
        none
        (contains_cases first ids id there)))
        further

-- places that are told apart are distinct
distinct_apart : (ids : List NodeId) → IsDistinct same_node ids → AllPairs ◌≢◌ ids
unfolding IsDistinct
distinct_apart [] once i j d less within = absurd (omega (arith, within))
distinct_apart (first ∷ ids) once zero zero d less within = absurd (omega (arith, less))
distinct_apart (first ∷ ids) once zero (suc j) d less within = λ same.
    let other = slice_index_or ids j d in
    let differ : same_node first other ≡ false =
    All-from_recursion (λ (x : NodeId). same_node first x ≡ false) ids once.0 j d
    (omega (arith, within)) in
    true≢false (sym (ap (same_node first) (sym same) ∙ same_node_laws.refl first) ∙ differ)
distinct_apart (first ∷ ids) once (suc i) zero d less within = absurd (omega (arith, less))
distinct_apart (first ∷ ids) once (suc i) (suc j) d less within =
    distinct_apart ids once.1 i j d (omega (arith, less)) (omega (arith, within))

-- a sum over distinct members is at most that over all
sum_within : (f : NodeId → ℕ) (some all : List NodeId) → AllPairs ◌≢◌ some →
    All (Contains all) some → sum_by f some ≤ sum_by f all
sum_within f [] all apart there = omega arith
sum_within f (first ∷ some) all apart there =
    let has = All-head (Contains all) first some there in
    let rest = remove all has.0 in
    let moved : IsPermutation all (first ∷ rest) =
    IsPermutation-remove all has.0 first has.1 (sym has.2) in
    let others : All (Contains rest) some = λ k d within.
    let other = slice_index_or some k d in
    let at : Contains all other = All-tail (Contains all) first some there k d within in
    ⊎_elim
    (λ (same : first ≡ other). absurd
    (apart 0 (suc k) d (omega arith) (omega (arith, within)) same))
    (λ (found : Contains rest other). found)
    (contains_cases first rest other (Contains-permutation all (first ∷ rest) other moved at))
    in
    let further : sum_by f some ≤ sum_by f rest =
    sum_within f some rest
    (λ i j d less within. apart (suc i) (suc j) d (omega (arith, less)) (omega (arith, within)))
    others in
    omega (
      arith,
      further,
      sum_by-cons f first some,
      sum_by-cons f first rest,
      sum_by-IsPermutation
          f all (first ∷ rest) moved,
    )

-- ---- the values before and after

module _ (before values : EdgeId → Option ℕ) (edge : EdgeId)
    (removed : IsRemoved before values edge) where
  -- an edge that has a value is another one, and had it
  was_there : (each : EdgeId) (number : ℕ) → IsAtLeast number (values each) →
      IsAtLeast number (before each)
  was_there each number reached = ⊎_elim
      (λ (same : each ≡ edge). absurd
      (subst (IsAtLeast number) (ap values same ∙ removed.gone) reached))
      (λ (apart : each ≢ edge). subst (IsAtLeast number) (removed.others each apart) reached)
      (edge_cases each edge)

  -- on a path without the edge the values stay
  stay_there : (path : List EdgeId) (number : ℕ) → (Contains path edge → ⊥) →
      All (λ (each : EdgeId). IsAtLeast number (before each)) path →
      All (λ (each : EdgeId). IsAtLeast number (values each)) path
  stay_there path number none all k d within =
      let each = slice_index_or path k d in
      let apart : each ≢ edge =
      λ same. none (subst (Contains path) same (Contains-get_or path k d within)) in
      subst (IsAtLeast number) (sym (removed.others each apart)) (all k d within)

  module _ (step : ℕ → ℕ → Option ℕ) where
    way_was : (root vertex state number : ℕ) (path : List EdgeId) →
        IsWay values step root vertex state number path →
        IsWay before step root vertex state number path
    way_was root vertex state number path way = record {
      some = way.some;
      leads = way.leads;
      least = All-weaker (λ (each : EdgeId). IsAtLeast number (values each))
          (λ (each : EdgeId). IsAtLeast number (before each))
          (λ each reached. was_there each number reached) path way.least;
    }

    module _ (old middle : TreeValue) (is : IsTree old) (optimal : IsOptimal before step old)
        (cuts : Cuts old middle edge) (beside : IsSameBeside old middle) where
      -- ---- the tree after the cut

      -- a node that stayed stood before, apart from the edge
      stood : (id : NodeId) (node : Node) → node_of middle id ≡ Some node →
          (node_of old id ≡ Some node) × (IsBelow old edge id → ⊥)
      stood id node there =
          let apart : IsBelow old edge id → ⊥ =
          λ below. none-some node (sym (cuts.gone id below) ∙ there) in
          (sym (cuts.kept id apart) ∙ there, apart)

      leads_before : (id : NodeId) (path : List EdgeId) → LeadsUp middle id path →
          LeadsUp old id path
      leads_before id [] leads = leads ∙ ap (λ (at : ℕ). node_id at 0) beside.root
      leads_before id (each ∷ path) leads =
          (leads.0, (stood id leads.0 leads.1).0, leads.2, leads_before leads.0.parent path leads.3)

      -- a path of a node that stayed is a way still
      way_stays : (id : NodeId) (node : Node) (path : List EdgeId) → node_of old id ≡ Some node →
          (IsBelow old edge id → ⊥) → LeadsUp old id path →
          IsWay values step old.root id.vertex id.state node.value path
      way_stays id node path there apart leads =
          let way = optimal.paths id node path there leads in
          record {
            some = way.some;
            leads = way.leads;
            least = stay_there path node.value (λ has. apart (path, leads, has)) way.least;
          }

      pub cut_ways : HasOwnWays values step middle
      cut_ways id node path there leads =
          let was = stood id node there in
          subst (λ (root : ℕ). IsWay values step root id.vertex id.state node.value path)
          (sym beside.root)
          (way_stays id node path was.0 was.1 (leads_before id path leads))

      carried_before : (id : NodeId) (number : ℕ) → Carries middle id number → Carries old id number
      carried_before id number carries = ⊎_elim
          (λ (root : id ≡ root_id middle). inl (root ∙ ap (λ (at : ℕ). node_id at 0) beside.root))
          (λ (has : (node : Node) × (node_of middle id ≡ Some node) × (number ≤ node.value)). inr
          (has.0, (stood id has.0 has.1).0, has.2))
          carries

      module _ (ids : List NodeId) (below : AreBelow old edge ids) where
        -- the tries that could raise something lead to nodes that were cut
        pub cut_best : (tries : List Try) → HasEntries values step middle ids tries →
            HasBest values step middle tries
        cut_best tries entries each number can = ⊎_elim
            (λ (there : Contains ids each.to).
            let from : node_id each.edge.from each.from.state ≡ each.from =
            λ i. record { vertex = can.valid.joins.leaves i; state = each.from.state } in
            entries each.to each.edge each.from.state number there (record {
              to = can.valid.joins.ends;
              leads = can.valid.leads;
              carries = subst (λ (id : NodeId). Carries middle id number) (sym from) can.gives.from;
              edge_is = can.gives.edge;
            }))
            (λ (none : Contains ids each.to → ⊥). absurd (can.lower (stays none)))
            (contains_or_not ids each.to)
          where
            stays : (Contains ids each.to → ⊥) → IsAtLeast number (value_of middle each.to)
            stays none =
                let apart : IsBelow old edge each.to → ⊥ =
                λ is_below. none ((below.exact each.to).1 is_below) in
                let from : node_id each.edge.from each.from.state ≡ each.from =
                λ i. record { vertex = can.valid.joins.leaves i; state = each.from.state } in
                let to : node_id each.edge.to each.to.state ≡ each.to =
                λ i. record { vertex = can.valid.joins.ends i; state = each.to.state } in
                let was : IsAtLeast number (value_of old each.to) =
                subst (λ (id : NodeId). IsAtLeast number (value_of old id)) to
                (reached_of_optimal before step old optimal each.edge each.from.state number
                each.to.state
                (subst (λ (id : NodeId). Carries old id number) (sym from)
                (carried_before each.from number can.gives.from))
                (was_there each.edge number can.gives.edge) can.valid.leads) in
                let node = node_reached old each.to number was in
                value_reached middle each.to node.0 number (cuts.kept each.to apart ∙ node.1) node.2

        -- ---- the tree after the search

        module _ (new : TreeValue) (later : IsLater middle new) (keeps : Keeps middle new)
            (after : IsOptimal values step new) where
          root_is : new.root ≡ old.root
          root_is = later.root ∙ beside.root

          -- no value is above the one before
          no_higher : (id : NodeId) (number : ℕ) → value_of new id ≡ Some number →
              IsAtLeast number (value_of old id)
          no_higher id number there =
              let way =
              greatest_is (value_of new id)
              (λ (n : ℕ). (path : List EdgeId) × IsWay values step new.root id.vertex id.state n
              path) number (after.best id) there in
              let also =
              way_was old.root id.vertex id.state number way.0
              (subst (λ (root : ℕ). IsWay values step root id.vertex id.state number way.0)
              root_is way.1) in
              greatest_reached (value_of old id)
              (λ (n : ℕ). (path : List EdgeId) × IsWay before step old.root id.vertex id.state n
              path) number (optimal.best id) (way.0, also)

          -- a node that stayed has the value that it had
          same_value : (id : NodeId) (node : Node) → node_of old id ≡ Some node →
              (IsBelow old edge id → ⊥) →
              (now : Node) × (node_of new id ≡ Some now) × (node.value ≡ now.value)
          same_value id node there apart =
              let path = path_there old id node is there in
              let way =
              subst (λ (root : ℕ). IsWay values step root id.vertex id.state node.value path.0)
              (sym root_is) (way_stays id node path.0 there apart path.1) in
              let reached : IsAtLeast node.value (value_of new id) =
              greatest_reached (value_of new id)
              (λ (n : ℕ). (each : List EdgeId) × IsWay values step new.root id.vertex id.state n
              each) node.value (after.best id) (path.0, way) in
              let now = node_reached new id node.value reached in
              let back : now.0.value ≤ node.value =
              below_some (value_of old id) now.0.value node.value
              (no_higher id now.0.value (value_is new id now.0 now.1))
              (value_is old id node there) in
              (now.0, now.1, omega (arith, now.2, back))

          pub cut_keeps : KeepsApart old new edge
          cut_keeps = record {
            same = λ id node there apart.
                let now = same_value id node there apart in
                let in_middle = cuts.kept id apart ∙ there in
                now.1 ∙ ap (λ (n : Node). Some n) (keeps.same id node now.0 in_middle now.1 now.2);
            fresh = λ id now there all_below.
                let bound =
                keeps.fresh id now there
                (λ each in_middle. let was =
                stood id each in_middle in absurd (was.1 (all_below each was.0))) in
                omega (arith, bound, beside.puts);
          }

          -- what wasn't cut is as it was, and where no node stood none stands
          pub cut_changes : ChangesAtMost old new ids
          cut_changes id none = by (node_of old id) refl (node_of new id) refl
            where
              apart : IsBelow old edge id → ⊥
              apart is_below = none ((below.exact id).1 is_below)

              by : (was : Option Node) → node_of old id ≡ was → (now : Option Node) →
                  node_of new id ≡ now → node_of new id ≡ node_of old id
              by (Some node) there now is = cut_keeps.same id node there apart ∙ sym there
              by None there None is = is ∙ sym there
              by None there (Some node) is =
                  let was =
                  node_reached old id node.value (no_higher id node.value (value_is new id node is))
                  in
                  absurd (none-some was.0 (sym there ∙ was.1))

          -- what is new or raised was cut
          risen_cut : (id : NodeId) → IsRisen middle new id → Contains ids id
          risen_cut id risen = ⊎_elim (λ (there : Contains ids id). there)
              (λ (none : Contains ids id → ⊥).
              let apart : IsBelow old edge id → ⊥ =
              λ is_below. none ((below.exact id).1 is_below) in
              let was =
              node_reached old id risen.0.value
              (no_higher id risen.0.value (value_is new id risen.0 risen.1)) in
              absurd (omega (arith, risen.2 was.0 (cuts.kept id apart ∙ was.1), was.2)))
              (contains_or_not ids id)

          pub cut_counts : (store : Edges) (start found between end : ℕ) →
              CountsFound store ids start found → between ≤ found + count_ins store ids →
              CountsOuts store middle new between end → CountsCut store old edge start end
          cut_counts store start found between end first second counts = record {
            nodes = ids;
            apart = distinct_apart ids below.once;
            below = λ k d within. (below.exact (slice_index_or ids k d)).0
                (Contains-get_or ids k d within);
            few =
                let outs : count_outs store counts.nodes ≤ count_outs store ids =
                sum_within (λ (id : NodeId). length (outs_of store id.vertex)) counts.nodes ids
                counts.apart
                (All-weaker (IsRisen middle new) (Contains ids) risen_cut counts.nodes counts.risen)
                in
                omega (arith, first, second, counts.few, outs);
          }

-- ---- an edge by which no node hangs

-- on a path, a node hangs by each edge
hangs_on_path : (tree : TreeValue) (edge : EdgeId) (id : NodeId) (path : List EdgeId) →
    LeadsUp tree id path → Contains path edge → (at : NodeId) × HangsBy tree edge at
hangs_on_path tree edge id [] leads there = absurd (contains_none edge there)
hangs_on_path tree edge id (each ∷ path) leads there = ⊎_elim
    (λ (same : each ≡ edge). (id, (leads.0, leads.1, leads.2 ∙ same)))
    (λ (further : Contains path edge).
    hangs_on_path tree edge leads.0.parent path leads.3 further)
    (contains_cases each path edge there)

pub removal_elsewhere_keeps_optimal : RemovalElsewhereKeepsOptimal
removal_elsewhere_keeps_optimal before after step tree edge is optimal removed none =
    optimal_of_served after step tree is
    (supported_of_ways after step tree is
    (cut_ways before after edge removed step tree tree is optimal nothing_cut
    (record { root = refl; puts = refl })))
    (λ each at number state carries reached leads.
    inl (reached_of_optimal before step tree optimal each at number state carries
    (was_there before after edge removed each number reached) leads))
  where
    free : (id : NodeId) → IsBelow tree edge id → ⊥
    free id below =
        let hangs = hangs_on_path tree edge id below.0 below.1 below.2 in none hangs.0 hangs.1

    nothing_cut : Cuts tree tree edge
    nothing_cut = record {
      gone = λ id below. absurd (free id below);
      kept = λ id _. refl;
    }

-- ---- trees and stores

pub removals_are_removals : RemovalsAreRemovals
removals_are_removals old new edge updates = record {
  gone = updates edge ∙ ap (λ (b : Bool). cond b None (store.value_of old edge))
      (same_edge_itself edge);
  others = λ each apart. updates each ∙ ap (λ (b : Bool). cond b None (store.value_of old each))
      (differ each apart);
}
  where
    differ : (each : EdgeId) → each ≢ edge → same_edge edge each ≡ false
    differ each apart = by (same_edge edge each) refl
      where
        by : (b : Bool) → same_edge edge each ≡ b → b ≡ false
        by true is = absurd (apart (sym (same_edge_is edge each is)))
        by false is = refl

pub no_cut_no_step : NoCutNoStep
no_cut_no_step store old edge start steps counts none = by counts.nodes counts.below counts.few
  where
    by : (nodes : List NodeId) → All (IsBelow old edge) nodes →
        steps ≤ start + length nodes + count_ins store nodes + 2 * count_outs store nodes →
        steps ≤ start
    by [] below few = omega (arith, few)
    by (id ∷ nodes) below few = absurd (none id (All-head (IsBelow old edge) id nodes below))

-- distinct members are at most as many as all
few_within : (some all : List NodeId) → AllPairs ◌≢◌ some → All (Contains all) some →
    length some ≤ length all
few_within some all apart there =
    let ones = sum_within (λ (id : NodeId). 1) some all apart there in
    omega (arith, ones, sum_of_ones some, sum_of_ones all)
  where
    sum_of_ones : (ids : List NodeId) → sum_by (λ (id : NodeId). 1) ids ≡ length ids
    sum_of_ones [] = refl
    sum_of_ones (id ∷ ids) =
        omega (arith, sum_by-cons (λ (one : NodeId). 1) id ids, sum_of_ones ids)

pub steps_are_within_cut : StepsAreWithinCut
steps_are_within_cut store old edge start steps cut counts all =
    let there : All (Contains cut) counts.nodes =
    All-weaker (IsBelow old edge) (Contains cut) all counts.nodes counts.below in
    omega (
      arith,
      counts.few,
      few_within counts.nodes cut counts.apart there,
      sum_within (λ (id : NodeId). length (ins_of store id.vertex)) counts.nodes cut counts.apart
          there,
      sum_within (λ (id : NodeId). length (outs_of store id.vertex)) counts.nodes cut counts.apart
          there,
    )

-- a sum over places of which each has at most this number
sum_at_most : (f : NodeId → ℕ) (most : ℕ) (ids : List NodeId) → All (λ id. f id ≤ most) ids →
    sum_by f ids ≤ length ids * most
sum_at_most f most [] each = omega arith
sum_at_most f most (id ∷ ids) each = omega (
  arith,
  sum_by-cons f id ids,
  All-head (λ (one : NodeId). f one ≤ most) id ids each,
  sum_at_most f most ids (All-tail (λ (one : NodeId). f one ≤ most) id ids each),
)

pub few_edges_few_steps : FewEdgesFewSteps
few_edges_few_steps store old edge start steps ins outs cut counts all few =
    let ins_few = sum_at_most (λ (id : NodeId). length (ins_of store id.vertex)) ins cut
    (All-weaker (HasFewEdges store ins outs)
    (λ (id : NodeId). length (ins_of store id.vertex) ≤ ins) (λ id both. both.0) cut few) in
    let outs_few = sum_at_most (λ (id : NodeId). length (outs_of store id.vertex)) outs cut
    (All-weaker (HasFewEdges store ins outs)
    (λ (id : NodeId). length (outs_of store id.vertex) ≤ outs) (λ id both. both.1) cut few) in
    let within = steps_are_within_cut store old edge start steps cut counts all in
    omega (arith, ins_few, outs_few, within)
