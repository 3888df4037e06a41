-- The best entries of nodes.
use Rattle.std.proofs.Common.{◌≡◌, ℕ, ◌≤◌, ◌<◌, ◌+◌, ◌⊎◌, inl, inr, ⊎_elim, List, ◌++◌, length, take, get_or, Option, Some, None, refl, sym, ap, subst, ◌∙◌, arith, Contains, slice_get}
use Rattle.std.specs.Prelude.{All, IfSome, is_some}
use Rattle.std.proofs.lemmas.Bool.{cases_eq}
use Rattle.std.proofs.lemmas.Option.{same_Some, slice_get_read, slice_get_within, get_or_from_slice_get}
use Rattle.std.proofs.lemmas.List.{append-nil, get_or_default}
use Rattle.std.proofs.lemmas.List.Elements.{All-push, Contains-append_left, Contains-push}
use Rattle.edge_store.specs.declared.edge.EdgeId.{EdgeId}
use Rattle.edge_store.specs.declared.edge.HalfEdge.{HalfEdge}
use Rattle.edge_store.specs.declared.edge.In.{In}
use Rattle.edge_store.specs.Edges.{Edges, ins_of, in_entry, in_half, ending, value_of, GivesIns}
use Rattle.delta_tree.specs.declared.node.NodeId.{NodeId}
use Rattle.delta_tree.specs.declared.node.Try.{Try}
use Rattle.delta_tree.specs.declared.node.Node.{Node}
use Rattle.delta_tree.specs.Nodes.{TreeValue, node_id, node_of, root_id}
use Rattle.delta_tree.specs.Changes.{Carries}
use Rattle.tree_insert.specs.Best.{IsAtLeast}
use Rattle.tree_insert.specs.Trees.{Gives, IsValid}
use Rattle.tree_insert.proofs.Bests.{at_least}
use Rattle.tree_insert.proofs.Bests as bests
use Rattle.tree_insert.proofs.Nodes.{carries_lower}
use Rattle.tree_delete.specs.declared.entry.TreeEntry.{TreeEntry}
use Rattle.std.proofs.lemmas.List.Sums.{sum_by_more, sum_by-take-le}
use Rattle.tree_delete.specs.Entries.{value_in, steps_in, count_ins, IsEntryBy, IsEntry, CanEnter}

-- ---- the better of two

pub if_either : (first second result : Option TreeEntry) (P : TreeEntry → Type 0) →
    (result ≡ first) ⊎ (result ≡ second) → IfSome first P → IfSome second P → IfSome result P
if_either first second result P either one other = ⊎_elim
    (λ (is : result ≡ first). subst (λ (o : Option TreeEntry). IfSome o P) (sym is) one)
    (λ (is : result ≡ second). subst (λ (o : Option TreeEntry). IfSome o P) (sym is) other)
    either

pub if_weaker : (result : Option TreeEntry) (P Q : TreeEntry → Type 0) →
    ((entry : TreeEntry) → P entry → Q entry) → IfSome result P → IfSome result Q
if_weaker None P Q more is = tt
if_weaker (Some entry) P Q more is = more entry is

-- ---- by one edge, from the first of some states

abbrev pub IsMostFrom : (ℕ → ℕ → Option ℕ) → TreeValue → NodeId → EdgeId → ℕ → List ℕ →
    Option TreeEntry → ℕ → Type 0
IsMostFrom step tree id edge value states best bound =
    (place number : ℕ) → place < bound → number ≤ value →
    Carries tree (node_id edge.from (get_or states place 0)) number →
    step (get_or states place 0) edge.label ≡ Some id.state → IsAtLeast number (value_in best)

module _ (step : ℕ → ℕ → Option ℕ) (tree : TreeValue) (id : NodeId) (edge : EdgeId) (value : ℕ)
    (states : List ℕ) where
  pub most_one_more : (best more : Option TreeEntry) (bound : ℕ) →
      IsMostFrom step tree id edge value states best bound →
      ((number : ℕ) → IsAtLeast number (value_in best) → IsAtLeast number (value_in more)) →
      ((number : ℕ) → number ≤ value → Carries tree (node_id edge.from (get_or states bound 0))
      number → step (get_or states bound 0) edge.label ≡ Some id.state →
      IsAtLeast number (value_in more)) →
      IsMostFrom step tree id edge value states more (bound + 1)
  most_one_more best more bound most kept one place number below low carries leads = ⊎_elim
      (λ (same : place ≡ bound). one number low
      (subst (λ (p : ℕ). Carries tree (node_id edge.from (get_or states p 0)) number) same carries)
      (ap (λ (p : ℕ). step (get_or states p 0) edge.label) (sym same) ∙ leads))
      (λ (apart : place ≡ bound → ⊥). kept number
      (most place number (omega (arith, apart)) low carries leads))
      (cases_eq place bound)

  -- all of them
  pub most_of_all : (best : Option TreeEntry) (bound before number : ℕ) → length states ≤ bound →
      IsMostFrom step tree id edge value states best bound → Contains states before →
      number ≤ value → Carries tree (node_id edge.from before) number →
      step before edge.label ≡ Some id.state → IsAtLeast number (value_in best)
  most_of_all best bound before number all most there low carries leads =
      let is : get_or states there.0 0 ≡ before =
      get_or_default states there.0 0 before there.1 ∙ there.2 in
      most there.0 number (omega (arith, there.1, all)) low
      (subst (λ (state : ℕ). Carries tree (node_id edge.from state) number) (sym is) carries)
      (ap (λ (state : ℕ). step state edge.label) is ∙ leads)

-- ---- by an edge

module _ (step : ℕ → ℕ → Option ℕ) (tree : TreeValue) (id : NodeId) where
  -- an entry by an edge that is there is a valid one
  pub entry_of_edge : (values : EdgeId → Option ℕ) (edge : EdgeId) (value : ℕ) (entry : TreeEntry) →
      edge.to ≡ id.vertex → values edge ≡ Some value → IsEntryBy step tree id edge value entry →
      IsEntry values step tree id entry
  entry_of_edge values edge value entry ends there by =
      let here : values entry.step.edge ≡ Some value = ap values by.edge_is ∙ there in
      record {
        valid = record {
          from = ⊎_elim (λ (root : entry.step.from ≡ root_id tree). inl root)
              (λ (node : (node : Node) × (node_of tree entry.step.from ≡ Some node) ×
              (entry.value ≤ node.value)). inr (ap is_some node.1)) by.carries;
          edge = ap is_some here;
          joins = record {
            leaves = ap (λ (e : EdgeId). e.from) by.edge_is ∙ sym by.from;
            ends = ap (λ (e : EdgeId). e.to) by.edge_is ∙
                (ends ∙ ap (λ (at : NodeId). at.vertex) (sym by.to));
          };
          leads = ap (λ (e : EdgeId). step entry.step.from.state e.label) by.edge_is ∙
              (by.leads ∙ ap (λ (at : NodeId). Some at.state) (sym by.to));
        };
        to = by.to;
        gives = record {
          from = by.carries;
          edge = at_least (values entry.step.edge) entry.value value here by.lower;
        };
      }

-- ---- by the first edges that end at the vertex

abbrev pub IsMostFirst : (ℕ → ℕ → Option ℕ) → TreeValue → NodeId → List (HalfEdge × ℕ) →
    Option TreeEntry → ℕ → Type 0
IsMostFirst step tree id ins best bound =
    (place : ℕ) (half : HalfEdge) (value before number : ℕ) → place < bound →
    slice_get ins place ≡ Some (half, value) → number ≤ value →
    Carries tree (node_id half.far before) number → step before half.label ≡ Some id.state →
    IsAtLeast number (value_in best)

module _ (step : ℕ → ℕ → Option ℕ) (tree : TreeValue) (id : NodeId) where
  pub first_one_more : (ins : List (HalfEdge × ℕ)) (best more : Option TreeEntry) (bound : ℕ)
      (each : In) → IsMostFirst step tree id ins best bound →
      ((number : ℕ) → IsAtLeast number (value_in best) → IsAtLeast number (value_in more)) →
      slice_get ins bound ≡ Some (in_entry each) →
      ((before number : ℕ) → number ≤ each.value → Carries tree (node_id each.from before) number →
      step before each.label ≡ Some id.state → IsAtLeast number (value_in more)) →
      IsMostFirst step tree id ins more (bound + 1)
  first_one_more ins best more bound each most kept is one place half value before number below
      there low carries leads = ⊎_elim
      (λ (same : place ≡ bound).
      let entry : in_entry each ≡ (half, value) =
      same_Some (in_entry each) (half, value) (sym is ∙ (ap (slice_get ins) (sym same) ∙ there))
      in
      let low_here : number ≤ each.value =
      subst (λ (x : HalfEdge × ℕ). number ≤ x.1) (sym entry) low in
      one before number low_here
      (subst (λ (x : HalfEdge × ℕ). Carries tree (node_id x.0.far before) number) (sym entry)
      carries)
      (ap (λ (x : HalfEdge × ℕ). step before x.0.label) entry ∙ leads))
      (λ (apart : place ≡ bound → ⊥). kept number
      (most place half value before number (omega (arith, apart)) there low carries leads))
      (cases_eq place bound)

  module _ (store : Edges) (gives : GivesIns store id.vertex) where
    pub first_all : (best : Option TreeEntry) →
        IsMostFirst step tree id (ins_of store id.vertex) best (length (ins_of store id.vertex)) →
        (edge : EdgeId) (before number : ℕ) →
        CanEnter (value_of store) step tree id edge before number → IsAtLeast number (value_in best)
    first_all best most edge before number can =
        let there = bests.value_of (value_of store edge) number can.edge_is in
        let half = in_half edge in
        let same : ending id.vertex half ≡ edge =
        λ i. record { from = edge.from; label = edge.label; to = sym can.to i } in
        let has : Contains (ins_of store id.vertex) (half, there.0) =
        (gives.exact half there.0).1 (ap (value_of store) same ∙ there.1) in
        let at = slice_get_read (ins_of store id.vertex) (length (ins_of store id.vertex)) has.0
        (half, there.0) refl has.1 (sym has.2) in
        most has.0 half there.0 before number has.1 at there.2 can.carries can.leads

    -- an entry by an edge of the walk
    pub entry_of_walk : (k : ℕ) (each : In) (entry : TreeEntry) →
        slice_get (ins_of store id.vertex) k ≡ Some (in_entry each) →
        IsEntryBy step tree id (record { from = each.from; label = each.label; to = id.vertex })
        each.value entry → IsEntry (value_of store) step tree id entry
    entry_of_walk k each entry is by =
        let edge : EdgeId = record { from = each.from; label = each.label; to = id.vertex } in
        let has : Contains (ins_of store id.vertex) (in_entry each) = (
          k,
          slice_get_within (ins_of store id.vertex) k (in_entry each) is,
          get_or_from_slice_get
              (ins_of store id.vertex) k (in_entry each) (in_entry each) is,
        ) in
        let there : value_of store edge ≡ Some each.value =
        (gives.exact (in_entry each).0 each.value).0 has in
        entry_of_edge step tree id (value_of store) edge each.value entry refl there by

-- ---- of the first nodes

abbrev pub HasEntriesFirst : (EdgeId → Option ℕ) → (ℕ → ℕ → Option ℕ) → TreeValue → List NodeId →
    List Try → ℕ → Type 0
HasEntriesFirst values step tree ids tries bound =
    (place : ℕ) (id : NodeId) (edge : EdgeId) (before number : ℕ) → place < bound →
    slice_get ids place ≡ Some id → CanEnter values step tree id edge before number →
    (each : Try) × Contains tries each × (each.to ≡ id) × Gives values tree each number

module _ (values : EdgeId → Option ℕ) (step : ℕ → ℕ → Option ℕ) (tree : TreeValue) where
  -- a try that gives a value gives each lower one
  gives_lower : (each : Try) (number lower : ℕ) → Gives values tree each number → lower ≤ number →
      Gives values tree each lower
  gives_lower each number lower gives below = record {
    from = carries_lower tree each.from number lower gives.from below;
    edge = bests.weaker (values each.edge) number lower gives.edge below;
  }

  pub valid_more : (tries more : List Try) (id : NodeId) (best : Option TreeEntry) →
      more ≡ tries ++ steps_in best → IfSome best (IsEntry values step tree id) →
      All (IsValid values step tree) tries →
      All (IsValid values step tree) more
  valid_more tries more id None is entry valid =
      subst (All (IsValid values step tree)) (sym (is ∙ append-nil tries)) valid
  valid_more tries more id (Some best) is entry valid =
      subst (All (IsValid values step tree)) (sym is)
      (All-push (IsValid values step tree) tries best.step valid entry.valid)

  pub entries_more : (ids : List NodeId) (tries more : List Try) (bound : ℕ) (id : NodeId)
      (best : Option TreeEntry) → HasEntriesFirst values step tree ids tries bound →
      slice_get ids bound ≡ Some id → more ≡ tries ++ steps_in best →
      IfSome best (IsEntry values step tree id) →
      ((edge : EdgeId) (before number : ℕ) → CanEnter values step tree id edge before number →
      IsAtLeast number (value_in best)) → HasEntriesFirst values step tree ids more (bound + 1)
  entries_more ids tries more bound id best has there is entry most place each edge before number
      below at can = ⊎_elim
      (λ (same : place ≡ bound).
      let it : id ≡ each = same_Some id each (sym there ∙ (ap (slice_get ids) (sym same) ∙ at)) in
      subst (λ (x : NodeId). (try : Try) × Contains more try × (try.to ≡ x) × Gives values tree try
      number) it
      (new best is entry
      (most edge before number
      (subst (λ (x : NodeId). CanEnter values step tree x edge before number) (sym it) can))))
      (λ (apart : place ≡ bound → ⊥).
      let was = has place each edge before number (omega (arith, apart)) at can in (
        was.0,
        subst (λ (xs : List Try). Contains xs was.0) (sym is)
            (Contains-append_left tries (steps_in best) was.0 was.1),
        was.2,
        was.3,
      ))
      (cases_eq place bound)
    where
      new : (found : Option TreeEntry) → more ≡ tries ++ steps_in found →
          IfSome found (IsEntry values step tree id) → IsAtLeast number (value_in found) →
          (try : Try) × Contains more try × (try.to ≡ id) × Gives values tree try number
      new None same entry_is reached = absurd reached
      new (Some found) same entry_is reached = (
        found.step,
        subst (λ (xs : List Try). Contains xs found.step) (sym same)
            (Contains-push tries found.step),
        entry_is.to,
        gives_lower found.step found.value
            number entry_is.gives reached,
      )

  pub entries_all : (ids : List NodeId) (tries : List Try) (bound : ℕ) → length ids ≤ bound →
      HasEntriesFirst values step tree ids tries bound →
      (id : NodeId) (edge : EdgeId) (before number : ℕ) → Contains ids id →
      CanEnter values step tree id edge before number →
      (each : Try) × Contains tries each × (each.to ≡ id) × Gives values tree each number
  entries_all ids tries bound all has id edge before number there can =
      has there.0 id edge before number (omega (arith, there.1, all))
      (slice_get_read ids (length ids) there.0 id refl there.1 (sym there.2)) can

-- the place that a read past the end of a list would give
abbrev pub no_node : NodeId
no_node = record { vertex = 0; state = 0 }

-- the edges that end at one node more
pub counted_more : (store : Edges) (ids : List NodeId) (bound : ℕ) → bound < length ids →
    (count_ins store (take (bound + 1) ids) ≡ count_ins store (take bound ids) + length
    (ins_of store (get_or ids bound no_node).vertex))
    × (count_ins store (take (bound + 1) ids) ≤ count_ins store ids)
counted_more store ids bound within = (
  sum_by_more (λ (id : NodeId). length (ins_of store id.vertex)) ids bound no_node within,
  sum_by-take-le (λ (id : NodeId). length (ins_of store id.vertex)) ids (bound + 1),
)
