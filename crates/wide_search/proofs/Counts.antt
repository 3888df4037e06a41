-- The steps that a search counts.
use Rattle.std.proofs.Common.{◌≡◌, ◌≢◌, ℕ, ◌≤◌, ◌<◌, ◌+◌, ⊎_elim, min, List, [], ◌∷◌, ◌++◌, length, length-append, Option, Some, sym, subst, ◌∙◌, arith, Contains, All}
use Rattle.std.specs.Prelude.{AllPairs}
use Rattle.std.proofs.lemmas.Bool.{cases_lt}
use Rattle.std.proofs.lemmas.List.Elements.{All-nil, All-push, All-weaker, All-get_or}
use Rattle.std.proofs.lemmas.List.Quantifiers.{all_pairs_push}
use Rattle.std.proofs.lemmas.List.Sums.{sum_by_push}
use Rattle.edge_store.specs.Edges.{Edges, outs_of}
use Rattle.delta_tree.specs.declared.node.NodeId.{NodeId}
use Rattle.delta_tree.specs.declared.node.Node.{Node}
use Rattle.delta_tree.specs.Nodes.{TreeValue, node_of, value_of}
use Rattle.tree_insert.specs.Best.{IsAtLeast}
use Rattle.tree_insert.specs.Trees.{count_outs}
use Rattle.tree_insert.specs.UnderWay.{Rises}
use Rattle.tree_insert.proofs.Bests.{at_least}
use Rattle.tree_insert.proofs.Nodes.{node_reached, value_reached}
use Rattle.place_table.specs.declared.gain.Gain.{Gain}
use Rattle.wide_search.specs.declared.batch.Batch.{Batch}
use Rattle.wide_search.specs.Batches.{target_of}
use Rattle.wide_search.specs.Searching.{Task, IsSearching, LiftsTrees, AddsLifted}
use Rattle.wide_search.specs.Counts.{IsRisenIn, CountsPlaces, CountsWide}
use Rattle.wide_search.proofs.Searching.{rises_itself, rises_on}
use Rattle.wide_search.proofs.Ended.{again_none}

-- ---- places where some root rose

pub risen_later : (first now later : ℕ → TreeValue) → ((root : ℕ) → Rises (now root) (later root)) →
    (id : NodeId) → IsRisenIn first now id → IsRisenIn first later id
risen_later first now later rises id risen =
    let after = (rises risen.0).risen id risen.1.0 risen.1.1 in
    (risen.0, (after.0, after.1, λ before was. omega (arith, risen.1.2 before was, after.2)))

pub risen_earlier : (before first now : ℕ → TreeValue) →
    ((root : ℕ) → Rises (before root) (first root)) →
    (id : NodeId) → IsRisenIn first now id → IsRisenIn before now id
risen_earlier before first now rises id risen = (
  risen.0,
  (
    risen.1.0,
    risen.1.1,
    λ node was.
        let then = (rises risen.0).risen id node was in
        omega (arith, risen.1.2 then.0 then.1, then.2),
  ),
)

pub counts_none : (store : Edges) (trees : ℕ → TreeValue) (start : ℕ) →
    CountsPlaces store trees trees start start
counts_none store trees start = record {
  places = [];
  apart = λ i j d less within. absurd (omega (arith, within));
  risen = All-nil (IsRisenIn trees trees);
  few = omega arith;
}

pub counts_later : (store : Edges) (first now later : ℕ → TreeValue) (start steps : ℕ) →
    ((root : ℕ) → Rises (now root) (later root)) → CountsPlaces store first now start steps →
    CountsPlaces store first later start steps
counts_later store first now later start steps rises counts = record {
  places = counts.places;
  apart = counts.apart;
  risen = All-weaker (IsRisenIn first now) (IsRisenIn first later)
      (λ id risen. risen_later first now later rises id risen) counts.places counts.risen;
  few = counts.few;
}

-- ---- one batch more

module _ (task : Task) (settled : NodeId → Option ℕ) (old new : ℕ → TreeValue)
    (batch : Batch) (waits : List Batch) (gains_of : Batch → List Gain)
    (searching : IsSearching task settled old waits gains_of) (waited : Contains waits batch)
    (lifts : LiftsTrees old new batch (gains_of batch)) where
  -- where some root rose, the place is settled
  settled_of_risen : (id : NodeId) → IsRisenIn task.trees old id →
      (width : ℕ) × (settled id ≡ Some width)
  settled_of_risen id risen = ⊎_elim
      (λ (kept : node_of (old risen.0) id ≡ node_of (task.trees risen.0) id).
      absurd (omega (arith, risen.1.2 risen.1.0 (sym kept ∙ risen.1.1))))
      (λ (lifted : (width : ℕ) × (settled id ≡ Some width) × (first : Gain) ×
      Contains task.first first × (first.root ≡ risen.0) × (node : Node) ×
      (node_of (old risen.0) id ≡ Some node) × (node.value ≤ min first.cap width)).
      (lifted.0, lifted.1))
      (searching.kept risen.0 id)

  rises_here : (root : ℕ) → Rises (old root) (new root)
  rises_here root =
      rises_on old new batch (gains_of batch) lifts (old root) root (rises_itself (old root))

  pub counts_still : (store : Edges) (start steps : ℕ) →
      CountsPlaces store task.trees old start steps → CountsPlaces store task.trees new start steps
  counts_still store start steps counts =
      counts_later store task.trees old new start steps rises_here counts

  module _ (added : List Gain) (adds : AddsLifted old new batch (gains_of batch) added)
      (more : Gain) (some : Contains added more)
      (firm : (width : ℕ) → settled (target_of batch) ≡ Some width → batch.width ≤ width) where
    -- some root rises at the target
    risen_there : IsRisenIn task.trees new (target_of batch)
    risen_there =
        let from = adds.only more some in
        let node = node_reached (new more.root) (target_of batch) more.cap from.3 in (
          more.root,
          (
            node.0,
            node.1,
            λ before was.
                let then = (searching.rises more.root).risen (target_of batch) before was in
                let lacks : IsAtLeast (min from.0.cap batch.width)
                (value_of (old more.root) (target_of batch)) → ⊥ =
                subst (λ (root : ℕ). IsAtLeast (min from.0.cap batch.width)
                (value_of (old root) (target_of batch)) → ⊥) (sym from.2.root) from.2.lacks in
                below before node.0 then.0 from.0 then.2 node.2 from.2.cap (λ high.
                lacks (value_reached (old more.root) (target_of batch) then.0
                (min from.0.cap batch.width) then.1 high)),
          ),
        )
      where
        below : (before node then : Node) (gain : Gain) → before.value ≤ then.value →
            more.cap ≤ node.value → more.cap ≡ min gain.cap batch.width →
            (min gain.cap batch.width ≤ then.value → ⊥) → before.value < node.value
        below before node then gain first high cap_is lacks = ⊎_elim
            (λ (less : then.value < min gain.cap batch.width).
            omega (arith, first, high, cap_is, less))
            (λ (more_of : min gain.cap batch.width ≤ then.value). absurd (lacks more_of))
            (cases_lt then.value (min gain.cap batch.width))

    pub counts_more : (store : Edges) (start steps later : ℕ) →
        later ≤ steps + length (outs_of store batch.edge.to) →
        CountsPlaces store task.trees old start steps → CountsPlaces store task.trees new start later
    counts_more store start steps later bound counts =
        record {
          places = counts.places ++ target_of batch ∷ [];
          apart = all_pairs_push ◌≢◌ counts.places (target_of batch) counts.apart
              (λ k d within same.
              let at =
              settled_of_risen (target_of batch)
              (subst (IsRisenIn task.trees old) same
              (All-get_or (IsRisenIn task.trees old) counts.places k d within counts.risen)) in
              again_none task settled old new batch waits gains_of searching waited
              (at_least (settled (target_of batch)) batch.width at.0 at.1 (firm at.0 at.1)) added
              adds more some);
          risen = All-push (IsRisenIn task.trees new) counts.places (target_of batch)
              (All-weaker (IsRisenIn task.trees old) (IsRisenIn task.trees new)
              (λ id risen. risen_later task.trees old new rises_here id risen) counts.places
              counts.risen)
              risen_there;
          few = omega (
            arith,
            counts.few,
            bound,
            sum_by_push (λ (id : NodeId). length (outs_of store id.vertex)) counts.places
                (target_of batch),
          );
        }

-- ---- one search more

pub wide_none : (store : Edges) (trees : ℕ → TreeValue) (start : ℕ) →
    CountsWide store trees trees 0 start start
wide_none store trees start = record {
  lists = [];
  number = omega arith;
  apart = All-nil (λ (places : List NodeId). AllPairs ◌≢◌ places);
  risen = All-nil (λ (places : List NodeId). All (IsRisenIn trees trees) places);
  few = omega arith;
}

pub wide_more : (store : Edges) (first middle last : ℕ → TreeValue) (searches start steps later : ℕ) →
    ((root : ℕ) → Rises (first root) (middle root)) →
    ((root : ℕ) → Rises (middle root) (last root)) →
    CountsWide store first middle searches start steps →
    CountsPlaces store middle last steps later →
    CountsWide store first last (searches + 1) start later
wide_more store first middle last searches start steps later before after wide counts = record {
  lists = wide.lists ++ counts.places ∷ [];
  number = omega (arith, wide.number, length-append wide.lists (counts.places ∷ []));
  apart = All-push (λ (places : List NodeId). AllPairs ◌≢◌ places) wide.lists counts.places
      wide.apart counts.apart;
  risen = All-push (λ (places : List NodeId). All (IsRisenIn first last) places) wide.lists
      counts.places
      (All-weaker (λ (places : List NodeId). All (IsRisenIn first middle) places)
      (λ (places : List NodeId). All (IsRisenIn first last) places)
      (λ places risen. All-weaker (IsRisenIn first middle) (IsRisenIn first last)
      (λ id is. risen_later first middle last after id is) places risen) wide.lists wide.risen)
      (All-weaker (IsRisenIn middle last) (IsRisenIn first last)
      (λ id is. risen_earlier first middle last before id is) counts.places counts.risen);
  few = omega (arith, wide.few, counts.few, sum_by_push (count_outs store) wide.lists counts.places);
}
