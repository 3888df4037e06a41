-- What is kept before and after a change, and the roots that it touched.
use Rattle.std.proofs.Common.{◌≡◌, ℕ, Bool, true, false, List, [], filter, Option, Some, None, refl, sym, ap, ◌∙◌, inl, inr, ⊎_elim, Contains}
use Rattle.std.specs.Prelude.{is_some, option_map}
use Rattle.std.specs.Option.{unwrap_or}
use Rattle.std.specs.Ordering.{nat_cmp}
use Rattle.std.proofs.lemmas.Bool.{false≢true}
use Rattle.std.proofs.lemmas.Option.{none-some, same_Some}
use Rattle.std.proofs.lemmas.List.Kept.{IsStrictlySortedBy-filter}
use Rattle.rpq_base.proofs.Members.{kept_members}
use Rattle.edge_store.specs.declared.edge.EdgeId.{EdgeId}
use Rattle.edge_store.specs.Edges.{Edges, value_of as value_in}
use Rattle.dfa_table.specs.DfaValue.{DfaValue, step_of}
use Rattle.delta_tree.specs.declared.node.NodeId.{NodeId}
use Rattle.delta_tree.specs.declared.node.Node.{Node}
use Rattle.delta_tree.specs.Nodes.{node_id, node_of, root_id, value_of, IsBefore}
use Rattle.tree_insert.proofs.Expiry.{raises_are_raises}
use Rattle.tree_insert.proofs.Nodes.{value_is}
use Rattle.source_tree.specs.declared.change.Change.{Change}
use Rattle.source_tree.specs.declared.change.Change.TheVariants.{Raise, Remove, Expire}
use Rattle.source_tree.specs.declared.change.EndChange.{EndChange}
use Rattle.source_tree.specs.Ends.{SourceValue}
use Rattle.source_tree.specs.Product.{product_of}
use Rattle.source_tree.specs.Taking.{HasTaken, IsTouched}
use Rattle.source_table.specs.Sources.{source_in}
use Rattle.delta_forest.specs.Forest.{ForestValue}
use Rattle.delta_forest.specs.Changes.{AreTouched, MayTouch, TakesChange}
use Rattle.delta_forest.specs.Keeping.{HasNode, forest_with}
use Rattle.delta_forest.specs.Candidates.{IsFresh, HasReason}
use Rattle.delta_forest.specs.Settling.{touched_at}
use Rattle.delta_forest.specs.declared.index.Index.{Index}
use Rattle.delta_forest.proofs.Sources.{found_kept, found_or_not, found_root, kept_of, none_kept}
use Rattle.delta_forest.proofs.Elsewhere.{bare_or_not, no_value, raise_keeps_nodes}
use Rattle.delta_forest.proofs.Grown.{grown_optimal}
use Rattle.delta_forest.proofs.Following.{Follows, IsAfter, after, after_none, after_optimal}

module _ {change : Change} {dfa : DfaValue} {finals : List ℕ} {calls : ℕ} {old new : Edges}
    {index grown : Index} {roots : List ℕ} {table : List SourceValue} {settled : Index}
    (follows : Follows change dfa finals calls old new index grown roots table settled) where
  -- ---- what is kept before and after

  pub old_value : (root : ℕ) (source : SourceValue) (found : source_in table root ≡ Some source)
      (vertex state : ℕ) → kept_of index.sources root vertex state
      ≡ value_of (after follows root source found).before.tree (node_id vertex state)
  old_value root source found vertex state =
      let was = after follows root source found in ⊎_elim
      (λ (is : source_in index.sources root ≡ Some was.before).
      found_kept index.sources root was.before is vertex state)
      (λ (fresh : IsFresh roots index.sources root was.before).
      none_kept index.sources root fresh.none vertex state
      ∙ sym (no_value was.before.tree (node_id vertex state) fresh.bare))
      (follows.are.only root was.before was.found)

  pub new_value : (root : ℕ) (source : SourceValue) → source_in table root ≡ Some source →
      (vertex state : ℕ) → kept_of settled.sources root vertex state
      ≡ value_of source.tree (node_id vertex state)
  new_value root source found vertex state = ⊎_elim
      (λ (bare : source.tree.nodes ≡ []). ⊎_elim
      (λ (there : (other : SourceValue) × (source_in settled.sources root ≡ Some other)).
      let same = same_Some there.0 source
      (sym (follows.settles.only root there.0 there.1) ∙ found) in
      found_kept settled.sources root there.0 there.1 vertex state
      ∙ ap (λ (each : SourceValue). value_of each.tree (node_id vertex state)) same)
      (λ (none : source_in settled.sources root ≡ None).
      none_kept settled.sources root none vertex state
      ∙ sym (no_value source.tree (node_id vertex state) bare))
      (found_or_not (source_in settled.sources root)))
      (λ (some : source.tree.nodes ≡ [] → ⊥).
      found_kept settled.sources root source (follows.settles.kept root source found some)
      vertex state)
      (bare_or_not source.tree)

  settled_none : (root : ℕ) → source_in table root ≡ None →
      source_in settled.sources root ≡ None
  settled_none root none = ⊎_elim
      (λ (there : (other : SourceValue) × (source_in settled.sources root ≡ Some other)).
      absurd (none-some there.0 (sym none ∙ follows.settles.only root there.0 there.1)))
      (λ (is : source_in settled.sources root ≡ None). is)
      (found_or_not (source_in settled.sources root))

  -- ---- the roots that were touched

  -- a root that was touched has a source that took the change, at some place
  pub record IsTouchedAt (root : ℕ) : Type 0 where
    pub source : SourceValue
    pub found : source_in table root ≡ Some source
    pub listed : Contains roots root
    pub some : source.touched ≡ true

  touched_value : (source : Option SourceValue) →
      unwrap_or (option_map (λ (each : SourceValue). each.touched) source) false ≡ true →
      (each : SourceValue) × (source ≡ Some each) × (each.touched ≡ true)
  touched_value None is = absurd (false≢true is)
  touched_value (Some source) is = (source, refl, is)

  pub touched_is : (root : ℕ) → Contains (filter (touched_at table) roots) root → IsTouchedAt root
  touched_is root member =
      let both = (kept_members roots (touched_at table) root).0 member in
      let value = touched_value (source_in table root) both.1 in
      record {
        source = value.0;
        found = value.1;
        listed = both.0;
        some = value.2;
      }

  -- a listed one that isn't among them wasn't touched
  untouched : (root : ℕ) (source : SourceValue) → source_in table root ≡ Some source →
      Contains roots root → (Contains (filter (touched_at table) roots) root → ⊥) →
      source.touched ≡ false
  untouched root source found listed none = by source.touched refl
    where
      by : (b : Bool) → source.touched ≡ b → b ≡ false
      by true is = absurd (none ((kept_members roots (touched_at table) root).1 (
        listed,
        ap (λ (each : Option SourceValue).
            unwrap_or (option_map (λ (one : SourceValue). one.touched) each) false) found ∙ is,
      )))
      by false is = refl

  pub others_kept : (root vertex state : ℕ) →
      (Contains (filter (touched_at table) roots) root → ⊥) →
      kept_of settled.sources root vertex state ≡ kept_of index.sources root vertex state
  others_kept root vertex state none = ⊎_elim
      (λ (there : (source : SourceValue) × (source_in table root ≡ Some source)).
      let source = there.0 in
      let was = after follows root source there.1 in
      let id = node_id vertex state in
      let same : value_of source.tree id ≡ value_of was.before.tree id = ⊎_elim
      (λ (both : Contains roots root
      × HasTaken change (product_of new dfa finals grown.holders) was.before source).
      ap (λ (node : Option Node). option_map (λ (each : Node). each.value) node)
      (both.1.touched.none (untouched root source there.1 both.0 none) id))
      (λ (both : (Contains roots root → ⊥) × (was.before ≡ source)).
      ap (λ (each : SourceValue). value_of each.tree id) (sym both.1))
      was.cases in
      new_value root source there.1 vertex state
      ∙ (same ∙ sym (old_value root source there.1 vertex state)))
      (λ (is : source_in table root ≡ None).
      none_kept settled.sources root (settled_none root is) vertex state
      ∙ sym (none_kept index.sources root (after_none follows root is) vertex state))
      (found_or_not (source_in table root))

  pub took : (root : ℕ) (at : IsTouchedAt root) →
      HasTaken change (product_of new dfa finals grown.holders)
      (after follows root at.source at.found).before at.source
  took root at =
      let was = after follows root at.source at.found in ⊎_elim
      (λ (both : Contains roots root
      × HasTaken change (product_of new dfa finals grown.holders) was.before at.source). both.1)
      (λ (both : (Contains roots root → ⊥) × (was.before ≡ at.source)).
      absurd (both.0 at.listed))
      was.cases

  -- ---- what is told of them

  module _ (number count : ℕ) (broken spoiled : Bool) (olds news : List ℕ)
      (old_log new_log : List EndChange) where
    abbrev before_it : ForestValue
    before_it = forest_with dfa old index.sources number broken olds old_log

    abbrev after_it : ForestValue
    after_it = forest_with dfa new settled.sources count spoiled news new_log

    may : (root : ℕ) → IsTouchedAt root → MayTouch change before_it after_it root
    may root at =
        by change follows.takes (follows.are.reason root at.listed)
        ((took root at).touched.some at.some)
      where
        was : IsAfter follows root at.source
        was = after follows root at.source at.found

        by : (each : Change) → TakesChange each old new → HasReason each index.sources root →
            (id : NodeId) × IsTouched each was.before.tree at.source.tree id →
            MayTouch each before_it after_it root
        by (Raise edge value) updates reason touches = ⊎_elim
            (λ (is : root ≡ edge.from). inl is)
            (λ (has : (state : ℕ) × HasNode index.sources root (node_id edge.from state)).
            let here = same_Some has.1.source was.before
            (sym (follows.are.stays root has.1.source has.1.found) ∙ was.found) in
            let id = node_id edge.from has.0 in
            let there = raise_keeps_nodes (value_in old) (value_in new) (step_of dfa)
            was.before.tree at.source.tree edge id has.1.node
            (grown_optimal follows.kept follows.are root was.before was.found)
            (after_optimal follows root at.source at.found)
            (raises_are_raises old new edge value updates)
            (found_root table root at.source at.found
            ∙ sym (found_root grown.sources root was.before was.found))
            (ap (λ (each : SourceValue). node_of each.tree id) (sym here) ∙ has.1.there) in
            inr (
              has.0,
              ap is_some (new_value root at.source at.found edge.from has.0
                  ∙ value_is at.source.tree id there.0 there.1),
            ))
            reason
        by (Remove edge) updates reason touches =
            let tree = reason.source.tree in
            let node = reason.hangs.0 in
            let stands = (follows.kept.sound root reason.source reason.found).tree reason.id node
            reason.hangs.1 in
            let leaves : edge.from ≡ node.parent.vertex =
            ap (λ (each : EdgeId). each.from) (sym reason.hangs.2) ∙ stands.joins.leaves in
            ⊎_elim
            (λ (is : node.parent ≡ root_id tree).
            inl (sym (leaves ∙ (ap (λ (id : NodeId). id.vertex) is
            ∙ found_root index.sources root reason.source reason.found))))
            (λ (has : (parent : Node) × (node_of tree node.parent ≡ Some parent)
            × IsBefore parent node).
            let id : node_id edge.from node.parent.state ≡ node.parent =
            ap (λ (vertex : ℕ). node_id vertex node.parent.state) leaves in
            inr (
              node.parent.state,
              ap is_some
                  (found_kept index.sources root reason.source reason.found edge.from
                  node.parent.state
                  ∙ (ap (value_of tree) id ∙ value_is tree node.parent has.0 has.1)),
            ))
            stands.parent
        by (Expire now) expires reason touches =
            let id = touches.0 in
            let due = touches.1 in (
              id.vertex,
              id.state,
              due.0.value,
              old_value root at.source at.found id.vertex id.state
                  ∙ value_is was.before.tree id due.0 due.1,
              due.2,
            )

    pub are_touched : AreTouched change before_it after_it
        (filter (touched_at table) roots)
    are_touched = record {
      sorted = IsStrictlySortedBy-filter nat_cmp (touched_at table) roots follows.are.sorted;
      only = λ root member. may root (touched_is root member);
      others = others_kept;
    }
