-- The sources, the holders and the numbers after a change are kept.
use Rattle.std.proofs.Common.{◌≡◌, ◌≢◌, ℕ, ◌+◌, ◌*◌, ◌^◌, ◌≤◌, Bool, true, false, List, [], Option, Some, None, refl, sym, ap, subst, ◌∙◌, ⊎_elim, Contains, arith, cond, length}
use Rattle.std.specs.Prelude.{◌↔◌, IsSome, is_some, nat_lt, option_map}
use Rattle.std.proofs.lemmas.Bool.{both_ways, false≢true, lt-ltb}
use Rattle.std.proofs.lemmas.Option.{none-some, same_Some}
use Rattle.std.proofs.lemmas.List.Elements.{All-contains}
use Rattle.rpq_base.proofs.Members.{none_in}
use Rattle.edge_store.specs.declared.edge.EdgeId.{EdgeId}
use Rattle.edge_store.specs.Edges.{Edges, above, raised, same_edge, value_of as value_in}
use Rattle.dfa_table.specs.DfaValue.{DfaValue, step_of}
use Rattle.delta_tree.specs.declared.node.NodeId.{NodeId}
use Rattle.delta_tree.specs.declared.node.Node.{Node}
use Rattle.delta_tree.specs.Nodes.{TreeValue, node_of, IsTree}
use Rattle.delta_tree.proofs.Ids.{same_edge_is}
use Rattle.tree_insert.proofs.Expiry.{raises_are_raises}
use Rattle.source_tree.specs.declared.change.Change.{Change}
use Rattle.source_tree.specs.declared.change.Change.TheVariants.{Raise, Remove, Expire}
use Rattle.source_tree.specs.Ends.{SourceValue}
use Rattle.source_tree.specs.Product.{product_of}
use Rattle.source_tree.specs.Taking.{AreMoved, HasTaken, TellsTouched, is_raise, stands}
use Rattle.source_index.specs.Dues.{DuesValue, due_of}
use Rattle.source_index.specs.Holders.{HoldersValue, Holds}
use Rattle.source_table.specs.Sources.{source_in}
use Rattle.delta_forest.specs.Changes.{TakesChange}
use Rattle.delta_forest.specs.Keeping.{HasNode, IsDueFor, IsKept}
use Rattle.delta_forest.specs.Candidates.{IsFresh, StartsAt, StaysDue}
use Rattle.delta_forest.specs.Settling.{is_sooner, moved_of}
use Rattle.delta_forest.specs.declared.index.Index.{Index}
use Rattle.delta_forest.proofs.Sources.{found_or_not, found_root, found_some, listed_or_not, places_or_not, same_roots, some_found}
use Rattle.delta_forest.proofs.Elsewhere.{no_node, not_bare, raise_keeps_nodes}
use Rattle.delta_forest.proofs.Grown.{grown_optimal, grown_puts}
use Rattle.delta_forest.proofs.Following.{Follows, IsAfter, after, after_none, after_optimal, stood}
use Rattle.delta_forest.proofs.Holding.{stands_or_not}

-- ---- places where nodes came or went

same_bits : (b c : Bool) → (b ≢ c → ⊥) → c ≡ b
same_bits true true never = refl
same_bits true false never = absurd (never (λ same. false≢true (sym same)))
same_bits false true never = absurd (never (λ same. false≢true same))
same_bits false false never = refl

-- elsewhere a node stands where one stood
unlisted_stays : (change : Change) (before : TreeValue) (source : SourceValue) →
    AreMoved change before source.tree source.moved → (id : NodeId) →
    (Contains source.moved id → ⊥) → stands before id ≡ stands source.tree id
unlisted_stays change before source moved id none =
    sym (same_bits (stands before id) (stands source.tree id)
    (λ differ. none ((moved.exact id).1 differ)))

unmoved_stays : (change : Change) (before : TreeValue) (source : SourceValue) →
    TellsTouched change before source.tree source.touched →
    AreMoved change before source.tree source.moved → (id : NodeId) →
    (Contains (moved_of source) id → ⊥) → stands source.tree id ≡ stands before id
unmoved_stays change before source touched moved id none = by source.touched refl
  where
    by : (b : Bool) → source.touched ≡ b → stands source.tree id ≡ stands before id
    by true is = sym (unlisted_stays change before source moved id (λ member. none
        (subst (λ (b : Bool). Contains (cond b source.moved []) id) (sym is) member)))
    by false is = ap (λ (node : Option Node).
        is_some (option_map (λ (each : Node). each.value) node)) (touched.none is id)

-- there a node stands exactly after a raise
moved_way : (change : Change) (before : TreeValue) (source : SourceValue) →
    AreMoved change before source.tree source.moved → (id : NodeId) →
    Contains (moved_of source) id → stands source.tree id ≡ is_raise change
moved_way change before source moved id listed =
    All-contains (λ (each : NodeId). stands source.tree each ≡ is_raise change) source.moved id
    moved.way (by source.touched listed)
  where
    by : (b : Bool) → Contains (cond b source.moved []) id → Contains source.moved id
    by true member = member
    by false member = absurd (none_in id member)

sooner_or_not : (sooner : Bool) (A : Type 0) → (sooner ≡ true → A) → (sooner ≡ false → A) → A
sooner_or_not true A yes_it no_it = yes_it refl
sooner_or_not false A yes_it no_it = no_it refl

module _ {change : Change} {dfa : DfaValue} {finals : List ℕ} {calls : ℕ} {old new : Edges}
    {index grown : Index} {roots : List ℕ} {table : List SourceValue} {settled : Index}
    (follows : Follows change dfa finals calls old new index grown roots table settled) where
  -- ---- sources

  settled_puts : (root : ℕ) (source : SourceValue) → source_in table root ≡ Some source →
      source.tree.puts ≤ (calls + 1) * 2 ^ 64
  settled_puts root source found =
      let was = after follows root source found in
      let puts = grown_puts follows.kept follows.are root was.before was.found in ⊎_elim
      (λ (both : Contains roots root
      × HasTaken change (product_of new dfa finals grown.holders) was.before source).
      let few = both.1.later.few in omega (arith, few, puts))
      (λ (both : (Contains roots root → ⊥) × (was.before ≡ source)).
      let is = ap (λ (each : SourceValue). each.tree.puts) both.1 in
      omega (arith, puts, is))
      was.cases

  pub settled_tree : (root : ℕ) (source : SourceValue) → source_in table root ≡ Some source →
      IsTree source.tree
  settled_tree root source found =
      let was = after follows root source found in ⊎_elim
      (λ (both : Contains roots root
      × HasTaken change (product_of new dfa finals grown.holders) was.before source).
      (follows.settles.followed root source both.0 found).tree)
      (λ (both : (Contains roots root → ⊥) × (was.before ≡ source)).
      subst (λ (each : SourceValue). IsTree each.tree) both.1
      (follows.kept.sound root was.before (stood follows root was.before was.found both.0)).tree)
      was.cases

  settled_some : (root : ℕ) (source : SourceValue) →
      source_in settled.sources root ≡ Some source → source.tree.nodes ≢ []
  settled_some root source found = ⊎_elim
      (λ (listed : Contains roots root). follows.settles.some root source listed found)
      (λ (unlisted : Contains roots root → ⊥).
      let there = sym (follows.settles.same root unlisted) ∙ found in
      let grew = sym (follows.taken.others root unlisted) ∙ there in
      follows.kept.some root source (stood follows root source grew unlisted))
      (listed_or_not roots root)

  -- a source with an edge by which the automaton leaves its start was there before
  grown_starts : (edge : EdgeId) (value state : ℕ) → value_in new edge ≡ Some value →
      step_of dfa 0 edge.label ≡ Some state → IsSome (source_in grown.sources edge.from)
  grown_starts edge value state is leads =
      by change follows.takes follows.are.starts
    where
      stayed : (was : ℕ) → value_in old edge ≡ Some was →
          IsSome (source_in grown.sources edge.from)
      stayed was there =
          let found = some_found (source_in index.sources edge.from)
          (follows.kept.sources edge was state there leads) in
          found_some (source_in grown.sources edge.from) found.0
          (follows.are.stays edge.from found.0 found.1)

      above_was : (now : ℕ) (was : Option ℕ) → above now was ≡ Some value →
          (there : ℕ) × (was ≡ Some there)
      above_was now None gone = absurd (none-some value gone)
      above_was now (Some was) stays = (was, refl)

      by : (each : Change) → TakesChange each old new →
          StartsAt each (step_of dfa) grown.sources →
          IsSome (source_in grown.sources edge.from)
      by (Raise lifted number) updates starts = raise (same_edge lifted edge) refl
        where
          raise : (b : Bool) → same_edge lifted edge ≡ b →
              IsSome (source_in grown.sources edge.from)
          raise true equal =
              let here = same_edge_is lifted edge equal in
              subst (λ (e : EdgeId). IsSome (source_in grown.sources e.from)) here
              (starts state (ap (λ (e : EdgeId). step_of dfa 0 e.label) here ∙ leads))
          raise false differ =
              stayed value (sym (updates edge ∙ ap (λ (b : Bool).
              cond b (Some (raised (value_in old lifted) number)) (value_in old edge)) differ)
              ∙ is)
      by (Remove removed) updates starts = remove (same_edge removed edge) refl
        where
          remove : (b : Bool) → same_edge removed edge ≡ b →
              IsSome (source_in grown.sources edge.from)
          remove true equal =
              absurd (none-some value (sym (updates edge
              ∙ ap (λ (b : Bool). cond b None (value_in old edge)) equal) ∙ is))
          remove false differ =
              stayed value (sym (updates edge
              ∙ ap (λ (b : Bool). cond b None (value_in old edge)) differ) ∙ is)
      by (Expire now) expires starts =
          let was = above_was now (value_in old edge) (sym (expires edge) ∙ is) in
          stayed was.0 was.1

  settled_sources : (edge : EdgeId) (value state : ℕ) → value_in new edge ≡ Some value →
      step_of dfa 0 edge.label ≡ Some state → IsSome (source_in settled.sources edge.from)
  settled_sources edge value state is leads =
      let there = some_found (source_in table edge.from)
      (same_roots table grown.sources edge.from follows.same
      ∙ grown_starts edge value state is leads) in
      found_some (source_in settled.sources edge.from) there.0
      (follows.settles.kept edge.from there.0 there.1
      (not_bare (value_in new) (step_of dfa) there.0.tree edge value state
      (after_optimal follows edge.from there.0 there.1) is
      (sym (found_root table edge.from there.0 there.1)) leads))

  -- ---- holders

  -- the tree of a source has a node there
  standing : (root : ℕ) (id : NodeId) (source : SourceValue) →
      source_in table root ≡ Some source → HasNode table root id → stands source.tree id ≡ true
  standing root id source found has =
      let here = same_Some has.source source (sym has.found ∙ found) in
      (stands_or_not source.tree id).1 (
        has.node,
        ap (λ (each : SourceValue). node_of each.tree id) (sym here) ∙ has.there,
      )

  has_standing : (root : ℕ) (id : NodeId) (source : SourceValue) →
      source_in table root ≡ Some source → stands source.tree id ≡ true → HasNode table root id
  has_standing root id source found is =
      let there = (stands_or_not source.tree id).0 is in
      record { source = source; node = there.0; found = found; there = there.1 }

  -- a node of the index is one of the table, and the other way round
  node_of_table : (root : ℕ) (id : NodeId) → HasNode settled.sources root id →
      HasNode table root id
  node_of_table root id has = record {
    source = has.source;
    node = has.node;
    found = follows.settles.only root has.source has.found;
    there = has.there;
  }

  node_of_settled : (root : ℕ) (id : NodeId) → HasNode table root id →
      HasNode settled.sources root id
  node_of_settled root id has = record {
    source = has.source;
    node = has.node;
    found = follows.settles.kept root has.source has.found
        (λ bare. none-some has.node (sym (no_node has.source.tree id bare) ∙ has.there));
    there = has.there;
  }

  -- a source that took no change at a place has a node there where it had one before
  before_held : (root : ℕ) (id : NodeId) (before source : SourceValue) →
      source_in grown.sources root ≡ Some before → source_in table root ≡ Some source →
      stands source.tree id ≡ stands before.tree id →
      Holds grown.holders id root ↔ HasNode table root id
  before_held root id before source was found alike = (
    (λ holds.
        let has = (follows.kept.held root id).0
        (subst (λ (holders : HoldersValue). Holds holders id root) follows.are.holders holds) in
        let here = same_Some has.source before
        (sym (follows.are.stays root has.source has.found) ∙ was) in
        has_standing root id source found
        (alike ∙ (stands_or_not before.tree id).1 (
          has.node,
          ap (λ (each : SourceValue). node_of each.tree id) (sym here) ∙ has.there,
        ))),
    (λ has.
        let there = (stands_or_not before.tree id).0
        (sym alike ∙ standing root id source found has) in
        ⊎_elim
        (λ (is : source_in index.sources root ≡ Some before).
        subst (λ (holders : HoldersValue). Holds holders id root) (sym follows.are.holders)
        ((follows.kept.held root id).1
        (record { source = before; node = there.0; found = is; there = there.1 })))
        (λ (fresh : IsFresh roots index.sources root before).
        absurd (none-some there.0 (sym (no_node before.tree id fresh.bare) ∙ there.1)))
        (follows.are.only root before was)),
  )

  held_in_table : (root : ℕ) (id : NodeId) (source : SourceValue) →
      source_in table root ≡ Some source →
      Holds settled.holders id root ↔ HasNode table root id
  held_in_table root id source found =
      let was = after follows root source found in ⊎_elim
      (λ (both : Contains roots root
      × HasTaken change (product_of new dfa finals grown.holders) was.before source).
      let followed = follows.settles.followed root source both.0 found in ⊎_elim
      (λ (listed : Contains (moved_of source) id).
      let held = followed.listed id listed in
      let way = moved_way change was.before.tree source both.1.moved id listed in (
        (λ holds. has_standing root id source found (way ∙ held.0 holds)),
        (λ has. held.1 (sym way ∙ standing root id source found has)),
      ))
      (λ (unlisted : Contains (moved_of source) id → ⊥).
      let left = followed.unlisted id unlisted in
      let held = before_held root id was.before source was.found found
      (unmoved_stays change was.before.tree source both.1.touched both.1.moved id unlisted) in
      ((λ holds. held.0 (left.0 holds)), (λ has. left.1 (held.1 has))))
      (places_or_not (moved_of source) id))
      (λ (both : (Contains roots root → ⊥) × (was.before ≡ source)).
      let left = (follows.settles.left root both.0).held id in
      let held = before_held root id was.before source was.found found
      (ap (λ (each : SourceValue). stands each.tree id) (sym both.1)) in
      ((λ holds. held.0 (left.0 holds)), (λ has. left.1 (held.1 has))))
      was.cases

  held_none : (root : ℕ) (id : NodeId) → source_in table root ≡ None →
      Holds settled.holders id root ↔ HasNode table root id
  held_none root id none = (
    (λ holds.
        let before = ((follows.settles.absent root none).held id).0 holds in
        let has = (follows.kept.held root id).0
        (subst (λ (holders : HoldersValue). Holds holders id root) follows.are.holders before) in
        absurd (none-some has.source (sym (after_none follows root none) ∙ has.found))),
    (λ has. absurd (none-some has.source (sym none ∙ has.found))),
  )

  settled_held : (root : ℕ) (id : NodeId) →
      Holds settled.holders id root ↔ HasNode settled.sources root id
  settled_held root id =
      let held : Holds settled.holders id root ↔ HasNode table root id = ⊎_elim
      (λ (there : (source : SourceValue) × (source_in table root ≡ Some source)).
      held_in_table root id there.0 there.1)
      (λ (none : source_in table root ≡ None). held_none root id none)
      (found_or_not (source_in table root)) in (
        (λ holds. node_of_settled root id (held.0 holds)),
        (λ has. held.1 (node_of_table root id has)),
      )

  -- ---- numbers

  -- the number of a root was at most the values of its nodes
  due_before : (root : ℕ) (before : SourceValue) → source_in grown.sources root ≡ Some before →
      IsDueFor index.dues root before.tree
  due_before root before was = ⊎_elim
      (λ (is : source_in index.sources root ≡ Some before). follows.kept.due root before is)
      (λ (fresh : IsFresh roots index.sources root before).
      λ id node is. absurd (none-some node (sym (no_node before.tree id fresh.bare) ∙ is)))
      (follows.are.only root before was)

  -- it still is where nothing may be due sooner
  still_due : (root : ℕ) (source : SourceValue) (found : source_in table root ≡ Some source) →
      HasTaken change (product_of new dfa finals grown.holders)
      (after follows root source found).before source →
      is_sooner change source ≡ false → IsDueFor grown.dues root source.tree
  still_due root source found took late =
      by change follows.takes follows.are.still took.touched took.moved late
    where
      was : IsAfter follows root source
      was = after follows root source found

      noted : grown.dues ≡ index.dues → (id : NodeId) (before node : Node) →
          node_of was.before.tree id ≡ Some before → before.value ≤ node.value →
          (number : ℕ) × (due_of grown.dues root ≡ Some number) × (number ≤ node.value)
      noted same id before node is less =
          let due = due_before root was.before was.found id before is in (
            due.0,
            ap (λ (dues : DuesValue). due_of dues root) same ∙ due.1,
            omega (arith, less, due.2),
          )

      by : (each : Change) → TakesChange each old new → StaysDue each index.dues grown.dues →
          TellsTouched each was.before.tree source.tree source.touched →
          AreMoved each was.before.tree source.tree source.moved →
          is_sooner each source ≡ false → IsDueFor grown.dues root source.tree
      by (Raise edge value) updates same touched moved none id node is =
          let stood = (stands_or_not was.before.tree id).0
          (unlisted_stays (Raise edge value) was.before.tree source moved id
          (λ member. both_ways (nat_lt 0 (length source.moved)) none
          (lt-ltb 0 (length source.moved) (omega (arith, member.1))))
          ∙ (stands_or_not source.tree id).1 (node, is)) in
          let there = raise_keeps_nodes (value_in old) (value_in new) (step_of dfa)
          was.before.tree source.tree edge id stood.0
          (grown_optimal follows.kept follows.are root was.before was.found)
          (after_optimal follows root source found)
          (raises_are_raises old new edge value updates)
          (found_root table root source found
          ∙ sym (found_root grown.sources root was.before was.found)) stood.1 in
          let here : there.0 ≡ node = same_Some there.0 node (sym there.1 ∙ is) in
          noted same id stood.0 node stood.1
          (subst (λ (each : Node). stood.0.value ≤ each.value) here there.2)
      by (Remove edge) updates same touched moved none id node is =
          noted same id node node (sym (touched.none none id) ∙ is) (omega arith)
      by (Expire now) expires same touched moved none id node is =
          absurd (false≢true (sym none))

  settled_due : (root : ℕ) (source : SourceValue) →
      source_in settled.sources root ≡ Some source → IsDueFor settled.dues root source.tree
  settled_due root source found = ⊎_elim
      (λ (listed : Contains roots root). followed_due root source listed
      (follows.settles.only root source found))
      (λ (unlisted : Contains roots root → ⊥).
      let there = sym (follows.settles.same root unlisted) ∙ found in
      let grew = sym (follows.taken.others root unlisted) ∙ there in
      let due = follows.kept.due root source (stood follows root source grew unlisted) in
      λ id node is.
      let number = due id node is in (
        number.0,
        (follows.settles.left root unlisted).due ∙ (follows.are.dues root unlisted ∙ number.1),
        number.2,
      ))
      (listed_or_not roots root)
    where
      followed_due : (root : ℕ) (source : SourceValue) → Contains roots root →
          source_in table root ≡ Some source → IsDueFor settled.dues root source.tree
      followed_due root source listed found =
          let was = after follows root source found in
          let followed = follows.settles.followed root source listed found in ⊎_elim
          (λ (both : Contains roots root
          × HasTaken change (product_of new dfa finals grown.holders) was.before source).
          sooner_or_not (is_sooner change source) (IsDueFor settled.dues root source.tree)
          followed.due (λ late id node is.
          let number = still_due root source found both.1 late id node is in
          (number.0, followed.same late ∙ number.1, number.2)))
          (λ (both : (Contains roots root → ⊥) × (was.before ≡ source)).
          absurd (both.0 listed))
          was.cases

  pub kept_after : IsKept dfa new (calls + 1) settled
  kept_after = record {
    apart = follows.settles.apart;
    sound = λ root source found.
        let there = follows.settles.only root source found in
        record {
          tree = settled_tree root source there;
          optimal = after_optimal follows root source there;
          puts = settled_puts root source there;
        };
    some = settled_some;
    sources = settled_sources;
    held = settled_held;
    due = settled_due;
  }
