-- The nodes that came by the lifts of a raise, and those that went by a list of nodes that are gone.
use Rattle.std.proofs.Common.{◌≡◌, inl, inr, ◌==◌, ◌&&◌, ℕ, Bool, true, false, List, [], ◌∷◌, MatchOption, cond, Option, None, Some, option_map, refl, sym, ap, ap₂, subst, ◌∙◌, Contains, true≢false, eq-eqb}
use Rattle.std.specs.Prelude.{AllPairs, IsSome, is_some}
use Rattle.std.specs.List.{filter_map}
use Rattle.std.proofs.lemmas.Bool.{and_parts, eqb-true}
use Rattle.std.proofs.lemmas.List.Elements.{All-contains}
use Rattle.std.proofs.lemmas.Map.Keys.{IsDistinct-from_apart, apart_from_distinct}
use Rattle.delta_tree.specs.declared.node.NodeId.{NodeId}
use Rattle.delta_tree.specs.declared.node.Node.{Node}
use Rattle.delta_tree.specs.Nodes.{node_id, same_node}
use Rattle.delta_tree.proofs.Ids.{none_or_some, same_node_is, same_node_laws, some_is_found, value_has_node}
use Rattle.tree_insert.proofs.Members.{contains_head, contains_tail, contains_cases, contains_none}
use Rattle.place_table.specs.declared.gain.Lost.{Lost as Gone}
use Rattle.place_table.specs.Losses.{same_lost}
use Rattle.place_table.specs.Table.{TableValue, node_at, value_at}
use Rattle.wide_search.specs.declared.lifts.Lift.{Lift}
use Rattle.wide_search.specs.Lifts.{IsLater, IsLiftSince, ReportsLifts, is_lift, lift_of}
use Rattle.source_tree.specs.declared.change.Outcome.{Outcome}
use Rattle.source_tree.specs.declared.change.Outcome.TheVariants.{Lost, Gained}
use Rattle.end_log.specs.declared.moved.Moved.{Moved}
use Rattle.end_log.specs.Log.{AreGone}
use Rattle.end_log.specs.Moves.{AreMoves, IsMove, came, moved_at, new_at, same_moved, value_by, went}
use Rattle.end_log.proofs.Filtered.{from_filter, in_filter, pairs_head, pairs_tail, pairs_filtered}
use Rattle.end_log.proofs.Finals.{some_none}

-- ---- values and nodes

-- the place of a node that came or went
abbrev pub place_of : Moved → NodeId
place_of moved = node_id moved.vertex moved.state

-- where the node is one, so is the value
same_value : (old new : TableValue) (root : ℕ) (id : NodeId) →
    node_at new root id ≡ node_at old root id → value_at new root id ≡ value_at old root id
same_value old new root id same = ap (option_map (λ (node : Node). node.value)) same

found_value : (table : TableValue) (root : ℕ) (id : NodeId) (node : Node) →
    node_at table root id ≡ Some node → IsSome (value_at table root id)
found_value table root id node is =
    ap (λ (found : Option Node). is_some (option_map (λ (each : Node). each.value) found)) is

no_value : (found : Option Node) → found ≡ None →
    option_map (λ (node : Node). node.value) found ≡ None
no_value found none = ap (option_map (λ (node : Node). node.value)) none

no_node : (found : Option Node) → option_map (λ (node : Node). node.value) found ≡ None →
    found ≡ None
no_node None none = refl
no_node (Some node) none = absurd (none_or_some node.value (sym none))

-- the same node of the same root
same_parts : (first second : Moved) → first ≡ second → (first.root ≡ second.root)
    × (place_of first ≡ place_of second)
same_parts first second same =
    (ap (λ (each : Moved). each.root) same, ap place_of same)

-- ---- the lifts of a raise

-- what a lift brought is of its root at its place, where there was no node
came_is : (lift : Lift) (moved : Moved) → came lift ≡ Some moved →
    (lift.before ≡ None) × (moved_at lift.root lift.id ≡ moved)
came_is lift moved is = by lift.before refl is
  where
    by : (before : Option ℕ) → lift.before ≡ before →
        new_at lift.root lift.id before ≡ Some moved →
        (lift.before ≡ None) × (moved_at lift.root lift.id ≡ moved)
    by None none is = (none, some_moved (moved_at lift.root lift.id) moved is)
      where
        some_moved : (first second : Moved) → Some first ≡ Some second → first ≡ second
        some_moved first second same = cc
    by (Some before) some is = absurd (none_or_some moved is)

brings : (lift : Lift) → lift.before ≡ None → came lift ≡ Some (moved_at lift.root lift.id)
brings lift none = ap (new_at lift.root lift.id) none

is_its_lift : (lift : Lift) → is_lift lift.root lift.id lift ≡ true
is_its_lift lift = ap₂ (λ a b. a && b) (eq-eqb lift.root lift.root refl)
    (same_node_laws.refl lift.id)

-- a lift that brought a node is the first one of its root at its place
first_of : (lifts : List Lift) (lift : Lift) → AllPairs IsLater lifts → Contains lifts lift →
    lift.before ≡ None → lift_of lifts lift.root lift.id ≡ Some lift
first_of [] lift later there none = absurd (contains_none lift there)
first_of (first ∷ rest) lift later there none = elim (contains_cases first rest lift there) [
  | inl here ↦ ap (λ b. cond b (Some first) (lift_of rest lift.root lift.id))
      (ap (is_lift lift.root lift.id) here ∙ is_its_lift lift) ∙ ap Some here
  | inr more ↦ by (first_of rest lift (pairs_tail IsLater first rest later) more none)
      (All-contains (IsLater first) rest lift (pairs_head IsLater first rest later) more)
      (is_lift lift.root lift.id first) refl
]
  where
    by : lift_of rest lift.root lift.id ≡ Some lift → IsLater first lift → (b : Bool) →
        is_lift lift.root lift.id first ≡ b →
        cond b (Some first) (lift_of rest lift.root lift.id) ≡ Some lift
    by further after true same =
        let parts = and_parts (first.root == lift.root) (same_node first.id lift.id) same in
        absurd (after (eqb-true first.root lift.root parts.0)
        (same_node_is first.id lift.id parts.1) none)
    by further after false other = further

-- what is found is one of the list, and passes
record Found (lifts : List Lift) (root : ℕ) (id : NodeId) (lift : Lift) : Type 0 where
  pub there : Contains lifts lift
  pub root_is : lift.root ≡ root
  pub id_is : lift.id ≡ id

found : (lifts : List Lift) (root : ℕ) (id : NodeId) (lift : Lift) →
    lift_of lifts root id ≡ Some lift → Found lifts root id lift
found [] root id lift is = absurd (none_or_some lift is)
found (first ∷ rest) root id lift is =
    by (found rest root id lift) (is_lift root id first) refl is
  where
    by : (lift_of rest root id ≡ Some lift → Found rest root id lift) → (b : Bool) →
        is_lift root id first ≡ b →
        cond b (Some first) (lift_of rest root id) ≡ Some lift → Found (first ∷ rest) root id lift
    by further true same is =
        let parts = and_parts (first.root == root) (same_node first.id id) same in
        let it : first ≡ lift = some_lift first lift is in
        record {
          there = subst (Contains (first ∷ rest)) it (contains_head first rest);
          root_is = ap (λ (each : Lift). each.root) (sym it) ∙ eqb-true first.root root parts.0;
          id_is = ap (λ (each : Lift). each.id) (sym it) ∙ same_node_is first.id id parts.1;
        }
      where
        some_lift : (first second : Lift) → Some first ≡ Some second → first ≡ second
        some_lift first second same = cc
    by further false other is =
        let at = further is in
        record {
          there = contains_tail first rest lift at.there;
          root_is = at.root_is;
          id_is = at.id_is;
        }

module _ (old new : TableValue) (lifts : List Lift) (reports : ReportsLifts old new lifts) where
  -- of a place: no lift and the same node, or the first lift
  since : (root : ℕ) (id : NodeId) (at : Option Lift) → lift_of lifts root id ≡ at →
      MatchOption at (node_at new root id ≡ node_at old root id) (IsLiftSince old new root id)
  since root id at is = subst (λ each. MatchOption each
      (node_at new root id ≡ node_at old root id) (IsLiftSince old new root id)) is
      (reports.first root id)

  stands_new : (root : ℕ) (id : NodeId) (lift : Lift) → lift_of lifts root id ≡ Some lift →
      IsSome (value_at new root id)
  stands_new root id lift is =
      let risen = (since root id (Some lift) is).risen in
      found_value new root id risen.0 risen.1

  lift_moves : (moved : Moved) (lift : Lift) → Contains lifts lift → lift.before ≡ None →
      moved_at lift.root lift.id ≡ moved → IsMove Gained old new moved
  lift_moves moved lift there none is =
      let first = first_of lifts lift reports.later there none in
      subst (IsMove Gained old new) is (
        sym (since lift.root lift.id (Some lift) first).before ∙ none,
        stands_new lift.root lift.id lift first,
      )

  moved_lift : (moved : Moved) → IsMove Gained old new moved →
      Contains (filter_map came lifts) moved
  moved_lift moved moves =
      by (lift_of lifts moved.root (place_of moved)) refl
    where
      by : (at : Option Lift) → lift_of lifts moved.root (place_of moved) ≡ at →
          Contains (filter_map came lifts) moved
      by None none = absurd (some_none (value_by new moved) moves.1
          (same_value old new moved.root (place_of moved)
          (since moved.root (place_of moved) None none) ∙ moves.0))
      by (Some lift) is =
          let at = found lifts moved.root (place_of moved) lift is in
          let it : moved_at lift.root lift.id ≡ moved =
          ap₂ (λ root id. moved_at root id) at.root_is at.id_is in
          in_filter came lifts lift moved at.there
          (brings lift ((since moved.root (place_of moved) (Some lift) is).before ∙ moves.0)
          ∙ ap Some it)

  gained_way : (each : Outcome) (moved : Moved) → IsMove each old new moved → each ≡ Gained
  gained_way Gained moved moves = refl
  gained_way Lost moved moves = absurd (by (lift_of lifts moved.root (place_of moved)) refl)
    where
      by : (at : Option Lift) → lift_of lifts moved.root (place_of moved) ≡ at → ⊥
      by None none = some_none (value_by old moved) moves.0
          (sym (same_value old new moved.root (place_of moved)
          (since moved.root (place_of moved) None none)) ∙ moves.1)
      by (Some lift) is = some_none (value_by new moved)
          (stands_new moved.root (place_of moved) lift is) moves.1

  -- two lifts that brought nodes brought two
  two_came : (first second : Lift) (a b : Moved) → IsLater first second →
      came first ≡ Some a → came second ≡ Some b → same_moved a b ≡ false
  two_came first second a b later first_is second_is =
      let one = came_is first a first_is in
      let other = came_is second b second_is in
      by one other (same_moved a b) refl
    where
      by : ((first.before ≡ None) × (moved_at first.root first.id ≡ a)) →
          ((second.before ≡ None) × (moved_at second.root second.id ≡ b)) → (t : Bool) →
          same_moved a b ≡ t → t ≡ false
      by one other true same =
          let v = and_parts (a.vertex == b.vertex)
          ((a.root == b.root) && (a.state == b.state)) same in
          let r = and_parts (a.root == b.root) (a.state == b.state) v.1 in
          let roots : first.root ≡ second.root =
          ap (λ (each : Moved). each.root) one.1 ∙ eqb-true a.root b.root r.0
          ∙ ap (λ (each : Moved). each.root) (sym other.1) in
          let ids : first.id ≡ second.id =
          ap place_of one.1
          ∙ ap₂ node_id (eqb-true a.vertex b.vertex v.0) (eqb-true a.state b.state r.1)
          ∙ ap place_of (sym other.1) in
          absurd (later roots ids other.0)
      by one other false same = refl

  pub came_moves : AreMoves Gained old new (filter_map came lifts)
  came_moves = record {
    exact = λ moved. (
      (λ there.
          let made = from_filter came lifts moved there in
          let is = came_is made.from moved made.makes in
          lift_moves moved made.from made.there is.0 is.1),
      moved_lift moved,
    );
    once = IsDistinct-from_apart same_moved (filter_map came lifts)
        (pairs_filtered came IsLater (λ a b. same_moved a b ≡ false) two_came lifts
        reports.later);
    way = gained_way;
  }

-- ---- nodes that are gone

module _ (old new : TableValue) (gone : List Gone) (are : AreGone old new gone) where
  lost_moves : (moved : Moved) (lost : Gone) → Contains gone lost →
      moved_at lost.root lost.id ≡ moved → IsMove Lost old new moved
  lost_moves moved lost there is =
      let at = (are.exact lost).0 there in
      subst (IsMove Lost old new) is (
        found_value old lost.root lost.id at.0 at.1,
        no_value (node_at new lost.root lost.id) at.3,
      )

  moved_lost : (moved : Moved) → IsMove Lost old new moved → Contains (filter_map went gone) moved
  moved_lost moved moves =
      let value = some_is_found (value_by old moved) moves.0 in
      let node = value_has_node (node_at old moved.root (place_of moved)) value.0 value.1 in
      let lost : Gone = record {
        root = moved.root;
        id = place_of moved;
        before = node.0.value;
      } in
      in_filter went gone lost moved
      ((are.exact lost).1 (
        node.0,
        node.1,
        refl,
        no_node (node_at new moved.root (place_of moved)) moves.1,
      )) refl

  lost_way : (each : Outcome) (moved : Moved) → IsMove each old new moved → each ≡ Lost
  lost_way Lost moved moves = refl
  lost_way Gained moved moves = absurd (some_none (value_by new moved) moves.1
      (no_value (node_at new moved.root (place_of moved)) (are.none moved.root (place_of moved)
      (no_node (node_at old moved.root (place_of moved)) moves.0))))

  -- two that are gone are two nodes
  two_gone : (first second : Gone) (a b : Moved) → same_lost first second ≡ false →
      went first ≡ Some a → went second ≡ Some b → same_moved a b ≡ false
  two_gone first second a b two first_is second_is =
      by (some_moved (moved_at first.root first.id) a first_is)
      (some_moved (moved_at second.root second.id) b second_is) (same_moved a b) refl
    where
      some_moved : (one other : Moved) → Some one ≡ Some other → one ≡ other
      some_moved one other same = cc

      by : moved_at first.root first.id ≡ a → moved_at second.root second.id ≡ b → (t : Bool) →
          same_moved a b ≡ t → t ≡ false
      by one other true same =
          let v = and_parts (a.vertex == b.vertex)
          ((a.root == b.root) && (a.state == b.state)) same in
          let r = and_parts (a.root == b.root) (a.state == b.state) v.1 in
          let roots : first.root ≡ second.root =
          ap (λ (each : Moved). each.root) one ∙ eqb-true a.root b.root r.0
          ∙ ap (λ (each : Moved). each.root) (sym other) in
          let ids : first.id ≡ second.id =
          ap place_of one
          ∙ ap₂ node_id (eqb-true a.vertex b.vertex v.0) (eqb-true a.state b.state r.1)
          ∙ ap place_of (sym other) in
          absurd (true≢false (sym (ap₂ (λ x y. x && y) (eq-eqb first.root second.root roots)
          (ap (same_node first.id) (sym ids) ∙ same_node_laws.refl first.id)) ∙ two))
      by one other false same = refl

  pub gone_moves : AreMoves Lost old new (filter_map went gone)
  gone_moves = record {
    exact = λ moved. (
      (λ there.
          let made = from_filter went gone moved there in
          lost_moves moved made.from made.there
          (some_moved (moved_at made.from.root made.from.id) moved made.makes)),
      moved_lost moved,
    );
    once = IsDistinct-from_apart same_moved (filter_map went gone)
        (pairs_filtered went (λ x y. same_lost x y ≡ false) (λ a b. same_moved a b ≡ false)
        two_gone gone
        (λ i j d before within. apart_from_distinct same_lost gone i j d are.once before within));
    way = lost_way;
  }
    where
      some_moved : (one other : Moved) → Some one ≡ Some other → one ≡ other
      some_moved one other same = cc
