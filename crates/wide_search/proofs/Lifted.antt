-- The lifts that a search reports.
use Rattle.std.proofs.Common.{◌≡◌, ◌≢◌, ℕ, ◌≤◌, ◌<◌, ⊎_elim, Bool, true, false, ◌==◌, cond, min, List, [], ◌∷◌, ◌++◌, map, MatchOption, Option, Some, None, refl, sym, ap, subst, ◌∙◌, arith, Contains, All, AllPairs, nat_eq, append-nil, append_assoc}
use Rattle.std.specs.List.{IsDistinct, AllByRecursion}
use Rattle.std.proofs.lemmas.Map.Keys.{IsDistinct-head, IsDistinct-tail}
use Rattle.std.proofs.lemmas.List.Elements.{All-cons, All-nil, Contains-push_cases}
use Rattle.std.proofs.lemmas.List.Quantifiers.{all_pairs_push}
use Rattle.std.proofs.lemmas.Option.{none-some}
use Rattle.std.proofs.lemmas.Bool.{cases_lt, eqb-false, and_from, and_parts, eqb-true, eq-eqb, true≢false}
use Rattle.std.proofs.lemmas.List.Folds.{find-append}
use Rattle.delta_tree.specs.declared.node.NodeId.{NodeId}
use Rattle.delta_tree.specs.declared.node.Node.{Node}
use Rattle.std.specs.Option.{option_or}
use Rattle.delta_tree.specs.Nodes.{node_in, same_node}
use Rattle.delta_tree.proofs.Ids.{same_node_is, same_node_laws}
use Rattle.tree_insert.specs.Best.{IsAtLeast}
use Rattle.tree_insert.specs.Trees.{IsRisen}
use Rattle.tree_insert.proofs.Nodes.{value_is, value_reached}
use Rattle.tree_insert.proofs.Members.{contains_head, contains_tail, contains_cases, contains_none}
use Rattle.place_table.specs.declared.gain.Gain.{Gain}
use Rattle.place_table.specs.Table.{PlaceValue, TableValue, gain_roots, node_at, nodes_of, tree_in, value_at}
use Rattle.place_table.specs.Lifts.{LiftsAll, brings, has_enough, lifted_gain, lifted_gains}
use Rattle.wide_search.specs.declared.batch.Batch.{Batch}
use Rattle.wide_search.specs.declared.lifts.Lift.{Lift}
use Rattle.wide_search.specs.Batches.{target_of, try_of}
use Rattle.wide_search.specs.Searching.{lifted_node}
use Rattle.wide_search.specs.Lifts.{AreLifts, IsLater, IsLiftSince, ReportsLifts, is_lift, lift_at, lift_of}
use Rattle.wide_search.proofs.Searching.{node_cases, rises_itself, rises_on, same_value}
use Rattle.wide_search.proofs.Tables.{lacks_apart, lifts_trees, lifted_all, lifted_once, lifted_only, root_or_none}

-- ---- the first lift of a root at a place

-- the gain whose lift it is
found_there : (root : ℕ) (id to : NodeId) (gains : List Gain) (lift : Lift) →
    lift_of (map (lift_at to) gains) root id ≡ Some lift →
    (gain : Gain) × Contains gains gain × (gain.root ≡ root) × (to ≡ id)
    × (lift.before ≡ gain.before)
found_there root id to [] lift is = absurd cc
found_there root id to (x ∷ xs) lift is =
    by (λ other.
    let found = found_there root id to xs lift other in
    (found.0, contains_tail x xs found.0 found.1, found.2, found.3, found.4))
    (is_lift root id (lift_at to x)) refl is
  where
    by : (lift_of (map (lift_at to) xs) root id ≡ Some lift →
        (gain : Gain) × Contains (x ∷ xs) gain × (gain.root ≡ root) × (to ≡ id)
        × (lift.before ≡ gain.before)) →
        (b : Bool) → is_lift root id (lift_at to x) ≡ b →
        cond b (Some (lift_at to x)) (lift_of (map (lift_at to) xs) root id) ≡ Some lift →
        (gain : Gain) × Contains (x ∷ xs) gain × (gain.root ≡ root) × (to ≡ id)
        × (lift.before ≡ gain.before)
    by further true here found =
        let parts = and_parts (x.root == root) (same_node to id) here in
        let same : lift_at to x ≡ lift = same_some (lift_at to x) lift found in (
          x,
          contains_head x xs,
          eqb-true x.root root parts.0,
          same_node_is to id parts.1,
          ap (λ (each : Lift). each.before) (sym same),
        )
      where
        same_some : (first second : Lift) → Some first ≡ Some second → first ≡ second
        same_some first second equal = cc
    by further false here found = further found

-- where none is found, no gain has the root
none_there : (root : ℕ) (to : NodeId) (gains : List Gain) →
    lift_of (map (lift_at to) gains) root to ≡ None →
    (gain : Gain) → Contains gains gain → gain.root ≡ root → ⊥
none_there root to [] none gain has same = contains_none gain has
none_there root to (x ∷ xs) none gain has same =
    by (λ other at. none_there root to xs other gain at same) (is_lift root to (lift_at to x)) refl
    none
  where
    by : (lift_of (map (lift_at to) xs) root to ≡ None → Contains xs gain → ⊥) →
        (b : Bool) → is_lift root to (lift_at to x) ≡ b →
        cond b (Some (lift_at to x)) (lift_of (map (lift_at to) xs) root to) ≡ None → ⊥
    by further true here found = absurd cc
    by further false here found = ⊎_elim
        (λ (it : x ≡ gain).
        let root_is : x.root ≡ root = ap (λ (each : Gain). each.root) it ∙ same in
        let yes = and_from (x.root == root) (same_node to to) (eq-eqb x.root root root_is)
        (same_node_laws.refl to) in
        true≢false (sym yes ∙ here))
        (λ (other : Contains xs gain). further found other)
        (contains_cases x xs gain has)

-- ---- one batch more

module _ (old middle new : TableValue) (batch : Batch) (gains : List Gain) (lifts : List Lift)
    (before : AreLifts old middle lifts)
    (all : LiftsAll middle new (try_of batch) batch.width gains) where
  -- what isn't lifted by the batch is as it was
  kept_there : (root : ℕ) (id : NodeId) →
      lift_of (map (lift_at (target_of batch))
      (lifted_gains middle (target_of batch) batch.width gains)) root id ≡ None →
      node_at new root id ≡ node_at middle root id
  kept_there root id none = ⊎_elim
      (λ (here : id ≡ target_of batch). ⊎_elim
      (λ (found : (gain : Gain) × Contains gains gain × (gain.root ≡ root)).
      subst (λ (at : ℕ). node_at new at id ≡ node_at middle at id) found.2
      (subst (λ (at : NodeId). node_at new found.0.root at ≡ node_at middle found.0.root at)
      (sym here)
      (by found (subst (λ (at : NodeId). lift_of (map (lift_at (target_of batch))
      (lifted_gains middle (target_of batch) batch.width gains)) root at ≡ None) here none)
      (has_enough middle (target_of batch) batch.width found.0) refl)))
      (λ (none_of : Contains (gain_roots gains) root → ⊥).
      subst (λ (at : NodeId). node_at new root at ≡ node_at middle root at) (sym here)
      (all.others root none_of))
      (root_or_none gains root))
      (λ (apart : id ≢ target_of batch). all.elsewhere root id apart)
      (node_cases id (target_of batch))
    where
      by : (found : (gain : Gain) × Contains gains gain × (gain.root ≡ root)) →
          lift_of (map (lift_at (target_of batch))
          (lifted_gains middle (target_of batch) batch.width gains)) root (target_of batch) ≡ None →
          (b : Bool) → has_enough middle (target_of batch) batch.width found.0 ≡ b →
          node_at new found.0.root (target_of batch) ≡ node_at middle found.0.root (target_of batch)
      by found lacks true is = all.enough found.0 found.1 is
      by found lacks false is =
          absurd (none_there root (target_of batch)
          (lifted_gains middle (target_of batch) batch.width gains) lacks
          (lifted_gain middle (target_of batch) batch.width found.0)
          (lifted_all middle (target_of batch) batch.width gains found.0 found.1 is) found.2)

  -- what is lifted first by the batch has the value before that it had at first
  told_there : (root : ℕ) (id : NodeId) → node_at middle root id ≡ node_at old root id →
      (found : Option Lift) →
      lift_of (map (lift_at (target_of batch))
      (lifted_gains middle (target_of batch) batch.width gains)) root id ≡ found →
      MatchOption found (node_at new root id ≡ node_at old root id)
      (IsLiftSince old new root id)
  told_there root id same None none = kept_there root id none ∙ same
  told_there root id same (Some lift) is =
      let found =
      found_there root id (target_of batch)
      (lifted_gains middle (target_of batch) batch.width gains) lift is in
      let from =
      lifted_only middle (target_of batch) batch.width gains found.0 found.1 in
      let before_is : found.0.before ≡ value_at middle from.0.root (target_of batch) =
      ap (λ (each : Gain). each.before) (sym from.2) in
      let root_is : from.0.root ≡ root = ap (λ (each : Gain). each.root) from.2 ∙ found.2 in
      let put = all.raised from.0 from.1 from.3 in
      let node = lifted_node batch from.0 put.0 in
      let there : node_at new root id ≡ Some node =
      subst (λ (at : NodeId). node_at new root at ≡ Some node) found.3
      (subst (λ (at : ℕ). node_at new at (target_of batch) ≡ Some node) root_is put.3) in
      record {
        before = found.4 ∙ (before_is
            ∙ (ap (λ (at : ℕ). value_at middle at (target_of batch)) root_is
            ∙ (ap (value_at middle root) found.3
            ∙ same_value (tree_in middle root) (tree_in old root) id same)));
        risen = (
          node,
          there,
          λ each was.
              above from.0 each
              (lacks_apart (value_at middle from.0.root (target_of batch))
              (brings batch.width from.0) from.3)
              (subst (λ (at : ℕ). node_at middle at (target_of batch) ≡ Some each) (sym root_is)
              (subst (λ (at : NodeId). node_at middle root at ≡ Some each) (sym found.3)
              (same ∙ was))),
        );
      }
    where
      above : (gain : Gain) (each : Node) →
          (IsAtLeast (min gain.cap batch.width)
          (value_at middle gain.root (target_of batch)) → ⊥) →
          node_at middle gain.root (target_of batch) ≡ Some each →
          each.value < min gain.cap batch.width
      above gain each lacks was = ⊎_elim
          (λ (less : each.value < min gain.cap batch.width). less)
          (λ (high : min gain.cap batch.width ≤ each.value).
          absurd (lacks (value_reached (tree_in middle gain.root) (target_of batch) each
          (min gain.cap batch.width) was high)))
          (cases_lt each.value (min gain.cap batch.width))

  -- what rose before the batch has done so after it
  risen_on : (root : ℕ) (id : NodeId) → IsRisen (tree_in old root) (tree_in middle root) id →
      IsRisen (tree_in old root) (tree_in new root) id
  risen_on root id risen =
      let rises =
      rises_on (tree_in middle) (tree_in new) batch gains (lifts_trees middle new batch gains all)
      (tree_in middle root) root (rises_itself (tree_in middle root)) in
      let after = rises.risen id risen.0 risen.1 in
      (after.0, after.1, λ each was. omega (arith, risen.2 each was, after.2))

  pub lifts_more : AreLifts old new (lifts ++ map (lift_at (target_of batch))
      (lifted_gains middle (target_of batch) batch.width gains))
  lifts_more root id =
      subst (λ (found : Option Lift).
      MatchOption found (node_at new root id ≡ node_at old root id)
      (IsLiftSince old new root id))
      (sym (find-append (is_lift root id) lifts (map (lift_at (target_of batch))
      (lifted_gains middle (target_of batch) batch.width gains))))
      (by (lift_of lifts root id) (before root id)
      (lift_of (map (lift_at (target_of batch))
      (lifted_gains middle (target_of batch) batch.width gains)) root id) refl)
    where
      by : (found : Option Lift) →
          MatchOption found (node_at middle root id ≡ node_at old root id)
          (IsLiftSince old middle root id) →
          (more : Option Lift) →
          lift_of (map (lift_at (target_of batch))
          (lifted_gains middle (target_of batch) batch.width gains)) root id ≡ more →
          MatchOption (option_or found more) (node_at new root id ≡ node_at old root id)
          (IsLiftSince old new root id)
      by None same more is = told_there root id same more is
      by (Some lift) told more is =
          record { before = told.before; risen = risen_on root id told.risen }

pub lifts_none : (table : TableValue) → AreLifts table table []
lifts_none table root id = refl

-- ---- a table whose places are the same

pub lifts_same : (old middle new : TableValue) (lifts : List Lift) →
    new.places ≡ middle.places → AreLifts old middle lifts → AreLifts old new lifts
lifts_same old middle new lifts places are root id =
    by (lift_of lifts root id) (are root id)
  where
    same : node_at new root id ≡ node_at middle root id
    same = ap (λ (places : List PlaceValue). node_in (nodes_of places root) id) places

    by : (found : Option Lift) →
        MatchOption found (node_at middle root id ≡ node_at old root id)
        (IsLiftSince old middle root id) →
        MatchOption found (node_at new root id ≡ node_at old root id)
        (IsLiftSince old new root id)
    by None kept = same ∙ kept
    by (Some lift) told = record {
      before = told.before;
      risen = (told.risen.0, same ∙ told.risen.1, told.risen.2);
    }

-- ---- all lifts

all_of_contains : {X : Type 0} (P : X → Type 0) (xs : List X) →
    ((x : X) → Contains xs x → P x) → All P xs
all_of_contains P [] holds = All-nil P
all_of_contains P (x ∷ xs) holds =
    All-cons P x xs (holds x (contains_head x xs))
    (all_of_contains P xs (λ y has. holds y (contains_tail x xs y has)))

-- a list that has a lift has a first one of its root and place
some_lift : (lifts : List Lift) (lift : Lift) → Contains lifts lift →
    lift_of lifts lift.root lift.id ≡ None → ⊥
some_lift [] lift has none = contains_none lift has
some_lift (x ∷ xs) lift has none =
    by (λ other found. some_lift xs lift other found) (is_lift lift.root lift.id x) refl none
  where
    by : (Contains xs lift → lift_of xs lift.root lift.id ≡ None → ⊥) →
        (b : Bool) → is_lift lift.root lift.id x ≡ b →
        cond b (Some x) (lift_of xs lift.root lift.id) ≡ None → ⊥
    by further true here found = absurd cc
    by further false here found = ⊎_elim
        (λ (it : x ≡ lift).
        let root_is : x.root ≡ lift.root = ap (λ (each : Lift). each.root) it in
        let id_is : same_node x.id lift.id ≡ true =
        ap (λ (each : Lift). same_node each.id lift.id) it ∙ same_node_laws.refl lift.id in
        let yes = and_from (x.root == lift.root) (same_node x.id lift.id)
        (eq-eqb x.root lift.root root_is) id_is in
        true≢false (sym yes ∙ here))
        (λ (other : Contains xs lift). further other found)
        (contains_cases x xs lift has)

pub risen_of_first : (old new : TableValue) (lifts : List Lift) → AreLifts old new lifts →
    (lift : Lift) → Contains lifts lift →
    IsRisen (tree_in old lift.root) (tree_in new lift.root) lift.id
risen_of_first old new lifts are lift has =
    by (lift_of lifts lift.root lift.id) refl (are lift.root lift.id)
  where
    by : (found : Option Lift) → lift_of lifts lift.root lift.id ≡ found →
        MatchOption found (node_at new lift.root lift.id ≡ node_at old lift.root lift.id)
        (IsLiftSince old new lift.root lift.id) →
        IsRisen (tree_in old lift.root) (tree_in new lift.root) lift.id
    by None none kept = absurd (some_lift lifts lift has none)
    by (Some first) is since = since.risen

risen_all : (old new : TableValue) (lifts : List Lift) → AreLifts old new lifts →
    All (λ (lift : Lift). IsRisen (tree_in old lift.root) (tree_in new lift.root) lift.id) lifts
risen_all old new lifts are =
    all_of_contains (λ (lift : Lift).
    IsRisen (tree_in old lift.root) (tree_in new lift.root) lift.id) lifts
    (risen_of_first old new lifts are)

-- ---- which are later

root_apart : (root : ℕ) (gains : List Gain) →
    AllByRecursion (λ (each : ℕ). nat_eq root each ≡ false) (gain_roots gains) →
    (gain : Gain) → Contains gains gain → root ≡ gain.root → ⊥
root_apart root [] apart gain has same = contains_none gain has
root_apart root (x ∷ xs) apart gain has same = ⊎_elim
    (λ (it : x ≡ gain).
    eqb-false root x.root apart.0 (same ∙ ap (λ (each : Gain). each.root) (sym it)))
    (λ (other : Contains xs gain). root_apart root xs apart.1 gain other same)
    (contains_cases x xs gain has)

later_append : (to : NodeId) (gains : List Gain) (lifts : List Lift) → AllPairs IsLater lifts →
    ((first : Lift) (gain : Gain) → Contains lifts first → Contains gains gain →
    IsLater first (lift_at to gain)) → IsDistinct nat_eq (gain_roots gains) →
    AllPairs IsLater (lifts ++ map (lift_at to) gains)
later_append to [] lifts pairs cross once =
    subst (AllPairs IsLater) (sym (append-nil lifts)) pairs
later_append to (x ∷ xs) lifts pairs cross once =
    subst (AllPairs IsLater) (append_assoc lifts (lift_at to x ∷ []) (map (lift_at to) xs))
    (later_append to xs (lifts ++ lift_at to x ∷ [])
    (all_pairs_push IsLater lifts (lift_at to x) pairs
    (all_of_contains (λ (first : Lift). IsLater first (lift_at to x)) lifts
    (λ first has. cross first x has (contains_head x xs))))
    (λ first gain has there. ⊎_elim
    (λ (old : Contains lifts first). cross first gain old (contains_tail x xs gain there))
    (λ (same : lift_at to x ≡ first). λ roots ids.
    absurd (root_apart x.root xs (IsDistinct-head nat_eq x.root (gain_roots xs) once) gain there
    (ap (λ (each : Lift). each.root) same ∙ roots)))
    (Contains-push_cases lifts (lift_at to x) first has))
    (IsDistinct-tail nat_eq x.root (gain_roots xs) once))

-- ---- reports

pub reports_none : (table : TableValue) → ReportsLifts table table []
reports_none table = record {
  first = lifts_none table;
  risen = risen_all table table [] (lifts_none table);
  later = λ i j d less within. absurd (omega (arith, within));
  puts = omega arith;
  shown = refl;
}

pub reports_same : (old middle new : TableValue) (lifts : List Lift) →
    new.places ≡ middle.places → new.puts ≡ middle.puts → new.root ≡ middle.root →
    ReportsLifts old middle lifts → ReportsLifts old new lifts
reports_same old middle new lifts places puts shown reports =
    let first = lifts_same old middle new lifts places reports.first in
    record {
      first = first;
      risen = risen_all old new lifts first;
      later = reports.later;
      puts = omega (arith, reports.puts, puts);
      shown = shown ∙ reports.shown;
    }

pub reports_more : (old middle new : TableValue) (batch : Batch) (gains : List Gain)
    (lifts : List Lift) → ReportsLifts old middle lifts →
    LiftsAll middle new (try_of batch) batch.width gains → IsDistinct nat_eq (gain_roots gains) →
    new.root ≡ middle.root → ReportsLifts old new (lifts ++ map (lift_at (target_of batch))
    (lifted_gains middle (target_of batch) batch.width gains))
reports_more old middle new batch gains lifts reports all once shown =
    let first = lifts_more old middle new batch gains lifts reports.first all in
    let more = lifted_gains middle (target_of batch) batch.width gains in
    record {
      first = first;
      risen = risen_all old new (lifts ++ map (lift_at (target_of batch)) more) first;
      later = later_append (target_of batch) more lifts reports.later
          (λ each gain has there roots ids none.
          let from = lifted_only middle (target_of batch) batch.width gains gain there in
          let risen = risen_of_first old middle lifts reports.first each has in
          let root_is : each.root ≡ from.0.root =
          roots ∙ ap (λ (one : Gain). one.root) (sym from.2) in
          let value : value_at middle from.0.root (target_of batch) ≡ Some risen.0.value =
          subst (λ (at : NodeId). value_at middle from.0.root at ≡ Some risen.0.value) ids
          (subst (λ (at : ℕ). value_at middle at each.id ≡ Some risen.0.value) root_is
          (value_is (tree_in middle each.root) each.id risen.0 risen.1)) in
          none-some risen.0.value
          (sym none ∙ (ap (λ (one : Gain). one.before) (sym from.2) ∙ value)))
          (lifted_once middle (target_of batch) batch.width gains once);
      puts = omega (arith, reports.puts, all.counted);
      shown = shown ∙ reports.shown;
    }
