-- A node that is raised where its place is known.
use Rattle.std.proofs.Common.{◌≡◌, ◌≤◌, ◌<◌, ◌^◌, ℕ, ◌++◌, ◌∷◌, [], List, map, Option, None, Some, length, Result, Ok, Err, IfOk, OnErr, refl, sym, ap, subst, ◌∙◌, nat_eq, get_or, slice_get, slice_set, arith, zero, suc}
use Rattle.std.specs.List.{IsDistinct}
use Rattle.std.specs.Map.{keys_of, lookup}
use Rattle.std.proofs.lemmas.Option.{slice_get_within}
use Rattle.small_map.specs.Places.{IsPlace}
use Rattle.small_map.proofs.Entries.{none_or_some, some_is_one, set_there}
use Rattle.due_queue.specs.declared.due.Due.{Due}
use Rattle.delta_tree.specs.declared.node.NodeId.{NodeId}
use Rattle.delta_tree.specs.declared.node.Node.{Node}
use Rattle.delta_tree.specs.declared.node.Shift.{Shift}
use Rattle.delta_tree.specs.declared.node.Try.{Try}
use Rattle.delta_tree.specs.Nodes.{node_of, IsTree}
use Rattle.delta_tree.specs.Changes.{CanHang, HasAsMuch, Lifts, Puts, Raises, put_node}
use Rattle.place_table.specs.declared.spot.Spot.{Spot}
use Rattle.place_table.specs.declared.place.Kept.{Kept}
use Rattle.place_table.specs.Kept.{Placed, kept_at, kept_nodes, seen, stamp_of, whole, AreHinted, IsThere, KeepSame}
use Rattle.place_table.specs.Links.{placed_ids}
use Rattle.place_table.specs.Queue.{spot}
use Rattle.place_table.specs.Raises.{HasEnough, HadLess, RaisesHere, RaisesAt, shift_of}
use Rattle.place_table.specs.Sound.{tree_kept, AreTrees, IsSound}
use Rattle.place_table.specs.Table.{PlaceValue}
use Rattle.place_table.proofs.Entered.{looked_up, more_up, set_up}
use Rattle.place_table.proofs.Found.{found_read, puts_read, read_is, there_in}
use Rattle.place_table.proofs.Leaving.{noted_same}
use Rattle.place_table.proofs.Puts.{node_found}
use Rattle.place_table.proofs.Seen.{node_kept, seen_node, seen_value, seen_same, one_more, whole_put, put_own, put_others, put_trees}

-- ---- at the place itself

pub found_within : {V : Type 0} (entries : List (ℕ × V)) (key place : ℕ) →
    IsPlace nat_eq entries key (Some place) → place < length entries
found_within entries key place (entry, at, same) = slice_get_within entries place entry at

-- the place with its values before and after
abbrev shift_with : NodeId → Option ℕ → ℕ → Shift
shift_with id before value = record { id = id; before = before; after = Some value }

-- what an outcome has
pub ok_is_one : {X E : Type 0} (a b : X) → ◌≡◌ {A = Result (Option X) E} (Ok (Some a)) (Ok (Some b)) →
    a ≡ b
ok_is_one a b is = cc

pub if_ok_then : {X E : Type 0} {P Q : X → Type 0} (result : Result X E) → IfOk result P →
    ((x : X) → P x → Q x) → IfOk result Q
if_ok_then (Ok x) one gives = gives x one
if_ok_then (Err fault) one gives = tt

-- the place as it is seen
abbrev placed : NodeId → List (ℕ × Kept) → Placed
placed id nodes = record { id = id; nodes = nodes }

module _ (id : NodeId) (nodes : List (ℕ × Kept)) (now : Placed) (root : ℕ) (kept : Kept)
    (seen_so : placed id nodes ≡ now) where
  pub raised_new : (new : List (ℕ × Kept)) → lookup (nat_eq root) nodes ≡ None →
      new ≡ nodes ++ (root, kept) ∷ [] → (told : Shift) → told ≡ shift_with id None kept.value →
      (shift : Shift) → told ≡ shift → RaisesHere now (placed id new) root kept shift
  raised_new new none is told tells shift same =
      subst (λ (old : Placed). RaisesHere old (placed id new) root kept shift) seen_so (record {
        less = λ was found. absurd (none_or_some was (sym none ∙ found));
        nodes = more_up nodes new root kept none is;
        told = sym same ∙ tells ∙ ap (λ found. shift_of id found kept) (sym none);
      })

  module _ (place : ℕ) (entry : ℕ × Kept) (found : IsPlace nat_eq nodes root (Some place))
      (once : IsDistinct nat_eq (keys_of nodes)) (at : slice_get nodes place ≡ Some entry) where
    is_there : Some entry.1 ≡ lookup (nat_eq root) nodes
    is_there = looked_up nodes root place entry found once at

    pub enough_there : kept.value ≤ entry.1.value →
        HasEnough (lookup (nat_eq root) now.nodes) kept.value
    enough_there enough =
        subst (λ (old : Placed). HasEnough (lookup (nat_eq root) old.nodes) kept.value) seen_so
        (entry.1, sym is_there, enough)

    pub raised_there : (new : List (ℕ × Kept)) → entry.1.value < kept.value →
        ((each : ℕ × Kept) → slice_get nodes place ≡ Some each →
        new ≡ slice_set nodes place (each.0, kept)) → (told : Shift) →
        told ≡ shift_with id (Some entry.1.value) kept.value → (shift : Shift) → told ≡ shift →
        RaisesHere now (placed id new) root kept shift
    raised_there new less is told tells shift same =
        subst (λ (old : Placed). RaisesHere old (placed id new) root kept shift) seen_so (record {
          less = λ was stood. subst (λ (k : Kept). k.value < kept.value)
              (some_is_one entry.1 was (is_there ∙ stood)) less;
          nodes = set_up nodes new root place kept found once is;
          told = sym same ∙ tells ∙ ap (λ stood. shift_of id stood kept) is_there;
        })

-- ---- among all places

set_itself : {X : Type 0} (xs : List X) (number : ℕ) (x : X) → slice_get xs number ≡ Some x →
    slice_set xs number x ≡ xs
set_itself [] number x at = refl
set_itself (y ∷ ys) zero x at = ap (λ z. z ∷ ys) (sym (some_is_one y x at))
set_itself (y ∷ ys) (suc number) x at = ap (λ zs. y ∷ zs) (set_itself ys number x at)

module _ (rows : List (List (ℕ × ℕ))) (places now : List Placed) (number : ℕ) (old new : Placed)
    (one : Spot) (hinted : AreHinted rows places) (seen_so : places ≡ now)
    (there : IsThere now one.id number) (read : old ≡ get_or places number old) where
  at_old : slice_get places number ≡ Some old
  at_old =
      let (place, at, is) = there_in places now one.id number seen_so there in
      at ∙ ap (λ (p : Placed). Some p) (sym (read_is places number place old at read))

  old_named : old.id ≡ one.id
  old_named =
      let (place, at, is) = there_in places now one.id number seen_so there in
      ap (λ (p : Placed). p.id) (read_is places number place old at read) ∙ is

  here_kept : lookup (nat_eq one.root) old.nodes ≡ kept_at now one.root one.id
  here_kept =
      found_read rows places now one.root one.id number old hinted seen_so
      (there_in places now one.id number seen_so there) read

  pub raised_read : (kept : Kept) (shift : Shift) → new.id ≡ old.id →
      RaisesHere old new one.root kept shift →
      RaisesAt now (slice_set places number new) one kept shift
  raised_read kept shift named raises = record {
    less = λ was found. raises.less was (here_kept ∙ found);
    nodes = puts_read rows places now number old new one.root one.id (Some kept) hinted seen_so
        there read named raises.nodes;
    told = raises.told ∙ (λ i. shift_of (old_named i) (here_kept i) kept);
  }

  pub stays_same : new ≡ old → KeepSame now (slice_set places number new)
  stays_same same root =
      ap (λ (l : List Placed). kept_nodes l root)
      (ap (slice_set places number) same ∙ set_itself places number old at_old ∙ seen_so)

  pub enough_read : (value : ℕ) → HasEnough (lookup (nat_eq one.root) old.nodes) value →
      HasEnough (kept_at now one.root one.id) value
  enough_read value (was, is, enough) = (was, sym here_kept ∙ is, enough)

  pub there_still : new.id ≡ old.id → IsThere (slice_set places number new) one.id number
  there_still named = (new, set_there places number old new at_old, named ∙ old_named)

-- ---- as a table sees it

module _ (puts : List Spot) where
  ids_seen : (places : List Placed) →
      map (λ (place : PlaceValue). place.id) (seen puts places) ≡ placed_ids places
  ids_seen [] = refl
  ids_seen (place ∷ places) = ap (λ ids. place.id ∷ ids) (ids_seen places)

  pub there_number : (places : List Placed) (id : NodeId) (number : ℕ) → IsThere places id number →
      slice_get (map (λ (place : PlaceValue). place.id) (seen puts places)) number ≡ Some id
  there_number places id number (place, at, is) =
      ap (λ ids. slice_get ids number) (ids_seen places) ∙ by places number at
    where
      by : (all : List Placed) (n : ℕ) → slice_get all n ≡ Some place →
          slice_get (placed_ids all) n ≡ Some id
      by [] n at = absurd (none_or_some place at)
      by (head ∷ rest) zero at =
          ap (λ (p : Placed). Some p.id) (some_is_one head place at) ∙ ap Some is
      by (head ∷ rest) (suc n) at = by rest n at

  pub number_there : (places : List Placed) (id : NodeId) (number : ℕ) →
      slice_get (map (λ (place : PlaceValue). place.id) (seen puts places)) number ≡ Some id →
      IsThere places id number
  number_there [] id number at = absurd (none_or_some id at)
  number_there (place ∷ places) id zero at = (place, refl, some_is_one place.id id at)
  number_there (place ∷ places) id (suc number) at = number_there places id number at

-- the same nodes are kept
pub sound_same : (puts : List Spot) (old new : List Placed) (dues : List (Due Spot)) →
    KeepSame old new → IsSound puts old dues → IsSound puts new dues
sound_same puts old new dues same sound = record {
  trees = λ root. subst IsTree (sym (seen_same puts old new same root)) (sound.trees root);
  noted = noted_same old new dues same sound.noted;
}

-- what is kept of lesser value is a node of lesser value
raises_seen : (puts : List Spot) (places : List Placed) (root : ℕ) (id : NodeId) (value : ℕ) →
    HadLess (kept_at places root id) value → Raises (tree_kept puts places root) id value
raises_seen puts places root id value less node is =
    by (kept_at places root id) refl (sym (seen_node puts places root id) ∙ is)
  where
    by : (found : Option Kept) → kept_at places root id ≡ found →
        node_kept puts root id found ≡ Some node → node.value < value
    by None none stands = absurd (none_or_some node stands)
    by (Some was) stood stands =
        subst (λ (n : Node). n.value < value)
        (some_is_one (whole id was (stamp_of puts root id)) node stands) (less was stood)

-- what is kept of the target of a step
abbrev kept_of : Try → ℕ → Kept
kept_of step value = record {
  value = value;
  from = step.from.vertex;
  label = step.edge.label;
  before = step.from.state;
}

-- what follows for the trees, where a step was taken or not
module _ (puts more : List Spot) (old new : List Placed) (root : ℕ) (step : Try) (value : ℕ)
    (trees : AreTrees puts old) (hangs : CanHang (tree_kept puts old root) step value) where
  abbrev Raised : Shift → Type 0
  Raised shift = RaisesAt old new (spot root step.to) (kept_of step value) shift
      × (more ≡ puts ++ spot root step.to ∷ [])

  abbrev Stayed : Type 0
  Stayed = KeepSame old new × (more ≡ puts) × HasEnough (kept_at old root step.to) value

  abbrev Failed : Type 0
  Failed = KeepSame old new × (more ≡ puts)

  made : whole step.to (kept_of step value) (length puts) ≡ put_node (tree_kept puts old root) step value
  made = whole_put (tree_kept puts old root) step value (kept_of step value) hangs.joins
      refl refl refl refl

  same_tree : KeepSame old new → more ≡ puts → (each : ℕ) →
      tree_kept more new each ≡ tree_kept puts old each
  same_tree keeps none each =
      ap (λ p. tree_kept p new each) none ∙ seen_same puts old new keeps each

  pub lifts_after : (shift : Shift) → Raised shift →
      Lifts (tree_kept puts old root) (tree_kept more new root) step value shift
  lifts_after shift (raises, counted) = record {
    raises = raises_seen puts old root step.to value raises.less;
    node = subst (λ p. Puts (tree_kept puts old root) (tree_kept p new root) step.to
        (put_node (tree_kept puts old root) step value)) (sym counted)
        (put_own puts old new root step value (kept_of step value) trees raises.nodes made);
    counted = ap (λ p. length p) counted ∙ one_more puts (spot root step.to);
    shift = raises.told ∙ ap (λ before. shift_with step.to before value)
        (sym (seen_value puts old root step.to));
  }

  pub stays_after : Stayed →
      HasAsMuch (tree_kept puts old root) (tree_kept more new root) step.to value
  stays_after (keeps, none, (was, is, enough)) = record {
    same = same_tree keeps none root;
    enough = (
      whole step.to was (stamp_of puts root step.to),
      node_found puts old root step.to was (sym is),
      enough,
    );
  }

  trees_same : Failed → AreTrees more new
  trees_same (keeps, none) each = subst IsTree (sym (same_tree keeps none each)) (trees each)

  others_same : Failed → (other : ℕ) (id : NodeId) →
      node_of (tree_kept more new other) id ≡ node_of (tree_kept puts old other) id
  others_same (keeps, none) other id = ap (λ tree. node_of tree id) (same_tree keeps none other)

  module _ {E : Type 0} where
    pub trees_after : (result : Result (Option Shift) E) →
        ((shift : Shift) → result ≡ Ok (Some shift) → Raised shift) → (result ≡ Ok None → Stayed) →
        OnErr result Failed → value < 2 ^ 64 → AreTrees more new
    trees_after (Ok (Some shift)) raised stayed failed fits =
        let (raises, counted) = raised shift refl in
        subst (λ p. AreTrees p new) (sym counted)
        (put_trees puts old new root step value (kept_of step value) trees raises.nodes made
        (raises_seen puts old root step.to value raises.less) hangs.from hangs.state hangs.joins fits)
    trees_after (Ok None) raised stayed failed fits =
        let (keeps, none, enough) = stayed refl in trees_same (keeps, none)
    trees_after (Err fault) raised stayed failed fits = trees_same failed

    pub others_after : (result : Result (Option Shift) E) →
        ((shift : Shift) → result ≡ Ok (Some shift) → Raised shift) → (result ≡ Ok None → Stayed) →
        OnErr result Failed → (other : ℕ) → (root ≡ other → ⊥) → (id : NodeId) →
        node_of (tree_kept more new other) id ≡ node_of (tree_kept puts old other) id
    others_after (Ok (Some shift)) raised stayed failed other apart id =
        let (raises, counted) = raised shift refl in
        ap (λ p. node_of (tree_kept p new other) id) counted
        ∙ put_others puts old new root step value (kept_of step value) trees raises.nodes made other
        apart id
    others_after (Ok None) raised stayed failed other apart id =
        let (keeps, none, enough) = stayed refl in others_same (keeps, none) other id
    others_after (Err fault) raised stayed failed other apart id = others_same failed other id

    pub counted_after : (result : Result (Option Shift) E) →
        ((shift : Shift) → result ≡ Ok (Some shift) → Raised shift) → (result ≡ Ok None → Stayed) →
        OnErr result Failed → length puts ≤ length more
    counted_after (Ok (Some shift)) raised stayed failed =
        omega (arith, ap (λ p. length p) (raised shift refl).1, one_more puts (spot root step.to))
    counted_after (Ok None) raised stayed failed = omega (arith, ap (λ p. length p) (stayed refl).1)
    counted_after (Err fault) raised stayed failed = omega (arith, ap (λ p. length p) failed.1)

    pub same_after : (result : Result (Option Shift) E) → OnErr result Failed →
        OnErr result ((each : ℕ) → tree_kept more new each ≡ tree_kept puts old each)
    same_after (Ok x) failed = tt
    same_after (Err fault) (keeps, none) = same_tree keeps none
