-- Roots lifted one after another.
use Rattle.std.proofs.Common.{◌≡◌, ◌+◌, ◌-◌, ◌≤◌, ◌<◌, ℕ, inl, inr, ◌++◌, ◌∷◌, [], true, false, not, cond, List, map, filter, take, drop, get_or, Option, None, Some, option_map, Contains, length, refl, sym, ap, subst, ◌∙◌, true≢false, nat_eq, arith, length-drop, length-take-le, append_assoc, zero, suc}
use Rattle.std.specs.List.{IsDistinct}
use Rattle.std.proofs.lemmas.Bool.{eqb-true, lt-leb, le-leb}
use Rattle.std.proofs.lemmas.List.{length-map, get_or-map, get_or-take, take_more, get_or-drop, map-append}
use Rattle.std.proofs.lemmas.List.Elements.{filter-append, Contains-push, Contains-push_cases, Contains-append_left, Contains-append_right}
use Rattle.std.proofs.lemmas.Map.Keys.{apart_from_distinct}
use Rattle.small_map.proofs.Entries.{by_test}
use Rattle.delta_tree.specs.declared.node.NodeId.{NodeId}
use Rattle.delta_tree.specs.declared.node.Node.{Node}
use Rattle.delta_tree.specs.declared.node.Try.{Try}
use Rattle.delta_tree.specs.declared.node.Shift.{Shift}
use Rattle.delta_tree.specs.Nodes.{TreeValue, node_of, same_node}
use Rattle.delta_tree.specs.Changes.{Carries, Lifts, HasAsMuch, is_enough}
use Rattle.delta_tree.proofs.Ids.{same_node_is, same_node_laws, changed_there, changed_else}
use Rattle.place_table.specs.declared.gain.Gain.{Gain}
use Rattle.place_table.specs.Table.{TableValue, tree_in, node_at, value_at, gain_roots}
use Rattle.place_table.specs.Lifts.{between, brings, has_enough, lifted_gain, lifted_gains, IsPutSince, LiftsAll}
use Rattle.place_table.proofs.Entered.{number_same}

-- of each other root the same nodes are there
abbrev pub KeepsOthers : TableValue → TableValue → ℕ → Type 0
KeepsOthers old new root = (other : ℕ) → (root ≡ other → ⊥) → (id : NodeId) →
    node_at new other id ≡ node_at old other id

-- ---- what is lifted of one root

pub lifted_none : (table : TableValue) (to : NodeId) (width : ℕ) (gain : Gain) →
    has_enough table to width gain ≡ true → lifted_gains table to width (gain ∷ []) ≡ []
lifted_none table to width gain is =
    ap (λ b. map (lifted_gain table to width) (cond (not b) (gain ∷ []) [])) is

pub lifted_some : (table : TableValue) (to : NodeId) (width : ℕ) (gain : Gain) →
    has_enough table to width gain ≡ false →
    lifted_gains table to width (gain ∷ []) ≡ lifted_gain table to width gain ∷ []
lifted_some table to width gain is =
    ap (λ b. map (lifted_gain table to width) (cond (not b) (gain ∷ []) [])) is

not_enough : (found : Option Node) (value : ℕ) →
    ((node : Node) → found ≡ Some node → node.value < value) →
    is_enough (option_map (λ (node : Node). node.value) found) value ≡ false
not_enough None value raises = refl
not_enough (Some node) value raises = lt-leb value node.value (raises node refl)

is_in : (gain : Gain) → Contains (gain ∷ []) gain
is_in gain = Contains-push [] gain

one_of : (gain each : Gain) → Contains (gain ∷ []) each → gain ≡ each
one_of gain each has = elim (Contains-push_cases [] gain each has) [
  | inl (k, within, at) ↦ absurd (omega (arith, within))
  | inr is ↦ is
]

-- the root was lifted
pub one_lifted : (old new : TableValue) (step : Try) (width : ℕ) (gain : Gain) (shift : Shift) →
    Lifts (tree_in old gain.root) (tree_in new gain.root) step (brings width gain) shift →
    KeepsOthers old new gain.root → LiftsAll old new step width (gain ∷ [])
one_lifted old new step width gain shift lifts others = record {
  counted = omega (arith, lifts.counted);
  elsewhere = λ root id apart. by_test (nat_eq gain.root root)
      (λ same. subst (λ r. node_at new r id ≡ node_at old r id) (eqb-true gain.root root same)
      (lifts.node id ∙ changed_else (node_at old gain.root id) step.to id _
      (λ at. apart (sym at))))
      (λ other. others root (λ same.
      true≢false (sym (number_same gain.root root same) ∙ other)) id);
  others = λ root free. others root
      (λ same. free (subst (Contains (gain.root ∷ [])) same (Contains-push [] gain.root))) step.to;
  enough = λ each has is. absurd (true≢false (sym is
      ∙ ap (has_enough old step.to width) (sym (one_of gain each has)) ∙ less));
  raised = λ each has is. subst (λ (g : Gain).
      IsPutSince old.puts new.puts step (brings width g) (node_at new g.root step.to))
      (one_of gain each has) (
        old.puts,
        omega arith,
        omega (arith, lifts.counted),
        lifts.node step.to
            ∙ changed_there (node_at old gain.root step.to) step.to step.to _ refl,
      );
}
  where
    less : has_enough old step.to width gain ≡ false
    less = not_enough (node_at old gain.root step.to) (brings width gain) lifts.raises

-- the gain of a root that had this before
abbrev pub told_gain : Gain → ℕ → Option ℕ → Gain
told_gain gain cap before = record { root = gain.root; cap = cap; before = before }

pub gains_lifted : (old new : TableValue) (step : Try) (width : ℕ) (gain : Gain) (shift : Shift) →
    Lifts (tree_in old gain.root) (tree_in new gain.root) step (brings width gain) shift →
    told_gain gain (brings width gain) shift.before ∷ []
    ≡ lifted_gains old step.to width (gain ∷ [])
gains_lifted old new step width gain shift lifts =
    ap (λ (told : Shift). told_gain gain (brings width gain) told.before ∷ []) lifts.shift
    ∙ sym (lifted_some old step.to width gain
    (not_enough (node_at old gain.root step.to) (brings width gain) lifts.raises))

-- a root that has as much
much_is : (old : TableValue) (step : Try) (width : ℕ) (gain : Gain) →
    ((node : Node) × (node_at old gain.root step.to ≡ Some node) × (brings width gain ≤ node.value)) →
    has_enough old step.to width gain ≡ true
much_is old step width gain (node, is, much) =
    ap (λ (found : Option Node).
    is_enough (option_map (λ (n : Node). n.value) found) (brings width gain)) is
    ∙ le-leb (brings width gain) node.value much

-- it had as much before
pub one_kept : (old new : TableValue) (step : Try) (width : ℕ) (gain : Gain) →
    HasAsMuch (tree_in old gain.root) (tree_in new gain.root) step.to (brings width gain) →
    KeepsOthers old new gain.root → old.puts ≤ new.puts → LiftsAll old new step width (gain ∷ [])
one_kept old new step width gain kept others counted = record {
  counted = counted;
  elsewhere = λ root id apart. all_same root id;
  others = λ root free. all_same root step.to;
  enough = λ each has is. all_same each.root step.to;
  raised = λ each has is. absurd (true≢false (sym (much_is old step width gain kept.enough)
      ∙ ap (has_enough old step.to width) (one_of gain each has) ∙ is));
}
  where
    all_same : (root : ℕ) (id : NodeId) → node_at new root id ≡ node_at old root id
    all_same root id = by_test (nat_eq gain.root root)
        (λ same. subst (λ r. node_at new r id ≡ node_at old r id) (eqb-true gain.root root same)
        (ap (λ (tree : TreeValue). node_of tree id) kept.same))
        (λ other. others root (λ same.
        true≢false (sym (number_same gain.root root same) ∙ other)) id)

pub gains_kept : (old new : TableValue) (step : Try) (width : ℕ) (gain : Gain) →
    HasAsMuch (tree_in old gain.root) (tree_in new gain.root) step.to (brings width gain) →
    lifted_gains old step.to width (gain ∷ []) ≡ []
gains_kept old new step width gain kept =
    lifted_none old step.to width gain (much_is old step width gain kept.enough)

-- ---- one root more

-- none at first
pub lifts_none : (table : TableValue) (step : Try) (width : ℕ) → LiftsAll table table step width []
lifts_none table step width = record {
  counted = omega arith;
  elsewhere = λ root id apart. refl;
  others = λ root free. refl;
  enough = λ gain has is. refl;
  raised = λ gain (k, within, at) is. absurd (omega (arith, within));
}

-- nor after a change that no tree shows
pub lifts_same : (first old : TableValue) (step : Try) (width : ℕ) →
    ((each : ℕ) → tree_in old each ≡ tree_in first each) → old.puts ≡ first.puts →
    LiftsAll first old step width []
lifts_same first old step width trees puts = record {
  counted = omega (arith, puts);
  elsewhere = λ root id apart. ap (λ (tree : TreeValue). node_of tree id) (trees root);
  others = λ root free. ap (λ (tree : TreeValue). node_of tree step.to) (trees root);
  enough = λ gain (k, within, at) is. absurd (omega (arith, within));
  raised = λ gain (k, within, at) is. absurd (omega (arith, within));
}

root_in : (gains : List Gain) (gain : Gain) → Contains gains gain →
    Contains (gain_roots gains) gain.root
root_in gains gain (k, within, is) = (
  k,
  omega (arith, length-map gains (λ (each : Gain). each.root), within),
  get_or-map (λ (each : Gain). each.root) gains k gain gain.root within
      ∙ ap (λ (each : Gain). each.root) is,
)

-- these were lifted, and then one root more, which isn't among them
module _ (first old new : TableValue) (step : Try) (width : ℕ) (gains : List Gain) (gain : Gain)
    (before : LiftsAll first old step width gains) (last : LiftsAll old new step width (gain ∷ []))
    (fresh : Contains (gain_roots gains) gain.root → ⊥) where
  here_same : node_at old gain.root step.to ≡ node_at first gain.root step.to
  here_same = before.others gain.root fresh

  value_same : value_at old gain.root step.to ≡ value_at first gain.root step.to
  value_same = ap (option_map (λ (node : Node). node.value)) here_same

  enough_same : has_enough old step.to width gain ≡ has_enough first step.to width gain
  enough_same = ap (λ value. is_enough value (brings width gain)) value_same

  other_root : (each : Gain) → Contains gains each → Contains (gain_roots (gain ∷ [])) each.root → ⊥
  other_root each has (k, within, is) =
      fresh (subst (Contains (gain_roots gains)) (same k within is) (root_in gains each has))
    where
      same : (k : ℕ) → k < 1 → get_or (gain.root ∷ []) k each.root ≡ each.root →
          each.root ≡ gain.root
      same zero below at = sym at
      same (suc k) below at = absurd (omega (arith, below))

  pub lifts_more : LiftsAll first new step width (gains ++ gain ∷ [])
  lifts_more = record {
    counted = omega (arith, before.counted, last.counted);
    elsewhere = λ root id apart. last.elsewhere root id apart ∙ before.elsewhere root id apart;
    others = λ root free. last.others root
        (λ has. free (subst (λ roots. Contains roots root) (sym roots_are)
        (Contains-append_right (gain_roots gains) (gain.root ∷ []) root has)))
        ∙ before.others root
        (λ has. free (subst (λ roots. Contains roots root) (sym roots_are)
        (Contains-append_left (gain_roots gains) (gain.root ∷ []) root has)));
    enough = λ each has is. elim (Contains-push_cases gains gain each has) [
      | inl among ↦ last.others each.root (other_root each among) ∙ before.enough each among is
      | inr one ↦ subst (λ (g : Gain). node_at new g.root step.to ≡ node_at first g.root step.to) one
          (last.enough gain (is_in gain)
          (enough_same ∙ ap (has_enough first step.to width) one ∙ is) ∙ here_same)
    ];
    raised = λ each has is. elim (Contains-push_cases gains gain each has) [
      | inl among ↦ later (node_at old each.root step.to) (node_at new each.root step.to)
          (brings width each) (last.others each.root (other_root each among))
          (before.raised each among is)
      | inr one ↦ subst (λ (g : Gain).
          IsPutSince first.puts new.puts step (brings width g) (node_at new g.root step.to)) one
          (sooner (node_at new gain.root step.to) (brings width gain) (last.raised gain (is_in gain)
          (enough_same ∙ ap (has_enough first step.to width) one ∙ is)))
    ];
  }
    where
      roots_are : gain_roots (gains ++ gain ∷ []) ≡ gain_roots gains ++ gain.root ∷ []
      roots_are = map-append (λ (each : Gain). each.root) gains (gain ∷ [])

      later : (found again : Option Node) (value : ℕ) → again ≡ found →
          IsPutSince first.puts old.puts step value found →
          IsPutSince first.puts new.puts step value again
      later found again value same (stamp, low, high, is) =
          (stamp, low, omega (arith, high, last.counted), same ∙ is)

      sooner : (found : Option Node) (value : ℕ) → IsPutSince old.puts new.puts step value found →
          IsPutSince first.puts new.puts step value found
      sooner found value (stamp, low, high, is) =
          (stamp, omega (arith, low, before.counted), high, is)

  pub gains_more : lifted_gains first step.to width (gains ++ gain ∷ [])
      ≡ lifted_gains first step.to width gains ++ lifted_gains old step.to width (gain ∷ [])
  gains_more =
      ap (map (lifted_gain first step.to width))
      (filter-append (λ (each : Gain). not (has_enough first step.to width each)) gains (gain ∷ []))
      ∙ map-append (lifted_gain first step.to width)
      (filter (λ (each : Gain). not (has_enough first step.to width each)) gains)
      (filter (λ (each : Gain). not (has_enough first step.to width each)) (gain ∷ []))
      ∙ ap (λ more. lifted_gains first step.to width gains ++ more) last_same
    where
      last_same : lifted_gains first step.to width (gain ∷ [])
          ≡ lifted_gains old step.to width (gain ∷ [])
      last_same = by_test (has_enough first step.to width gain)
          (λ is. lifted_none first step.to width gain is
          ∙ sym (lifted_none old step.to width gain (enough_same ∙ is)))
          (λ is. lifted_some first step.to width gain is
          ∙ ap (λ value. told_gain gain (brings width gain) value ∷ []) (sym value_same)
          ∙ sym (lifted_some old step.to width gain (enough_same ∙ is)))

-- what the step hangs below stands as it did
pub carries_still : (first old : TableValue) (step : Try) (width : ℕ) (gains : List Gain)
    (root : ℕ) (value : ℕ) → LiftsAll first old step width gains →
    (Contains (gain_roots gains) root → ⊥) → Carries (tree_in first root) step.from value →
    Carries (tree_in old root) step.from value
carries_still first old step width gains root value lifts fresh (inl at) = inl at
carries_still first old step width gains root value lifts fresh (inr (node, is, enough)) =
    inr (node, same ∙ is, enough)
  where
    same : node_at old root step.from ≡ node_at first root step.from
    same = by_test (same_node step.from step.to)
        (λ here. subst (λ id. node_at old root id ≡ node_at first root id)
        (sym (same_node_is step.from step.to here)) (lifts.others root fresh))
        (λ apart. lifts.elsewhere root step.from (λ here. true≢false
        (sym (ap (same_node step.from) (sym here) ∙ same_node_laws.refl step.from) ∙ apart)))

-- ---- the range

-- one gain more of the range
pub between_more : (gains : List Gain) (low at : ℕ) (gain : Gain) → low ≤ at → at < length gains →
    gain ≡ get_or gains at gain →
    between low (at + 1) gains ≡ between low at gains ++ gain ∷ []
between_more gains low at gain from within is =
    ap (λ n. take n (drop low gains)) (omega (arith, from))
    ∙ take_more (drop low gains) (at - low) gain
    (omega (arith, length-drop low gains, from, within))
    ∙ ap (λ g. between low at gains ++ g ∷ [])
    (get_or-drop low gains (at - low) gain ∙ ap (λ n. get_or gains n gain) (omega (arith, from))
    ∙ sym is)

pub between_none : (gains : List Gain) (low : ℕ) → between low low gains ≡ []
between_none gains low =
    let none : low - low ≡ 0 = omega arith in ap (λ n. take n (drop low gains)) none

pub between_end : (gains : List Gain) (low high : ℕ) → low ≡ high → between low high gains ≡ []
between_end gains low high same =
    subst (λ n. between low n gains ≡ []) same (between_none gains low)

read_front : {X : Type 0} (xs ys : List X) (i : ℕ) (d : X) → i < length xs →
    get_or (xs ++ ys) i d ≡ get_or xs i d
read_front [] ys i d below = absurd (omega (arith, below))
read_front (x ∷ xs) ys zero d below = refl
read_front (x ∷ xs) ys (suc i) d below = read_front xs ys i d (omega (arith, below))

-- the next root isn't among those before it
fresh_at : (xs : List Gain) (n m : ℕ) (gain : Gain) → n < m → m ≤ length xs →
    gain ≡ get_or xs n gain → IsDistinct nat_eq (gain_roots (take m xs)) →
    Contains (gain_roots (take n xs)) gain.root → ⊥
fresh_at xs n m gain below within read once (j, inside, is) =
    true≢false (sym (number_same one.0 one.1 same) ∙ apart)
  where
    root_of : Gain → ℕ
    root_of each = each.root

    few : length (map root_of (take n xs)) ≡ n
    few = length-map (take n xs) root_of ∙ length-take-le n xs (omega (arith, below, within))

    many : length (map root_of (take m xs)) ≡ m
    many = length-map (take m xs) root_of ∙ length-take-le m xs within

    first : j < n
    first = omega (arith, inside, few)

    one : ℕ × ℕ
    one = (get_or (map root_of (take m xs)) j gain.root, get_or (map root_of (take m xs)) n gain.root)

    apart : nat_eq one.0 one.1 ≡ false
    apart = apart_from_distinct nat_eq (map root_of (take m xs)) j n gain.root once first
        (omega (arith, many, below))

    at : (k : ℕ) (count : ℕ) → k < count → count ≤ length xs →
        get_or (map root_of (take count xs)) k gain.root ≡ (get_or xs k gain).root
    at k count less all =
        get_or-map root_of (take count xs) k gain gain.root
        (omega (arith, length-take-le count xs all, less))
        ∙ ap root_of (get_or-take count xs k gain less)

    same : one.0 ≡ one.1
    same =
        at j m (omega (arith, first, below)) within
        ∙ sym (at j n first (omega (arith, below, within))) ∙ is
        ∙ ap root_of read
        ∙ sym (at n m below within)

-- the next gain of the range
module _ (gains now more : List Gain) (low at high : ℕ) (gain : Gain) (from : low ≤ at)
    (below : at < high) (within : high ≤ length gains) (is : now ≡ gains ++ more)
    (read : gain ≡ get_or now at gain) where
  read_first : gain ≡ get_or gains at gain
  read_first =
      read ∙ ap (λ l. get_or l at gain) is
      ∙ read_front gains more at gain (omega (arith, below, within))

  read_dropped : gain ≡ get_or (drop low gains) (at - low) gain
  read_dropped =
      let place : low + (at - low) ≡ at = omega (arith, from) in
      read_first ∙ sym (get_or-drop low gains (at - low) gain ∙ ap (λ n. get_or gains n gain) place)

  pub in_range : Contains (between low high gains) gain
  in_range = (
    at - low,
    omega (
      arith,
      length-take-le (high - low) (drop low gains)
          (omega (arith, length-drop low gains, within)),
      from,
      below,
    ),
    get_or-take (high - low) (drop low gains) (at - low) gain (omega (arith, from, below))
        ∙ sym read_dropped,
  )

  pub fresh_root : IsDistinct nat_eq (gain_roots (between low high gains)) →
      Contains (gain_roots (between low at gains)) gain.root → ⊥
  fresh_root once =
      fresh_at (drop low gains) (at - low) (high - low) gain (omega (arith, from, below))
      (omega (arith, length-drop low gains, within)) read_dropped once

  pub range_more : between low (at + 1) gains ≡ between low at gains ++ gain ∷ []
  range_more = between_more gains low at gain from (omega (arith, below, within)) read_first

-- what is added behind all gains
pub gains_behind : (gains now new so_far last : List Gain) → now ≡ gains ++ so_far →
    new ≡ now ++ last → new ≡ gains ++ (so_far ++ last)
gains_behind gains now new so_far last before is =
    is ∙ ap (λ l. l ++ last) before ∙ append_assoc gains so_far last

-- a mark changes no node
pub lifts_marked : (first old new : TableValue) (step : Try) (width : ℕ) (gains : List Gain) →
    LiftsAll first old step width gains → new.places ≡ old.places → new.puts ≡ old.puts →
    LiftsAll first new step width gains
lifts_marked first old new step width gains lifts places puts =
    subst (λ (table : TableValue). LiftsAll first table step width gains) (λ i. record {
      root = new.root;
      places = sym places i;
      puts = sym puts i;
      marked = new.marked;
    }) again
  where
    again : LiftsAll first (record {
      root = new.root;
      places = old.places;
      puts = old.puts;
      marked = new.marked;
    }) step width gains
    again = record {
      counted = lifts.counted;
      elsewhere = lifts.elsewhere;
      others = lifts.others;
      enough = lifts.enough;
      raised = lifts.raised;
    }
