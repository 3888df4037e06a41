-- What a table does for a batch, as its trees see it.
use Rattle.std.proofs.Common.{◌≡◌, ℕ, ◌⊎◌, inl, inr, ⊎_elim, Bool, true, false, not, cond, min, List, [], ◌∷◌, map, filter, nat_eq, Option, Some, None, refl, ap, subst, ◌∙◌, arith, Contains}
use Rattle.std.specs.List.{IsDistinct, AllByRecursion}
use Rattle.std.proofs.lemmas.Bool.{cases_eq}
use Rattle.delta_tree.specs.declared.node.NodeId.{NodeId}
use Rattle.delta_tree.specs.Nodes.{node_of, value_of}
use Rattle.delta_tree.specs.Changes.{is_enough}
use Rattle.tree_insert.specs.Best.{IsAtLeast}
use Rattle.tree_insert.proofs.Nodes.{value_reached}
use Rattle.tree_insert.proofs.Members.{contains_head, contains_tail, contains_cases, contains_none}
use Rattle.place_table.specs.declared.gain.Gain.{Gain}
use Rattle.place_table.specs.Table.{TableValue, tree_in, node_at, value_at, gain_roots}
use Rattle.place_table.specs.Lifts.{LiftsAll, IsPutSince, brings, has_enough, lifted_gain, lifted_gains}
use Rattle.wide_search.specs.declared.batch.Batch.{Batch}
use Rattle.wide_search.specs.Batches.{target_of, try_of}
use Rattle.wide_search.specs.Searching.{LiftsTrees, IsLiftOf, AddsLifted, lifted_node}

-- ---- enough or not

enough_reached : (value : Option ℕ) (number : ℕ) → is_enough value number ≡ true →
    IsAtLeast number value
enough_reached None number is = absurd cc
enough_reached (Some kept) number is = grind (arith, is)

pub lacks_apart : (value : Option ℕ) (number : ℕ) → is_enough value number ≡ false →
    IsAtLeast number value → ⊥
lacks_apart None number is reached = reached
lacks_apart (Some kept) number is reached = grind (arith, is, reached)

-- ---- the roots of gains

pub root_there : (gains : List Gain) (root : ℕ) → Contains (gain_roots gains) root →
    (gain : Gain) × Contains gains gain × (gain.root ≡ root)
root_there [] root has = absurd (contains_none root has)
root_there (x ∷ xs) root has = ⊎_elim
    (λ (same : x.root ≡ root). (x, contains_head x xs, same))
    (λ (other : Contains (gain_roots xs) root).
    let found = root_there xs root other in (found.0, contains_tail x xs found.0 found.1, found.2))
    (contains_cases x.root (gain_roots xs) root has)

pub root_or_none : (gains : List Gain) (root : ℕ) →
    ((gain : Gain) × Contains gains gain × (gain.root ≡ root))
    ⊎ (Contains (gain_roots gains) root → ⊥)
root_or_none [] root = inr (λ has. contains_none root has)
root_or_none (x ∷ xs) root = ⊎_elim
    (λ (same : x.root ≡ root). inl (x, contains_head x xs, same))
    (λ (apart : x.root ≡ root → ⊥). ⊎_elim
    (λ (found : (gain : Gain) × Contains xs gain × (gain.root ≡ root)).
    inl (found.0, contains_tail x xs found.0 found.1, found.2))
    (λ (none : Contains (gain_roots xs) root → ⊥).
    inr (λ has. ⊎_elim apart none (contains_cases x.root (gain_roots xs) root has)))
    (root_or_none xs root))
    (cases_eq x.root root)

-- no gain, and one alone
pub none_apart : IsDistinct nat_eq (gain_roots [])
unfolding IsDistinct
none_apart = tt

pub one_apart : (gain : Gain) → IsDistinct nat_eq (gain_roots (gain ∷ []))
unfolding IsDistinct
one_apart gain = (tt, tt)

-- ---- the gains of those that were lifted

module _ (table : TableValue) (to : NodeId) (width : ℕ) where
  test : Gain → Bool
  test gain = not (has_enough table to width gain)

  pub lifted_only : (gains : List Gain) (more : Gain) →
      Contains (lifted_gains table to width gains) more →
      (gain : Gain) × Contains gains gain × (lifted_gain table to width gain ≡ more)
      × (has_enough table to width gain ≡ false)
  lifted_only [] more has = absurd (contains_none more has)
  lifted_only (x ∷ xs) more has =
      by (λ other.
      let found = lifted_only xs more other in
      (found.0, contains_tail x xs found.0 found.1, found.2, found.3))
      (has_enough table to width x) refl has
    where
      by : (Contains (lifted_gains table to width xs) more →
          (gain : Gain) × Contains (x ∷ xs) gain × (lifted_gain table to width gain ≡ more)
          × (has_enough table to width gain ≡ false)) →
          (b : Bool) → has_enough table to width x ≡ b →
          Contains (map (lifted_gain table to width) (cond (not b)
          (x ∷ filter (λ (gain : Gain). not (has_enough table to width gain)) xs)
          (filter (λ (gain : Gain). not (has_enough table to width gain)) xs))) more →
          (gain : Gain) × Contains (x ∷ xs) gain × (lifted_gain table to width gain ≡ more)
          × (has_enough table to width gain ≡ false)
      by further true is there = further there
      by further false is there = ⊎_elim
          (λ (same : lifted_gain table to width x ≡ more). (x, contains_head x xs, same, is))
          (λ (other : Contains (lifted_gains table to width xs) more). further other)
          (contains_cases (lifted_gain table to width x) (lifted_gains table to width xs) more there)

  pub lifted_all : (gains : List Gain) (gain : Gain) → Contains gains gain →
      has_enough table to width gain ≡ false →
      Contains (lifted_gains table to width gains) (lifted_gain table to width gain)
  lifted_all [] gain has lacks = absurd (contains_none gain has)
  lifted_all (x ∷ xs) gain has lacks =
      by (λ other. lifted_all xs gain other lacks) (has_enough table to width x) refl
    where
      by : (Contains xs gain →
          Contains (lifted_gains table to width xs) (lifted_gain table to width gain)) →
          (b : Bool) → has_enough table to width x ≡ b →
          Contains (map (lifted_gain table to width) (cond (not b)
          (x ∷ filter (λ (each : Gain). not (has_enough table to width each)) xs)
          (filter (λ (each : Gain). not (has_enough table to width each)) xs)))
          (lifted_gain table to width gain)
      by further true is = ⊎_elim
          (λ (same : x ≡ gain).
          let other : has_enough table to width x ≡ false =
          ap (has_enough table to width) same ∙ lacks in absurd cc)
          (λ (other : Contains xs gain). further other)
          (contains_cases x xs gain has)
      by further false is = ⊎_elim
          (λ (same : x ≡ gain).
          subst (λ (each : Gain). Contains (lifted_gain table to width x
          ∷ lifted_gains table to width xs) (lifted_gain table to width each)) same
          (contains_head (lifted_gain table to width x) (lifted_gains table to width xs)))
          (λ (other : Contains xs gain).
          contains_tail (lifted_gain table to width x) (lifted_gains table to width xs)
          (lifted_gain table to width gain) (further other))
          (contains_cases x xs gain has)

  -- a root that isn't among all gains isn't among those that were lifted
  lifted_apart : (root : ℕ) (gains : List Gain) →
      AllByRecursion (λ (each : ℕ). nat_eq root each ≡ false) (gain_roots gains) →
      AllByRecursion (λ (each : ℕ). nat_eq root each ≡ false)
      (gain_roots (lifted_gains table to width gains))
  lifted_apart root [] apart = tt
  lifted_apart root (x ∷ xs) apart =
      by (lifted_apart root xs apart.1) (has_enough table to width x)
    where
      by : AllByRecursion (λ (each : ℕ). nat_eq root each ≡ false)
          (gain_roots (lifted_gains table to width xs)) → (b : Bool) → AllByRecursion (λ (each : ℕ). nat_eq root each ≡ false)
          (gain_roots (map (lifted_gain table to width) (cond (not b)
          (x ∷ filter (λ (each : Gain). not (has_enough table to width each)) xs)
          (filter (λ (each : Gain). not (has_enough table to width each)) xs))))
      by further true = further
      by further false = (apart.0, further)

  pub lifted_once : (gains : List Gain) → IsDistinct nat_eq (gain_roots gains) →
      IsDistinct nat_eq (gain_roots (lifted_gains table to width gains))
  unfolding IsDistinct
  lifted_once [] once = tt
  lifted_once (x ∷ xs) once =
      by (lifted_apart x.root xs once.0) (lifted_once xs once.1) (has_enough table to width x)
    where
      by : AllByRecursion (λ (each : ℕ). nat_eq x.root each ≡ false)
          (gain_roots (lifted_gains table to width xs)) →
          IsDistinct nat_eq (gain_roots (lifted_gains table to width xs)) →
          (b : Bool) → IsDistinct nat_eq (gain_roots (map (lifted_gain table to width) (cond (not b)
          (x ∷ filter (λ (each : Gain). not (has_enough table to width each)) xs)
          (filter (λ (each : Gain). not (has_enough table to width each)) xs))))
      by apart further true = further
      by apart further false = (apart, further)

-- ---- the trees

module _ (old new : TableValue) (batch : Batch) (gains : List Gain)
    (lifts : LiftsAll old new (try_of batch) batch.width gains) where
  -- each gain by whether its root was lifted
  gain_cases : (gain : Gain) → Contains gains gain →
      ((has_enough old (target_of batch) batch.width gain ≡ true)
      × (node_at new gain.root (target_of batch) ≡ node_at old gain.root (target_of batch)))
      ⊎ ((has_enough old (target_of batch) batch.width gain ≡ false)
      × IsPutSince old.puts new.puts (try_of batch) (brings batch.width gain)
      (node_at new gain.root (target_of batch)))
  gain_cases gain has = by (has_enough old (target_of batch) batch.width gain) refl
    where
      by : (b : Bool) → has_enough old (target_of batch) batch.width gain ≡ b →
          ((has_enough old (target_of batch) batch.width gain ≡ true)
          × (node_at new gain.root (target_of batch) ≡ node_at old gain.root (target_of batch)))
          ⊎ ((has_enough old (target_of batch) batch.width gain ≡ false)
          × IsPutSince old.puts new.puts (try_of batch) (brings batch.width gain)
          (node_at new gain.root (target_of batch)))
      by true is = inl (is, lifts.enough gain has is)
      by false is = inr (is, lifts.raised gain has is)

  pub lifts_trees : LiftsTrees (tree_in old) (tree_in new) batch gains
  lifts_trees = record {
    later = record { roots = λ root. refl; puts = λ root. lifts.counted };
    elsewhere = λ root id apart. lifts.elsewhere root id apart;
    here = λ root. ⊎_elim
        (λ (found : (gain : Gain) × Contains gains gain × (gain.root ≡ root)). ⊎_elim
        (λ (kept : (has_enough old (target_of batch) batch.width found.0 ≡ true)
        × (node_at new found.0.root (target_of batch)
        ≡ node_at old found.0.root (target_of batch))).
        inl (subst (λ (at : ℕ). node_at new at (target_of batch) ≡ node_at old at (target_of batch))
        found.2 kept.1))
        (λ (up : (has_enough old (target_of batch) batch.width found.0 ≡ false)
        × IsPutSince old.puts new.puts (try_of batch) (brings batch.width found.0)
        (node_at new found.0.root (target_of batch))).
        inr (
          found.0,
          found.1,
          found.2,
          subst (λ (at : ℕ). IsAtLeast (min found.0.cap batch.width)
              (value_of (tree_in old at) (target_of batch)) → ⊥) found.2
              (lacks_apart (value_at old found.0.root (target_of batch))
              (brings batch.width found.0) up.0),
          up.1.0,
          up.1.1,
          subst (λ (at : ℕ). node_of (tree_in new at) (target_of batch)
              ≡ Some (lifted_node batch found.0 up.1.0)) found.2 up.1.3,
        ))
        (gain_cases found.0 found.1))
        (λ (none : Contains (gain_roots gains) root → ⊥). inl (lifts.others root none))
        (root_or_none gains root);
  }

  lift_of : (gain : Gain) → has_enough old (target_of batch) batch.width gain ≡ false →
      IsLiftOf (tree_in old) batch gain (lifted_gain old (target_of batch) batch.width gain)
  lift_of gain lacks = record {
    root = refl;
    cap = refl;
    before = refl;
    lacks = lacks_apart (value_at old gain.root (target_of batch)) (brings batch.width gain) lacks;
  }

  pub adds_lifted : IsDistinct nat_eq (gain_roots gains) →
      AddsLifted (tree_in old) (tree_in new) batch gains
      (lifted_gains old (target_of batch) batch.width gains)
  adds_lifted once = record {
    only = λ more has.
        let found = lifted_only old (target_of batch) batch.width gains more has in
        let put = lifts.raised found.0 found.1 found.3 in
        let value : IsAtLeast (min found.0.cap batch.width)
        (value_of (tree_in new found.0.root) (target_of batch)) =
        value_reached (tree_in new found.0.root) (target_of batch)
        (lifted_node batch found.0 put.0) (min found.0.cap batch.width) put.3 (omega arith) in (
          found.0,
          found.1,
          subst (IsLiftOf (tree_in old) batch found.0) found.2 (lift_of found.0 found.3),
          subst (λ (each : Gain). IsAtLeast each.cap
              (value_of (tree_in new each.root) (target_of batch))) found.2 value,
        );
    all = λ gain has. ⊎_elim
        (λ (kept : (has_enough old (target_of batch) batch.width gain ≡ true)
        × (node_at new gain.root (target_of batch) ≡ node_at old gain.root (target_of batch))).
        inl (enough_reached (value_at old gain.root (target_of batch)) (brings batch.width gain)
        kept.0))
        (λ (up : (has_enough old (target_of batch) batch.width gain ≡ false)
        × IsPutSince old.puts new.puts (try_of batch) (brings batch.width gain)
        (node_at new gain.root (target_of batch))).
        inr (
          lifted_gain old (target_of batch) batch.width gain,
          lifted_all old (target_of batch) batch.width gains gain has up.0,
          lift_of gain up.0,
        ))
        (gain_cases gain has);
    once = lifted_once old (target_of batch) batch.width gains once;
  }
