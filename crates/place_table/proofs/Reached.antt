-- The states with which some root reaches a vertex.
use Rattle.std.proofs.Common.{◌≡◌, ◌+◌, ◌<◌, ◌↔◌, ◌⊎◌, inl, inr, ℕ, zero, suc, ◌++◌, ◌∷◌, [], true, cond, List, Some, option_map, get_or, length, slice_get, Contains, refl, sym, ap, subst, ◌∙◌, nat_eq, nat_lt, IsTrue, arith}
use Rattle.std.specs.Map.{keys_of, lookup}
use Rattle.std.proofs.lemmas.Bool.{eqb-true, cases_eq, ltb-true, lt-ltb}
use Rattle.std.proofs.lemmas.List.{length-map}
use Rattle.std.proofs.lemmas.List.Elements.{Contains-push, Contains-push_cases, Contains-append_left}
use Rattle.std.proofs.lemmas.Map.Entries.{place_from_lookup}
use Rattle.std.proofs.lemmas.Option.{slice_get_within, slice_get_read, get_or_from_slice_get, slice_get-map}
use Rattle.small_map.proofs.Entries.{none_or_some, some_is_one, by_test}
use Rattle.delta_tree.specs.declared.node.NodeId.{NodeId}
use Rattle.delta_tree.specs.Nodes.{node_id, same_node}
use Rattle.delta_tree.proofs.Ids.{same_node_is, same_node_laws}
use Rattle.place_table.specs.declared.place.Kept.{Kept}
use Rattle.place_table.specs.Kept.{Placed, kept_nodes, kept_at, row_at, hint_of, AreHinted, IsThere, IsAbsent}
use Rattle.place_table.specs.Reading.{HasRoots}
use Rattle.place_table.proofs.Entered.{number_laws}
use Rattle.place_table.proofs.Found.{absent_none, kept_there, read_is, passed}

-- no root reaches a place that isn't one
pub absent_has_none : (places : List Placed) (id : NodeId) → IsAbsent places id →
    HasRoots places id → ⊥
absent_has_none places id absent (root, kept, is) =
    none_or_some kept (sym (absent_none places root id absent) ∙ is)

some_root : (nodes : List (ℕ × Kept)) → 0 < length nodes →
    (root : ℕ) × (kept : Kept) × (lookup (nat_eq root) nodes ≡ Some kept)
some_root [] some = absurd (omega (arith, some))
some_root (each ∷ nodes) some = (
  each.0,
  each.1,
  ap (λ b. cond b (Some each.1) (lookup (nat_eq each.0) nodes)) (number_laws.refl each.0),
)

root_counts : (nodes : List (ℕ × Kept)) (root : ℕ) (kept : Kept) →
    lookup (nat_eq root) nodes ≡ Some kept → 0 < length nodes
root_counts [] root kept is = absurd (none_or_some kept is)
root_counts (each ∷ nodes) root kept is = omega arith

-- a place has roots where its list isn't empty
pub place_has : (rows : List (List (ℕ × ℕ))) (places : List Placed) (id : NodeId) (number : ℕ)
    (old : Placed) → AreHinted rows places → IsThere places id number →
    old ≡ get_or places number old → (0 < length old.nodes) ↔ HasRoots places id
place_has rows places id number old hinted (place, at, is) read = (
  (λ some. let (root, kept, found) = some_root old.nodes some in
      (root, kept, kept_is root ∙ found)),
  (λ (root, kept, found). root_counts old.nodes root kept (sym (kept_is root) ∙ found)),
)
  where
    one : old ≡ place
    one = read_is places number place old at read

    kept_is : (root : ℕ) → kept_at places root id ≡ lookup (nat_eq root) old.nodes
    kept_is root =
        kept_there rows places hinted root id number place at
        (ap (same_node id) is ∙ same_node_laws.refl id)
        ∙ ap (λ (p : Placed). lookup (nat_eq root) p.nodes) (sym one)

-- where something is kept there is a place
pub place_of_kept : (places : List Placed) (root : ℕ) (id : NodeId) (kept : Kept) →
    kept_at places root id ≡ Some kept →
    (number : ℕ) × (place : Placed) × (slice_get places number ≡ Some place)
    × (same_node id place.id ≡ true)
place_of_kept [] root id kept is = absurd (none_or_some kept is)
place_of_kept (first ∷ places) root id kept is = by_test (same_node id first.id)
    (λ same. (0, first, refl, same))
    (λ apart. let (number, place, at, same) = place_of_kept places root id kept
    (sym (passed (lookup (nat_eq root) first.nodes) first.id id (kept_nodes places root) apart) ∙ is)
    in
    (suc number, place, at, same))

-- the key that stands there
key_at : (row : List (ℕ × ℕ)) (k : ℕ) (entry : ℕ × ℕ) → slice_get row k ≡ Some entry →
    slice_get (keys_of row) k ≡ Some entry.0
key_at row k entry at =
    slice_get-map (λ (each : ℕ × ℕ). each.0) row k
    ∙ ap (option_map (λ (each : ℕ × ℕ). each.0)) at

-- the state is among those that are noted at the vertex
noted_state : (rows : List (List (ℕ × ℕ))) (places : List Placed) (vertex state : ℕ) →
    AreHinted rows places → HasRoots places (node_id vertex state) →
    (k : ℕ) × (slice_get (keys_of (row_at rows vertex)) k ≡ Some state)
noted_state rows places vertex state hinted (root, kept, is) =
    let (number, place, at, same) = place_of_kept places root (node_id vertex state) kept is in
    let hint : hint_of rows (node_id vertex state) ≡ Some number =
    ap (hint_of rows) (same_node_is (node_id vertex state) place.id same)
    ∙ hinted number place at in
    let (k, own, here, equal) =
    place_from_lookup (nat_eq state) (row_at rows vertex) number hint in
    (k, key_at (row_at rows vertex) k (own, number) here ∙ ap Some (sym (eqb-true state own equal)))

-- the states so far that some root has
abbrev pub AreSoFar : List (List (ℕ × ℕ)) → List Placed → ℕ → ℕ → List ℕ → Type 0
AreSoFar rows places vertex count states = (state : ℕ) → Contains states state
    ↔ ((k : ℕ) × (k < count) × (slice_get (keys_of (row_at rows vertex)) k ≡ Some state)
    × HasRoots places (node_id vertex state))

pub far_none : (rows : List (List (ℕ × ℕ))) (places : List Placed) (vertex : ℕ) (states : List ℕ) →
    states ≡ [] → AreSoFar rows places vertex 0 states
far_none rows places vertex states none state = (
  (λ has. absurd (nothing (subst (λ l. Contains l state) none has))),
  (λ (k, below, at, reached). absurd (omega (arith, below))),
)
  where
    nothing : Contains [] state → ⊥
    nothing (k, within, at) = omega (arith, within)

pub far_more : (rows : List (List (ℕ × ℕ))) (places : List Placed) (vertex count here : ℕ)
    (old new : List ℕ) → AreSoFar rows places vertex count old →
    slice_get (keys_of (row_at rows vertex)) count ≡ Some here →
    ((state : ℕ) → Contains new state
    ↔ (Contains old state ⊎ ((state ≡ here) × HasRoots places (node_id vertex here)))) →
    AreSoFar rows places vertex (count + 1) new
far_more rows places vertex count here old new before at added state = (
  (λ has. elim ((added state).0 has) [
    | inl among ↦
        let (k, below, there, reached) = (before state).0 among in
        (k, omega (arith, below), there, reached)
    | inr (is, reached) ↦ (
      count,
      omega arith,
      at ∙ ap Some (sym is),
      subst (λ s. HasRoots places (node_id vertex s)) (sym is) reached,
    )
  ]),
  (λ (k, below, there, reached). elim (cases_eq k count) [
    | inl same ↦
        let is : state ≡ here = some_is_one state here
        (sym there ∙ ap (slice_get (keys_of (row_at rows vertex))) same ∙ at) in
        (added state).1 (inr (is, subst (λ s. HasRoots places (node_id vertex s)) is reached))
    | inr other ↦
        (added state).1 (inl ((before state).1 (k, omega (arith, below, other), there, reached)))
  ]),
)

pub far_all : (rows : List (List (ℕ × ℕ))) (places : List Placed) (vertex count : ℕ)
    (states : List ℕ) → AreHinted rows places → AreSoFar rows places vertex count states →
    count ≡ length (row_at rows vertex) → (state : ℕ) →
    Contains states state ↔ HasRoots places (node_id vertex state)
far_all rows places vertex count states hinted so_far all state = (
  (λ has. let (k, below, there, reached) = (so_far state).0 has in reached),
  (λ reached. let (k, there) = noted_state rows places vertex state hinted reached in
      (so_far state).1 (
        k,
        omega (
          arith,
          all,
          length-map (row_at rows vertex) (λ (entry : ℕ × ℕ). entry.0),
          slice_get_within (keys_of (row_at rows vertex)) k state there,
        ),
        there,
        reached,
      )),
)

-- one state more, or none
pub state_added : (old new : List ℕ) (state : ℕ) (has : Type 0) → has → new ≡ old ++ state ∷ [] →
    (each : ℕ) → Contains new each ↔ (Contains old each ⊎ ((each ≡ state) × has))
state_added old new state has holds is each = (
  (λ there. elim (Contains-push_cases old state each (subst (λ l. Contains l each) is there)) [
    | inl among ↦ inl among
    | inr same ↦ inr (sym same, holds)
  ]),
  (λ there. subst (λ l. Contains l each) (sym is) (elim there [
    | inl among ↦ Contains-append_left old (state ∷ []) each among
    | inr (same, _) ↦ subst (Contains (old ++ state ∷ [])) (sym same) (Contains-push old state)
  ])),
)

pub state_left : (old : List ℕ) (state : ℕ) (has : Type 0) → (has → ⊥) →
    (each : ℕ) → Contains old each ↔ (Contains old each ⊎ ((each ≡ state) × has))
state_left old state has fails each = (
  (λ there. inl there),
  (λ there. elim there [
    | inl among ↦ among
    | inr (_, holds) ↦ absurd (fails holds)
  ]),
)

-- ---- as the code reads

pub told_has : (rows : List (List (ℕ × ℕ))) (places : List Placed) (id : NodeId) (number : ℕ)
    (old : Placed) (count : ℕ) → AreHinted rows places → IsThere places id number →
    old ≡ get_or places number old → count ≡ length old.nodes →
    IsTrue (nat_lt 0 count) ↔ HasRoots places id
told_has rows places id number old count hinted there read is =
    let has = place_has rows places id number old hinted there read in (
      (λ told. has.0 (omega (arith, ltb-true 0 count told, is))),
      (λ reached. lt-ltb 0 count (omega (arith, has.1 reached, is))),
    )

within_rows : (rows : List (List (ℕ × ℕ))) (vertex k : ℕ) → k < length (row_at rows vertex) →
    vertex < length rows
within_rows [] vertex k below = absurd (omega (arith, below))
within_rows (row ∷ rows) zero k below = omega arith
within_rows (row ∷ rows) (suc vertex) k below = omega (arith, within_rows rows vertex k below)

pub state_read : (rows now : List (List (ℕ × ℕ))) (vertex k : ℕ) (row : List (ℕ × ℕ))
    (entry : ℕ × ℕ) → rows ≡ now → k < length (row_at now vertex) → row ≡ get_or rows vertex row →
    slice_get row k ≡ Some entry → slice_get (keys_of (row_at now vertex)) k ≡ Some entry.0
state_read rows now vertex k row entry same below read at =
    ap (λ l. slice_get (keys_of (row_at l vertex)) k) (sym same)
    ∙ ap (λ r. slice_get (keys_of r) k) row_is
    ∙ key_at row k entry at
  where
    row_is : row_at rows vertex ≡ row
    row_is = get_or_from_slice_get rows vertex row []
        (slice_get_read rows (length rows) vertex row refl
        (within_rows rows vertex k (subst (λ l. k < length (row_at l vertex)) (sym same) below))
        read)
