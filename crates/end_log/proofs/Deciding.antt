-- Whether an end came or went with the nodes of a root at a vertex that did, by how many of its
-- nodes with final states stand there.
use Rattle.std.proofs.Common.{◌≡◌, inl, inr, ◌≤◌, ◌<◌, ◌&&◌, ℕ, Bool, true, false, List, [], ◌∷◌, length, filter, get_or, Option, None, Some, nat_lt, refl, sym, ap, ap₂, subst, ◌∙◌, Contains, true≢false, eqb, ltb-false, ltb-true, ne_eqb, arith}
use Rattle.std.specs.Prelude.{◌↔◌, IsSome, is_some, cond}
use Rattle.std.specs.List.{IsDistinct}
use Rattle.std.specs.List.Sorted.{IsStrictlySortedBy}
use Rattle.std.specs.Ordering.{nat_cmp}
use Rattle.std.proofs.lemmas.List.Elements.{All-contains, filter_passes}
use Rattle.std.proofs.lemmas.List.Kept.{IsStrictlySortedBy-filter}
use Rattle.std.proofs.lemmas.Map.Keys.{IsDistinct-from_apart, below_from_sorted}
use Rattle.dfa_table.specs.DfaValue.{DfaValue, is_final}
use Rattle.delta_tree.specs.Nodes.{node_id}
use Rattle.delta_tree.proofs.Ids.{some_is_found, value_has_node}
use Rattle.tree_insert.proofs.Members.{contains_head, contains_tail, contains_cases, contains_none}
use Rattle.place_table.specs.Table.{TableValue, node_at, tree_in, value_at}
use Rattle.source_tree.specs.Ends.{HasOutcome}
use Rattle.source_tree.specs.declared.change.EndChange.{EndChange}
use Rattle.source_tree.specs.declared.change.Outcome.{Outcome}
use Rattle.source_tree.specs.declared.change.Outcome.TheVariants.{Lost, Gained}
use Rattle.end_log.specs.declared.moved.Moved.{Moved}
use Rattle.end_log.specs.Log.{end_at}
use Rattle.end_log.specs.Moves.{HasFinals, MovesOneWay, end_of}
use Rattle.end_log.specs.Runs.{AreDistinctStates, end_unless, is_standing, new_among, standing}
use Rattle.end_log.proofs.Counting.{no_longer, shorter}
use Rattle.end_log.proofs.Finals.{came_or_stood, end_moves, none_stays, some_none}

-- ---- members of a filter

filter_has : (test : ℕ → Bool) (numbers : List ℕ) (number : ℕ) → Contains numbers number →
    test number ≡ true → Contains (filter test numbers) number
filter_has test [] number there is = absurd (contains_none number there)
filter_has test (first ∷ rest) number there is =
    by (λ more. filter_has test rest number more is) (test first) refl
  where
    by : (Contains rest number → Contains (filter test rest) number) → (b : Bool) →
        test first ≡ b → Contains (filter test (first ∷ rest)) number
    by further true first_is = subst (λ (b : Bool). Contains (cond b (first ∷ filter test rest)
        (filter test rest)) number) (sym first_is)
        (elim (contains_cases first rest number there) [
          | inl same ↦ subst (Contains (first ∷ filter test rest)) same
              (contains_head first (filter test rest))
          | inr more ↦ contains_tail first (filter test rest) number (further more)
        ])
    by further false first_is = subst (λ (b : Bool). Contains (cond b
        (first ∷ filter test rest) (filter test rest)) number) (sym first_is)
        (elim (contains_cases first rest number there) [
          | inl same ↦ absurd (true≢false (sym is ∙ ap test (sym same) ∙ first_is))
          | inr more ↦ further more
        ])

-- rising numbers are distinct
rising_once : (numbers : List ℕ) → IsStrictlySortedBy nat_cmp numbers → IsDistinct eqb numbers
rising_once numbers rising = IsDistinct-from_apart eqb numbers (λ i j d before within.
    let below = below_from_sorted numbers i j d rising before within in
    ne_eqb (get_or numbers i d) (get_or numbers j d) (λ same. omega (arith, below, same)))

both : (a b : Bool) → (a && b) ≡ true → (a ≡ true) × (b ≡ true)
both true true is = (refl, refl)
both true false is = absurd (true≢false (sym is))
both false b is = absurd (true≢false (sym is))

nothing_once : IsDistinct eqb []
unfolding IsDistinct
nothing_once = tt

-- ---- the nodes of one root at one vertex

-- of those that came or went, the ones that stand there now
abbrev fresh : Outcome → List ℕ → List ℕ
fresh Lost states = []
fresh Gained states = states

fresh_many : (outcome : Outcome) (states : List ℕ) →
    new_among outcome (length states) ≡ length (fresh outcome states)
fresh_many Lost states = refl
fresh_many Gained states = refl

fresh_once : (outcome : Outcome) (states : List ℕ) → IsDistinct eqb states →
    IsDistinct eqb (fresh outcome states)
fresh_once Lost states once = nothing_once
fresh_once Gained states once = once

-- the states are exactly those with which a node of the root came to the vertex or went from it
pub record IsRunOf (finals : List ℕ) (outcome : Outcome) (old new : TableValue) (first : Moved)
    (run : List ℕ) : Type 0 where
  pub exact : (state : ℕ) → Contains run state
      ↔ (Contains finals state × HasOutcome outcome
      (value_at old first.root (node_id first.vertex state))
      (value_at new first.root (node_id first.vertex state)))
  pub once : IsDistinct eqb run
  pub some : Contains run first.state

-- what is found of the end is what became of it
abbrev pub Finds : EndChange → Type 0 → Option EndChange → Type 0
Finds change Has None = Has → ⊥
Finds change Has (Some found) = (found ≡ change) × Has

module _ (dfa : DfaValue) (finals : List ℕ) (outcome : Outcome) (old new : TableValue)
    (first : Moved) (run states : List ℕ) (known : HasFinals dfa finals)
    (way : MovesOneWay outcome old new) (is : IsRunOf finals outcome old new first run)
    (those : AreDistinctStates new first.vertex states) where
  abbrev had : ℕ → Option ℕ
  had state = value_at old first.root (node_id first.vertex state)

  abbrev has : ℕ → Option ℕ
  has state = value_at new first.root (node_id first.vertex state)

  abbrev now : List ℕ
  now = standing dfa new first states

  one_way : (each : Outcome) (state : ℕ) → HasOutcome each (had state) (has state) →
      each ≡ outcome
  one_way each state moves =
      way each (record { vertex = first.vertex; root = first.root; state = state }) moves

  -- those that stand there
  stands_now : (state : ℕ) → Contains finals state → IsSome (has state) → Contains now state
  stands_now state final some =
      let value = some_is_found (has state) some in
      let node = value_has_node (node_at new first.root (node_id first.vertex state)) value.0
      value.1 in
      filter_has (is_standing dfa new first) states state
      ((those.exact state).1 (first.root, node.0, node.1))
      (ap₂ (λ a b. a && b) ((known state).0 final) some)

  stands_final : (state : ℕ) → Contains now state →
      Contains finals state × IsSome (has state)
  stands_final state there =
      let passes = both (is_final dfa state) (is_some (has state))
      (All-contains (λ (each : ℕ). is_standing dfa new first each ≡ true) now state
      (filter_passes (is_standing dfa new first) states) there) in
      ((known state).1 passes.0, passes.1)

  now_once : IsDistinct eqb now
  now_once = rising_once now
      (IsStrictlySortedBy-filter nat_cmp (is_standing dfa new first) states those.rising)

  -- one that came stands there, and stood before not
  fresh_is : (kind : Outcome) → outcome ≡ kind → (state : ℕ) → Contains (fresh kind run) state →
      Contains finals state × HasOutcome Gained (had state) (has state)
  fresh_is Lost same state there = absurd (contains_none state there)
  fresh_is Gained same state there =
      let at = (is.exact state).0 there in
      (at.0, subst (λ each. HasOutcome each (had state) (has state)) same at.1)

  is_fresh : (kind : Outcome) → outcome ≡ kind → (state : ℕ) → Contains finals state →
      HasOutcome Gained (had state) (has state) → Contains (fresh kind run) state
  is_fresh Lost same state final came = absurd (wrong (one_way Gained state came ∙ same))
    where
      wrong : Gained ≡ Lost → ⊥
      wrong other = cc
  is_fresh Gained same state final came = (is.exact state).1
      (final, subst (λ each. HasOutcome each (had state) (has state)) (sym same) came)

  -- where no more stand there than came, none that does stood before
  none_beside : length now ≤ length (fresh outcome run) → (state : ℕ) → Contains finals state →
      IsSome (had state) → IsSome (has state) → ⊥
  none_beside few state final stood stands =
      let fewer = shorter (fresh outcome run) now state (fresh_once outcome run is.once)
      (λ there. some_none (had state) stood (fresh_is outcome refl state there).1.0)
      (stands_now state final stands)
      (λ each there.
      let came = fresh_is outcome refl each there in
      stands_now each came.0 came.1.1) in
      omega (arith, fewer, few)

  -- so the end came or went
  moves_end : length now ≤ length (fresh outcome run) →
      HasOutcome outcome (end_at finals old first.root first.vertex)
      (end_at finals new first.root first.vertex)
  moves_end few =
      let at = (is.exact first.state).0 is.some in
      end_moves finals (tree_in old first.root) (tree_in new first.root) first.vertex outcome
      one_way first.state at.0 at.1 (none_beside few)

  -- and where more do, it didn't
  keeps_end : length (fresh outcome run) < length now →
      HasOutcome outcome (end_at finals old first.root first.vertex)
      (end_at finals new first.root first.vertex) → ⊥
  keeps_end many moved =
      let fewer = no_longer now (fresh outcome run) now_once (λ state there.
      let at = stands_final state there in
      is_fresh outcome refl state at.0 (came_or_stood finals (tree_in old first.root)
      (tree_in new first.root) first.vertex state
      (λ stood. none_stays finals (tree_in old first.root) (tree_in new first.root)
      first.vertex outcome moved state at.0 stood at.1) at.1)) in
      omega (arith, fewer, many)

  -- by a comparison of both
  pub finds_end : (len : ℕ) → len ≡ length run →
      Finds (end_of outcome first) (HasOutcome outcome
      (end_at finals old first.root first.vertex) (end_at finals new first.root first.vertex))
      (end_unless (nat_lt (new_among outcome len) (length now)) (end_of outcome first))
  finds_end len len_is = by (nat_lt (new_among outcome len) (length now)) refl
    where
      many : new_among outcome len ≡ length (fresh outcome run)
      many = ap (new_among outcome) len_is ∙ fresh_many outcome run

      by : (b : Bool) → nat_lt (new_among outcome len) (length now) ≡ b →
          Finds (end_of outcome first) (HasOutcome outcome
          (end_at finals old first.root first.vertex)
          (end_at finals new first.root first.vertex)) (end_unless b (end_of outcome first))
      by true less =
          let below = ltb-true (new_among outcome len) (length now) less in
          keeps_end (subst (λ n. n < length now) many below)
      by false more =
          let above = ltb-false (new_among outcome len) (length now) more in
          (refl, moves_end (subst (λ n. length now ≤ n) many above))
