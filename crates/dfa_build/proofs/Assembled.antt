-- The parts of the automaton of the sets, put together.
use Rattle.std.proofs.Common.{◌≡◌, ℕ, zero, suc, ◌+◌, ◌^◌, ◌<◌, ◌≤◌, Bool, false, List, [], length, get_or, Option, Some, None, lit<, sym, ap, ◌∙◌, subst, ⊎_elim, add-one, arith}
use Rattle.std.specs.Prelude.{◌↔◌, IsTrue}
use Rattle.std.specs.List.Sorted.{IsStrictlySortedBy}
use Rattle.std.proofs.lemmas.Bool.{cases_lt}
use Rattle.std.proofs.lemmas.List.{get_or_past, length-map}
use Rattle.std.proofs.lemmas.List.Elements.{All-from_get_or}
use Rattle.std.proofs.lemmas.Option.{none-some, same_Some}
use Rattle.rpq_base.specs.declared.data.Label.{Label}
use Rattle.rpq_base.specs.Order.{label_cmp}
use Rattle.dfa_table.specs.DfaValue.{IsDfa}
use Rattle.dfa_build.specs.declared.position_set.PositionSet.{PositionSet}
use Rattle.dfa_build.specs.PositionSet.{has}
use Rattle.dfa_build.specs.Positions.{PositionsValue, ArePositions}
use Rattle.dfa_table.specs.Discovery.{node_at}
use Rattle.dfa_build.specs.StateSets.{set_at, AreSetsOf, IsStepTo, IsRow, AreRows, set_of, sets_of}
use Rattle.dfa_build.proofs.Found.{set_read}
use Rattle.dfa_build.proofs.Moves.{AreMoves}
use Rattle.dfa_build.proofs.Runs.{IsSubsetDfa}

-- ---- the conditions on a table

step_target : (step : Option ℕ) (sets : List PositionSet) (reach mask : PositionSet) (target : ℕ) → IsStepTo sets reach mask step →
    step ≡ Some target → (0 < target) × (target ≤ length sets)
step_target None sets reach mask target right is = absurd (none-some target is)
step_target (Some zero) sets reach mask target right is = absurd right
step_target (Some (suc place)) sets reach mask target right is =
    let same = same_Some (suc place) target is in
    let below = right.0 in
    (omega arith, omega arith)

row_target : (sets masks : List PositionSet) (reach : PositionSet) (row : List (Option ℕ)) (place target : ℕ) → IsRow sets reach masks row →
    get_or row place None ≡ Some target → (0 < target) × (target ≤ length sets)
row_target sets masks reach row place target right is = ⊎_elim
    (λ below. step_target (get_or row place None) sets reach (set_at masks place) target (right.steps place (omega (arith, below, right.even))) is)
    (λ past. absurd (none-some target (sym (get_or_past row place None past) ∙ is)))
    (cases_lt place (length row))

state_target : (state : ℕ) (follow masks : List PositionSet) (first : PositionSet) (sets : List PositionSet) (rows : List (List (Option ℕ))) → AreRows follow masks first sets rows (length sets) →
    (place target : ℕ) → get_or (get_or rows state []) place None ≡ Some target → (0 < target) × (target ≤ length sets)
state_target zero follow masks first sets rows are place target is = row_target sets masks first (get_or rows 0 []) place target are.start is
state_target (suc at) follow masks first sets rows are place target is = ⊎_elim
    (λ below. let row = are.others at below in row_target sets masks row.reach (get_or rows (suc at) []) place target row.is is)
    (λ past.
    let none : get_or rows (suc at) [] ≡ [] = get_or_past rows (suc at) [] (omega (arith, past, are.as_many)) in
    absurd (none-some target (ap (λ (row : List (Option ℕ)). get_or row place None) (sym none) ∙ is)))
    (cases_lt at (length sets))

row_length : (state : ℕ) (follow masks : List PositionSet) (first : PositionSet) (sets : List PositionSet) (rows : List (List (Option ℕ))) →
    AreRows follow masks first sets rows (length sets) →
    state < length rows → length (get_or rows state []) ≡ length masks
row_length zero follow masks first sets rows are below = are.start.even
row_length (suc at) follow masks first sets rows are below = (are.others at (omega (arith, below, are.as_many))).is.even

-- the rows are those of an automaton
pub table_is_dfa : (labels : List Label) (finals : List Bool) (follow masks : List PositionSet) (first : PositionSet) (sets : List PositionSet) (rows : List (List (Option ℕ))) →
    AreRows follow masks first sets rows (length sets) → IsStrictlySortedBy label_cmp labels → length labels ≤ 64 → length masks ≡ length labels →
    length finals ≡ length sets + 1 → get_or finals 0 false ≡ false → IsDfa (record { labels = labels; rows = rows; finals = finals })
table_is_dfa labels finals follow masks first sets rows are sorted few as_many finals_many start =
    let small : 64 < 2 ^ 32 = lit< tt in
    record {
      sorted = sorted;
      few_labels = omega (arith, small);
      some = omega (arith, are.as_many);
      few = omega (arith, are.as_many, are.few);
      even = All-from_get_or (λ (row : List (Option ℕ)). length row ≡ length labels) rows [] (λ state below. row_length state follow masks first sets rows are below ∙ as_many);
      finals = omega (arith, are.as_many);
      targets = λ state place target is. let both = state_target state follow masks first sets rows are place target is in (both.0, omega (arith, both.1, are.as_many));
      start = start;
    }

-- the automaton is that of the sets
pub subset_dfa : (positions : PositionsValue) (labels : List Label) (finals : List Bool) (first last : PositionSet) (follow masks sets : List PositionSet) (rows : List (List (Option ℕ))) →
    AreMoves positions labels first last follow masks → AreRows follow masks first sets rows (length sets) → get_or finals 0 false ≡ false →
    ((place : ℕ) → place < length sets → IsTrue (get_or finals (place + 1) false) ↔ ((position : ℕ) × IsTrue (has (set_at sets place) position) × IsTrue (has last position))) →
    IsSubsetDfa positions first last follow masks sets (record { labels = labels; rows = rows; finals = finals })
subset_dfa positions labels finals first last follow masks sets rows moves are start final = record {
  moves = moves;
  rows = are;
  start = start;
  finals = λ place below.
      let Q : ℕ → Type 0 = λ n. IsTrue (get_or finals n false) ↔ ((position : ℕ) × IsTrue (has (set_at sets place) position) × IsTrue (has last position)) in
      subst Q (add-one place) (final place below);
}

-- the set of the node at the place has one of the last positions
abbrev pub IsFinalNode : List ℕ → PositionSet → ℕ → Type 0
IsFinalNode nodes last place = (position : ℕ) × IsTrue (has (set_of (node_at nodes place)) position) × IsTrue (has last position)

-- the same from nodes that are passed on
pub passed_on : (positions : PositionsValue) (labels : List Label) (finals : List Bool) (first last : PositionSet) (follow masks : List PositionSet)
    (nodes passed : List ℕ) (rows : List (List (Option ℕ))) → ArePositions positions → AreSetsOf positions labels first last follow masks →
    passed ≡ nodes → AreRows follow masks first (sets_of nodes) rows (length (sets_of nodes)) → get_or finals 0 false ≡ false →
    ((place : ℕ) → place < length passed → IsTrue (get_or finals (place + 1) false) ↔ IsFinalNode passed last place) →
    IsSubsetDfa positions first last follow masks (sets_of nodes) (record { labels = labels; rows = rows; finals = finals })
passed_on positions labels finals first last follow masks nodes passed rows are of_positions same states start final =
    let P : List ℕ → Type 0 = λ all. (place : ℕ) → place < length all → IsTrue (get_or finals (place + 1) false) ↔ IsFinalNode all last place in
    subset_dfa positions labels finals first last follow masks (sets_of nodes) rows (record { are = are; sets = of_positions }) states start
    (λ place below.
    let within : place < length nodes = omega (arith, below, length-map nodes set_of) in
    let Q : PositionSet → Type 0 = λ set. IsTrue (get_or finals (place + 1) false) ↔ ((position : ℕ) × IsTrue (has set position) × IsTrue (has last position)) in
    subst Q (sym (set_read nodes place within)) (subst P same final place within))
