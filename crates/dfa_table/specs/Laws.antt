-- What the definitions are meant to say, as laws.
use Rattle.std.specs.Prelude.{◌≡◌, ℕ, ◌<◌, ◌↔◌, List, [], ◌∷◌, ◌++◌, length, map, All, Some, IsSome, IsTrue}
use Rattle.std.specs.List.{slice_get}
use Rattle.std.specs.Option.{option_and_then}
use Rattle.rpq_base.specs.declared.data.Label.{Label}
use Rattle.dfa_table.specs.DfaValue.{DfaValue, IsDfa, place_of, label_at}
use Rattle.dfa_table.specs.Order.{IsInDiscoveryOrder}
use Rattle.dfa_table.specs.Runs.{run_from, walk, accepts_from, Accepts, AreReached}

-- a nonempty word never leads to the start, and the empty word isn't accepted
pub record StartIsApart : Type 0 where
  pub back : (dfa : DfaValue) (state : ℕ) (label : Label) (word : List Label) →
      IsDfa dfa → run_from dfa state (label ∷ word) ≡ Some 0 → ⊥
  pub empty : (dfa : DfaValue) → IsDfa dfa → Accepts dfa [] → ⊥

-- a word that is one word and then another leads where the second leads from where the first
-- leads to
abbrev pub RunsJoin : Type 0
RunsJoin = (dfa : DfaValue) (state : ℕ) (front rest : List Label) →
    run_from dfa state (front ++ rest)
    ≡ option_and_then (λ next. run_from dfa next rest) (run_from dfa state front)

-- a word leads from a state to a state
abbrev pub RunsStayWithin : Type 0
RunsStayWithin = (dfa : DfaValue) (state target : ℕ) (word : List Label) →
    IsDfa dfa → state < length dfa.rows → run_from dfa state word ≡ Some target →
    target < length dfa.rows

-- the number of a label is the place where it stands
abbrev pub LabelsHavePlaces : Type 0
LabelsHavePlaces = (dfa : DfaValue) (label : Label) (place : ℕ) →
    IsDfa dfa → (place_of dfa label ≡ Some place) ↔ (slice_get dfa.labels place ≡ Some label)

-- the words that are accepted are those that pass the test from the start
abbrev pub AcceptedWordsPass : Type 0
AcceptedWordsPass =
    (dfa : DfaValue) (word : List Label) → Accepts dfa word ↔ IsTrue (accepts_from dfa 0 word)

-- a word leads where the numbers of its labels lead; numbers that lead somewhere are those of
-- labels, and a word that leads somewhere has numbers
pub record RunsGoByNumbers : Type 0 where
  pub spelled : (dfa : DfaValue) (state : ℕ) (numbers : List ℕ) →
      IsDfa dfa → All (λ number. number < length dfa.labels) numbers →
      run_from dfa state (map (label_at dfa) numbers) ≡ walk dfa state numbers
  pub within : (dfa : DfaValue) (state target : ℕ) (numbers : List ℕ) →
      IsDfa dfa → walk dfa state numbers ≡ Some target →
      All (λ number. number < length dfa.labels) numbers
  pub numbered : (dfa : DfaValue) (state target : ℕ) (word : List Label) →
      IsDfa dfa → run_from dfa state word ≡ Some target →
      (numbers : List ℕ)
      × (map (label_at dfa) numbers ≡ word) × (walk dfa state numbers ≡ Some target)

-- the two automata have the same labels, lead the same words somewhere, lead the same words to
-- one state, and accept the same words
pub record AreAlike (first second : DfaValue) : Type 0 where
  pub labels : first.labels ≡ second.labels
  pub leads : (word : List Label) → IsSome (run_from first 0 word) ↔ IsSome (run_from second 0 word)
  pub same : (one other : List Label) →
      (run_from first 0 one ≡ run_from first 0 other)
      ↔ (run_from second 0 one ≡ run_from second 0 other)
  pub accepts : (word : List Label) → Accepts first word ↔ Accepts second word

-- a reached automaton whose states are in the order of discovery
pub record IsNumberedByDiscovery (dfa : DfaValue) : Type 0 where
  pub valid : IsDfa dfa
  pub reached : AreReached dfa
  pub order : IsInDiscoveryOrder dfa

-- of automata that are alike, one alone has its states in the order of discovery
abbrev pub OneNumbering : Type 0
OneNumbering = (first second : DfaValue) →
    IsNumberedByDiscovery first → IsNumberedByDiscovery second → AreAlike first second →
    first ≡ second
