-- The sets of positions that words reach, and the deterministic automaton that has one state for
-- each of them.
use Rattle.std.specs.Prelude.{◌≡◌, ◌≢◌, ℕ, ◌↔◌, List, [], ◌∷◌, length, All, Contains, IsSome}
use Rattle.std.specs.List.{Any, AllPairs}
use Rattle.rpq_base.specs.declared.data.Label.{Label}
use Rattle.dfa_table.specs.DfaValue.{DfaValue, IsDfa}
use Rattle.dfa_table.specs.Order.{IsInDiscoveryOrder}
use Rattle.dfa_table.specs.Runs.{run_from, Accepts, AreReached}
use Rattle.dfa_build.specs.Positions.{PositionsValue, AcceptsByPositions, IsFront, end_of, spells}

-- the word reaches the position: a front that spells the word ends there
pub record Reaches (positions : PositionsValue) (word : List Label) (position : ℕ) : Type 0 where
  pub first : ℕ
  pub rest : List ℕ
  pub front : IsFront positions (first ∷ rest)
  pub ends : end_of first rest ≡ position
  pub spelled : word ≡ spells positions (first ∷ rest)

-- the set of positions that the word reaches isn't empty
abbrev pub ReachesSome : PositionsValue → List Label → Type 0
ReachesSome positions word = (position : ℕ) × Reaches positions word position

-- the two words reach the same set of positions
abbrev pub ReachSame : PositionsValue → List Label → List Label → Type 0
ReachSame positions first second =
    (position : ℕ) → Reaches positions first position ↔ Reaches positions second position

-- words that reach nonempty sets of positions, each another one
pub record ReachApart (positions : PositionsValue) (words : List (List Label)) : Type 0 where
  pub some : All (ReachesSome positions) words
  pub apart : AllPairs (λ first second. ReachSame positions first second → ⊥) words

-- for each nonempty set of positions that words reach, one word that reaches it
pub record ReachAll (positions : PositionsValue) (words : List (List Label)) : Type 0 where
  pub apart : ReachApart positions words
  pub all : (word : List Label) → ReachesSome positions word → Any (ReachSame positions word) words

-- words reach more than 512 nonempty sets of positions
abbrev pub HasManySets : PositionsValue → Type 0
HasManySets positions =
    (words : List (List Label)) × ReachApart positions words × (length words ≡ 513)

-- a nonempty word leads to a state exactly where its set isn't empty, and two nonempty words to
-- the same one exactly where their sets are equal; every state is reached
pub record HasStatePerSet (positions : PositionsValue) (dfa : DfaValue) : Type 0 where
  pub leads : (word : List Label) → word ≢ [] →
      IsSome (run_from dfa 0 word) ↔ ReachesSome positions word
  pub same : (first second : List Label) → first ≢ [] → second ≢ [] →
      (run_from dfa 0 first ≡ run_from dfa 0 second) ↔ ReachSame positions first second
  pub reached : AreReached dfa

-- the automaton accepts the words that the position automaton accepts; it has its labels, and a
-- state for each set, in the order of discovery
pub record IsAutomatonOf (positions : PositionsValue) (dfa : DfaValue) : Type 0 where
  pub accepts : (word : List Label) → Accepts dfa word ↔ AcceptsByPositions positions word
  pub sets : HasStatePerSet positions dfa
  pub labels : (label : Label) → Contains dfa.labels label ↔ Contains positions.atoms label
  pub order : IsInDiscoveryOrder dfa
  pub valid : IsDfa dfa
