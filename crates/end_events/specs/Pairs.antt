-- The pairs that lists of changes of ends take away or bring. No public contract cites this file.
use Rattle.std.specs.Prelude.{◌≡◌, ◌⊎◌, ℕ, ◌<◌, Bool, true, not, ◌&&◌, List, length, map, All}
use Rattle.std.specs.Prelude.{Contains, Some}
use Rattle.rpq_base.specs.declared.data.Pair.{Pair}
use Rattle.rpq_model.specs.declared.mode.Mode.{Mode}
use Rattle.rpq_model.specs.Relations.{Adds, AreExactly}
use Rattle.name_table.specs.Keys.{beginning, AreBytes}
use Rattle.name_table.specs.Names.{name_at, number_of}
use Rattle.source_tree.specs.declared.change.EndChange.{EndChange}
use Rattle.source_tree.specs.declared.change.Outcome.{Outcome}
use Rattle.source_tree.specs.declared.change.Outcome.TheVariants.{Lost, Gained}
use Rattle.source_tree.specs.Ends.{is_gain}
use Rattle.end_events.specs.declared.pairs.NumberedPair.{NumberedPair}
use Rattle.end_events.specs.Changes.{counts}

-- whether a change has this outcome, and its pair counts
abbrev pub gives_event : Mode → Outcome → EndChange → Bool
gives_event mode Lost each = not (is_gain each.outcome) && counts mode each.root each.vertex
gives_event mode Gained each = is_gain each.outcome && counts mode each.root each.vertex

-- a change in the list gives an event of the pair
pub record IsGiven (mode : Mode) (outcome : Outcome) (names : List (List ℕ)) (log : List EndChange)
    (pair : Pair) : Type 0 where
  pub each : EndChange
  pub member : Contains log each
  pub from : number_of names pair.from ≡ Some each.root
  pub to : number_of names pair.to ≡ Some each.vertex
  pub gives : gives_event mode outcome each ≡ true

-- the number is that of a name, and the key beside it is the name's beginning
pub record IsNamed (names : List (List ℕ)) (number key : ℕ) : Type 0 where
  pub within : number < length names
  pub found : number_of names (name_at names number) ≡ Some number
  pub key_is : key ≡ beginning (name_at names number)
  pub bytes : AreBytes (name_at names number)

-- both numbers are those of names
pub record IsNumbered (names : List (List ℕ)) (pair : NumberedPair) : Type 0 where
  pub from : IsNamed names pair.root pair.root_key
  pub to : IsNamed names pair.vertex pair.vertex_key

abbrev pub AreNumbered : List (List ℕ) → List NumberedPair → Type 0
AreNumbered names pairs = All (IsNumbered names) pairs

-- the pair of the names that have these numbers
abbrev pub pair_at : List (List ℕ) → NumberedPair → Pair
pair_at names pair = record { from = name_at names pair.root; to = name_at names pair.vertex }

-- the pairs of these
abbrev pub pairs_at : List (List ℕ) → List NumberedPair → List Pair
pairs_at names pairs = map (pair_at names) pairs

-- the pairs of which a change in the list gives an event are added, all of them numbered
pub record Gathers (mode : Mode) (outcome : Outcome) (names : List (List ℕ)) (log : List EndChange)
    (before after : List NumberedPair) : Type 0 where
  pub adds : Adds (pairs_at names before) (pairs_at names after) (IsGiven mode outcome names log)
  pub numbered : AreNumbered names before → AreNumbered names after

-- the pairs are exactly those of which a change in one of two lists gives an event, in order, each
-- once
pub record AreGiven (mode : Mode) (outcome : Outcome) (names : List (List ℕ))
    (first second : List EndChange) (pairs : List NumberedPair) : Type 0 where
  pub numbered : AreNumbered names pairs
  pub exactly : AreExactly (λ pair. IsGiven mode outcome names first pair
      ⊎ IsGiven mode outcome names second pair) (pairs_at names pairs)
