-- The answers that a forest shows, each with its end, and the rows that an index has of them.
use Rattle.std.specs.Prelude.{◌≡◌, ◌≢◌, ◌↔◌, ⊤, ℕ, List, Contains, Some}
use Rattle.rpq_base.specs.declared.data.Pair.{Pair}
use Rattle.rpq_model.specs.declared.mode.Mode.{Mode}
use Rattle.rpq_model.specs.declared.mode.Mode.TheVariants.{Simple}
use Rattle.name_table.specs.Names.{number_of}
use Rattle.delta_forest.specs.Forest.{ForestValue, IsEnd, kept}
use Rattle.answer_rows.specs.Answers.{Answer, until_of}
use Rattle.query_index.specs.declared.stale.StaleRoots.{StaleRoots}
use Rattle.query_index.specs.declared.stale.StaleRoots.TheVariants.{Every, Roots}
use Rattle.query_index.specs.IndexValue.{IndexValue}

-- some name has the number
abbrev pub IsTaken : List (List ℕ) → ℕ → Type 0
IsTaken names number = (name : List ℕ) × (number_of names name ≡ Some number)

-- what the forest keeps is of vertices that have names
abbrev pub HaveNames : List (List ℕ) → ForestValue → Type 0
HaveNames names forest = (root vertex state value : ℕ) →
    kept forest root vertex state ≡ Some value → IsTaken names root × IsTaken names vertex

-- the pair, seen from this root, ends at this time, and counts: no simple path ends where it begins
pub record Shows (mode : Mode) (names : List (List ℕ)) (forest : ForestValue) (root : ℕ)
    (pair : Pair) (until : ℕ) : Type 0 where
  pub vertex : ℕ
  pub from : number_of names pair.from ≡ Some root
  pub to : number_of names pair.to ≡ Some vertex
  pub apart : mode ≡ Simple → pair.from ≢ pair.to
  pub end : IsEnd forest root vertex (Some until)

-- so it does, seen from the root that its source is
abbrev pub IsShown : Mode → List (List ℕ) → ForestValue → Pair → ℕ → Type 0
IsShown mode names forest pair until = (root : ℕ) × Shows mode names forest root pair until

-- the row of the root may differ from what is shown
abbrev pub IsStale : StaleRoots → ℕ → Type 0
IsStale Every root = ⊤
IsStale (Roots roots) root = Contains roots root

-- the number of the name is of the kind
abbrev pub IsNameOf : (ℕ → Type 0) → List (List ℕ) → List ℕ → Type 0
IsNameOf kind names name = (number : ℕ) × (number_of names name ≡ Some number) × kind number

-- the rows have exactly what is shown, but for those of a kind of roots
abbrev pub ShowAllBut : (ℕ → Type 0) → Mode → List (List ℕ) → ForestValue → List Answer → Type 0
ShowAllBut kind mode names forest rows = (pair : Pair) (until : ℕ) →
    (IsNameOf kind names pair.from → ⊥) →
    (until_of rows pair ≡ Some until) ↔ IsShown mode names forest pair until

-- the forest keeps what has names, and the rows have what it shows, but for those of stale roots
pub record HasRows (mode : Mode) (names : List (List ℕ)) (index : IndexValue) : Type 0 where
  pub named : HaveNames names index.forest
  pub fresh : ShowAllBut (IsStale index.stale) mode names index.forest index.shown
