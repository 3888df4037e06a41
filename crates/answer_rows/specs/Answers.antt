-- The answers of a query: pairs of vertices, each with the end of its time.
use Rattle.std.specs.Prelude.{◌≡◌, ◌≢◌, ℕ, Bool, List, map, filter, find, Option}
use Rattle.std.specs.List.{list_any}
use Rattle.std.specs.Option.{option_map}
use Rattle.std.specs.List.Sorted.{IsStrictlySortedBy}
use Rattle.rpq_base.specs.Order.{name_cmp, pair_cmp}
use Rattle.rpq_base.specs.Same.{same_name, same_pair}
use Rattle.rpq_base.specs.declared.data.Pair.{Pair}
use Rattle.answer_rows.specs.declared.target.Target.{Target}

-- an answer: a path leads from the one vertex to the other, and it lasts until this time
pub record Answer : Type 0 where
  pub from : List ℕ
  pub to : List ℕ
  pub until : ℕ

-- the pair of two vertices
abbrev pub pair : List ℕ → List ℕ → Pair
pair from to = record { from = from; to = to }

-- the pair of an answer
abbrev pub pair_of : Answer → Pair
pair_of answer = pair answer.from answer.to

-- the pairs of the answers, in their order
abbrev pub pairs : List Answer → List Pair
pairs answers = map pair_of answers

-- the answers are sorted by source and then target, each pair once
abbrev pub AreRows : List Answer → Type 0
AreRows answers = IsStrictlySortedBy pair_cmp (pairs answers)

-- the end of a pair, or none where the pair isn't there
abbrev pub until_of : List Answer → Pair → Option ℕ
until_of answers pair =
    option_map (λ answer. answer.until) (find (λ answer. same_pair (pair_of answer) pair) answers)

-- the target of an answer
abbrev pub target_of : Answer → Target
target_of answer = record { to = answer.to; until = answer.until }

-- the row of a source: its targets, in their order
abbrev pub row_of : List Answer → List ℕ → List Target
row_of answers from = map target_of (filter (λ answer. same_name answer.from from) answers)

-- the sources from which an answer leads to a vertex, in their order
abbrev pub sources_of : List Answer → List ℕ → List (List ℕ)
sources_of answers to =
    map (λ answer. answer.from) (filter (λ answer. same_name answer.to to) answers)

-- the targets are sorted by their names, each once
abbrev pub AreTargets : List Target → Type 0
AreTargets targets = IsStrictlySortedBy name_cmp (map (λ target. target.to) targets)

-- the end of the target with this name, or none
abbrev pub end_of : List Target → List ℕ → Option ℕ
end_of targets to =
    option_map (λ target. target.until) (find (λ target. same_name target.to to) targets)

-- whether a target has this name
abbrev pub has_target : List Target → List ℕ → Bool
has_target targets to = list_any (λ target. same_name target.to to) targets

-- every source but this one keeps its row
abbrev pub KeepsOtherRows : List ℕ → List Answer → List Answer → Type 0
KeepsOtherRows from old new = (other : List ℕ) → other ≢ from → row_of new other ≡ row_of old other

-- every pair but this one keeps its end
abbrev pub KeepsOtherPairs : Pair → List Answer → List Answer → Type 0
KeepsOtherPairs pair old new =
    (other : Pair) → other ≢ pair → until_of new other ≡ until_of old other
