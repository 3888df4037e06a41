-- What the definitions are meant to say, as laws.
use Rattle.std.specs.Prelude.{◌≡◌, ℕ, Bool, false, List, [], ◌∷◌, None, codes}
use Rattle.rpq_base.specs.declared.data.Entry.{Entry}
use Rattle.rpq_model.specs.Query.{Query}
use Rattle.standing.specs.Circles.{circle_value}
use Rattle.standing.specs.New.{no_numbers}
use Rattle.standing.specs.Objects.{ObjectValue}
use Rattle.generated_run.specs.Generates.{said_by}
use Rattle.generated_run.specs.Summary.{IsSummary, summary_text}

-- a history has at most one summary of what is said
abbrev pub OneSummary : Type 0
OneSummary = (two_way : Bool) (queries : List Query) (history : List Entry)
    (said : List (List ℕ)) (text other : List ℕ) → IsSummary two_way queries history said text →
    IsSummary two_way queries history said other → text ≡ other

-- a summary of three entries that brought two additions, of two queries with these names, the first
-- of which has two answers and the other none, and of an object that tells what it counted
abbrev pub SummaryExample : Type 0
SummaryExample = (first second : Query) → first.name ≡ codes "q" → second.name ≡ codes "r" →
    summary_text 3 2 0 (first ∷ second ∷ []) (2 ∷ 0 ∷ []) (codes "tally 2 0" ∷ [])
    ≡ codes "entries 3\nadded 2\nretracted 0\nquery q 2\nquery r 0\ntally 2 0\n"

-- an object that says this
abbrev pub that_says : List ℕ → ObjectValue
that_says text = record {
  wanted = [];
  numbers = no_numbers;
  heard = None;
  said = text;
  gone = false;
}

-- what is said by two objects that stayed and one that left: those that stayed come first
abbrev pub SaidExample : Type 0
SaidExample =
    said_by (circle_value (that_says (codes "tally 2 0") ∷ that_says (codes "roll 1 0") ∷ [])
    (that_says (codes "tail +0,y,x") ∷ []))
    ≡ codes "tally 2 0" ∷ codes "roll 1 0" ∷ codes "tail +0,y,x" ∷ []
