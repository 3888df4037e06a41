-- New objects.
use Rattle.std.specs.Prelude.{◌≡◌, ℕ, false, List, Option}
use Rattle.rpq_base.specs.declared.data.Event.{Event}
use Rattle.standing.specs.Objects.{Numbers, ObjectValue}

-- no event
abbrev pub no_numbers : Numbers
no_numbers = record { added = 0; retracted = 0 }

-- an object that wants these queries and heard nothing yet
pub record IsNewObject (queries text : List ℕ) (events : Option (List Event))
    (object : ObjectValue) : Type 0 where
  pub wanted : object.wanted ≡ queries
  pub numbers : object.numbers ≡ no_numbers
  pub heard : object.heard ≡ events
  pub said : object.said ≡ text
  pub gone : object.gone ≡ false
