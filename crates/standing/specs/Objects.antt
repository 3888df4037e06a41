-- Standing objects, as contracts see them.
use Rattle.std.specs.Prelude.{ℕ, Bool, ◌==◌, List, Option, if◌then◌else◌}
use Rattle.std.specs.List.{list_any}
use Rattle.rpq_base.specs.declared.data.Event.{Event}
use Rattle.standing.specs.declared.object.Stay.{Stay}
use Rattle.standing.specs.declared.object.Stay.TheVariants.{Keep, Leave}

-- how many gains and how many losses were heard
pub record Numbers : Type 0 where
  pub added : ℕ
  pub retracted : ℕ

-- an object: the queries that it wants, how many events it heard, the events themselves where it
-- tells them, what it says, and whether it is gone
pub record ObjectValue : Type 0 where
  pub wanted : List ℕ
  pub numbers : Numbers
  pub heard : Option (List Event)
  pub said : List ℕ
  pub gone : Bool

-- whether a query is among those that are wanted
abbrev pub wants : List ℕ → ℕ → Bool
wants wanted query = list_any (λ each. each == query) wanted

-- what an object answers when it was told of an event
abbrev pub stay_of : ObjectValue → Stay
stay_of object = if object.gone then Leave else Keep
