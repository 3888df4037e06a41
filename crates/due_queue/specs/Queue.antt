-- Items with numbers, as a queue keeps them.
use Rattle.std.specs.Prelude.{ℕ, ◌≤◌, ◌<◌, List, ◌∷◌, Contains}
use Rattle.std.specs.List.Sorted.{IsPermutation}
use Rattle.due_queue.specs.declared.due.Due.{Due}

-- all that is noted, in an order that says nothing, and for how many more there is room
pub record QueueValue (T : Type 0) : Type 0 where
  pub items : List (Due T)
  pub room : ℕ

-- an item with a number
abbrev pub due : {T : Type 0} → T → ℕ → Due T
due item number = record { item = item; number = number }

-- one more is noted
abbrev pub Notes : {T : Type 0} → List (Due T) → List (Due T) → Due T → Type 0
Notes old new more = IsPermutation (more ∷ old) new

-- no number is below this one
abbrev pub AllFrom : {T : Type 0} → ℕ → List (Due T) → Type 0
AllFrom {T} number items = (each : Due T) → Contains items each → number ≤ each.number

-- each number is above this one
abbrev pub AllAbove : {T : Type 0} → ℕ → List (Due T) → Type 0
AllAbove {T} number items = (each : Due T) → Contains items each → number < each.number

-- one of the least number was taken, which is at most the clock
pub record TakesNext {T : Type 0} (now : ℕ) (old new : List (Due T)) (next : Due T) : Type 0 where
  pub taken : IsPermutation old (next ∷ new)
  pub reached : next.number ≤ now
  pub least : AllFrom next.number old
