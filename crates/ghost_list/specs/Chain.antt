-- A list as a chain of what it was before.
use Rattle.std.specs.Prelude.{ℕ, ◌+◌, List, [], ◌∷◌, ◌++◌, Option, Some, None}

-- the items, and the number of pushes
pub record ChainValue (T : Type 0) : Type 0 where
  pub items : List T
  pub pushes : ℕ

-- the item that a push added, if it added one by itself
abbrev pub single : {T : Type 0} → Option T → List T
single None = []
single (Some item) = item ∷ []

-- the items that it added, if it added a list
abbrev pub several : {T : Type 0} → Option (List T) → List T
several None = []
several (Some items) = items

-- the empty chain, or what the chain was before with what was added behind it
abbrev pub linked : {T : Type 0} → Option (ChainValue T) → Option T → Option (List T) → ChainValue T
linked None item items = record { items = []; pushes = 0 }
linked (Some before) item items =
    record { items = before.items ++ single item ++ several items; pushes = before.pushes + 1 }
