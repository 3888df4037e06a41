-- Roots in the order of their numbers; no public contract cites these.
use Rattle.std.specs.Prelude.{◌≡◌, ℕ, List, Some, Contains}
use Rattle.due_queue.specs.declared.due.Due.{Due}
use Rattle.due_queue.specs.Queue.{due}
use Rattle.source_index.specs.Dues.{DuesValue, due_of}

-- each root with a number is noted with it
abbrev pub AreNoted : DuesValue → List (Due ℕ) → Type 0
AreNoted numbers queue = (root number : ℕ) → due_of numbers root ≡ Some number →
    Contains queue (due root number)

-- each root but this one is noted with its number, where it has one
abbrev pub AreNotedBut : ℕ → DuesValue → List (Due ℕ) → Type 0
AreNotedBut but numbers queue = (root number : ℕ) → (root ≡ but → ⊥) →
    due_of numbers root ≡ Some number → Contains queue (due root number)

-- nothing is noted but roots with the numbers that they have
abbrev pub ArePresent : DuesValue → List (Due ℕ) → Type 0
ArePresent numbers queue = (each : Due ℕ) → Contains queue each →
    due_of numbers each.item ≡ Some each.number
