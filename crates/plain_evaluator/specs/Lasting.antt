-- How long answers last, deadline by deadline. No public contract cites this file.
use Rattle.std.specs.Prelude.{◌≡◌, ℕ, ◌↔◌, List, Contains, Some, if◌then◌else◌}
use Rattle.std.specs.BTreeMap.{BTreeMap, get}
use Rattle.std.specs.List.{list_any}
use Rattle.std.specs.List.Sorted.{IsStrictlySortedBy}
use Rattle.std.specs.Ordering.{nat_cmp}
use Rattle.rpq_base.specs.Order.{pair_cmp}
use Rattle.rpq_base.specs.Same.{same_pair}
use Rattle.rpq_base.specs.declared.data.Entry.{Entry}
use Rattle.rpq_base.specs.declared.data.Pair.{Pair}
use Rattle.rpq_model.specs.declared.ended.Ended.{Ended}
use Rattle.rpq_model.specs.Window.{WindowValue}
use Rattle.rpq_model.specs.WindowLaws.{IsLiveDeadline}

-- these are the deadlines of the entries that are live at a clock, rising, each once
pub record AreDeadlines (window : WindowValue) (now : ℕ) (entries : List Entry)
    (deadlines : List ℕ) : Type 0 where
  pub rising : IsStrictlySortedBy nat_cmp deadlines
  pub exact : (deadline : ℕ) →
      Contains deadlines deadline ↔ IsLiveDeadline window now entries deadline

-- afterwards each of the pairs has this end, and each other one what it had
abbrev pub GivesEnd : List Pair → ℕ → BTreeMap Pair ℕ → BTreeMap Pair ℕ → Type 0
GivesEnd pairs until before after = (pair : Pair) → get pair_cmp after pair
    ≡ (if list_any (same_pair pair) pairs then Some until else get pair_cmp before pair)

-- the row of a pair and its end
abbrev pub row_of : Pair × ℕ → Ended
row_of each = record { pair = each.0; until = each.1 }
