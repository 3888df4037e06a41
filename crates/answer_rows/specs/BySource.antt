-- How rows are held: for each source a row, which copies share.
use Rattle.std.specs.Prelude.{◌≡◌, ℕ, ◌<◌, List, [], map, flat_map, length, All, sum_by}
use Rattle.std.specs.List.Sorted.{IsStrictlySortedBy}
use Rattle.std.specs.Map.{keys_of, values_of, lookup, set_value}
use Rattle.std.specs.BTreeMap.{is_at}
use Rattle.std.specs.Option.{unwrap_or}
use Rattle.rpq_base.specs.Order.{name_cmp}
use Rattle.answer_rows.specs.Answers.{Answer, AreTargets}
use Rattle.answer_rows.specs.declared.target.Target.{Target}

-- the sources with their rows
abbrev pub BySource : Type 0
BySource = List (List ℕ × List Target)

-- the answer that a source leads to a target
abbrev pub answer : List ℕ → Target → Answer
answer from target = record { from = from; to = target.to; until = target.until }

-- the answers of all sources
abbrev pub answers : BySource → List Answer
answers sources = flat_map (λ source. map (answer source.0) source.1) sources

-- the row that is held of a source, or no targets
abbrev pub held_row : BySource → List ℕ → List Target
held_row sources from = unwrap_or (lookup (is_at (name_cmp from)) sources) []

-- the sources with another row of this one
abbrev pub with_row : BySource → List ℕ → List Target → BySource
with_row sources from row = set_value (is_at (name_cmp from)) sources row

-- a row that is held: it has a target, and they are in order
pub record IsHeldRow (targets : List Target) : Type 0 where
  pub some : 0 < length targets
  pub sorted : AreTargets targets

-- the sources are in order, their rows may be held, and the count is that of the pairs
pub record AreHeld (sources : BySource) (count : ℕ) : Type 0 where
  pub in_order : IsStrictlySortedBy name_cmp (keys_of sources)
  pub rows : All IsHeldRow (values_of sources)
  pub counted : count ≡ sum_by (λ row. length row) (values_of sources)
