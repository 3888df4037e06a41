-- How the rows of stale roots are made anew.
use Rattle.std.specs.Prelude.{◌≡◌, ◌⊎◌, ◌↔◌, ℕ, List, map, filter, Contains, Some}
use Rattle.std.specs.declared.cmp.Ordering.{Ordering}
use Rattle.rpq_base.specs.Order.{name_cmp}
use Rattle.rpq_base.specs.declared.data.Entry.{Entry}
use Rattle.rpq_base.specs.declared.data.Pair.{Pair}
use Rattle.rpq_model.specs.declared.mode.Mode.{Mode}
use Rattle.name_table.specs.Names.{name_at, number_of}
use Rattle.source_tree.specs.declared.change.Reached.{Reached}
use Rattle.delta_forest.specs.Forest.{ForestValue, kept}
use Rattle.answer_rows.specs.Answers.{Answer, until_of}
use Rattle.answer_rows.specs.declared.target.Target.{Target}
use Rattle.end_events.specs.Changes.{counts}
use Rattle.query_file.specs.Compiled.{CompiledValue}
use Rattle.query_index.specs.declared.stale.StaleRoots.{StaleRoots}
use Rattle.query_index.specs.IndexValue.{IndexValue}
use Rattle.query_index.specs.Shown.{IsShown, IsStale, Shows}
use Rattle.query_index.specs.Index.{IsIndexFor}

-- the index keeps its forest, and is that of the query over each history of which it was
pub record StandsStill (query : CompiledValue) (names : List (List ℕ)) (old new : IndexValue)
    : Type 0 where
  pub forest : new.forest ≡ old.forest
  pub stands : (history : List Entry) (fed : ℕ) → IsIndexFor query history fed names old →
      IsIndexFor query history fed names new

-- ---- stale roots; no public contract cites what follows

-- these roots are stale now, and those that were
abbrev pub Marks : StaleRoots → List ℕ → StaleRoots → Type 0
Marks old roots new = (root : ℕ) → IsStale old root ⊎ Contains roots root → IsStale new root

-- a root that isn't stale wasn't before either, and what is kept for it is as it was
abbrev pub LeavesFresh : StaleRoots → ForestValue → StaleRoots → ForestValue → Type 0
LeavesFresh was old is new = (root : ℕ) → (IsStale is root → ⊥) →
    (IsStale was root → ⊥)
    × ((vertex state : ℕ) → kept new root vertex state ≡ kept old root vertex state)

-- ---- the row of a root

-- vertices in the order of their names
abbrev pub reached_cmp : List (List ℕ) → Reached → Reached → Ordering
reached_cmp names first second =
    name_cmp (name_at names first.vertex) (name_at names second.vertex)

-- the target that a vertex is
abbrev pub target_at : List (List ℕ) → Reached → Target
target_at names each = record { to = name_at names each.vertex; until = each.value }

-- the targets that the vertices are whose pairs with the root count
abbrev pub targets_among : Mode → List (List ℕ) → ℕ → List Reached → List Target
targets_among mode names root reached =
    map (target_at names) (filter (λ (each : Reached). counts mode root each.vertex) reached)

-- the row of the root has what is shown from it, and the others are as they were
pub record Renews (mode : Mode) (names : List (List ℕ)) (forest : ForestValue) (root : ℕ)
    (old new : List Answer) : Type 0 where
  pub here : (pair : Pair) (until : ℕ) → number_of names pair.from ≡ Some root →
      (until_of new pair ≡ Some until) ↔ Shows mode names forest root pair until
  pub others : (pair : Pair) → (number_of names pair.from ≡ Some root → ⊥) →
      until_of new pair ≡ until_of old pair

-- ---- all rows

-- the rows have exactly what is shown
abbrev pub HaveShown : Mode → List (List ℕ) → ForestValue → List Answer → Type 0
HaveShown mode names forest rows = (pair : Pair) (until : ℕ) →
    (until_of rows pair ≡ Some until) ↔ IsShown mode names forest pair until
