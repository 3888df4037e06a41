-- Changes of one target in a row.
use Rattle.std.specs.Prelude.{ℕ, not, List, [], ◌∷◌, filter}
use Rattle.std.specs.Ordering.{match_ordering}
use Rattle.rpq_base.specs.Order.{name_cmp}
use Rattle.rpq_base.specs.Same.{same_name}
use Rattle.answer_rows.specs.declared.target.Target.{Target}

-- the target with this name and end
abbrev pub target : List ℕ → ℕ → Target
target to until = record { to = to; until = until }

-- a row with this target: its end moved, or the target put into its place in the order
abbrev pub with_target : List Target → List ℕ → ℕ → List Target
with_target [] to until = target to until ∷ []
with_target (first ∷ rest) to until =
    match_ordering (name_cmp to first.to) (target to until ∷ first ∷ rest)
    (target first.to until ∷ rest) (first ∷ with_target rest to until)

-- a row without the target of this name
abbrev pub without_target : List Target → List ℕ → List Target
without_target targets to = filter (λ each. not (same_name each.to to)) targets
