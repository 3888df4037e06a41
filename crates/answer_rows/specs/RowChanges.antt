-- The pairs that are lost or gained, row by row.
use Rattle.std.specs.Prelude.{ℕ, not, List, map, filter, flat_map}
use Rattle.rpq_base.specs.declared.data.Pair.{Pair}
use Rattle.answer_rows.specs.Answers.{Answer, pair, row_of, has_target}
use Rattle.answer_rows.specs.declared.target.Target.{Target}

-- the pairs of a source's targets that aren't among the others
abbrev pub row_without : List ℕ → List Target → List Target → List Pair
row_without from targets others =
    map (λ target. pair from target.to)
    (filter (λ target. not (has_target others target.to)) targets)

-- the pairs of these sources' rows that aren't in the others
abbrev pub rows_without : List (List ℕ) → List Answer → List Answer → List Pair
rows_without sources rows others =
    flat_map (λ from. row_without from (row_of rows from) (row_of others from)) sources
