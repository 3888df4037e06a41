-- Rows that are looked through for those that no window holds.
use Rattle.std.proofs.Common.{◌≡◌, ℕ, Bool, true, false, List, Option, Some, None, cond, refl, ap, ◌∙◌, filter}
use Rattle.std.specs.Prelude.{if◌then◌else◌}
use Rattle.std.specs.List.{IsDistinct}
use Rattle.std.specs.Map.{lookup, keys_of}
use Rattle.std.proofs.lemmas.Map.Entries.{option_filter, lookup-filter-values}
use Rattle.rpq_base.specs.Same.{same_edge}
use Rattle.rpq_base.specs.declared.data.Edge.{Edge}
use Rattle.path_witness.specs.declared.mark.Mark.{Mark}
use Rattle.path_witness.specs.Keys.{edges_equivalence}
use Rattle.path_witness.specs.Taking.{lasts, lasting, LeavesOut}

-- whether the marks of a row last
abbrev pub row_lasts : ℕ → Edge × List Mark → Bool
row_lasts now row = lasts now row.1

-- what a test keeps is what lasts
kept_is : (now : ℕ) (found : Option (List Mark)) → option_filter (lasts now) found ≡ lasting now found
kept_is now None = refl
kept_is now (Some marks) = chosen (lasts now marks)
  where
    chosen : (test : Bool) → cond test (Some marks) None ≡ (if test then Some marks else None)
    chosen true = refl
    chosen false = refl

-- the rows that last are kept
pub past_forgotten : (now : ℕ) (rows kept : List (Edge × List Mark)) → IsDistinct same_edge (keys_of rows) →
    kept ≡ filter (row_lasts now) rows → LeavesOut now rows kept
past_forgotten now rows kept apart is edge =
    ap (lookup (same_edge edge)) is
    ∙ (lookup-filter-values edges_equivalence (lasts now) edge rows apart ∙ kept_is now (lookup (same_edge edge) rows))
