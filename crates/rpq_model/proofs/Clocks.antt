-- The clock of a history, and the times of its entries.
use Rattle.std.proofs.Common.{◌≡◌, ℕ, zero, suc, ◌≤◌, max, List, [], ◌∷◌, map, fold, Some, ap, arith}
use Rattle.std.specs.Prelude.{slice_get}
use Rattle.std.proofs.lemmas.Option.{none-some, same_Some}
use Rattle.rpq_base.specs.declared.data.Entry.{Entry}

at_least_first : (times : List ℕ) (first : ℕ) → first ≤ fold max first times
at_least_first [] first = omega arith
at_least_first (time ∷ times) first =
    let more = at_least_first times (max first time) in omega (arith, more)

-- the time of each entry is at most the clock
pub at_most_clock : (entries : List Entry) (place : ℕ) (entry : Entry) (first : ℕ) →
    slice_get entries place ≡ Some entry →
    entry.tuple.time ≤ fold max first (map (λ each. each.tuple.time) entries)
at_most_clock [] place entry first there = absurd (none-some entry there)
at_most_clock (one ∷ entries) zero entry first there =
    let is = ap (λ (each : Entry). each.tuple.time) (same_Some one entry there) in
    let more = at_least_first (map (λ (each : Entry). each.tuple.time) entries)
    (max first one.tuple.time) in
    omega (arith, is, more)
at_most_clock (one ∷ entries) (suc place) entry first there =
    at_most_clock entries place entry (max first one.tuple.time) there
