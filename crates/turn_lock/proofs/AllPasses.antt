-- Passes in the order of their numbers are all.
use Rattle.std.proofs.Common.{◌≡◌, ℕ, ◌<◌, List, [], ◌∷◌, length, get_or, subst, arith}
use Rattle.std.proofs.lemmas.List.{get_or_default}
use Rattle.turn_lock.specs.Passes.{PassValue, AreAll}

pub all_by_place : {L F : Type 0} (count : ℕ) (passes : List (PassValue L F)) →
    count ≡ length passes →
    ((i : ℕ) (d : PassValue L F) → i < length passes → (get_or passes i d).number ≡ i) →
    AreAll count passes
all_by_place count [] are each number below =
    absurd (let no : ⊥ = omega (arith, below, are) in no)
all_by_place count (first ∷ rest) are each number below =
    let passes = first ∷ rest in
    let pass = get_or passes number first in
    let within : number < length passes = subst (λ (limit : ℕ). number < limit) are below in
    let there = get_or_default passes number pass first within in
    (pass, (number, within, there), each number first within)
