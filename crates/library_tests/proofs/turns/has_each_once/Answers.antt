use Rattle.std.proofs.Common.{◌≡◌, ℕ, ◌+◌, List, length, get_or, None}
use Rattle.std.proofs.Common.{refl, sym, ap, subst, ◌∙◌, arith}
use Rattle.std.proofs.lemmas.List.FromFn.{get_or-map-range_with_len, length-map-range_with_len}
use Rattle.library_tests.specs.declared.turns.BookEntry.{BookEntry}
use Rattle.turn_lock.specs.Passes.{PassValue, newcomer}
use Rattle.turn_lock.proofs.AllPasses.{all_by_place}
use Rattle.library_tests.proofs.turns.has_each_once.Goals as goal

abbrev Each : Type 0
Each = PassValue BookEntry (Unit {0})

pub share-requires-clause-three : goal.share-requires-clause-three
share-requires-clause-three g c κs within =
    let new : ℕ → Each = newcomer c.in-Ok.turns.id tt in
    ap (λ (all : List Each). length all) c.in-Ok.ensures.newcomers
    ∙ length-map-range_with_len new 0 3

pub share-requires-clause-passes : goal.share-requires-clause-passes
share-requires-clause-passes g c κs within i d below =
    let turns = c.in-Ok.turns.id in
    let new : ℕ → Each = newcomer turns tt in
    let place : 0 + i ≡ i = omega arith in
    subst (λ (pass : Each). ((pass.id ≡ turns) × (pass.found ≡ None)) × (pass.number ≡ i))
    (sym (ap (λ (all : List Each). get_or all i d) c.in-Ok.ensures.newcomers
    ∙ get_or-map-range_with_len new 0 3 i i d below place))
    ((refl, refl), refl)

pub close-requires-clause-all : goal.close-requires-clause-all
close-requires-clause-all g c =
    let came = c.share.ensures in
    all_by_place c.in-Ok.turns.passes c.share.new.passes.items
    (c.in-Ok.ensures.passes ∙ sym came.three)
    (λ i d below. (came.passes i d (omega (arith, came.three, below))).1)
