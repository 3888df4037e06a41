-- The changes of bindings that the entries of a history bring, and those of its first entries.
use Rattle.std.proofs.Common.{◌≡◌, ℕ, zero, suc, Bool, false, List, [], ◌∷◌, ◌++◌, map}
use Rattle.std.proofs.Common.{take, refl, ap₂, subst}
use Rattle.join_bindings.specs.declared.event.JoinEvent.{JoinEvent}
use Rattle.join_bindings.specs.Histories.{AreJoinEventsFrom, AreJoinEventsOn, JoinsHoldBindings}
use Rattle.join_file.specs.Joins.{JoinValue}
use Rattle.join_bindings.specs.JoinText.{join_lines}
use Rattle.rpq_base.specs.declared.data.Entry.{Entry}
use Rattle.rpq_model.specs.Query.{Query}
use Rattle.two_way.specs.TwoWay.{walked}
use Rattle.entry_steps.specs.Laws.{FrontsHoldBindings, StepsHaveJoinEvents}
use Rattle.entry_steps.specs.Steps.{OptionsValue, StepValue, AreStepsFrom, lines_of}

-- the steps of the entries that follow a history have the lines of their changes
steps_have_changes : (later before : List Entry) (options : OptionsValue) (queries : List Query)
    (steps : List StepValue) → options.two_way ≡ false →
    AreStepsFrom options queries before later steps →
    (changes : List (List JoinEvent))
    × AreJoinEventsOn queries options.joins before later changes
    × (lines_of steps ≡ map (join_lines options.joins) changes)
steps_have_changes [] before options queries [] forwards are = ([], tt, refl)
steps_have_changes [] before options queries (step ∷ rest) forwards are = absurd are
steps_have_changes (entry ∷ later) before options queries [] forwards are = absurd are
steps_have_changes (entry ∷ later) before options queries (step ∷ rest) forwards are =
    let after = before ++ entry ∷ [] in
    let own = are.0.joined in
    let more = steps_have_changes later after options queries rest forwards are.1 in (
      own.changes ∷ more.0,
      (
        subst (λ (two_way : Bool). AreJoinEventsFrom queries options.joins
            (walked two_way before) (walked two_way after) own.changes) forwards own.are,
        more.1,
      ),
      ap₂ (λ (line : List ℕ) (lines : List (List ℕ)). line ∷ lines) own.lines_are more.2,
    )

pub have_join_events : StepsHaveJoinEvents
have_join_events options queries history steps forwards are =
    steps_have_changes history [] options queries steps forwards are

-- the first entries have the first lists of changes
changes_fronts : (later : List Entry) (changes : List (List JoinEvent)) (count : ℕ)
    (queries : List Query) (joins : List JoinValue) (before : List Entry) →
    AreJoinEventsOn queries joins before later changes →
    AreJoinEventsOn queries joins before (take count later) (take count changes)
changes_fronts [] [] zero queries joins before are = tt
changes_fronts [] [] (suc count) queries joins before are = tt
changes_fronts [] (own ∷ rest) count queries joins before are = absurd are
changes_fronts (entry ∷ later) [] count queries joins before are = absurd are
changes_fronts (entry ∷ later) (own ∷ rest) zero queries joins before are = tt
changes_fronts (entry ∷ later) (own ∷ rest) (suc count) queries joins before are =
    (are.0, changes_fronts later rest count queries joins (before ++ entry ∷ []) are.1)

pub fronts_bind : JoinsHoldBindings → FrontsHoldBindings
fronts_bind hold queries joins number join history changes there sound some are count names =
    hold queries joins number join (take count history) (take count changes) there sound some
    (changes_fronts history changes count queries joins [] are) names
