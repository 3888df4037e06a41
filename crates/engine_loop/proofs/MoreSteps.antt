-- The steps of some entries, and those of the entries behind them.
use Rattle.std.proofs.Common.{◌≡◌, List, [], ◌∷◌, ◌++◌, sym, subst, append_assoc}
use Rattle.std.proofs.lemmas.List.{append-nil}
use Rattle.entry_steps.specs.Laws.{EveryEntryHasAStep}
use Rattle.entry_steps.specs.Steps.{OptionsValue, StepValue, CanRun, AreStepsFrom}
use Rattle.rpq_base.specs.declared.data.Entry.{Entry}
use Rattle.rpq_model.specs.Query.{Query}

-- the steps of some entries, and then those of the entries that follow them
pub steps_append : (first : List Entry) (steps : List StepValue) (options : OptionsValue)
    (queries : List Query) (before later : List Entry) (more : List StepValue) →
    AreStepsFrom options queries before first steps →
    AreStepsFrom options queries (before ++ first) later more →
    AreStepsFrom options queries before (first ++ later) (steps ++ more)
steps_append [] [] options queries before later more are then =
    subst (λ (h : List Entry). AreStepsFrom options queries h later more) (append-nil before) then
steps_append [] (one ∷ rest) options queries before later more are then = absurd are
steps_append (next ∷ first) [] options queries before later more are then = absurd are
steps_append (next ∷ first) (one ∷ rest) options queries before later more are then =
    let regrouped : before ++ next ∷ first ≡ (before ++ next ∷ []) ++ first =
    sym (append_assoc before (next ∷ []) first) in (
      are.0,
      steps_append first rest options queries (before ++ next ∷ []) later more are.1
          (subst (λ (h : List Entry). AreStepsFrom options queries h later more) regrouped then),
    )

-- whatever entries follow a history, each has its step
pub have_steps : EveryEntryHasAStep → (later : List Entry) (options : OptionsValue)
    (queries : List Query) → CanRun options queries → (before : List Entry) →
    (steps : List StepValue) × AreStepsFrom options queries before later steps
have_steps have [] options queries can before = ([], tt)
have_steps have (entry ∷ later) options queries can before =
    let own = have options queries can before entry in
    let rest = have_steps have later options queries can (before ++ entry ∷ []) in
    (own.0 ∷ rest.0, (own.1, rest.1))
