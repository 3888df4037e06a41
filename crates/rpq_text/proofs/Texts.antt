-- The text of a history with one entry more, and of a longer history.
use Rattle.std.proofs.Common.{◌≡◌, ℕ, ◌+◌, List, [], ◌∷◌, ◌++◌, length, refl, ap, sym, subst, ◌∙◌}
use Rattle.std.proofs.Common.{append_assoc, arith}
use Rattle.std.proofs.lemmas.List.{append-nil}
use Rattle.join_bindings.specs.HaveJoinEvents.{HaveJoinEvents}
use Rattle.rpq_base.specs.declared.data.Entry.{Entry}
use Rattle.rpq_model.specs.Query.{Query}
use Rattle.entry_steps.specs.Laws.{EveryEntryHasAStep}
use Rattle.rpq_text.specs.Laws.{EveryHistoryHasAText, WithoutPathsOneText}
use Rattle.entry_steps.specs.Steps.{OptionsValue, StepValue, IsStep, CanRun}
use Rattle.rpq_text.specs.Text.{block, blocks_from, IsText}
use Rattle.entry_steps.proofs.StepLists.{steps_as_many, steps_push, steps_are_one}

-- the blocks of one entry more
blocks_push : (later : List Entry) (steps : List StepValue) (queries : List Query) (position : ℕ)
    (entry : Entry) (step : StepValue) → length later ≡ length steps →
    blocks_from queries position (later ++ entry ∷ []) (steps ++ step ∷ [])
    ≡ blocks_from queries position later steps
    ++ block queries (position + length later) entry step
blocks_push [] [] queries position entry step as_many =
    let here : position ≡ position + 0 = omega arith in
    append-nil (block queries position entry step)
    ∙ ap (λ (n : ℕ). block queries n entry step) here
blocks_push [] (own ∷ rest) queries position entry step as_many = absurd cc
blocks_push (next ∷ later) [] queries position entry step as_many = absurd cc
blocks_push (next ∷ later) (own ∷ rest) queries position entry step as_many =
    let fewer : length later ≡ length rest = omega (arith, as_many) in
    let there : (position + 1) + length later ≡ position + length (next ∷ later) = omega arith in
    ap (λ (t : List ℕ). block queries position next own ++ t)
    (blocks_push later rest queries (position + 1) entry step fewer)
    ∙ (sym (append_assoc (block queries position next own)
    (blocks_from queries (position + 1) later rest)
    (block queries ((position + 1) + length later) entry step))
    ∙ ap (λ (n : ℕ). (block queries position next own
    ++ blocks_from queries (position + 1) later rest) ++ block queries n entry step) there)

-- the text of a history, and the block of the entry that follows it
pub text_push : (options : OptionsValue) (queries : List Query) (history : List Entry)
    (text : List ℕ) (entry : Entry) (step : StepValue) → IsText options queries history text →
    IsStep options queries history (history ++ entry ∷ []) step →
    IsText options queries (history ++ entry ∷ [])
    (text ++ block queries (length history + 1) entry step)
text_push options queries history text entry step is_text brings =
    let steps = is_text.0 in
    let many = sym (steps_as_many history [] options queries steps is_text.1) in
    let position : length history + 1 ≡ 1 + length history = omega arith in (
      steps ++ step ∷ [],
      steps_push history steps options queries [] entry step is_text.1 brings,
      ap (λ (t : List ℕ). t ++ block queries (length history + 1) entry step) is_text.2
          ∙ (ap (λ (n : ℕ). blocks_from queries 1 history steps ++ block queries n entry step)
          position
          ∙ sym (blocks_push history steps queries 1 entry step many)),
    )

-- a text of a history is at the front of one of each longer history
pub text_goes_on : EveryEntryHasAStep → (more : List Entry) (options : OptionsValue)
    (queries : List Query) → CanRun options queries → (history : List Entry) (text : List ℕ) →
    IsText options queries history text →
    (rest : List ℕ) × IsText options queries (history ++ more) (text ++ rest)
text_goes_on have [] options queries all history text is_text = (
  [],
  subst (λ (h : List Entry). IsText options queries h (text ++ [])) (sym (append-nil history))
      (subst (IsText options queries history) (sym (append-nil text)) is_text),
)
text_goes_on have (entry ∷ more) options queries all history text is_text =
    let found = have options queries all history entry in
    let next = block queries (length history + 1) entry found.0 in
    let later = text_goes_on have more options queries all (history ++ entry ∷ []) (text ++ next)
    (text_push options queries history text entry found.0 is_text found.1) in (
      next ++ later.0,
      subst (λ (h : List Entry). IsText options queries h (text ++ (next ++ later.0)))
          (append_assoc history (entry ∷ []) more)
          (subst (IsText options queries ((history ++ entry ∷ []) ++ more))
          (append_assoc text next later.0) later.1),
    )

-- the empty history has the empty text
pub no_text : (options : OptionsValue) (queries : List Query) → IsText options queries [] []
no_text options queries = ([], tt, refl)

-- each history has a text
pub every_text : EveryEntryHasAStep → EveryHistoryHasAText
every_text have options queries all history =
    text_goes_on have history options queries all [] [] (no_text options queries)

-- and one alone, where no paths are told
pub one_text : HaveJoinEvents → WithoutPathsOneText
one_text have options queries silent sound history text other is_text other_is =
    other_is.2
    ∙ (ap (blocks_from queries 1 history)
    (steps_are_one have history [] options queries other_is.0 is_text.0 silent sound other_is.1
    is_text.1)
    ∙ sym is_text.2)
