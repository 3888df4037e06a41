use Rattle.std.proofs.Common.{refl}
use Rattle.std.proofs.lemmas.Bool.{false≢true}
use Rattle.rpq_model.specs.declared.mode.Mode.TheVariants.{Arbitrary, Simple}
use Rattle.rpq_model.proofs.answer_laws.modes_are_told_apart.Goals as goal

pub returns-clause-equality : goal.returns-clause-equality
returns-clause-equality c = elim [
  | Arbitrary ↦ elim [ Arbitrary ↦ (λ e. refl, λ e. refl) | Simple ↦ (λ e. absurd (false≢true e), λ e. cc) ]
  | Simple ↦ elim [ Arbitrary ↦ (λ e. absurd (false≢true e), λ e. cc) | Simple ↦ (λ e. refl, λ e. refl) ]
]
