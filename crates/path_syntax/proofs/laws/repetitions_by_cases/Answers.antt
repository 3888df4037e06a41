use Rattle.path_syntax.specs.Language.{In}
use Rattle.path_syntax.proofs.Stars.{repeated_cases, repeated_from_cases}
use Rattle.path_syntax.proofs.laws.repetitions_by_cases.Goals as goal

pub returns : goal.returns
returns c body word = record {
  star = (repeated_cases (In body) word, repeated_from_cases (In body) word);
  plus = (λ h. h, λ h. h);
  opt = (λ h. h, λ h. h);
}
