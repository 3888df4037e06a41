-- Some lines, by going through them.
use Rattle.std.proofs.Common.{refl}
use Rattle.join_bindings.specs.TextExamples.{TextExamples}

pub text_examples : TextExamples
text_examples = record {
  none = λ joins. refl;
  lost_and_gained = λ join is. rw is refl;
}
