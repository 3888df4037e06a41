use Rattle.std.proofs.Common.{refl}
use Rattle.std.specs.Fmt.{digits}
use Rattle.standing.specs.Said.{numbers_text, event_text, tail_text}
use Rattle.standing.proofs.laws.text_examples.Goals as goal

pub returns : goal.returns
unfolding digits numbers_text event_text tail_text
returns c = record { tally = refl; roll = refl; none = refl; gains = refl; loss = refl; last = refl; few = refl }
