use Rattle.std.proofs.Common.{List, Some, refl, ap, codes}
use Rattle.std.specs.Fmt.{digits}
use Rattle.rpq_base.specs.declared.data.Event.{Event}
use Rattle.standing.specs.Said.{numbers_text}
use Rattle.standing.proofs.roll.Roll.new.Goals as goal

pub returns : goal.returns
unfolding numbers_text digits
returns c = record {
  wanted = c.new.ensures.wanted;
  numbers = c.new.ensures.numbers;
  heard = ap (λ (events : List Event). Some events) c.new-2.ensures.items;
  said = ap (numbers_text (codes "roll")) c.new.ensures.numbers;
  gone = refl;
}
