use Rattle.std.proofs.Common.{refl, ap, codes, ◌∙◌}
use Rattle.std.specs.Fmt.{digits}
use Rattle.standing.specs.Said.{numbers_text}
use Rattle.standing.proofs.tally.Tally.all.Goals as goal

pub returns : goal.returns
unfolding numbers_text digits
returns c = record {
  wanted = c.new.ensures.wanted ∙ c.in_ok-queries.ensures;
  numbers = c.new.ensures.numbers;
  heard = refl;
  said = ap (numbers_text (codes "tally")) c.new.ensures.numbers;
  gone = refl;
}
