use Rattle.std.proofs.Common.{◌∙◌}
use Rattle.answer_rows.proofs.Places.{found_is_has}
use Rattle.answer_rows.proofs.target.has_target.Goals as goal

pub returns : goal.returns
returns c =
    c.is_ok.ensures.value
    ∙ found_is_has c.place_of.result c.args.targets.now c.args.to.now c.requires c.place_of.ensures.within c.place_of.ensures.place
