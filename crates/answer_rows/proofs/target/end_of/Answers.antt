use Rattle.answer_rows.proofs.Places.{end_at, no_end}
use Rattle.answer_rows.proofs.target.end_of.Goals as goal

pub returns-in-Ok : goal.returns-in-Ok
returns-in-Ok c =
    end_at c.args.targets.now c.in-Ok.place c.index-targets-place.result c.args.to.now c.requires c.in-Ok.ensures.within c.in-Ok.ensures.place

pub returns-in-Err : goal.returns-in-Err
returns-in-Err c = no_end c.args.targets.now c.in-Err.field-0 c.args.to.now c.requires c.in-Err.ensures.place
