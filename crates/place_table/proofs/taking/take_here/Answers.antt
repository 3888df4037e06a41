use Rattle.std.proofs.Common.{sym, ◌∙◌}
use Rattle.place_table.proofs.Taken.{none_taken, is_none, taken_there}
use Rattle.place_table.proofs.taking.take_here.Goals as goal

pub returns-then-is_some-clause-taken : goal.returns-then-is_some-clause-taken
returns-then-is_some-clause-taken c place at =
    taken_there c.args.places.now c.take.new.self c.args.number c.args.root c.at.result.now place
    c.id-id.result c.at.ensures.place c.id-id.ensures c.take.ensures.taken at

pub returns-else-is_some-clause-taken : goal.returns-else-is_some-clause-taken
returns-else-is_some-clause-taken c place at =
    taken_there c.args.places.now c.args.places.now c.args.number c.args.root c.at.result.now place
    c.id-id.result c.at.ensures.place c.id-id.ensures
    (none_taken c.args.places.now c.args.root c.id-id.result
    (sym c.get.ensures ∙ is_none c.get.result (sym c.is_some.ensures ∙ c.if-is_some.false))) at
