use Rattle.place_table.proofs.Found.{takes_nothing}
use Rattle.place_table.proofs.places.Places.take.Goals as goal

pub returns-in_default-clause-taken : goal.returns-in_default-clause-taken
returns-in_default-clause-taken c =
    takes_nothing c.args.self.now c.args.root c.args.id c.in_default.ensures
