use Rattle.place_table.proofs.Entered.{looked_up}
use Rattle.place_table.proofs.entries.look_up.Goals as goal

pub returns-in-Some : goal.returns-in-Some
returns-in-Some g c =
    looked_up c.args.map.now c.args.key c.in-Some.place c.at.result c.in-Some.ensures.place
    c.in-Some.ensures.once c.at.ensures
