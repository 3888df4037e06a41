use Rattle.place_table.proofs.Entered.{less_up}
use Rattle.place_table.proofs.entries.take_out.Goals as goal

pub returns-in-Some : goal.returns-in-Some
returns-in-Some g c =
    less_up c.args.map.now c.remove_at.new.self c.args.key c.in-Some.place
    c.in-Some.ensures.place c.in-Some.ensures.once c.remove_at.ensures
