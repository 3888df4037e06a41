use Rattle.std.proofs.Common.{Ok, ap}
use Rattle.place_table.proofs.Leaving.{noted_new}
use Rattle.place_table.proofs.noted.raise_node.Goals as goal

pub returns-in-None-clause-noted : goal.returns-in-None-clause-noted
returns-in-None-clause-noted c =
    noted_new c.args.places.now c.raise_at.new.self c.args.dues.now.items c.reserve.new.self.items
    c.note_reserved.new.self.items c.args.spot.root c.args.spot.id c.args.kept c.requires.noted
    c.reserve.ensures.same
    (c.in_ok-shift.ensures.raises c.in-Some.shift (ap (λ found. Ok found) c.in-Some.is)).nodes
    c.note_reserved.ensures
