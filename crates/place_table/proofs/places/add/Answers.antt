use Rattle.std.proofs.Common.{arith}
use Rattle.place_table.proofs.Found.{made_same, made_there}
use Rattle.place_table.proofs.places.add.Goals as goal

pub returns-clause-same : goal.returns-clause-same
returns-clause-same c =
    made_same c.args.places.now.items c.push.new.self.items c.new.result
    c.in_ok-push.ensures.items c.new.ensures.nodes

pub returns-clause-there : goal.returns-clause-there
returns-clause-there c =
    made_there c.args.places.now.items c.push.new.self.items c.new.result c.args.id
    c.len-at.result c.in_ok-push.ensures.items
    (omega (arith, c.len-at.ensures, c.args.places.now.ok.0)) c.new.ensures.id
