use Rattle.std.proofs.Common.{rules}
use Rattle.query_index.proofs.Flagged.{adds_one, flagged_more}
use Rattle.query_index.proofs.root_list.RootList.add.Goals as goal

pub invariant_of-self-2 : goal.invariant_of-self-2
invariant_of-self-2 c =
    flagged_more c.self.inside.roots.items c.push.new.self.items c.self.inside.flags.items
    c.reach.new.flags.items c.args.root c.self.invariant c.in_ok-push.ensures.items
    c.reach.ensures.same c.in_ok-reach.ensures.long (search rules)

pub returns-clause-added : goal.returns-clause-added
returns-clause-added c =
    adds_one c.args.self.now c.push.new.self.items c.args.root (search rules)
