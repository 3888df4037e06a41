use Rattle.std.proofs.Common.{sym, ◌∙◌}
use Rattle.end_events.proofs.Adding.{gathers_one}
use Rattle.end_events.proofs.pairs.add_pair.Goals as goal

pub returns-in_ok-push : goal.returns-in_ok-push
returns-in_ok-push c =
    let new = c.pair_of.ensures in
    gathers_one c.args.mode c.args.outcome c.args.names.now c.args.each.now c.args.found.now.items c.push.new.self.items c.pair_of.result
    new.root new.vertex new.numbered (sym c.gives_event.ensures ∙ c.if-gives_event.true) c.in_ok-push.ensures.items
