use Rattle.std.proofs.Common.{◌∙◌}
use Rattle.live_asks.proofs.AskEnds.{ends_asks}
use Rattle.live_asks.proofs.next.next_ask.Goals as goal

pub returns-in-Err-clause-err : goal.returns-in-Err-clause-err
returns-in-Err-clause-err g c =
    ends_asks c.args.queries.now g.S.Source.left c.args.reader.now c.next_item.new.reader
    c.in-Err.end c.end_of.result (c.next_item.ensures.limits ∙ c.requires.limit)
    c.end_of.ensures c.in-Err.ensures.err
