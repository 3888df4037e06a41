use Rattle.std.proofs.Common.{length}
use Rattle.ask_text.proofs.line.read_ask.Goals as goal

pub returns-in-len1-clause-range : goal.returns-in-len1-clause-range
returns-in-len1-clause-range c = c.read_one.ensures.range (length c.args.queries.now)
