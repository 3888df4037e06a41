use Rattle.live_asks.proofs.LineAsks.{lines_ask_by_parts}
use Rattle.live_asks.proofs.laws.lines_ask_by_parts.Goals as goal

pub returns : goal.returns
returns c = lines_ask_by_parts
