use Rattle.text_items.proofs.Longest.{limit_examples}
use Rattle.text_items.proofs.laws.limit_examples.Goals as goal

pub returns : goal.returns
returns g c = limit_examples (g.L.LineItems.reading c.args.lines.now)
