use Rattle.text_items.proofs.ByParts.{by_parts}
use Rattle.text_items.proofs.laws.text_by_parts.Goals as goal

pub returns : goal.returns
returns g c = by_parts (g.L.LineItems.reading c.args.lines.now)
