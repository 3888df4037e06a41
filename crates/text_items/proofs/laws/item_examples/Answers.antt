use Rattle.text_items.proofs.Worked.{item_examples}
use Rattle.text_items.proofs.laws.item_examples.Goals as goal

pub returns : goal.returns
returns c = item_examples
