use Rattle.rpq_text.proofs.Orders.{least_are_shortest, word_order}
use Rattle.rpq_text.proofs.laws.least_are_shortest.Goals as goal

pub returns-clause-shortest : goal.returns-clause-shortest
returns-clause-shortest g c = least_are_shortest (g.L.Language.contains c.args.language.now)

pub returns-clause-words : goal.returns-clause-words
returns-clause-words g c = word_order
