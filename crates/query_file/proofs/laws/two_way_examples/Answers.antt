use Rattle.query_file.proofs.TwoWayExamples as examples
use Rattle.query_file.proofs.laws.two_way_examples.Goals as goal

pub returns : goal.returns
returns c = examples.two_way_examples
