use Rattle.query_file.proofs.InOrder.{faults_in_order}
use Rattle.query_file.proofs.laws.faults_in_order.Goals as goal

pub returns : goal.returns
returns c = faults_in_order
