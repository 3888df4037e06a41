use Rattle.run_start.proofs.OrderOfFiles.{read_in_order, read_whole_in_order, written_in_order}
use Rattle.run_start.proofs.laws.files_are_in_order.Goals as goal

pub returns-clause-read : goal.returns-clause-read
returns-clause-read c = read_in_order

pub returns-clause-whole : goal.returns-clause-whole
returns-clause-whole c = read_whole_in_order

pub returns-clause-written : goal.returns-clause-written
returns-clause-written c = written_in_order
