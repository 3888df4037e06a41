use Rattle.std.proofs.Common.{None}
use Rattle.edge_store.specs.Rows.{rows_of}
use Rattle.edge_store.proofs.RowChanges.{writes_same}
use Rattle.edge_store.proofs.rows.EdgeRows.take.Goals as goal

pub returns-clause-rest : goal.returns-clause-rest
returns-clause-rest c =
    writes_same (rows_of c.args.self.now) (rows_of c.take_out-value.new.self) (rows_of c.give_back.new.self)
    c.args.vertex c.args.half None c.take_out-value.ensures.rest c.give_back.ensures
