use Rattle.std.proofs.Common.{subst}
use Rattle.std.specs.List.{IsDistinct}
use Rattle.std.specs.Map.{keys_of}
use Rattle.edge_store.specs.Edges.{GivesIns, same_half}
use Rattle.edge_store.specs.Rows.{rows_of, sides}
use Rattle.edge_store.proofs.Sides.{gives_ins}
use Rattle.edge_store.proofs.store.EdgeStore.ins.Goals as goal

pub returns-clause-walk : goal.returns-clause-walk
returns-clause-walk c =
    subst (λ store. GivesIns store c.args.v) c.self.view_is
    (gives_ins (sides (rows_of c.self.inside.outs) (rows_of c.self.inside.ins)) c.args.v c.self.invariant.agree
    (subst (λ entries. IsDistinct same_half (keys_of entries)) c.get.ensures.row c.get.ensures.once))
