use Rattle.join_bindings.proofs.Vertices.{key_is}
use Rattle.join_bindings.proofs.rows.VertexRows.take.Goals as goal

pub returns-clause-key : goal.returns-clause-key
returns-clause-key c = key_is c.swap_remove_entry.result c.self.inside.rows.entries c.as_bytes.result.now c.args.vertex.now c.as_bytes.ensures.bytes
    c.swap_remove_entry.ensures.key
