use Rattle.join_bindings.proofs.Vertices.{put_in}
use Rattle.join_bindings.proofs.vertex_set.insert.Goals as goal

pub returns : goal.returns
returns c =
    put_in c.args.many.now.keys c.insert.new.self.keys c.in_ok-of.field-0 c.args.name.now c.in_ok-of.ensures c.in_ok-insert.ensures.updates.0
