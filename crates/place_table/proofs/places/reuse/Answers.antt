use Rattle.std.proofs.Common.{arith}
use Rattle.place_table.proofs.Found.{reused_same, reused_there}
use Rattle.place_table.proofs.places.reuse.Goals as goal

pub returns-clause-same : goal.returns-clause-same
returns-clause-same c =
    reused_same c.args.places.now.items c.args.number c.index.result.now c.index_mut.result.now
    c.rename.new.self (omega (arith, c.if-at-len.false, c.len.ensures, c.args.places.now.ok.0))
    c.index.ensures c.index_mut.ensures.value
    (omega (arith, c.if-len-gt0.false, c.len-else-at-len.ensures.count)) c.rename.ensures.nodes

pub returns-clause-there : goal.returns-clause-there
returns-clause-there c =
    reused_there c.args.places.now.items c.args.number c.index.result.now c.index_mut.result.now
    c.rename.new.self (omega (arith, c.if-at-len.false, c.len.ensures, c.args.places.now.ok.0))
    c.index.ensures c.index_mut.ensures.value c.args.id c.rename.ensures.id
