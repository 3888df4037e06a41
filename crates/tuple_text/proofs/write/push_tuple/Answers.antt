use Rattle.tuple_text.specs.Written.{IsStreamTuple}
use Rattle.tuple_text.proofs.write.push_tuple.Goals as goal
use Rattle.std.proofs.Common.{rules}

pub returns-clause-read : goal.returns-clause-read
returns-clause-read c =
    let stream : IsStreamTuple c.args.tuple.now = search rules in
    c.written_is_read.ensures c.args.tuple.now stream
