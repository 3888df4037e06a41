use Rattle.std.proofs.Common.{subst}
use Rattle.query_file.specs.Compiled.{IsCompiled}
use Rattle.query_index.proofs.answering.mode_of.Goals as goal

pub returns-clause-compiled : goal.returns-clause-compiled
returns-clause-compiled c = subst IsCompiled c.query.view_is c.query.invariant
