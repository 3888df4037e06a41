use Rattle.std.proofs.Common.{take, []}
use Rattle.path_engine.proofs.Each.{AreIndexes}
use Rattle.path_engine.proofs.indexes.indexes_of.Given as goal

-- the queries so far have their indexes
abbrev pub invariant-loop-query : goal.invariant-loop-query
invariant-loop-query l = AreIndexes [] 0 [] (take l.query-index l.queries) l.indexes.items
