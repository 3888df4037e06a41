use Rattle.std.proofs.Common.{take}
use Rattle.index_laws.specs.LawsOfPaths.{HaveNumbers}
use Rattle.query_index.proofs.paths.edges_of.Given as goal

-- the edges so far
abbrev pub invariant-loop-id : goal.invariant-loop-id
invariant-loop-id l = HaveNumbers l.names l.dfa l.path.items (take l.id-index l.ids)
