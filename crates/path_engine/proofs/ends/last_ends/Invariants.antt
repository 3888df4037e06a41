use Rattle.std.proofs.Common.{List, take}
use Rattle.query_file.specs.Compiled.{CompiledValue}
use Rattle.path_engine.specs.Ends.{AreAllEndsFor, AreAllFirstEnds}
use Rattle.path_engine.specs.Labels.{IsTableOf}
use Rattle.path_engine.proofs.ends.last_ends.Given as goal

-- the entries so far have their ends
abbrev pub invariant-loop-place : goal.invariant-loop-place
invariant-loop-place l = (queries : List CompiledValue) → IsTableOf queries l.labels →
    AreAllFirstEnds l.names queries l.entries l.first →
    AreAllEndsFor l.names queries (take l.place l.entries) l.found.items
