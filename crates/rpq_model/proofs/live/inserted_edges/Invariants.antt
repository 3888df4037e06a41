use Rattle.std.proofs.Common.{◌≡◌, map, take}
use Rattle.rpq_model.specs.Window.{inserted_edges}
use Rattle.rpq_model.specs.Live.{placed_entry}
use Rattle.rpq_model.specs.Relations.{values}
use Rattle.rpq_model.proofs.live.inserted_edges.Given as goal

-- the edges of the entries so far are found
abbrev pub invariant-loop-each : goal.invariant-loop-each
invariant-loop-each l = values l.edges.items ≡ inserted_edges (map placed_entry (take l.each-index l.live))
