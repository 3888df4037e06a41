use Rattle.rpq_model.proofs.LiveEdges.{AreFrom}
use Rattle.rpq_model.proofs.live.live_entries.Given as goal

-- the entries from the place on are gone through
abbrev pub invariant-loop-place : goal.invariant-loop-place
invariant-loop-place l = AreFrom l.window l.now l.entries l.place l.live.items l.deleted
