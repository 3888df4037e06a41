use Rattle.join_bindings.proofs.Sharing.{FollowSoFar}
use Rattle.join_bindings.proofs.overlap.renew_all.Given as goal

-- those so far follow
abbrev pub invariant-loop-place : goal.invariant-loop-place
invariant-loop-place l = FollowSoFar l.sets l.event l.fn.overlaps.items l.overlaps.items l.place
