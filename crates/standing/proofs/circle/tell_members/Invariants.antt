use Rattle.std.proofs.Common.{◌+◌, ◌-◌, ◌≤◌, map, vec_len, vec_capacity}
use Rattle.standing.specs.Circles.{circle_value}
use Rattle.standing.proofs.Telling.{SoFar}
use Rattle.standing.proofs.circle.tell_members.Given as goal

abbrev pub invariant-loop-place : goal.invariant-loop-place
invariant-loop-place g l =
    SoFar l.event (circle_value (map g.S.Standing.seen l.initial.members.items) (map g.S.Standing.seen l.initial.left.items))
    (circle_value (map g.S.Standing.seen l.members.items) (map g.S.Standing.seen l.left.items)) l.place
    × (vec_len l.members + vec_len l.left ≤ vec_capacity l.left)

abbrev pub decreases-loop-place : goal.decreases-loop-place
decreases-loop-place g l = vec_len l.members - l.place
