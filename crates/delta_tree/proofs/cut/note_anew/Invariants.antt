use Rattle.std.proofs.Common.{◌≡◌, ◌+◌, ◌≤◌, length}
use Rattle.delta_tree.proofs.Queue.{AreNotedFirst}
use Rattle.delta_tree.proofs.cut.note_anew.Given as goal

-- the first of the nodes are noted, and there is room for the others
abbrev pub invariant-loop-place : goal.invariant-loop-place
invariant-loop-place l = record {
  noted : AreNotedFirst l.nodes l.dues.items l.place;
  count : length l.dues.items ≡ l.place;
  room : length l.nodes ≤ l.place + l.dues.room;
}
