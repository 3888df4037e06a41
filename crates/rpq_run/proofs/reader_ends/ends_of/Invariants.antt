use Rattle.std.proofs.Common.{◌≡◌, ◌≤◌, length, take}
use Rattle.std.specs.Vec.{vec_capacity, vec_items}
use Rattle.rpq_run.specs.Outcome.{ends_of}
use Rattle.rpq_run.proofs.reader_ends.ends_of.Given as goal

-- the ends so far are in the list, which has room for all of them
abbrev pub invariant-loop-one : goal.invariant-loop-one
invariant-loop-one g l = record {
  ends : vec_items l.ends ≡ ends_of (take l.one-index l.readers);
  room : length l.readers ≤ vec_capacity l.ends;
}
