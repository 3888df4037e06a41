use Rattle.std.proofs.Common.{◌≡◌, take}
use Rattle.path_engine.specs.Front.{HasAnsweredAll}
use Rattle.path_engine.proofs.Fronts.{items_of}
use Rattle.path_engine.proofs.front.answer_all.Given as goal

-- the entries so far are answered
abbrev pub invariant-loop-place : goal.invariant-loop-place
invariant-loop-place g l = record {
  same : l.share.place ≡ l.fn.share.place;
  answered : HasAnsweredAll l.names (take l.place l.entries) l.fn.share.place l.query
      l.fn.share.index l.share.index (items_of l.owns.items);
}
