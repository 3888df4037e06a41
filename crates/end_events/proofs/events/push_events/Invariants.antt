use Rattle.std.proofs.Common.{◌≡◌, ◌++◌, map, take}
use Rattle.std.specs.List.{All}
use Rattle.rpq_model.specs.Events.{event, without}
use Rattle.source_tree.specs.Ends.{is_gain}
use Rattle.end_events.specs.Named.{named, HasNames}
use Rattle.end_events.specs.Pairs.{pairs_at}
use Rattle.end_events.proofs.events.push_events.Given as goal

-- the events of the pairs so far are added, and have names where those before did
abbrev pub invariant-loop-pair : goal.invariant-loop-pair
invariant-loop-pair l = record {
  added : map (named l.names) l.events.items
      ≡ map (named l.names) l.fn.events.items
      ++ map (event l.query (is_gain l.outcome)) (without (take l.pair-index (pairs_at l.names l.pairs)) (pairs_at l.names l.others));
  have_names : All (HasNames l.names) l.fn.events.items → All (HasNames l.names) l.events.items;
}
