use Rattle.std.proofs.Common.{◌≡◌, [], map, take, None}
use Rattle.std.specs.Prelude.{All}
use Rattle.rpq_words.specs.Views.{readers_of}
use Rattle.run_start.specs.Given.{asks_names, names_with_streams}
use Rattle.run_start.specs.Steps.{IsUnread, UsesMore}
use Rattle.run_start.proofs.asking.open_asks.Given as goal

-- what the readers so far ask is opened, each file once
abbrev pub invariant-loop-place : goal.invariant-loop-place
invariant-loop-place g l = record {
  names : l.names-items ≡ readers_of l.chosen;
  contents : map (g.F.Files.holds l.fn.files) (take l.place (asks_names l.chosen))
      ≡ map g.F.Source.Source.left l.sources.items;
  unread : All (IsUnread g.F.Source.Source.has_told_end g.F.Source.Source.faults) l.sources.items;
  files : UsesMore g.F.Files.holds g.F.Files.opened g.F.Files.made g.F.Files.unread
      g.F.Files.unmade l.chosen (names_with_streams l.chosen) (take l.place (asks_names l.chosen))
      [] None l.fn.files l.files;
}
