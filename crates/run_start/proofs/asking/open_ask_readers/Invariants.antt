use Rattle.std.proofs.Common.{◌≡◌, ◌++◌, [], map, take, None, length}
use Rattle.std.specs.Prelude.{All}
use Rattle.std.specs.Vec.{vec_items}
use Rattle.std.specs.Vec.Iter.{into_iter_items, into_iter_len}
use Rattle.live_asks.specs.Readers.{IsNewAskReader}
use Rattle.run_start.specs.Given.{file_names, replies_names, sinks_with_faults}
use Rattle.run_start.specs.Steps.{IsUnread, UsesMore}
use Rattle.run_start.proofs.asking.open_ask_readers.Given as goal

-- the readers of the sources so far are made, each with a sink of its own
abbrev pub invariant-loop-source : goal.invariant-loop-source
invariant-loop-source g l = record {
  next : (goal.iterator-loop-source g).can_next l.source-iterator;
  finite : (goal.iterator-loop-source g).is_finite l.source-iterator;
  left_over : into_iter_len l.source-iterator ≡ length (into_iter_items l.source-iterator);
  sources : map (λ one. one.reader.source) l.readers.items ++ into_iter_items l.source-iterator
      ≡ vec_items l.fn.sources;
  unread : All (IsUnread g.F.Source.Source.has_told_end g.F.Source.Source.faults)
      (into_iter_items l.source-iterator);
  new : All (IsNewAskReader g.F.Source.Source.left g.F.Source.Source.faults
      g.F.Sink.Sink.written g.F.Sink.Sink.faults) l.readers.items;
  files : (first : g.row.F.Denot)
      → UsesMore g.F.Files.holds g.F.Files.opened g.F.Files.made g.F.Files.unread g.F.Files.unmade
      l.chosen (file_names l.chosen) [] (sinks_with_faults l.chosen) None first l.fn.files
      → UsesMore g.F.Files.holds g.F.Files.opened g.F.Files.made g.F.Files.unread g.F.Files.unmade
      l.chosen (file_names l.chosen) []
      (sinks_with_faults l.chosen ++ take (length l.readers.items) (replies_names l.chosen)) None first
      l.files;
}
