use Rattle.std.proofs.Common.{◌≡◌, ◌≤◌, ◌++◌, [], take, None, length}
use Rattle.std.specs.Prelude.{All}
use Rattle.rpq_io.specs.Files.{IsNewSink}
use Rattle.rpq_words.specs.Views.{faults_of}
use Rattle.run_start.specs.Given.{file_names, own_sink_names}
use Rattle.run_start.specs.Steps.{UsesMore}
use Rattle.run_start.proofs.sinks.open_fault_sinks.Given as goal

-- the sinks of the streams so far are opened, each file once
abbrev pub invariant-loop-place : goal.invariant-loop-place
invariant-loop-place g l = record {
  names : l.name-items ≡ faults_of l.chosen;
  few : length (faults_of l.chosen) ≤ 64;
  many : length l.sinks.items ≡ l.place;
  new : All (IsNewSink g.F.Sink.Sink.written g.F.Sink.Sink.faults) l.sinks.items;
  files : (first : g.row.F.Denot)
      → UsesMore g.F.Files.holds g.F.Files.opened g.F.Files.made g.F.Files.unread g.F.Files.unmade
      l.chosen (file_names l.chosen) [] (own_sink_names l.chosen) None first l.fn.files
      → UsesMore g.F.Files.holds g.F.Files.opened g.F.Files.made g.F.Files.unread g.F.Files.unmade
      l.chosen (file_names l.chosen) []
      (own_sink_names l.chosen ++ take l.place (faults_of l.chosen)) None first l.files;
}
