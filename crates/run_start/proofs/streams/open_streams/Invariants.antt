use Rattle.std.proofs.Common.{◌≡◌, [], map, take, None}
use Rattle.run_start.specs.Given.{first_names}
use Rattle.run_start.specs.Readers.{AreNewReaders, lefts_of}
use Rattle.run_start.specs.Steps.{UsesMore}
use Rattle.run_start.proofs.streams.open_streams.Given as goal
use Rattle.rpq_words.specs.Views.{cap_of, streams_of}

-- the streams so far are opened, each once, with a new reader
abbrev pub invariant-loop-place : goal.invariant-loop-place
invariant-loop-place g l = record {
  names : l.name-items ≡ streams_of l.chosen;
  contents : map (g.F.Files.holds l.fn.files) (take l.place (streams_of l.chosen))
      ≡ lefts_of g.F.Source.Source.left l.readers.items;
  fresh : AreNewReaders (cap_of l.chosen) g.F.Source.Source.left g.F.Source.Source.faults l.readers.items;
  files : UsesMore g.F.Files.holds g.F.Files.opened g.F.Files.made g.F.Files.unread g.F.Files.unmade
      l.chosen (first_names l.chosen) (take l.place (streams_of l.chosen)) [] None l.fn.files l.files;
}
