use Rattle.std.proofs.Common.{◌≡◌}
use Rattle.rpq_io.specs.Held.{reads_left}
use Rattle.rpq_io.specs.Reader.{Had, HoldsNoAnswer}
use Rattle.rpq_io.proofs.line_reader.LineReader.find_line.Given as goal

-- what was taken so far is held behind what was held before, nothing is taken where an answer was
-- held, and no read failed
abbrev pub invariant-loop-self : goal.invariant-loop-self
invariant-loop-self g l = record {
  had : Had g.S.Source.left l.initial.self l.self l.self.held_bytes;
  counted : l.self.line_count ≡ l.initial.self.line_count;
  line_limit : l.self.line_limit ≡ l.initial.self.line_limit;
  byte_limit : l.self.byte_limit ≡ l.initial.self.byte_limit;
  unread : ¬ HoldsNoAnswer l.initial.self → l.self ≡ l.initial.self;
  quiet : g.S.Source.faults l.self.source ≡ g.S.Source.faults l.initial.self.source;
}

abbrev pub decreases-loop-self : goal.decreases-loop-self
decreases-loop-self g l = reads_left l.self
