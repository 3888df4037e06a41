use Rattle.std.proofs.Common.{◌≡◌, ◌≤◌, ◌-◌, false, length, vec_len}
use Rattle.std.specs.Io.KnownBytes.{prepend_known}
use Rattle.rpq_io.proofs.whole.read_all.Given as goal

-- the bytes so far are those that the source gave, and no more than may be; no read failed, and
-- none told the end
abbrev pub invariant-loop-buffer : goal.invariant-loop-buffer
invariant-loop-buffer g l = record {
  within : length l.bytes.items ≤ l.byte_limit;
  taken : g.S.Source.left l.initial.source ≡ prepend_known l.bytes.items (g.S.Source.left l.source);
  whole_buffer : length l.buffer ≡ 4096;
  untold : g.S.Source.has_told_end l.source ≡ false;
  quiet : g.S.Source.faults l.source ≡ g.S.Source.faults l.initial.source;
}

abbrev pub decreases-loop-buffer : goal.decreases-loop-buffer
decreases-loop-buffer g l = l.byte_limit - vec_len l.bytes
