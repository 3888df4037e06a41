-- The texts of streams.
use Rattle.std.specs.Prelude.{ℕ, List}
use Rattle.stream_tuples.specs.declared.faults.FaultPolicy.{FaultPolicy}
use Rattle.stream_tuples.specs.Limits.{byte_limit_of}
use Rattle.stream_tuples.specs.StreamText.{StreamTuples, reports_from, tuples_from}

-- the tuples of a stream with this text, and how it ends, by what becomes of its faulty lines,
-- where the history has at most so many entries: where these are at most 2^30, they are those of
-- `stream_tuples`, and else a stream may have more bytes
abbrev pub tuples_within : FaultPolicy → ℕ → List ℕ → StreamTuples
tuples_within policy cap text = tuples_from policy 1 (byte_limit_of cap) text

-- all that is told of the faulty lines of such a stream, where they are told apart
abbrev pub reports_within : ℕ → List ℕ → List ℕ
reports_within cap text = reports_from 1 (byte_limit_of cap) text
