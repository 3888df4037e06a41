-- What the workers of streams are given.
use Rattle.std.specs.Prelude.{ℕ, List, [], ◌∷◌, map, replicate, None, Some, Option, IfSome}
use Rattle.rpq_io.specs.Files.{IsNewSink}
use Rattle.stream_tuples.specs.Progress.{IsNewReader}
use Rattle.stream_threads.specs.declared.stream_input.StreamInput.{StreamInput}

-- where the faulty lines of so many streams go, in the order of the streams, if these sinks are
-- given: each stream has one, or there is none
abbrev pub sinks_for : {K : Type 0} → ℕ → List K → List (Option K)
sinks_for count [] = replicate count None
sinks_for count (sink ∷ sinks) = map Some (sink ∷ sinks)

-- nothing of the stream was taken and no read of it failed; nothing is written on the sink of its
-- faulty lines, if it has one, and no write failed
abbrev pub IsNewInput : {S K : Type 0} → ℕ → (S → Option (List ℕ)) → (S → ℕ) →
    (K → Option (List ℕ)) → (K → ℕ) → StreamInput S K → Type 0
IsNewInput cap left faults written failures input =
    IsNewReader cap left faults input.reader × IfSome input.faults (IsNewSink written failures)
