-- Workers of streams that were started.
use Rattle.std.specs.Prelude.{◌≡◌, ℕ, List, map, Option}
use Rattle.std.specs.List.{range_with_len}
use Rattle.turn_lock.specs.Passes.{PassValue, newcomer}
use Rattle.history_model.specs.declared.line.Line.{Line}
use Rattle.history_model.specs.World.{Terms}
use Rattle.stream_history.specs.History.{HistoryValue}
use Rattle.stream_threads.specs.declared.stream_input.StreamInput.{StreamInput}
use Rattle.stream_threads.specs.declared.stream_worker.StreamResult.{StreamResult}
use Rattle.stream_threads.specs.declared.stream_thread.StreamThread.{StreamThread}
use Rattle.stream_threads.specs.declared.stream_thread.StreamThread.TheVariants.{Running, Done}
use Rattle.stream_threads.specs.Numbered.{AllNumbered}
use Rattle.stream_threads.specs.Streams.{HasStreamed}

-- the new pass of a history with this number
abbrev pub new_pass : HistoryValue → ℕ → PassValue Line Terms
new_pass history number = newcomer history.turns.id history.terms number

-- so many new passes, from this number on
abbrev pub new_passes : HistoryValue → ℕ → ℕ → List (PassValue Line Terms)
new_passes history from count = map (new_pass history) (range_with_len from count)

-- the worker of this input and pass gave this
abbrev pub HasGiven : {S K : Type 0} → (S → Option (List ℕ)) → (S → ℕ) →
    (K → Option (List ℕ)) → (K → ℕ) → HistoryValue → StreamInput S K → PassValue Line Terms →
    StreamResult S K → Type 0
HasGiven left faults written failures history input pass done =
    HasStreamed left faults written failures history input.reader.source input.faults pass
    done.source done.faults done.pass done.end

-- the worker of this input and pass was started, or has ended
abbrev pub IsStarted : {S K : Type 0} → (S → Option (List ℕ)) → (S → ℕ) →
    (K → Option (List ℕ)) → (K → ℕ) → HistoryValue → StreamInput S K → PassValue Line Terms →
    StreamThread S K → Type 0
IsStarted left faults written failures history input pass (Running handle) =
    (handle.promise.history.value ≡ history) × (handle.promise.pass.value ≡ pass)
    × (handle.promise.input.value ≡ input)
IsStarted left faults written failures history input pass (Done done) =
    HasGiven left faults written failures history input pass done

-- the workers of these inputs were started, with new passes from this number on
abbrev pub AreStarted : {S K : Type 0} → (S → Option (List ℕ)) → (S → ℕ) →
    (K → Option (List ℕ)) → (K → ℕ) → HistoryValue → ℕ → List (StreamInput S K) →
    List (StreamThread S K) → Type 0
AreStarted left faults written failures history from inputs started =
    AllNumbered (λ number input one. IsStarted left faults written failures history input
    (new_pass history number) one) from inputs started

-- the workers of these inputs gave this
abbrev pub HaveStreamed : {S K : Type 0} → (S → Option (List ℕ)) → (S → ℕ) →
    (K → Option (List ℕ)) → (K → ℕ) → HistoryValue → ℕ → List (StreamInput S K) →
    List (StreamResult S K) → Type 0
HaveStreamed left faults written failures history from inputs streamed =
    AllNumbered (λ number input one. HasGiven left faults written failures history input
    (new_pass history number) one) from inputs streamed

-- a worker that was started gives this, whatever its history, input and pass were
abbrev pub Gives : {S K : Type 0} → (S → Option (List ℕ)) → (S → ℕ) →
    (K → Option (List ℕ)) → (K → ℕ) → StreamThread S K → StreamResult S K → Type 0
Gives {S} {K} left faults written failures one done =
    (history : HistoryValue) (input : StreamInput S K) (pass : PassValue Line Terms) →
    IsStarted left faults written failures history input pass one →
    HasGiven left faults written failures history input pass done

-- each worker gives what stands at its place
abbrev pub Give : {S K : Type 0} → (S → Option (List ℕ)) → (S → ℕ) →
    (K → Option (List ℕ)) → (K → ℕ) → List (StreamThread S K) → List (StreamResult S K) → Type 0
Give left faults written failures started streamed =
    AllNumbered (λ number one done. Gives left faults written failures one done) 0 started streamed
