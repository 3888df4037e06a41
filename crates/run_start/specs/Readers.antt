-- The readers of the streams, each of which may read a saved window before its file.
use Rattle.std.specs.Prelude.{ℕ, Bool, true, false, List, map, Option}
use Rattle.std.specs.List.{All}
use Rattle.rpq_io.specs.Reader.{ReaderState}
use Rattle.saved_window.specs.Then.{TwoSources, left_of_both, faults_of_both}
use Rattle.stream_tuples.specs.Progress.{IsNewReader}
use Rattle.run_start.specs.declared.streams.Readers.{Readers}
use Rattle.run_start.specs.declared.streams.Readers.TheVariants.{Alone, Behind}

-- what readers of two sources each have left, one source behind the other
abbrev pub lefts_of : {S : Type 0} → (S → Option (List ℕ)) → List (ReaderState (TwoSources S))
    → List (Option (List ℕ))
lefts_of left readers = map (λ reader. left_of_both left reader.source) readers

-- they read nothing yet, and the history has at most so many entries
abbrev pub AreNewReaders : {S : Type 0} → ℕ → (S → Option (List ℕ)) → (S → ℕ)
    → List (ReaderState (TwoSources S)) → Type 0
AreNewReaders cap left faults readers =
    All (IsNewReader cap (left_of_both left) (faults_of_both faults)) readers

-- what each reader has left
abbrev pub contents_of : {S : Type 0} → (S → Option (List ℕ)) → Readers S
    → List (Option (List ℕ))
contents_of left (Alone readers) = lefts_of left readers.items
contents_of left (Behind readers) = lefts_of left readers.items

-- none of them read anything yet
abbrev pub AreNew : {S : Type 0} → ℕ → (S → Option (List ℕ)) → (S → ℕ) → Readers S → Type 0
AreNew cap left faults (Alone readers) = AreNewReaders cap left faults readers.items
AreNew cap left faults (Behind readers) = AreNewReaders cap left faults readers.items

-- whether a saved window is read before a file
abbrev pub is_behind : {S : Type 0} → Readers S → Bool
is_behind (Alone readers) = false
is_behind (Behind readers) = true
