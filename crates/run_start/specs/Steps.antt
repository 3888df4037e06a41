-- What the steps of a run's beginning do. Only private contracts cite this file.
use Rattle.std.specs.Prelude.{◌≡◌, ◌≢◌, ◌⊎◌, ℕ, Bool, false, List, [], ◌∷◌, ◌++◌, length}
use Rattle.std.specs.Prelude.{option_to_list}
use Rattle.std.specs.Prelude.{Option, Some, None, IsSomeAnd, Contains, Err}
use Rattle.rpq_model.specs.Query.{Query}
use Rattle.join_file.specs.declared.fault.JoinFileFaultKind.TheVariants.{Memory as MemoryOfJoins}
use Rattle.join_file.specs.JoinsFile.{joins}
use Rattle.ask_text.specs.declared.fault.AskKind.TheVariants.{Memory as MemoryOfAsks}
use Rattle.ask_text.specs.Asks.{asks}
use Rattle.rpq_io.specs.Counts.{CountsFault, CountsOpening}
use Rattle.rpq_io.specs.Files.{KeepsFiles}
use Rattle.rpq_words.specs.declared.settings.Settings.{Settings}
use Rattle.rpq_words.specs.Views.{faults_of, readers_of}
use Rattle.stream_tuples.specs.History.{IsNumberOf, IsPrefix}
use Rattle.rpq_text.specs.declared.ends.Which.{Which}
use Rattle.rpq_text.specs.declared.ends.Which.TheVariants.{FaultsOf, RepliesOf}
use Rattle.rpq_text.specs.declared.ends.StartFault.{StartFault}
use Rattle.rpq_text.specs.declared.ends.StartFault.TheVariants.{Words, Queries, Joins, Asks}
use Rattle.rpq_text.specs.declared.ends.StartFault.TheVariants.{Open, Read, Long, Memory}
use Rattle.run_start.specs.Files.{IsTooLong}
use Rattle.run_start.specs.Given.{sink_names}
use Rattle.run_start.specs.Start.{AreMade, AreOpened, AreSourcesOf, IsMakingOf, IsOpeningOf}
use Rattle.run_start.specs.Start.{IsRefusedFor, Opens, file_held}
use Rattle.run_start.specs.declared.refusal.Refusal.{Refusal}

-- where each fault may come of the reading of a file whole, by what it holds
abbrev pub IsFaultOfFile : Which → Option (List ℕ) → StartFault → Type 0
IsFaultOfFile which file Words = ⊥
IsFaultOfFile which file (Queries fault) = ⊥
IsFaultOfFile which file (Joins fault) = ⊥
IsFaultOfFile which file (Asks fault) = ⊥
IsFaultOfFile which file (Open other) = other ≡ which
IsFaultOfFile which file (Read other) = other ≡ which
IsFaultOfFile which file (Long other) = (other ≡ which) × IsTooLong file
IsFaultOfFile which file Memory = Unit {0}

-- the names that were opened to read for the file of this name, by why it wasn't taken, if it
-- wasn't: it was opened once, but where that failed
abbrev pub AreNamesOfFile : List ℕ → Option StartFault → List (List ℕ) → Type 0
AreNamesOfFile name None names = names ≡ name ∷ []
AreNamesOfFile name (Some Words) names = names ≡ []
AreNamesOfFile name (Some (Queries fault)) names = names ≡ name ∷ []
AreNamesOfFile name (Some (Joins fault)) names = names ≡ name ∷ []
AreNamesOfFile name (Some (Asks fault)) names = names ≡ name ∷ []
AreNamesOfFile name (Some (Open which)) names = names ≡ []
AreNamesOfFile name (Some (Read which)) names = names ≡ name ∷ []
AreNamesOfFile name (Some (Long which)) names = names ≡ name ∷ []
AreNamesOfFile name (Some Memory) names = IsPrefix names (name ∷ [])

-- a call opens the file of this name, once, to read it as this one, or doesn't take it for this
-- fault; it changes nothing else
pub record OpensFile {F : Type 0} (holds : F → List ℕ → Option (List ℕ))
    (opened made : F → List (List ℕ)) (unread unmade : F → List ℕ → ℕ) (which : Which)
    (name : List ℕ) (start : Option StartFault) (old new : F) : Type 0 where
  pub opens : Opens (AreNamesOfFile name start) (opened old) (opened new)
  pub openings : CountsOpening (IsSomeAnd start (λ fault. fault ≡ Open which)) name
      (unread old) (unread new)
  pub kept : KeepsFiles holds made old new
  pub unmade_stays : (any : List ℕ) → unmade new any ≡ unmade old any

-- the names that were opened to write for the file of this name, if there is one, by why it wasn't
-- opened, if it wasn't
abbrev pub AreNamesOfSink : Option (List ℕ) → Option StartFault → List (List ℕ) → Type 0
AreNamesOfSink name None names = names ≡ option_to_list name
AreNamesOfSink name (Some fault) names = names ≡ []

-- a call opens the file of this name, if there is one, to write it as this one, or doesn't for this
-- fault; it changes nothing else
pub record OpensSink {F : Type 0} (holds : F → List ℕ → Option (List ℕ))
    (opened made : F → List (List ℕ)) (unread unmade : F → List ℕ → ℕ) (which : Which)
    (name : Option (List ℕ)) (start : Option StartFault) (old new : F) : Type 0 where
  pub makes : Opens (AreNamesOfSink name start) (made old) (made new)
  pub makings : (any : List ℕ) → CountsFault
      (IsSomeAnd start (λ fault. (fault ≡ Open which) × (name ≡ Some any)))
      (unmade old any) (unmade new any)
  pub kept : (any : List ℕ) → (made new ≡ made old) ⊎ (name ≢ Some any)
      → holds new any ≡ holds old any
  pub opened_stays : opened new ≡ opened old
  pub unread_stays : (any : List ℕ) → unread new any ≡ unread old any

-- why the bytes of a joins file give no joins over these queries: their fault, which isn't out of
-- memory; or memory ran out
abbrev pub IsFaultOfJoins : List Query → List ℕ → StartFault → Type 0
IsFaultOfJoins queries bytes Words = ⊥
IsFaultOfJoins queries bytes (Queries fault) = ⊥
IsFaultOfJoins queries bytes (Joins fault) =
    (fault.kind ≢ MemoryOfJoins) × (joins queries bytes ≡ Err fault)
IsFaultOfJoins queries bytes (Asks fault) = ⊥
IsFaultOfJoins queries bytes (Open which) = ⊥
IsFaultOfJoins queries bytes (Read which) = ⊥
IsFaultOfJoins queries bytes (Long which) = ⊥
IsFaultOfJoins queries bytes Memory = Unit {0}

-- why the bytes of an asks file give no sessions about these queries: their fault, which isn't out
-- of memory; or memory ran out
abbrev pub IsFaultOfAsks : List Query → List ℕ → StartFault → Type 0
IsFaultOfAsks queries bytes Words = ⊥
IsFaultOfAsks queries bytes (Queries fault) = ⊥
IsFaultOfAsks queries bytes (Joins fault) = ⊥
IsFaultOfAsks queries bytes (Asks fault) =
    (fault.kind ≢ MemoryOfAsks) × (asks queries bytes ≡ Err fault)
IsFaultOfAsks queries bytes (Open which) = ⊥
IsFaultOfAsks queries bytes (Read which) = ⊥
IsFaultOfAsks queries bytes (Long which) = ⊥
IsFaultOfAsks queries bytes Memory = Unit {0}

-- a step refuses the run for a cause that may come there, and leaves the sources of that
pub record IsRefusal {S : Type 0} (left : S → Option (List ℕ)) (faults : S → ℕ)
    (given : Settings) (holds : List ℕ → Option (List ℕ)) (refusal : Refusal S) : Type 0 where
  pub cause : IsRefusedFor given holds refusal.fault
  pub sources : AreSourcesOf left faults (file_held (Some given) holds) refusal.fault
      (option_to_list refusal.source)

-- why a file isn't opened as this one: its opening failed, or memory ran out; no source is left
pub record IsRefusalOfOpening {S : Type 0} (which : Which) (refusal : Refusal S) : Type 0 where
  pub no_source : refusal.source ≡ None
  pub cause : (refusal.fault ≡ Open which) ⊎ (refusal.fault ≡ Memory)

-- nothing of a source was read: it didn't tell its end, and no read of it failed
pub record IsUnread {S : Type 0} (has_told_end : S → Bool) (faults : S → ℕ) (source : S)
    : Type 0 where
  pub untold : has_told_end source ≡ false
  pub no_fault : faults source ≡ 0

-- why so many files, numbered from 1, aren't all opened, each as the one with its number: the
-- opening of one of them failed, or memory ran out; no source is left
pub record IsRefusalOfOne {S : Type 0} (count : ℕ) (which : ℕ → Which) (refusal : Refusal S)
    : Type 0 where
  pub no_source : refusal.source ≡ None
  pub cause : ((number : ℕ) × IsNumberOf count number × (refusal.fault ≡ Open (which number)))
      ⊎ (refusal.fault ≡ Memory)

-- why the sinks of the faulty lines of the streams aren't opened
abbrev pub IsRefusalOfFaults : {S : Type 0} → Settings → Refusal S → Type 0
IsRefusalOfFaults given =
    IsRefusalOfOne (length (faults_of given)) (λ number. FaultsOf number)

-- why those of the replies to the readers beside a run aren't
abbrev pub IsRefusalOfReplies : {S : Type 0} → Settings → Refusal S → Type 0
IsRefusalOfReplies given =
    IsRefusalOfOne (length (readers_of given)) (λ number. RepliesOf number)

-- the names that a step opened to read, before which the run opened others: its own, or those that
-- make the names of a run that doesn't begin for this
abbrev pub AreOpenedBehind : Settings → List (List ℕ) → List (List ℕ) → Option StartFault
    → List (List ℕ) → Type 0
AreOpenedBehind given before own None names = names ≡ own
AreOpenedBehind given before own (Some fault) names =
    AreOpened given (Some fault) (before ++ names)

-- the names that a step opened to write: its own, or those of a run that doesn't begin for this
abbrev pub AreMadeThen : Settings → List (List ℕ) → Option StartFault → List (List ℕ) → Type 0
AreMadeThen given own None names = names ≡ own
AreMadeThen given own (Some fault) names = AreMade given (Some fault) names

-- what a step does to the files, before which the run opened some to read: it opens its own to read
-- and to write, or as many of them as the run does that doesn't begin for this; it changes none but
-- those that are to be written, and that only where it opens one; and no opening failed but the one
-- for which the run doesn't begin
pub record UsesMore {F : Type 0} (holds : F → List ℕ → Option (List ℕ))
    (opened made : F → List (List ℕ)) (unread unmade : F → List ℕ → ℕ) (given : Settings)
    (before to_read to_write : List (List ℕ)) (start : Option StartFault) (old new : F)
    : Type 0 where
  pub opens : Opens (AreOpenedBehind given before to_read start) (opened old) (opened new)
  pub makes : Opens (AreMadeThen given to_write start) (made old) (made new)
  pub kept : (name : List ℕ) → (made new ≡ made old) ⊎ (Contains (sink_names given) name → ⊥)
      → holds new name ≡ holds old name
  pub openings : (name : List ℕ) → CountsFault
      (IsSomeAnd start (λ fault. IsOpeningOf given name fault)) (unread old name) (unread new name)
  pub makings : (name : List ℕ) → CountsFault
      (IsSomeAnd start (λ fault. IsMakingOf given name fault)) (unmade old name) (unmade new name)
