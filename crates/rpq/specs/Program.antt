-- What the program does: one run over its words.
use Rattle.std.specs.Prelude.{◌≡◌, ◌≢◌, ℕ, ◌⊎◌, Bool, true, false, List, [], ◌∷◌, Option, Some}
use Rattle.std.specs.Prelude.{None, Result, Ok, Err, IsNone, IfSome, IsSomeAnd, String, codes, ⊤}
use Rattle.std.specs.Global.{Global}
use Rattle.std.specs.Iterator.Runs.{WholeRun}
use Rattle.std.specs.List.{range_with_len}
use Rattle.std.specs.Vec.Iter.{into_iter_steps}
use Rattle.std.specs.declared.vec.IntoIter.{IntoIter}
use Rattle.std.specs.IoError.{error_kind}
use Rattle.std.specs.declared.io.Error.{Error}
use Rattle.std.specs.declared.io.ErrorKind.TheVariants.{OutOfMemory}
use Rattle.standing.specs.New.{IsNewObject}
use Rattle.standing.specs.Objects.{ObjectValue}
use Rattle.rpq_words.specs.declared.settings.RunMode.{RunMode}
use Rattle.rpq_words.specs.declared.settings.RunMode.TheVariants.{Check, Generate, Streams}
use Rattle.rpq_words.specs.declared.settings.Settings.{Settings}
use Rattle.rpq_words.specs.Settings.{settings, texts}
use Rattle.rpq_words.specs.Views.{mode_of}
use Rattle.rpq_text.specs.declared.ends.StartFault.{StartFault}
use Rattle.rpq_text.specs.Statuses.{done_status, memory_status}
use Rattle.run_start.specs.Start.{IsDecided, UsesFiles}
use Rattle.rpq_run.specs.Done.{CanBeDone, NothingFails, NothingRose}
use Rattle.rpq_run.specs.Outcome.{Meanings, Objects, Outcome, Sinks, openings}
use Rattle.rpq_run.specs.Run.{Refuses, Runs}

-- what the system answers when it is asked for the words
abbrev pub Arguments : Type 0
Arguments = Result (IntoIter (String Global) Global) Error

-- the words that these arguments are: all that they give, one after another up to their end; and
-- none if the system gives one that isn't text
abbrev pub AreWords : Arguments → List (String Global) → Type 0
AreWords (Ok arguments) words =
    WholeRun into_iter_steps arguments (λ run. words ≡ run.items)
AreWords (Err error) words = (words ≡ []) × (error_kind error ≢ OutOfMemory)

-- there may be no memory for a run: either the system had none for the words, or it gave them
abbrev pub MayLackMemory : Arguments → Type 0
MayLackMemory (Ok arguments) = ⊤
MayLackMemory (Err error) = error_kind error ≡ OutOfMemory

-- whether tuples are generated in this mode
abbrev pub is_generated : RunMode → Bool
is_generated (Check directions) = false
is_generated (Generate directions count) = true
is_generated (Streams run) = false

-- whether words of these settings, if they have any, ask for generated tuples
abbrev pub makes_tuples : Option Settings → Bool
makes_tuples None = false
makes_tuples (Some given) = is_generated (mode_of given)

-- one object, which counts the events of all queries and heard none yet
abbrev pub IsOneTally : List ObjectValue → Type 0
IsOneTally objects = (tally : ObjectValue) × (objects ≡ tally ∷ [])
    × IsNewObject (range_with_len 0 64) (codes "tally 0 0") None tally

-- the objects that a run is handed: one that counts if tuples are generated, and else none
abbrev pub AreHanded : Bool → List ObjectValue → Type 0
AreHanded true objects = IsOneTally objects
AreHanded false objects = objects ≡ []

-- all that is promised of a run over these words, with these files, sinks and objects
pub record IsRun {F S K : Type 0} (holds : F → List ℕ → Option (List ℕ))
    (opened made : F → List (List ℕ)) (unread unmade : F → List ℕ → ℕ) (means : Meanings S K)
    (words : List (List ℕ)) (old new : F) (sinks : Sinks K) (objects : Objects)
    (start : Option StartFault) (outcome : Outcome S K) : Type 0 where
  pub begun : IsNone start → IsSomeAnd (settings words) (λ given.
      Runs means given (holds old) sinks objects outcome)
  pub refused : IfSome start (Refuses means (settings words) (holds old) sinks objects outcome)
  pub decided : IsDecided (settings words) start
  pub files : UsesFiles holds opened made unread unmade (settings words) start old new
  pub done : outcome.status ≡ done_status → NothingFails means (settings words) (holds old)
      (openings (unread old) (unread new) (unmade old) (unmade new)) sinks outcome
  pub complete : IfSome (settings words) (λ given. CanBeDone given (holds old)
      → NothingRose means given (openings (unread old) (unread new) (unmade old) (unmade new))
      sinks outcome
      → (outcome.status ≡ done_status) ⊎ (outcome.status ≡ memory_status))

-- one run over these words, with these files and sinks, was handed objects of some kind, and has
-- this status
pub record HasRun {F S K : Type 0} (holds : F → List ℕ → Option (List ℕ))
    (opened made : F → List (List ℕ)) (unread unmade : F → List ℕ → ℕ) (means : Meanings S K)
    (words : List (List ℕ)) (old new : F) (sinks : Sinks K)
    (IsHanded : List ObjectValue → Type 0) (status : ℕ) : Type 0 where
  pub objects : Objects
  pub handed : IsHanded objects.before
  pub start : Option StartFault
  pub outcome : Outcome S K
  pub run : IsRun holds opened made unread unmade means words old new sinks objects start outcome
  pub status_is : outcome.status ≡ status

-- the program has one run, over all words of these arguments, and this is its status
pub record RunsOnce {F S K : Type 0} (holds : F → List ℕ → Option (List ℕ))
    (opened made : F → List (List ℕ)) (unread unmade : F → List ℕ → ℕ) (means : Meanings S K)
    (arguments : Arguments) (old new : F) (sinks : Sinks K) (status : ℕ) : Type 0 where
  pub words : List (String Global)
  pub are_words : AreWords arguments words
  pub run : HasRun holds opened made unread unmade means (texts words) old new sinks
      (AreHanded (makes_tuples (settings (texts words)))) status
