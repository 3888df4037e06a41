-- Why a run doesn't begin, and what its beginning does to the files.
use Rattle.std.specs.Prelude.{◌≡◌, ℕ, zero, suc, ◌⊎◌, List, [], ◌∷◌, ◌++◌, length, take, Option}
use Rattle.std.specs.Prelude.{Some, None}
use Rattle.std.specs.Prelude.{IsSomeAnd, Contains, option_and_then, option_to_list}
use Rattle.rpq_io.specs.Counts.{Rose, CountsFault}
use Rattle.rpq_words.specs.declared.settings.Settings.{Settings}
use Rattle.rpq_words.specs.Views.{asks_of, faults_of, from_of, joins_of, replies_of, save_of}
use Rattle.rpq_words.specs.Views.{streams_of, readers_of, two_way_of}
use Rattle.rpq_text.specs.declared.ends.Which.{Which}
use Rattle.rpq_text.specs.declared.ends.Which.TheVariants.{Queries, Joins, Asks, From}
use Rattle.rpq_text.specs.declared.ends.Which.TheVariants.{Stream, Replies, Save, FaultsOf}
use Rattle.rpq_text.specs.declared.ends.Which.TheVariants.{AsksOf, RepliesOf}
use Rattle.rpq_text.specs.declared.ends.StartFault.{StartFault}
use Rattle.rpq_text.specs.declared.ends.StartFault.TheVariants.{Words, Queries as QueriesFault}
use Rattle.rpq_text.specs.declared.ends.StartFault.TheVariants.{Joins as JoinsFaulty}
use Rattle.rpq_text.specs.declared.ends.StartFault.TheVariants.{Asks as AsksFault, Open, Read, Long}
use Rattle.rpq_text.specs.declared.ends.StartFault.TheVariants.{Memory}
use Rattle.stream_tuples.specs.History.{IsNumberOf, IsPrefix}
use Rattle.run_start.specs.Files.{AreFaultyAsks, AreFaultyJoins, AreUnderstoodFiles}
use Rattle.run_start.specs.Files.{AreUnderstoodJoins, IsFaultyFile, IsQueriesFile, IsRestOf}
use Rattle.run_start.specs.Files.{IsTooLong}
use Rattle.run_start.specs.Given.{stream_name, understood_names, whole_names, file_names}
use Rattle.run_start.specs.Given.{asks_names, name_numbered, own_sink_names, replies_names}
use Rattle.run_start.specs.Given.{sink_names, sinks_with_faults, names_before, names_up_to}

-- where each cause of a refusal may come that isn't one of the words, by what the files hold: a
-- file is looked at only where all that come before it are understood, and only one that is given
abbrev pub IsRefusedFor : Settings → (List ℕ → Option (List ℕ)) → StartFault → Type 0
IsRefusedFor given holds Words = ⊥
IsRefusedFor given holds (QueriesFault fault) =
    IsFaultyFile (two_way_of given) (holds given.queries) fault
IsRefusedFor given holds (JoinsFaulty fault) =
    IsSomeAnd (joins_of given) (λ name.
    AreFaultyJoins (two_way_of given) (holds given.queries) (holds name) fault)
IsRefusedFor given holds (AsksFault fault) =
    IsSomeAnd (asks_of given) (λ name.
    AreFaultyAsks (two_way_of given) (holds given.queries) (holds name) fault
    × AreUnderstoodJoins given holds)
IsRefusedFor given holds (Open Queries) = Unit {0}
IsRefusedFor given holds (Open Joins) =
    IsSomeAnd (joins_of given) (λ name. IsQueriesFile (two_way_of given) (holds given.queries))
IsRefusedFor given holds (Open Asks) =
    IsSomeAnd (asks_of given) (λ name. AreUnderstoodJoins given holds)
IsRefusedFor given holds (Open From) =
    IsSomeAnd (from_of given) (λ name. AreUnderstoodFiles given holds)
IsRefusedFor given holds (Open (Stream number)) =
    IsNumberOf (length (streams_of given)) number × AreUnderstoodFiles given holds
IsRefusedFor given holds (Open Replies) =
    IsSomeAnd (replies_of given) (λ name. AreUnderstoodFiles given holds)
IsRefusedFor given holds (Open Save) =
    IsSomeAnd (save_of given) (λ name. AreUnderstoodFiles given holds)
IsRefusedFor given holds (Open (FaultsOf number)) =
    IsNumberOf (length (faults_of given)) number × AreUnderstoodFiles given holds
IsRefusedFor given holds (Open (AsksOf number)) =
    IsNumberOf (length (readers_of given)) number × AreUnderstoodFiles given holds
IsRefusedFor given holds (Open (RepliesOf number)) =
    IsNumberOf (length (readers_of given)) number × AreUnderstoodFiles given holds
IsRefusedFor given holds (Read Queries) = Unit {0}
IsRefusedFor given holds (Read Joins) =
    IsSomeAnd (joins_of given) (λ name. IsQueriesFile (two_way_of given) (holds given.queries))
IsRefusedFor given holds (Read Asks) =
    IsSomeAnd (asks_of given) (λ name. AreUnderstoodJoins given holds)
IsRefusedFor given holds (Read From) = ⊥
IsRefusedFor given holds (Read (Stream number)) = ⊥
IsRefusedFor given holds (Read Replies) = ⊥
IsRefusedFor given holds (Read Save) = ⊥
IsRefusedFor given holds (Read (FaultsOf number)) = ⊥
IsRefusedFor given holds (Read (AsksOf number)) = ⊥
IsRefusedFor given holds (Read (RepliesOf number)) = ⊥
IsRefusedFor given holds (Long Queries) = IsTooLong (holds given.queries)
IsRefusedFor given holds (Long Joins) =
    IsSomeAnd (joins_of given) (λ name.
    IsQueriesFile (two_way_of given) (holds given.queries) × IsTooLong (holds name))
IsRefusedFor given holds (Long Asks) =
    IsSomeAnd (asks_of given) (λ name. AreUnderstoodJoins given holds × IsTooLong (holds name))
IsRefusedFor given holds (Long From) = ⊥
IsRefusedFor given holds (Long (Stream number)) = ⊥
IsRefusedFor given holds (Long Replies) = ⊥
IsRefusedFor given holds (Long Save) = ⊥
IsRefusedFor given holds (Long (FaultsOf number)) = ⊥
IsRefusedFor given holds (Long (AsksOf number)) = ⊥
IsRefusedFor given holds (Long (RepliesOf number)) = ⊥
IsRefusedFor given holds Memory = Unit {0}

-- why a run doesn't begin, by the settings of its words, if they have any: they have none, or a
-- file is the cause; or memory ran out
abbrev pub IsCause : Option Settings → (List ℕ → Option (List ℕ)) → StartFault → Type 0
IsCause None holds fault = (fault ≡ Words) ⊎ (fault ≡ Memory)
IsCause (Some given) holds fault = IsRefusedFor given holds fault

-- the cause is that the file of this name couldn't be opened to read
abbrev pub IsOpeningOf : Settings → List ℕ → StartFault → Type 0
IsOpeningOf given name Words = ⊥
IsOpeningOf given name (QueriesFault fault) = ⊥
IsOpeningOf given name (JoinsFaulty fault) = ⊥
IsOpeningOf given name (AsksFault fault) = ⊥
IsOpeningOf given name (Open Queries) = name ≡ given.queries
IsOpeningOf given name (Open Joins) = joins_of given ≡ Some name
IsOpeningOf given name (Open Asks) = asks_of given ≡ Some name
IsOpeningOf given name (Open From) = from_of given ≡ Some name
IsOpeningOf given name (Open (Stream number)) = stream_name given number ≡ Some name
IsOpeningOf given name (Open Replies) = ⊥
IsOpeningOf given name (Open Save) = ⊥
IsOpeningOf given name (Open (FaultsOf number)) = ⊥
IsOpeningOf given name (Open (AsksOf number)) =
    name_numbered (asks_names given) number ≡ Some name
IsOpeningOf given name (Open (RepliesOf number)) = ⊥
IsOpeningOf given name (Read which) = ⊥
IsOpeningOf given name (Long which) = ⊥
IsOpeningOf given name Memory = ⊥

-- the cause is that the file of this name couldn't be opened to write
abbrev pub IsMakingOf : Settings → List ℕ → StartFault → Type 0
IsMakingOf given name Words = ⊥
IsMakingOf given name (QueriesFault fault) = ⊥
IsMakingOf given name (JoinsFaulty fault) = ⊥
IsMakingOf given name (AsksFault fault) = ⊥
IsMakingOf given name (Open Queries) = ⊥
IsMakingOf given name (Open Joins) = ⊥
IsMakingOf given name (Open Asks) = ⊥
IsMakingOf given name (Open From) = ⊥
IsMakingOf given name (Open (Stream number)) = ⊥
IsMakingOf given name (Open Replies) = replies_of given ≡ Some name
IsMakingOf given name (Open Save) = save_of given ≡ Some name
IsMakingOf given name (Open (FaultsOf number)) =
    name_numbered (faults_of given) number ≡ Some name
IsMakingOf given name (Open (AsksOf number)) = ⊥
IsMakingOf given name (Open (RepliesOf number)) =
    name_numbered (replies_names given) number ≡ Some name
IsMakingOf given name (Read which) = ⊥
IsMakingOf given name (Long which) = ⊥
IsMakingOf given name Memory = ⊥

-- what the file holds that is read as this one, where the words have settings that name it
abbrev pub file_held : Option Settings → (List ℕ → Option (List ℕ)) → Which → Option (List ℕ)
file_held None holds which = None
file_held (Some given) holds Queries = holds given.queries
file_held (Some given) holds Joins = option_and_then holds (joins_of given)
file_held (Some given) holds Asks = option_and_then holds (asks_of given)
file_held (Some given) holds From = option_and_then holds (from_of given)
file_held (Some given) holds (Stream number) = option_and_then holds (stream_name given number)
file_held (Some given) holds Replies = None
file_held (Some given) holds Save = None
file_held (Some given) holds (FaultsOf number) = None
file_held (Some given) holds (AsksOf number) =
    option_and_then holds (name_numbered (asks_names given) number)
file_held (Some given) holds (RepliesOf number) = None

-- the sources that a refusal leaves: that of the file that is read whole and of which a read
-- failed, as its count shows, with a rest of the file left; else none
abbrev pub AreSourcesOf : {S : Type 0} → (S → Option (List ℕ)) → (S → ℕ)
    → (Which → Option (List ℕ)) → StartFault → List S → Type 0
AreSourcesOf {S} left faults held Words sources = sources ≡ []
AreSourcesOf {S} left faults held (QueriesFault fault) sources = sources ≡ []
AreSourcesOf {S} left faults held (JoinsFaulty fault) sources = sources ≡ []
AreSourcesOf {S} left faults held (AsksFault fault) sources = sources ≡ []
AreSourcesOf {S} left faults held (Open which) sources = sources ≡ []
AreSourcesOf {S} left faults held (Read which) sources = (source : S) × (sources ≡ source ∷ [])
    × Rose 0 (faults source) × IsRestOf (held which) (left source)
AreSourcesOf {S} left faults held (Long which) sources = sources ≡ []
AreSourcesOf {S} left faults held Memory sources = sources ≡ []

-- what the words alone decide: none that have no settings begin a run
abbrev pub IsDecided : Option Settings → Option StartFault → Type 0
IsDecided None start = (start ≡ Some Words) ⊎ (start ≡ Some Memory)
IsDecided (Some given) start = Unit {0}

-- the names of the files that a run opened to read, in order, by why it didn't begin, if it didn't
abbrev pub AreOpened : Settings → Option StartFault → List (List ℕ) → Type 0
AreOpened given None names = names ≡ file_names given
AreOpened given (Some Words) names = names ≡ []
AreOpened given (Some (QueriesFault fault)) names = names ≡ given.queries ∷ []
AreOpened given (Some (JoinsFaulty fault)) names = names ≡ understood_names given
AreOpened given (Some (AsksFault fault)) names = names ≡ whole_names given
AreOpened given (Some (Open which)) names = names ≡ names_before given which
AreOpened given (Some (Read which)) names = names ≡ names_up_to given which
AreOpened given (Some (Long which)) names = names ≡ names_up_to given which
AreOpened given (Some Memory) names = IsPrefix names (file_names given)

-- the names of the files that were opened to write before this one is opened
abbrev pub sinks_before : Settings → Which → List (List ℕ)
sinks_before given Queries = []
sinks_before given Joins = []
sinks_before given Asks = []
sinks_before given From = []
sinks_before given (Stream number) = []
sinks_before given Replies = []
sinks_before given Save = option_to_list (replies_of given)
sinks_before given (FaultsOf zero) = own_sink_names given
sinks_before given (FaultsOf (suc place)) = own_sink_names given ++ take place (faults_of given)
sinks_before given (AsksOf number) = []
sinks_before given (RepliesOf zero) = sinks_with_faults given
sinks_before given (RepliesOf (suc place)) =
    sinks_with_faults given ++ take place (replies_names given)

-- the names of the files that a run opened to write, by why it didn't begin, if it didn't
abbrev pub AreMade : Settings → Option StartFault → List (List ℕ) → Type 0
AreMade given None names = names ≡ sink_names given
AreMade given (Some Words) names = names ≡ []
AreMade given (Some (QueriesFault fault)) names = names ≡ []
AreMade given (Some (JoinsFaulty fault)) names = names ≡ []
AreMade given (Some (AsksFault fault)) names = names ≡ []
AreMade given (Some (Open which)) names = names ≡ sinks_before given which
AreMade given (Some (Read which)) names = names ≡ []
AreMade given (Some (Long which)) names = names ≡ []
AreMade given (Some Memory) names = IsPrefix names (sink_names given)

-- the names that were opened to read, where words without settings open none
abbrev pub AreOpenedBy : Option Settings → Option StartFault → List (List ℕ) → Type 0
AreOpenedBy None start names = names ≡ []
AreOpenedBy (Some given) start names = AreOpened given start names

-- the names that were opened to write, where words without settings open none
abbrev pub AreMadeBy : Option Settings → Option StartFault → List (List ℕ) → Type 0
AreMadeBy None start names = names ≡ []
AreMadeBy (Some given) start names = AreMade given start names

-- more names were opened, which are of some kind
pub record Opens (IsKind : List (List ℕ) → Type 0) (before after : List (List ℕ)) : Type 0 where
  pub names : List (List ℕ)
  pub of_kind : IsKind names
  pub more : after ≡ before ++ names

-- what a run does to the files: it opens those to read that its words name, each once and in
-- order, and then those to write, as far as they name such; it changes no other; and the openings
-- of no name failed but of the one for which it didn't begin
pub record UsesFiles {F : Type 0} (holds : F → List ℕ → Option (List ℕ))
    (opened made : F → List (List ℕ)) (unread unmade : F → List ℕ → ℕ) (words : Option Settings)
    (start : Option StartFault) (old new : F) : Type 0 where
  pub opens : Opens (AreOpenedBy words start) (opened old) (opened new)
  pub makes : Opens (AreMadeBy words start) (made old) (made new)
  pub kept : (name : List ℕ)
      → (made new ≡ made old) ⊎ IsSomeAnd words (λ given. Contains (sink_names given) name → ⊥)
      → holds new name ≡ holds old name
  pub openings : (name : List ℕ) → CountsFault
      (IsSomeAnd start (λ fault. IsSomeAnd words (λ given. IsOpeningOf given name fault)))
      (unread old name) (unread new name)
  pub makings : (name : List ℕ) → CountsFault
      (IsSomeAnd start (λ fault. IsSomeAnd words (λ given. IsMakingOf given name fault)))
      (unmade old name) (unmade new name)
