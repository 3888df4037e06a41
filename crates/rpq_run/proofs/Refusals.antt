-- A run that doesn't begin.
use Rattle.std.proofs.Common.{◌≡◌, ℕ, zero, suc, ◌<◌, Bool, List, [], ◌∷◌, ◌++◌, length, get_or}
use Rattle.std.proofs.Common.{Option, Some, None, refl, sym, subst, ◌∙◌, arith, inr, ◌⊎◌, Err}
use Rattle.std.proofs.Common.{append_assoc}
use Rattle.std.specs.Prelude.{IfSome, IsSomeAnd, option_to_list}
use Rattle.std.specs.List.{All}
use Rattle.std.proofs.lemmas.List.{append-nil, length-map}
use Rattle.std.proofs.lemmas.List.Elements.{All-cons, All-head, All-nil, All-tail}
use Rattle.std.proofs.lemmas.Option.{slice_get-get_or}
use Rattle.rpq_io.specs.Counts.{Rose}
use Rattle.rpq_io.proofs.Counting.{counts_none}
use Rattle.query_file.specs.declared.fault.QueryFault.{QueryFault}
use Rattle.join_file.specs.declared.fault.JoinFileFault.{JoinFileFault}
use Rattle.join_file.specs.JoinsFile.{joins}
use Rattle.ask_text.specs.declared.fault.AskFault.{AskFault}
use Rattle.ask_text.specs.Asks.{asks}
use Rattle.rpq_words.specs.declared.settings.Settings.{Settings}
use Rattle.rpq_words.specs.declared.reader_names.ReaderFiles.{ReaderFiles}
use Rattle.rpq_words.specs.Views.{asks_of, faults_of, from_of, joins_of, readers_of, replies_of}
use Rattle.rpq_words.specs.Views.{save_of}
use Rattle.rpq_words.specs.Views.{streams_of, two_way_of}
use Rattle.stream_tuples.specs.History.{IsNumberOf, IsPrefix}
use Rattle.rpq_text.specs.declared.ends.Which.TheVariants.{Queries, Joins, Asks, From, Stream}
use Rattle.rpq_text.specs.declared.ends.Which.TheVariants.{Replies, Save, FaultsOf, AsksOf}
use Rattle.rpq_text.specs.declared.ends.Which.TheVariants.{RepliesOf}
use Rattle.rpq_text.specs.declared.ends.StartFault.{StartFault}
use Rattle.rpq_text.specs.declared.ends.StartFault.TheVariants.{Words, Queries as QueriesFault}
use Rattle.rpq_text.specs.declared.ends.StartFault.TheVariants.{Joins as JoinsFaulty}
use Rattle.rpq_text.specs.declared.ends.StartFault.TheVariants.{Asks as AsksFault, Open}
use Rattle.rpq_text.specs.declared.ends.StartFault.TheVariants.{Read as ReadAtStart, Long}
use Rattle.rpq_text.specs.declared.ends.StartFault.TheVariants.{Memory}
use Rattle.rpq_text.specs.Statuses.{status_of_start}
use Rattle.run_start.specs.Files.{ForQueries, IsTooLong, IsFaultyFile, IsFaultless}
use Rattle.run_start.specs.Files.{AreFaultyJoins, AreFaultlessJoins, HasJoinsFault}
use Rattle.run_start.specs.Files.{AreFaultyAsks, AreFaultlessAsks, HasAskFault}
use Rattle.run_start.specs.Files.{AreUnderstoodFiles, AreUnderstoodJoins, IsQueriesFile}
use Rattle.run_start.specs.Given.{asks_names, file_names, later_names, name_numbered}
use Rattle.run_start.specs.Given.{names_with_streams, own_sink_names, replies_names, sink_names}
use Rattle.run_start.specs.Given.{sinks_with_faults}
use Rattle.run_start.specs.Ready.{IsWordsCause}
use Rattle.run_start.proofs.Using.{names_in_order}
use Rattle.run_start.specs.Start.{IsRefusedFor, IsOpeningOf, IsMakingOf, AreSourcesOf}
use Rattle.run_start.specs.Start.{file_held, AreOpenedBy, AreMadeBy, UsesFiles}
use Rattle.rpq_run.specs.Done.{CanBeDone, NothingRose}
use Rattle.rpq_run.specs.Outcome.{Meanings, Openings, Sinks, Outcome}

-- ---- its status

not_long : (two_way : Bool) (file : Option (List ℕ)) → IsTooLong file
    → IsSomeAnd file (IsFaultless two_way) → ⊥
not_long two_way None long some = some
not_long two_way (Some bytes) long some = omega (arith, long, some.short)

not_faulty : (two_way : Bool) (file : Option (List ℕ)) (fault : QueryFault)
    → IsFaultyFile two_way file fault → IsSomeAnd file (IsFaultless two_way) → ⊥
not_faulty two_way None fault faulty some = some
not_faulty two_way (Some bytes) fault faulty some = some.no_fault fault faulty.1.1

joins_not_long : (two_way : Bool) (queries file : Option (List ℕ)) → IsTooLong file
    → IsSomeAnd file (AreFaultlessJoins two_way queries) → ⊥
joins_not_long two_way queries None long some = some
joins_not_long two_way queries (Some bytes) long some = omega (arith, long, some.short)

joins_not_faulty : (two_way : Bool) (queries file : Option (List ℕ)) (fault : JoinFileFault)
    → AreFaultyJoins two_way queries file fault
    → IsSomeAnd file (AreFaultlessJoins two_way queries) → ⊥
joins_not_faulty two_way queries None fault faulty some = some
joins_not_faulty two_way queries (Some bytes) fault faulty some =
    some.no_fault fault (by queries faulty.1)
  where
    by : (file : Option (List ℕ))
        → ForQueries two_way file (λ all. HasJoinsFault all bytes fault)
        → ForQueries two_way file (λ all. joins all bytes ≡ Err fault)
    by None has = tt
    by (Some held) (all, are, has) = (all, are, has.1)

asks_not_long : (two_way : Bool) (queries file : Option (List ℕ)) → IsTooLong file
    → IsSomeAnd file (AreFaultlessAsks two_way queries) → ⊥
asks_not_long two_way queries None long some = some
asks_not_long two_way queries (Some bytes) long some = omega (arith, long, some.short)

asks_not_faulty : (two_way : Bool) (queries file : Option (List ℕ)) (fault : AskFault)
    → AreFaultyAsks two_way queries file fault
    → IsSomeAnd file (AreFaultlessAsks two_way queries) → ⊥
asks_not_faulty two_way queries None fault faulty some = some
asks_not_faulty two_way queries (Some bytes) fault faulty some =
    some.no_fault fault (by queries faulty.1)
  where
    by : (file : Option (List ℕ)) → ForQueries two_way file (λ all. HasAskFault all bytes fault)
        → ForQueries two_way file (λ all. asks all bytes ≡ Err fault)
    by None has = tt
    by (Some held) (all, are, has) = (all, are, has.1)

-- what holds of all of a list behind another
all_behind : {X : Type 0} (P : X → Type 0) (front back : List X) → All P (front ++ back)
    → All P back
all_behind P [] back all = all
all_behind P (x ∷ front) back all = all_behind P front back (All-tail P x (front ++ back) all)

-- what holds of all of a list before another
all_front : {X : Type 0} (P : X → Type 0) (front back : List X) → All P (front ++ back)
    → All P front
all_front P [] back all = All-nil P
all_front P (x ∷ front) back all = All-cons P x front (All-head P x (front ++ back) all)
    (all_front P front back (All-tail P x (front ++ back) all))

-- what holds of all names doesn't fail to hold of the one with a number
numbered : (names : List (List ℕ)) (number : ℕ) (P : List ℕ → Type 0) → All (λ name. ¬ P name) names
    → IsNumberOf (length names) number
    → ((name : List ℕ) → name_numbered names number ≡ Some name → P name) → ⊥
numbered names zero P none within some = omega (arith, within.first)
numbered names (suc place) P none within some =
    let inside : place < length names = omega (arith, within.last) in
    none place [] inside (some (get_or names place []) (slice_get-get_or names place [] inside))

-- what holds of the one name that there may be
option_member : (P : List ℕ → Type 0) (option : Option (List ℕ)) (name : List ℕ)
    (rest : List (List ℕ)) → All P (option_to_list option ++ rest) → option ≡ Some name → P name
option_member P None name rest all is = absurd (cc is)
option_member P (Some other) name rest all is =
    let same : other ≡ name = cc is in
    subst P same (All-head P other rest all)

-- an opening of this name failed, and none did
abbrev Risen : (List ℕ → ℕ) → (List ℕ → ℕ) → List ℕ → Type 0
Risen before after name = Rose (before name) (after name)

abbrev Quiet : (List ℕ → ℕ) → (List ℕ → ℕ) → List ℕ → Type 0
Quiet before after name = ¬ Risen before after name

-- a run that doesn't begin with files that have no fault, and in which no count rose, wants memory
pub wants_memory : {S K : Type 0} (means : Meanings S K) (given : Settings)
    (holds : List ℕ → Option (List ℕ)) (openings : Openings) (sinks : Sinks K)
    (outcome : Outcome S K) (fault : StartFault) → IsRefusedFor given holds fault
    → AreSourcesOf means.left means.faults (file_held (Some given) holds) fault outcome.sources
    → ((name : List ℕ) → IsOpeningOf given name fault
    → Rose (openings.unread_old name) (openings.unread_new name))
    → ((name : List ℕ) → IsMakingOf given name fault
    → Rose (openings.unmade_old name) (openings.unmade_new name))
    → CanBeDone given holds → NothingRose means given openings sinks outcome
    → (status_of_start fault ≡ 0) ⊎ (status_of_start fault ≡ 8)
wants_memory {S} {K} means given holds openings sinks outcome start cause of opened made can none =
    by start cause of opened made
  where
    -- the names of the files that are read, but those of what readers ask
    own_names : All (Quiet openings.unread_old openings.unread_new)
        ((option_to_list (joins_of given) ++ option_to_list (asks_of given))
        ++ (option_to_list (from_of given) ++ streams_of given))
    own_names = all_front (Quiet openings.unread_old openings.unread_new)
        ((option_to_list (joins_of given) ++ option_to_list (asks_of given))
        ++ (option_to_list (from_of given) ++ streams_of given)) (asks_names given)
        (All-tail (Quiet openings.unread_old openings.unread_new) given.queries
        (later_names given)
        (subst (λ (names : List (List ℕ)).
        All (Quiet openings.unread_old openings.unread_new) names)
        (sym (names_in_order given)) none.unread))

    -- and those
    asked_names : All (Quiet openings.unread_old openings.unread_new) (asks_names given)
    asked_names = all_behind (Quiet openings.unread_old openings.unread_new)
        (names_with_streams given) (asks_names given) none.unread

    -- the names of the sinks, but those of what readers are answered, and those
    run_sinks : All (Quiet openings.unmade_old openings.unmade_new) (sinks_with_faults given)
    run_sinks = all_front (Quiet openings.unmade_old openings.unmade_new) (sinks_with_faults given)
        (replies_names given) none.unmade

    answered_names : All (Quiet openings.unmade_old openings.unmade_new) (replies_names given)
    answered_names = all_behind (Quiet openings.unmade_old openings.unmade_new)
        (sinks_with_faults given) (replies_names given) none.unmade

    -- of the former those of the replies and the saved window, and those of faulty lines
    own_sinks : All (Quiet openings.unmade_old openings.unmade_new) (own_sink_names given)
    own_sinks = all_front (Quiet openings.unmade_old openings.unmade_new) (own_sink_names given)
        (faults_of given) run_sinks

    told_names : All (Quiet openings.unmade_old openings.unmade_new) (faults_of given)
    told_names = all_behind (Quiet openings.unmade_old openings.unmade_new) (own_sink_names given)
        (faults_of given) run_sinks

    -- the names behind that of the queries
    later_ones : All (Quiet openings.unread_old openings.unread_new)
        (option_to_list (joins_of given) ++ (option_to_list (asks_of given)
        ++ (option_to_list (from_of given) ++ streams_of given)))
    later_ones = subst (λ (names : List (List ℕ)).
        All (Quiet openings.unread_old openings.unread_new) names)
        (append_assoc (option_to_list (joins_of given)) (option_to_list (asks_of given))
        (option_to_list (from_of given) ++ streams_of given)) own_names

    -- those behind that of the joins
    asks_on : All (Quiet openings.unread_old openings.unread_new)
        (option_to_list (asks_of given) ++ (option_to_list (from_of given) ++ streams_of given))
    asks_on = all_behind (Quiet openings.unread_old openings.unread_new)
        (option_to_list (joins_of given))
        (option_to_list (asks_of given) ++ (option_to_list (from_of given) ++ streams_of given)) later_ones

    -- those behind that of the asks
    last_names : All (Quiet openings.unread_old openings.unread_new)
        (option_to_list (from_of given) ++ streams_of given)
    last_names = all_behind (Quiet openings.unread_old openings.unread_new)
        (option_to_list (asks_of given)) (option_to_list (from_of given) ++ streams_of given) asks_on

    joins_fault : (option : Option (List ℕ)) (fault : JoinFileFault)
        → IsSomeAnd option (λ name.
        AreFaultyJoins (two_way_of given) (holds given.queries) (holds name) fault)
        → IfSome option (λ name.
        IsSomeAnd (holds name) (AreFaultlessJoins (two_way_of given) (holds given.queries))) → ⊥
    joins_fault None fault cause can = cause
    joins_fault (Some name) fault cause can =
        joins_not_faulty (two_way_of given) (holds given.queries) (holds name) fault cause can

    joins_long : (option : Option (List ℕ))
        → IsSomeAnd option (λ name.
        IsQueriesFile (two_way_of given) (holds given.queries) × IsTooLong (holds name))
        → IfSome option (λ name.
        IsSomeAnd (holds name) (AreFaultlessJoins (two_way_of given) (holds given.queries))) → ⊥
    joins_long None cause can = cause
    joins_long (Some name) cause can =
        joins_not_long (two_way_of given) (holds given.queries) (holds name) cause.1 can

    joins_opened : (option : Option (List ℕ)) → joins_of given ≡ option
        → IsSomeAnd option (λ name. IsQueriesFile (two_way_of given) (holds given.queries))
        → ((name : List ℕ) → joins_of given ≡ Some name
        → Rose (openings.unread_old name) (openings.unread_new name)) → ⊥
    joins_opened None is cause rose = cause
    joins_opened (Some name) is cause rose =
        option_member (Quiet openings.unread_old openings.unread_new) (joins_of given) name
        (option_to_list (asks_of given) ++ (option_to_list (from_of given) ++ streams_of given)) later_ones is
        (rose name is)

    asks_fault : (option : Option (List ℕ)) (fault : AskFault)
        → IsSomeAnd option (λ name.
        AreFaultyAsks (two_way_of given) (holds given.queries) (holds name) fault
        × AreUnderstoodJoins given holds)
        → IfSome option (λ name.
        IsSomeAnd (holds name) (AreFaultlessAsks (two_way_of given) (holds given.queries))) → ⊥
    asks_fault None fault cause can = cause
    asks_fault (Some name) fault cause can =
        asks_not_faulty (two_way_of given) (holds given.queries) (holds name) fault cause.0 can

    asks_long : (option : Option (List ℕ))
        → IsSomeAnd option (λ name. AreUnderstoodJoins given holds × IsTooLong (holds name))
        → IfSome option (λ name.
        IsSomeAnd (holds name) (AreFaultlessAsks (two_way_of given) (holds given.queries))) → ⊥
    asks_long None cause can = cause
    asks_long (Some name) cause can =
        asks_not_long (two_way_of given) (holds given.queries) (holds name) cause.1 can

    asks_opened : (option : Option (List ℕ)) → asks_of given ≡ option
        → IsSomeAnd option (λ name. AreUnderstoodJoins given holds)
        → ((name : List ℕ) → asks_of given ≡ Some name
        → Rose (openings.unread_old name) (openings.unread_new name)) → ⊥
    asks_opened None is cause rose = cause
    asks_opened (Some name) is cause rose =
        option_member (Quiet openings.unread_old openings.unread_new) (asks_of given) name
        (option_to_list (from_of given) ++ streams_of given) asks_on is (rose name is)

    from_opened : (option : Option (List ℕ)) → from_of given ≡ option
        → IsSomeAnd option (λ name. AreUnderstoodFiles given holds)
        → ((name : List ℕ) → from_of given ≡ Some name
        → Rose (openings.unread_old name) (openings.unread_new name)) → ⊥
    from_opened None is cause rose = cause
    from_opened (Some name) is cause rose =
        option_member (Quiet openings.unread_old openings.unread_new) (from_of given) name
        (streams_of given) last_names is (rose name is)

    replies_made : (option : Option (List ℕ)) → replies_of given ≡ option
        → IsSomeAnd option (λ name. AreUnderstoodFiles given holds)
        → ((name : List ℕ) → replies_of given ≡ Some name
        → Rose (openings.unmade_old name) (openings.unmade_new name)) → ⊥
    replies_made None is cause rose = cause
    replies_made (Some name) is cause rose =
        option_member (Quiet openings.unmade_old openings.unmade_new) (replies_of given) name
        (option_to_list (save_of given)) own_sinks is (rose name is)

    save_made : (option : Option (List ℕ)) → save_of given ≡ option
        → IsSomeAnd option (λ name. AreUnderstoodFiles given holds)
        → ((name : List ℕ) → save_of given ≡ Some name
        → Rose (openings.unmade_old name) (openings.unmade_new name)) → ⊥
    save_made None is cause rose = cause
    save_made (Some name) is cause rose =
        let quiet = all_behind (Quiet openings.unmade_old openings.unmade_new)
        (option_to_list (replies_of given)) (option_to_list (save_of given)) own_sinks in
        option_member (Quiet openings.unmade_old openings.unmade_new) (save_of given) name []
        (subst (λ (names : List (List ℕ)).
        All (Quiet openings.unmade_old openings.unmade_new) names)
        (sym (append-nil (option_to_list (save_of given)))) quiet) is (rose name is)

    by : (fault : StartFault) → IsRefusedFor given holds fault
        → AreSourcesOf means.left means.faults (file_held (Some given) holds) fault outcome.sources
        → ((name : List ℕ) → IsOpeningOf given name fault
        → Rose (openings.unread_old name) (openings.unread_new name))
        → ((name : List ℕ) → IsMakingOf given name fault
        → Rose (openings.unmade_old name) (openings.unmade_new name))
        → (status_of_start fault ≡ 0) ⊎ (status_of_start fault ≡ 8)
    by Words cause of opened made = absurd cause
    by (QueriesFault fault) cause of opened made =
        absurd (not_faulty (two_way_of given) (holds given.queries) fault cause can.understood)
    by (JoinsFaulty fault) cause of opened made =
        absurd (joins_fault (joins_of given) fault cause can.joins)
    by (AsksFault fault) cause of opened made = absurd (asks_fault (asks_of given) fault cause can.asks)
    by (Open Queries) cause of opened made =
        absurd (All-head (Quiet openings.unread_old openings.unread_new) given.queries
        ((((option_to_list (joins_of given) ++ option_to_list (asks_of given)) ++ option_to_list (from_of given))
        ++ streams_of given) ++ asks_names given) none.unread (opened given.queries refl))
    by (Open Joins) cause of opened made = absurd (joins_opened (joins_of given) refl cause opened)
    by (Open Asks) cause of opened made = absurd (asks_opened (asks_of given) refl cause opened)
    by (Open From) cause of opened made = absurd (from_opened (from_of given) refl cause opened)
    by (Open Replies) cause of opened made = absurd (replies_made (replies_of given) refl cause made)
    by (Open Save) cause of opened made = absurd (save_made (save_of given) refl cause made)
    by (Open (Stream zero)) cause of opened made = absurd (omega (arith, cause.0.first))
    by (Open (Stream (suc place))) cause of opened made =
        let inside : place < length (streams_of given) = omega (arith, cause.0.last) in
        let names = all_behind (Quiet openings.unread_old openings.unread_new)
        (option_to_list (from_of given)) (streams_of given) last_names in
        absurd (names place [] inside
        (opened (get_or (streams_of given) place [])
        (slice_get-get_or (streams_of given) place [] inside)))
    by (Open (FaultsOf number)) cause of opened made = absurd (numbered (faults_of given) number
        (Risen openings.unmade_old openings.unmade_new) told_names cause.0 made)
    by (Open (AsksOf number)) cause of opened made = absurd (numbered (asks_names given) number
        (Risen openings.unread_old openings.unread_new) asked_names
        (subst (λ n. IsNumberOf n number) (sym (length-map (readers_of given)
        (λ (files : ReaderFiles). files.asks))) cause.0) opened)
    by (Open (RepliesOf number)) cause of opened made = absurd (numbered (replies_names given) number
        (Risen openings.unmade_old openings.unmade_new) answered_names
        (subst (λ n. IsNumberOf n number) (sym (length-map (readers_of given)
        (λ (files : ReaderFiles). files.replies))) cause.0) made)
    by (ReadAtStart which) cause of opened made =
        absurd (All-head (λ source. ¬ Rose 0 (means.faults source)) of.0 []
        (subst (λ (ss : List S). All (λ source. ¬ Rose 0 (means.faults source)) ss) of.1
        none.reads) of.2)
    by (Long Queries) cause of opened made =
        absurd (not_long (two_way_of given) (holds given.queries) cause can.understood)
    by (Long Joins) cause of opened made = absurd (joins_long (joins_of given) cause can.joins)
    by (Long Asks) cause of opened made = absurd (asks_long (asks_of given) cause can.asks)
    by (Long From) cause of opened made = absurd cause
    by (Long Replies) cause of opened made = absurd cause
    by (Long Save) cause of opened made = absurd cause
    by (Long (Stream number)) cause of opened made = absurd cause
    by (Long (FaultsOf number)) cause of opened made = absurd cause
    by (Long (AsksOf number)) cause of opened made = absurd cause
    by (Long (RepliesOf number)) cause of opened made = absurd cause
    by Memory cause of opened made = inr refl

-- a run that doesn't begin isn't done
pub never_done : (fault : StartFault) → status_of_start fault ≡ 0 → ⊥
never_done Words done = omega (arith, done)
never_done (QueriesFault fault) done = omega (arith, done)
never_done (JoinsFaulty fault) done = omega (arith, done)
never_done (AsksFault fault) done = omega (arith, done)
never_done (Open Queries) done = omega (arith, done)
never_done (Open Joins) done = omega (arith, done)
never_done (Open Asks) done = omega (arith, done)
never_done (Open From) done = omega (arith, done)
never_done (Open (Stream number)) done = omega (arith, done)
never_done (Open Replies) done = omega (arith, done)
never_done (Open Save) done = omega (arith, done)
never_done (Open (FaultsOf number)) done = omega (arith, done)
never_done (Open (AsksOf number)) done = omega (arith, done)
never_done (Open (RepliesOf number)) done = omega (arith, done)
never_done (ReadAtStart which) done = omega (arith, done)
never_done (Long which) done = omega (arith, done)
never_done Memory done = omega (arith, done)

-- ---- what it did to the files

-- what was done to the files, for the words
pub uses_files : {F : Type 0} (holds : F → List ℕ → Option (List ℕ))
    (opened made : F → List (List ℕ)) (unread unmade : F → List ℕ → ℕ) (words : Option Settings)
    (given : Settings) (start : Option StartFault) (old new : F) → words ≡ Some given
    → UsesFiles holds opened made unread unmade (Some given) start old new
    → UsesFiles holds opened made unread unmade words start old new
uses_files holds opened made unread unmade words given start old new are uses =
    subst (λ (w : Option Settings).
    UsesFiles holds opened made unread unmade w start old new) (sym are) uses

-- words that begin no run leave the files as they are
pub files_untouched : {F : Type 0} (holds : F → List ℕ → Option (List ℕ))
    (opened made : F → List (List ℕ)) (unread unmade : F → List ℕ → ℕ) (words : Option Settings)
    (fault : StartFault) (files : F) → IsWordsCause words fault
    → UsesFiles holds opened made unread unmade words (Some fault) files files
files_untouched holds opened made unread unmade words fault files is = record {
  opens = record {
    names = [];
    of_kind = none_opened words fault is;
    more = sym (append-nil (opened files));
  };
  makes = record {
    names = [];
    of_kind = none_made words fault is;
    more = sym (append-nil (made files));
  };
  kept = λ name same. refl;
  openings = λ name. counts_none (IsSomeAnd words (λ given. IsOpeningOf given name fault))
      (unread files name) (unread files name) (no_opening words fault is name) refl;
  makings = λ name. counts_none (IsSomeAnd words (λ given. IsMakingOf given name fault))
      (unmade files name) (unmade files name) (no_making words fault is name) refl;
}
  where
    none_opened : (w : Option Settings) (f : StartFault) → IsWordsCause w f
        → AreOpenedBy w (Some f) []
    none_opened None f is = refl
    none_opened (Some given) Words is = refl
    none_opened (Some given) (QueriesFault fault) is = absurd is
    none_opened (Some given) (JoinsFaulty fault) is = absurd is
    none_opened (Some given) (AsksFault fault) is = absurd is
    none_opened (Some given) (Open which) is = absurd is
    none_opened (Some given) (ReadAtStart which) is = absurd is
    none_opened (Some given) (Long which) is = absurd is
    none_opened (Some given) Memory is = record { rest = file_names given; cut = refl }

    none_made : (w : Option Settings) (f : StartFault) → IsWordsCause w f → AreMadeBy w (Some f) []
    none_made None f is = refl
    none_made (Some given) Words is = refl
    none_made (Some given) (QueriesFault fault) is = absurd is
    none_made (Some given) (JoinsFaulty fault) is = absurd is
    none_made (Some given) (AsksFault fault) is = absurd is
    none_made (Some given) (Open which) is = absurd is
    none_made (Some given) (ReadAtStart which) is = absurd is
    none_made (Some given) (Long which) is = absurd is
    none_made (Some given) Memory is = record { rest = sink_names given; cut = refl }

    no_opening : (w : Option Settings) (f : StartFault) → IsWordsCause w f → (name : List ℕ)
        → IsSomeAnd w (λ given. IsOpeningOf given name f) → ⊥
    no_opening None f is name opening = opening
    no_opening (Some given) Words is name opening = opening
    no_opening (Some given) (QueriesFault fault) is name opening = opening
    no_opening (Some given) (JoinsFaulty fault) is name opening = opening
    no_opening (Some given) (AsksFault fault) is name opening = opening
    no_opening (Some given) (Open which) is name opening = is
    no_opening (Some given) (ReadAtStart which) is name opening = opening
    no_opening (Some given) (Long which) is name opening = opening
    no_opening (Some given) Memory is name opening = opening

    no_making : (w : Option Settings) (f : StartFault) → IsWordsCause w f → (name : List ℕ)
        → IsSomeAnd w (λ given. IsMakingOf given name f) → ⊥
    no_making None f is name making = making
    no_making (Some given) Words is name making = making
    no_making (Some given) (QueriesFault fault) is name making = making
    no_making (Some given) (JoinsFaulty fault) is name making = making
    no_making (Some given) (AsksFault fault) is name making = making
    no_making (Some given) (Open which) is name making = is
    no_making (Some given) (ReadAtStart which) is name making = making
    no_making (Some given) (Long which) is name making = making
    no_making (Some given) Memory is name making = making

-- a run that began to use the files and then wanted memory
pub stopped_for_memory : {F : Type 0} (holds : F → List ℕ → Option (List ℕ))
    (opened made : F → List (List ℕ)) (unread unmade : F → List ℕ → ℕ) (given : Settings)
    (old new : F)
    → UsesFiles holds opened made unread unmade (Some given) None old new
    → UsesFiles holds opened made unread unmade (Some given) (Some Memory) old new
stopped_for_memory holds opened made unread unmade given old new uses = record {
  opens = record {
    names = uses.opens.names;
    of_kind = all_of uses.opens.names (file_names given) uses.opens.of_kind;
    more = uses.opens.more;
  };
  makes = record {
    names = uses.makes.names;
    of_kind = all_of uses.makes.names (sink_names given) uses.makes.of_kind;
    more = uses.makes.more;
  };
  kept = uses.kept;
  openings = uses.openings;
  makings = uses.makings;
}
  where
    all_of : (names all : List (List ℕ)) → names ≡ all → IsPrefix names all
    all_of names all same = record { rest = []; cut = sym same ∙ sym (append-nil names) }
