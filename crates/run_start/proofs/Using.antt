-- What the steps of a beginning do to the files, one behind the other.
use Rattle.std.proofs.Common.{◌≡◌, ◌≢◌, ◌⊎◌, inl, inr, ℕ, List, [], ◌∷◌, ◌++◌, Option, Some, None}
use Rattle.std.proofs.Common.{refl, ap, sym, subst, ◌∙◌, append-nil, append_assoc, arith, length}
use Rattle.std.specs.Prelude.{IfSome, IfErr, IsSomeAnd, MatchOption, Result, Ok, Err, option_to_list}
use Rattle.std.specs.Result.{IsErrAnd}
use Rattle.rpq_io.specs.Counts.{CountsFault}
use Rattle.rpq_io.specs.Files.{KeepsFiles}
use Rattle.rpq_model.specs.Query.{Query}
use Rattle.join_file.specs.Joins.{JoinValue}
use Rattle.ask_text.specs.declared.ask.Ask.{Ask}
use Rattle.rpq_words.specs.declared.settings.Settings.{Settings}
use Rattle.rpq_words.specs.Views.{asks_of, faults_of, from_of, joins_of, readers_of, streams_of}
use Rattle.rpq_words.specs.Views.{two_way_of}
use Rattle.stream_tuples.specs.History.{IsNumberOf}
use Rattle.rpq_text.specs.declared.ends.Which.{Which}
use Rattle.rpq_text.specs.declared.ends.Which.TheVariants.{Queries, Joins, Asks, From}
use Rattle.rpq_text.specs.declared.ends.Which.TheVariants.{Stream, Replies, Save, FaultsOf}
use Rattle.rpq_text.specs.declared.ends.Which.TheVariants.{AsksOf, RepliesOf}
use Rattle.rpq_text.specs.declared.ends.StartFault.{StartFault}
use Rattle.rpq_text.specs.declared.ends.StartFault.TheVariants.{Words, Queries as QueriesFault}
use Rattle.rpq_text.specs.declared.ends.StartFault.TheVariants.{Joins as JoinsFaulty}
use Rattle.rpq_text.specs.declared.ends.StartFault.TheVariants.{Asks as AsksFault, Open, Read, Long}
use Rattle.rpq_text.specs.declared.ends.StartFault.TheVariants.{Memory}
use Rattle.run_start.specs.Files.{AreUnderstoodFiles, AreUnderstoodJoins, ForJoins, ForQueries}
use Rattle.run_start.specs.Files.{ForSessions, HasJoins, HasQueries, HasSessions}
use Rattle.run_start.specs.Given.{asks_names, file_names, later_names, names_with_streams, sink_names}
use Rattle.run_start.specs.Ready.{fault_of}
use Rattle.run_start.specs.Start.{AreMade, AreOpened, AreSourcesOf, IsMakingOf, IsOpeningOf, IsRefusedFor, Opens}
use Rattle.run_start.specs.Start.{UsesFiles, file_held}
use Rattle.run_start.specs.Steps.{AreMadeThen, AreOpenedBehind, IsRefusal, IsRefusalOfOpening}
use Rattle.run_start.specs.Steps.{IsRefusalOfFaults, IsRefusalOfOne, IsRefusalOfReplies, UsesMore}
use Rattle.run_start.specs.declared.refusal.Refusal.{Refusal}

-- a fault that isn't that of an opening to write
pub record IsToRead (fault : StartFault) : Type 0 where
  pub no_replies : fault ≢ Open Replies
  pub no_save : fault ≢ Open Save
  pub no_faults_of : (number : ℕ) → fault ≢ Open (FaultsOf number)
  pub no_replies_of : (number : ℕ) → fault ≢ Open (RepliesOf number)

-- no name was opened to write
none_made : (given : Settings) (fault : StartFault) → IsToRead fault → AreMade given (Some fault) []
none_made given Words reads = refl
none_made given (QueriesFault fault) reads = refl
none_made given (JoinsFaulty fault) reads = refl
none_made given (AsksFault fault) reads = refl
none_made given (Open Queries) reads = refl
none_made given (Open Joins) reads = refl
none_made given (Open Asks) reads = refl
none_made given (Open From) reads = refl
none_made given (Open (Stream number)) reads = refl
none_made given (Open Replies) reads = refl
none_made given (Open Save) reads = absurd (reads.no_save refl)
none_made given (Open (FaultsOf number)) reads = absurd (reads.no_faults_of number refl)
none_made given (Open (AsksOf number)) reads = refl
none_made given (Open (RepliesOf number)) reads = absurd (reads.no_replies_of number refl)
none_made given (Read which) reads = refl
none_made given (Long which) reads = refl
none_made given Memory reads = record { rest = sink_names given; cut = refl }

none_made_then : (given : Settings) (start : Option StartFault) → IfSome start IsToRead
    → AreMadeThen given [] start []
none_made_then given None reads = refl
none_made_then given (Some fault) reads = none_made given fault reads

-- only the replies, the saved window, the faulty lines and the replies to readers are opened to write
no_making : (given : Settings) (name : List ℕ) (fault : StartFault) → IsToRead fault
    → IsMakingOf given name fault → ⊥
no_making given name Words other making = making
no_making given name (QueriesFault fault) other making = making
no_making given name (JoinsFaulty fault) other making = making
no_making given name (AsksFault fault) other making = making
no_making given name (Open Queries) other making = making
no_making given name (Open Joins) other making = making
no_making given name (Open Asks) other making = making
no_making given name (Open From) other making = making
no_making given name (Open (Stream number)) other making = making
no_making given name (Open Replies) other making = other.no_replies refl
no_making given name (Open Save) other making = other.no_save refl
no_making given name (Open (FaultsOf number)) other making = other.no_faults_of number refl
no_making given name (Open (AsksOf number)) other making = making
no_making given name (Open (RepliesOf number)) other making = other.no_replies_of number refl
no_making given name (Read which) other making = making
no_making given name (Long which) other making = making
no_making given name Memory other making = making

-- a step that only reads
pub only_reads : {F : Type 0} {holds : F → List ℕ → Option (List ℕ)} {opened made : F → List (List ℕ)}
    {unread unmade : F → List ℕ → ℕ} (given : Settings) (before own : List (List ℕ))
    (start : Option StartFault) (old new : F) → IfSome start IsToRead
    → KeepsFiles holds made old new → ((name : List ℕ) → unmade new name ≡ unmade old name)
    → Opens (AreOpenedBehind given before own start) (opened old) (opened new)
    → ((name : List ℕ) → CountsFault (IsSomeAnd start (λ fault. IsOpeningOf given name fault))
    (unread old name) (unread new name))
    → UsesMore holds opened made unread unmade given before own [] start old new
only_reads {F} {holds} {opened} {made} {unread} {unmade} given before own start old new reads kept stays opens
    openings = record {
      opens = opens;
      makes = record {
        names = [];
        of_kind = none_made_then given start reads;
        more = kept.names ∙ sym (append-nil (made old));
      };
      kept = λ name _. kept.bytes name;
      openings = openings;
      makings = λ name. record {
        never_falls = omega (arith, stays name);
        rose = λ making. absurd (none start reads name making);
        quiet = λ _. stays name;
      };
    }
  where
    none : (s : Option StartFault) → IfSome s IsToRead → (name : List ℕ)
        → IsSomeAnd s (λ fault. IsMakingOf given name fault) → ⊥
    none None reads name making = making
    none (Some fault) reads name making = no_making given name fault reads making

-- nothing was opened to write in a step without such a name
pub made_stays : {F : Type 0} {holds : F → List ℕ → Option (List ℕ)} {opened made : F → List (List ℕ)}
    {unread unmade : F → List ℕ → ℕ} {given : Settings} {before own : List (List ℕ)} {old new : F}
    → UsesMore holds opened made unread unmade given before own [] None old new → made new ≡ made old
made_stays {F} {holds} {opened} {made} {unread} {unmade} {given} {before} {own} {old} {new} uses =
    uses.makes.more ∙ (ap (λ (ns : List (List ℕ)). made old ++ ns) uses.makes.of_kind
    ∙ append-nil (made old))

-- and all files hold what they held
pub holds_stays : {F : Type 0} {holds : F → List ℕ → Option (List ℕ)} {opened made : F → List (List ℕ)}
    {unread unmade : F → List ℕ → ℕ} {given : Settings} {before own : List (List ℕ)} {old new : F}
    → UsesMore holds opened made unread unmade given before own [] None old new → holds new ≡ holds old
holds_stays {F} {holds} uses = λ i. λ name. uses.kept name (inl (made_stays uses)) i

-- a step behind one that only reads
pub one_by_one : {F : Type 0} {holds : F → List ℕ → Option (List ℕ)} {opened made : F → List (List ℕ)}
    {unread unmade : F → List ℕ → ℕ} {given : Settings} {before own more to_write : List (List ℕ)}
    {start : Option StartFault} {old between new : F}
    → UsesMore holds opened made unread unmade given before own [] None old between
    → UsesMore holds opened made unread unmade given (before ++ own) more to_write start between new
    → UsesMore holds opened made unread unmade given before (own ++ more) to_write start old new
one_by_one {F} {holds} {opened} {made} {unread} {unmade} {given} {before} {own} {more} {to_write} {start}
    {old} {between} {new} first second =
    let same = made_stays first in
    record {
      opens = record {
        names = own ++ second.opens.names;
        of_kind = by start second.opens.names second.opens.of_kind;
        more = second.opens.more ∙ (ap (λ (ns : List (List ℕ)). ns ++ second.opens.names)
            (first.opens.more ∙ ap (λ (ns : List (List ℕ)). opened old ++ ns) first.opens.of_kind)
            ∙ append_assoc (opened old) own second.opens.names);
      };
      makes = record {
        names = second.makes.names;
        of_kind = second.makes.of_kind;
        more = second.makes.more ∙ ap (λ (ns : List (List ℕ)). ns ++ second.makes.names) same;
      };
      kept = λ name cause. second.kept name (elim cause [ inl stays ↦ inl (stays ∙ sym same) | inr other ↦ inr other ])
          ∙ first.kept name (inl same);
      openings = λ name. subst (λ (count : ℕ). CountsFault (IsSomeAnd start (λ fault. IsOpeningOf given name fault))
          count (unread new name)) ((first.openings name).quiet (λ none. none)) (second.openings name);
      makings = λ name. subst (λ (count : ℕ). CountsFault (IsSomeAnd start (λ fault. IsMakingOf given name fault))
          count (unmade new name)) ((first.makings name).quiet (λ none. none)) (second.makings name);
    }
  where
    by : (s : Option StartFault) (names : List (List ℕ)) → AreOpenedBehind given (before ++ own) more s names
        → AreOpenedBehind given before (own ++ more) s (own ++ names)
    by None names are = ap (λ (ns : List (List ℕ)). own ++ ns) are
    by (Some fault) names are = subst (λ (ns : List (List ℕ)). AreOpened given (Some fault) ns)
        (append_assoc before own names) are

-- a fault that is found where all was read: what the file has, or out of memory
abbrev pub IsFoundLater : StartFault → Type 0
IsFoundLater Words = ⊥
IsFoundLater (QueriesFault fault) = Unit {0}
IsFoundLater (JoinsFaulty fault) = Unit {0}
IsFoundLater (AsksFault fault) = Unit {0}
IsFoundLater (Open which) = ⊥
IsFoundLater (Read which) = ⊥
IsFoundLater (Long which) = ⊥
IsFoundLater Memory = Unit {0}

to_read_later : (fault : StartFault) → IsFoundLater fault → IsToRead fault
to_read_later fault later = record {
  no_replies = λ is. subst (λ (f : StartFault). IsFoundLater f) is later;
  no_save = λ is. subst (λ (f : StartFault). IsFoundLater f) is later;
  no_faults_of = λ number is. subst (λ (f : StartFault). IsFoundLater f) is later;
  no_replies_of = λ number is. subst (λ (f : StartFault). IsFoundLater f) is later;
}

-- a step after which the run doesn't begin
pub then_refused : {F : Type 0} {holds : F → List ℕ → Option (List ℕ)} {opened made : F → List (List ℕ)}
    {unread unmade : F → List ℕ → ℕ} {given : Settings} {before own : List (List ℕ)} {old new : F}
    (more : List (List ℕ)) (fault : StartFault) → IsFoundLater fault
    → AreOpened given (Some fault) (before ++ own)
    → UsesMore holds opened made unread unmade given before own [] None old new
    → UsesMore holds opened made unread unmade given before more [] (Some fault) old new
then_refused {F} {holds} {opened} {made} {unread} {unmade} {given} {before} {own} {old} {new} more fault later are
    uses = record {
      opens = record {
        names = uses.opens.names;
        of_kind = subst (λ (ns : List (List ℕ)). AreOpened given (Some fault) (before ++ ns))
            (sym uses.opens.of_kind) are;
        more = uses.opens.more;
      };
      makes = record {
        names = [];
        of_kind = none_made given fault (to_read_later fault later);
        more = made_stays uses ∙ sym (append-nil (made old));
      };
      kept = uses.kept;
      openings = λ name. record {
        never_falls = (uses.openings name).never_falls;
        rose = λ opening. absurd (no_opening fault later name opening);
        quiet = λ _. (uses.openings name).quiet (λ none. none);
      };
      makings = λ name. record {
        never_falls = (uses.makings name).never_falls;
        rose = λ making. absurd (none_later fault later name making);
        quiet = λ _. (uses.makings name).quiet (λ none. none);
      };
    }
  where
    no_opening : (f : StartFault) → IsFoundLater f → (name : List ℕ) → IsOpeningOf given name f → ⊥
    no_opening Words is name opening = opening
    no_opening (QueriesFault fault) is name opening = opening
    no_opening (JoinsFaulty fault) is name opening = opening
    no_opening (AsksFault fault) is name opening = opening
    no_opening (Open which) is name opening = is
    no_opening (Read which) is name opening = opening
    no_opening (Long which) is name opening = opening
    no_opening Memory is name opening = opening

    none_later : (f : StartFault) → IsFoundLater f → (name : List ℕ) → IsMakingOf given name f → ⊥
    none_later Words is name making = making
    none_later (QueriesFault fault) is name making = making
    none_later (JoinsFaulty fault) is name making = making
    none_later (AsksFault fault) is name making = making
    none_later (Open which) is name making = is
    none_later (Read which) is name making = making
    none_later (Long which) is name making = making
    none_later Memory is name making = making

-- what a step opens of its own is told only where the run goes on
pub refused_as : {F : Type 0} {holds : F → List ℕ → Option (List ℕ)} {opened made : F → List (List ℕ)}
    {unread unmade : F → List ℕ → ℕ} {given : Settings} {before own to_write : List (List ℕ)}
    {fault : StartFault} {old new : F} (other other_write : List (List ℕ))
    → UsesMore holds opened made unread unmade given before own to_write (Some fault) old new
    → UsesMore holds opened made unread unmade given before other other_write (Some fault) old new
refused_as other other_write uses = record {
  opens = record {
    names = uses.opens.names;
    of_kind = uses.opens.of_kind;
    more = uses.opens.more;
  };
  makes = record {
    names = uses.makes.names;
    of_kind = uses.makes.of_kind;
    more = uses.makes.more;
  };
  kept = uses.kept;
  openings = uses.openings;
  makings = uses.makings;
}

-- the names of the files that are read up to the streams, by the steps that open them
abbrev pub names_to_streams : Settings → List (List ℕ)
names_to_streams given = (option_to_list (joins_of given) ++ option_to_list (asks_of given))
    ++ (option_to_list (from_of given) ++ streams_of given)

streams_in_order : (given : Settings)
    → given.queries ∷ names_to_streams given ≡ names_with_streams given
streams_in_order given = ap (λ (ns : List (List ℕ)). given.queries ∷ ns)
    (sym (append_assoc (option_to_list (joins_of given) ++ option_to_list (asks_of given))
    (option_to_list (from_of given)) (streams_of given)))

-- and of all of them
pub names_in_order : (given : Settings)
    → given.queries ∷ later_names given ≡ file_names given
names_in_order given =
    ap (λ (ns : List (List ℕ)). ns ++ asks_names given) (streams_in_order given)

-- the step behind the streams
pub behind_streams : {F : Type 0} {holds : F → List ℕ → Option (List ℕ)}
    {opened made : F → List (List ℕ)} {unread unmade : F → List ℕ → ℕ} {given : Settings}
    {own to_write : List (List ℕ)} {start : Option StartFault} {old new : F}
    → UsesMore holds opened made unread unmade given (names_with_streams given) own to_write start
    old new
    → UsesMore holds opened made unread unmade given (given.queries ∷ names_to_streams given) own
    to_write start old new
behind_streams {F} {holds} {opened} {made} {unread} {unmade} {given} {own} {to_write} {start} {old}
    {new} uses =
    subst (λ (ns : List (List ℕ)). UsesMore holds opened made unread unmade given ns own to_write
    start old new)
    (sym (streams_in_order given)) uses

-- the step behind all files that are read
pub behind_all : {F : Type 0} {holds : F → List ℕ → Option (List ℕ)} {opened made : F → List (List ℕ)}
    {unread unmade : F → List ℕ → ℕ} {given : Settings} {to_write : List (List ℕ)} {start : Option StartFault}
    {old new : F} → UsesMore holds opened made unread unmade given (file_names given) [] to_write start old new
    → UsesMore holds opened made unread unmade given (given.queries ∷ later_names given) [] to_write
    start old new
behind_all {F} {holds} {opened} {made} {unread} {unmade} {given} {to_write} {start} {old} {new} uses =
    subst (λ (ns : List (List ℕ)). UsesMore holds opened made unread unmade given ns [] to_write start old new)
    (sym (names_in_order given)) uses

-- the steps of a whole run
pub all_steps : {F : Type 0} {holds : F → List ℕ → Option (List ℕ)} {opened made : F → List (List ℕ)}
    {unread unmade : F → List ℕ → ℕ} (given : Settings) (own to_write : List (List ℕ))
    (start : Option StartFault) (old new : F) → own ≡ file_names given → to_write ≡ sink_names given
    → UsesMore holds opened made unread unmade given [] own to_write start old new
    → UsesFiles holds opened made unread unmade (Some given) start old new
all_steps {F} {holds} {opened} {made} {unread} {unmade} given own to_write start old new all written uses = record {
  opens = record {
    names = uses.opens.names;
    of_kind = read start uses.opens.names uses.opens.of_kind;
    more = uses.opens.more;
  };
  makes = record {
    names = uses.makes.names;
    of_kind = wrote start uses.makes.names uses.makes.of_kind;
    more = uses.makes.more;
  };
  kept = uses.kept;
  openings = uses.openings;
  makings = uses.makings;
}
  where
    read : (s : Option StartFault) (names : List (List ℕ)) → AreOpenedBehind given [] own s names
        → AreOpened given s names
    read None names are = are ∙ all
    read (Some fault) names are = are

    wrote : (s : Option StartFault) (names : List (List ℕ)) → AreMadeThen given to_write s names
        → AreMade given s names
    wrote None names are = are ∙ written
    wrote (Some fault) names are = are

-- ---- refusals

-- a refusal that is handed on
pub start_is : {A S : Type 0} (result : Result A (Refusal S)) (refusal : Refusal S)
    → IsErrAnd result (λ handed. handed ≡ refusal) → Some refusal.fault ≡ fault_of result
start_is (Ok x) refusal handed = absurd handed
start_is (Err e) refusal handed = ap (λ (r : Refusal _). Some r.fault) (sym handed)

pub refused_by : {A S : Type 0} (P : Refusal S → Type 0) (result : Result A (Refusal S)) (refusal : Refusal S)
    → IsErrAnd result (λ handed. handed ≡ refusal) → P refusal → IfErr result P
refused_by P (Ok x) refusal handed p = tt
refused_by P (Err e) refusal handed p = subst P (sym handed) p

-- a refusal of a step is one of the run where the files hold what they held
pub refused_behind : {A S : Type 0} (left : S → Option (List ℕ)) (faults : S → ℕ) (given : Settings)
    (holds now : List ℕ → Option (List ℕ)) (result : Result A (Refusal S)) (refusal : Refusal S)
    → IsErrAnd result (λ handed. handed ≡ refusal) → now ≡ holds → IsRefusal left faults given now
    refusal
    → IfErr result (IsRefusal left faults given holds)
refused_behind left faults given holds now result refusal handed same is =
    refused_by (IsRefusal left faults given holds) result refusal handed
    (subst (λ (h : List ℕ → Option (List ℕ)). IsRefusal left faults given h refusal) same is)

-- the files of a run that a step refuses
pub files_behind : {A S F : Type 0} {holds : F → List ℕ → Option (List ℕ)}
    {opened made : F → List (List ℕ)} {unread unmade : F → List ℕ → ℕ} {given : Settings}
    {before own to_write : List (List ℕ)} {old new : F}
    (more more_write : List (List ℕ)) (result : Result A (Refusal S)) (refusal : Refusal S)
    → IsErrAnd result (λ handed. handed ≡ refusal)
    → UsesMore holds opened made unread unmade given before own to_write (Some refusal.fault)
    old new
    → UsesMore holds opened made unread unmade given before more more_write (fault_of result)
    old new
files_behind {A} {S} {F} {holds} {opened} {made} {unread} {unmade} {given} {before} {own} {to_write}
    {old} {new}
    more more_write result refusal handed uses =
    subst (λ (s : Option StartFault). UsesMore holds opened made unread unmade given before more
    more_write s old new)
    (start_is result refusal handed) (refused_as more more_write uses)

-- an opening that failed is a reason to refuse the run where it may come
pub opening_refuses : {S : Type 0} (left : S → Option (List ℕ)) (faults : S → ℕ) (given : Settings)
    (holds : List ℕ → Option (List ℕ)) (which : Which) (refusal : Refusal S)
    → IsRefusedFor given holds (Open which) → IsRefusalOfOpening which refusal
    → IsRefusal left faults given holds refusal
opening_refuses {S} left faults given holds which refusal may is = record {
  cause = by_cause is.cause;
  sources = by_sources is.cause;
}
  where
    by_cause : (refusal.fault ≡ Open which) ⊎ (refusal.fault ≡ Memory) → IsRefusedFor given holds refusal.fault
    by_cause (inl opening) = subst (λ (f : StartFault). IsRefusedFor given holds f) (sym opening) may
    by_cause (inr memory) = subst (λ (f : StartFault). IsRefusedFor given holds f) (sym memory) tt

    none : option_to_list refusal.source ≡ []
    none = ap (λ (s : Option S). option_to_list s) is.no_source

    by_sources : (refusal.fault ≡ Open which) ⊎ (refusal.fault ≡ Memory)
        → AreSourcesOf left faults (file_held (Some given) holds) refusal.fault (option_to_list refusal.source)
    by_sources (inl opening) = subst (λ (f : StartFault). AreSourcesOf left faults (file_held (Some given) holds) f
        (option_to_list refusal.source)) (sym opening) none
    by_sources (inr memory) = subst (λ (f : StartFault). AreSourcesOf left faults (file_held (Some given) holds) f
        (option_to_list refusal.source)) (sym memory) none

-- so is that of one of some that are numbered
one_refuses : {S : Type 0} (left : S → Option (List ℕ)) (faults : S → ℕ) (given : Settings)
    (holds : List ℕ → Option (List ℕ)) (refusal : Refusal S) (count : ℕ) (which : ℕ → Which)
    → ((number : ℕ) → IsNumberOf count number → IsRefusedFor given holds (Open (which number)))
    → IsRefusalOfOne count which refusal → IsRefusal left faults given holds refusal
one_refuses {S} left faults given holds refusal count which may is = by is.cause
  where
    by : ((number : ℕ) × IsNumberOf count number × (refusal.fault ≡ Open (which number)))
        ⊎ (refusal.fault ≡ Memory) → IsRefusal left faults given holds refusal
    by (inl (number, within, opening)) = opening_refuses left faults given holds (which number)
        refusal (may number within) (record { no_source = is.no_source; cause = inl opening })
    by (inr memory) = opening_refuses left faults given holds Queries refusal tt
        (record { no_source = is.no_source; cause = inr memory })

-- as that of the faulty lines of a stream
pub faults_refuse : {S : Type 0} (left : S → Option (List ℕ)) (faults : S → ℕ) (given : Settings)
    (holds : List ℕ → Option (List ℕ)) (refusal : Refusal S) → AreUnderstoodFiles given holds
    → IsRefusalOfFaults given refusal → IsRefusal left faults given holds refusal
faults_refuse {S} left faults given holds refusal understood is =
    one_refuses left faults given holds refusal (length (faults_of given)) (λ number. FaultsOf number)
    (λ number within. (within, understood)) is

-- and that of the replies to a reader
pub replies_refuse : {S : Type 0} (left : S → Option (List ℕ)) (faults : S → ℕ) (given : Settings)
    (holds : List ℕ → Option (List ℕ)) (refusal : Refusal S) → AreUnderstoodFiles given holds
    → IsRefusalOfReplies given refusal → IsRefusal left faults given holds refusal
replies_refuse {S} left faults given holds refusal understood is =
    one_refuses left faults given holds refusal (length (readers_of given)) (λ number. RepliesOf number)
    (λ number within. (within, understood)) is

-- the queries file and the joins file that were read whole are understood
pub joins_understood : (given : Settings) (holds : List ℕ → Option (List ℕ)) (queries : List Query)
    (joins : List JoinValue) → IfSome (holds given.queries)
    (λ bytes. HasQueries (two_way_of given) bytes queries)
    → ForJoins given holds queries (λ found. joins ≡ found) → AreUnderstoodJoins given holds
joins_understood given holds queries joins has are = by (holds given.queries) has
  where
    by_file : (file : Option (List ℕ))
        → IfSome file (λ bytes. (found : List JoinValue) × HasJoins queries bytes found
        × (joins ≡ found))
        → IfSome file (λ bytes. (found : List JoinValue) × HasJoins queries bytes found × Unit {0})
    by_file None told = tt
    by_file (Some bytes) (found, has, same) = (found, has, tt)

    by_joins : (named : Option (List ℕ))
        → MatchOption named (joins ≡ []) (λ name. IfSome (holds name)
        (λ bytes. (found : List JoinValue) × HasJoins queries bytes found × (joins ≡ found)))
        → MatchOption named (Unit {0}) (λ name. IfSome (holds name)
        (λ bytes. (found : List JoinValue) × HasJoins queries bytes found × Unit {0}))
    by_joins None same = tt
    by_joins (Some name) told = by_file (holds name) told

    by : (file : Option (List ℕ)) → IfSome file (λ bytes. HasQueries (two_way_of given) bytes queries)
        → ForQueries (two_way_of given) file (λ all. ForJoins given holds all (λ found. Unit {0}))
    by None has = tt
    by (Some bytes) has = (queries, has, by_joins (joins_of given) are)

-- and so are all files that were read whole
pub understood_by : (given : Settings) (holds : List ℕ → Option (List ℕ)) (queries : List Query)
    (sessions : List (List Ask)) → AreUnderstoodJoins given holds → IfSome (holds given.queries)
    (λ bytes. HasQueries (two_way_of given) bytes queries)
    → ForSessions given holds queries (λ asked. sessions ≡ asked) → AreUnderstoodFiles given holds
understood_by given holds queries sessions joined has are = record {
  joins = joined;
  asks = by (holds given.queries) has;
}
  where
    by_file : (file : Option (List ℕ))
        → IfSome file (λ bytes. (asked : List (List Ask)) × HasSessions queries bytes asked × (sessions ≡ asked))
        → IfSome file (λ bytes. (asked : List (List Ask)) × HasSessions queries bytes asked × Unit {0})
    by_file None told = tt
    by_file (Some bytes) (asked, has, same) = (asked, has, tt)

    by_asks : (asks : Option (List ℕ))
        → MatchOption asks (sessions ≡ []) (λ name. IfSome (holds name)
        (λ bytes. (asked : List (List Ask)) × HasSessions queries bytes asked × (sessions ≡ asked)))
        → MatchOption asks (Unit {0}) (λ name. IfSome (holds name)
        (λ bytes. (asked : List (List Ask)) × HasSessions queries bytes asked × Unit {0}))
    by_asks None same = tt
    by_asks (Some name) told = by_file (holds name) told

    by : (file : Option (List ℕ)) → IfSome file (λ bytes. HasQueries (two_way_of given) bytes queries)
        → ForQueries (two_way_of given) file (λ all. ForSessions given holds all (λ asked. Unit {0}))
    by None has = tt
    by (Some bytes) has = (queries, has, by_asks (asks_of given) are)

-- and are so where the files hold what they held
pub all_understood : (given : Settings) (holds now later : List ℕ → Option (List ℕ))
    (queries : List Query)
    (joins : List JoinValue) (sessions : List (List Ask)) → now ≡ holds → later ≡ holds
    → IfSome (holds given.queries) (λ bytes. HasQueries (two_way_of given) bytes queries)
    → ForJoins given holds queries (λ found. joins ≡ found)
    → ForSessions given now queries (λ asked. sessions ≡ asked) → AreUnderstoodFiles given later
all_understood given holds now later queries joins sessions same still has joined asked =
    subst (λ (h : List ℕ → Option (List ℕ)). AreUnderstoodFiles given h) (sym still)
    (understood_by given holds queries sessions
    (joins_understood given holds queries joins has joined) has
    (subst (λ (h : List ℕ → Option (List ℕ)). ForSessions given h queries
    (λ asked. sessions ≡ asked)) same
    asked))
