-- Which runs over streams are done.
use Rattle.std.proofs.Common.{◌≡◌, ◌≢◌, ℕ, ◌≤◌, Bool, true, List, [], ◌∷◌, ◌++◌, length, Option}
use Rattle.std.proofs.Common.{Some, None, Result, Ok, Err, refl, ap, sym, subst, subst₂, ◌∙◌, arith, inl, inr}
use Rattle.std.specs.Prelude.{IfSome, IsSomeAnd, codes, map, option_map, sum}
use Rattle.std.specs.List.{All}
use Rattle.std.proofs.lemmas.List.Elements.{All-cons, All-head, All-nil, All-tail}
use Rattle.rpq_model.specs.Query.{Query}
use Rattle.ask_text.specs.declared.ask.Ask.{Ask}
use Rattle.ask_text.specs.declared.fault.AskFault.{AskFault}
use Rattle.ask_text.specs.Asks.{asks}
use Rattle.join_file.specs.declared.fault.JoinFileFault.{JoinFileFault}
use Rattle.join_file.specs.Joins.{JoinValue}
use Rattle.join_file.specs.JoinsFile.{joins}
use Rattle.query_file.specs.declared.fault.QueryFault.{QueryFault}
use Rattle.query_file.specs.Examples.{TwoWayExamples, inverse_line, inverse_query}
use Rattle.query_file.specs.Laws.{OneOutcome, OneOutcomeOf, OneTwoWayOutcome}
use Rattle.rpq_words.specs.declared.settings.RunMode.{RunMode}
use Rattle.rpq_words.specs.declared.settings.RunMode.TheVariants.{Streams}
use Rattle.rpq_words.specs.declared.settings.StreamSettings.{StreamSettings}
use Rattle.rpq_words.specs.declared.settings.StreamSettings.TheVariants.{BothWays}
use Rattle.rpq_words.specs.declared.settings.Settings.{Settings}
use Rattle.rpq_words.specs.Examples.{SettingsExamples, over_both_ways, plain}
use Rattle.rpq_words.specs.Modes.{count_of}
use Rattle.rpq_words.specs.declared.reader_names.ReaderFiles.{ReaderFiles}
use Rattle.rpq_words.specs.Views.{asks_of, cap_of, joins_of, mode_of, readers_of, two_way_of}
use Rattle.live_asks.specs.Items.{asked_items}
use Rattle.text_items.specs.declared.ends.TextEnd.TheVariants.{LongText}
use Rattle.run_start.specs.Files.{HasQueries, ForQueries, AreFaultlessAsks, AreFaultlessJoins}
use Rattle.run_start.specs.Files.{IsFaultless, stream_contents}
use Rattle.run_start.specs.Given.{policy_of}
use Rattle.run_start.specs.Texts.{tuples_within}
use Rattle.saved_window.specs.SavedText.{SavedTextIsRead, saved_text}
use Rattle.saved_window.specs.Then.{join_known}
use Rattle.stream_tuples.specs.declared.ends.StreamEnd.TheVariants.{Whole}
use Rattle.stream_tuples.specs.declared.faults.FaultPolicy.{FaultPolicy}
use Rattle.stream_tuples.specs.declared.faults.FaultPolicy.TheVariants.{Stop}
use Rattle.stream_tuples.specs.Limits.{byte_limit}
use Rattle.stream_tuples.specs.StreamText.{StreamTuples, tuples_from}
use Rattle.stream_tuples.proofs.ByteLimits.{kept_limit}
use Rattle.entry_steps.specs.Laws.{StepsHaveJoinEvents, StepsHaveTheEvents}
use Rattle.rpq_run.specs.Done.{AreFewAsks, CanBeDone, IsWholeStream, NothingRose, tuple_count}
use Rattle.rpq_run.specs.Faultless.{AreFaultless, SmallRunCanBeDone}
use Rattle.rpq_run.specs.Headline.{Told, IsTold, AreAsked, AreJoined, Headline, stream_texts}
use Rattle.rpq_run.specs.Outcome.{Meanings, Sinks, Objects, Openings, Outcome}
use Rattle.rpq_run.specs.RunsStreams.{RunsStreams}
use Rattle.rpq_run.proofs.Done.{streams_done}
use Rattle.rpq_run.proofs.Headlines.{contents_are, either_way, from_queries, headline_holds}
use Rattle.rpq_run.proofs.Totals.{sum_front}

-- ---- the files that are read whole

-- a file that gives queries has no fault
no_query_fault : (two_way : Bool) → OneOutcomeOf two_way → (bytes : List ℕ) (queries : List Query)
    → HasQueries two_way bytes queries → IsFaultless two_way bytes
no_query_fault two_way one bytes queries has = record {
  short = has.0;
  no_fault = λ fault gives.
      let both : ◌≡◌ {A = Result (List Query) QueryFault} (Ok queries) (Err fault) =
      one bytes (Ok queries) (Err fault) has.1 gives in
      absurd (cc both);
}

module _ {S K : Type 0} (means : Meanings S K) (given : Settings)
    (holds : List ℕ → Option (List ℕ)) (sinks : Sinks K) (told : Told)
    (one : OneOutcomeOf (two_way_of given)) (is : IsTold means given holds sinks told)
    (queries : List Query) (has : HasQueries (two_way_of given) told.queries queries) where
  understood_in : IsSomeAnd (holds given.queries) (IsFaultless (two_way_of given))
  understood_in = subst (λ (file : Option (List ℕ)). IsSomeAnd file (IsFaultless (two_way_of given)))
      (sym is.queries) (no_query_fault (two_way_of given) one told.queries queries has)

  -- what is so of all queries of the file is so of these
  of_these : (P : List Query → Type 0) → ForQueries (two_way_of given) (holds given.queries) P
      → P queries
  of_these P p =
      from_queries (two_way_of given) one (holds given.queries) told.queries queries P is.queries has p

  joins_in : (found : List JoinValue) → AreJoined queries told.joins found
      → IfSome (joins_of given) (λ name. IsSomeAnd (holds name)
      (AreFaultlessJoins (two_way_of given) (holds given.queries)))
  joins_in found joined = by (joins_of given) told.joins is.joins joined
    where
      by : (named known : Option (List ℕ))
          → option_map holds named ≡ option_map (λ bytes. Some bytes) known
          → AreJoined queries known found
          → IfSome named (λ name. IsSomeAnd (holds name)
          (AreFaultlessJoins (two_way_of given) (holds given.queries)))
      by None known is joined = tt
      by (Some name) None is joined = absurd (cc is)
      by (Some name) (Some bytes) is joined =
          let content : holds name ≡ Some bytes = cc is in
          subst (λ (file : Option (List ℕ)). IsSomeAnd file
          (AreFaultlessJoins (two_way_of given) (holds given.queries))) (sym content) (record {
            short = joined.0;
            no_fault = λ fault faulty.
                let bad = of_these (λ all. joins all bytes ≡ Err fault) faulty in
                let both : ◌≡◌ {A = Result (List JoinValue) JoinFileFault} (Ok found) (Err fault) =
                sym joined.1 ∙ bad in
                absurd (cc both);
          })

  asks_in : (sessions : List (List Ask)) → AreAsked queries told.asks sessions
      → IfSome (asks_of given) (λ name. IsSomeAnd (holds name)
      (AreFaultlessAsks (two_way_of given) (holds given.queries)))
  asks_in sessions asked = by (asks_of given) told.asks is.asks asked
    where
      by : (named known : Option (List ℕ))
          → option_map holds named ≡ option_map (λ bytes. Some bytes) known
          → AreAsked queries known sessions
          → IfSome named (λ name. IsSomeAnd (holds name)
          (AreFaultlessAsks (two_way_of given) (holds given.queries)))
      by None known is asked = tt
      by (Some name) None is asked = absurd (cc is)
      by (Some name) (Some bytes) is asked =
          let content : holds name ≡ Some bytes = cc is in
          subst (λ (file : Option (List ℕ)). IsSomeAnd file
          (AreFaultlessAsks (two_way_of given) (holds given.queries))) (sym content) (record {
            short = asked.0;
            no_fault = λ fault faulty.
                let bad = of_these (λ all. asks all bytes ≡ Err fault) faulty in
                let both : ◌≡◌ {A = Result (List (List Ask)) AskFault} (Ok sessions) (Err fault) =
                sym asked.1 ∙ bad in
                absurd (cc both);
          })

  -- the readers' asks don't have too many bytes
  readers_in : (texts : List (List ℕ)) (files : List ReaderFiles)
      → map (λ (each : ReaderFiles). holds each.asks) files
      ≡ map (λ (bytes : List ℕ). Some bytes) texts
      → All (λ text. (asked_items queries text).end ≢ LongText) texts
      → All (λ (each : ReaderFiles). IsSomeAnd (holds each.asks)
      (AreFewAsks (two_way_of given) (holds given.queries))) files
  readers_in texts [] are few = All-nil (λ (each : ReaderFiles). IsSomeAnd (holds each.asks)
      (AreFewAsks (two_way_of given) (holds given.queries)))
  readers_in [] (file ∷ files) are few = absurd (cc are)
  readers_in (text ∷ texts) (file ∷ files) are few =
      let IsFew : List ℕ → Type 0 = λ bytes. (asked_items queries bytes).end ≢ LongText in
      let content : holds file.asks ≡ Some text = cc are in
      let rest : map (λ (each : ReaderFiles). holds each.asks) files
      ≡ map (λ (bytes : List ℕ). Some bytes) texts = cc are in
      All-cons (λ (each : ReaderFiles). IsSomeAnd (holds each.asks)
      (AreFewAsks (two_way_of given) (holds given.queries))) file files
      (subst (λ (held : Option (List ℕ)). IsSomeAnd held
      (AreFewAsks (two_way_of given) (holds given.queries))) (sym content)
      (λ long. All-head IsFew text texts few
      (of_these (λ all. (asked_items all text).end ≡ LongText) long)))
      (readers_in texts files rest (All-tail IsFew text texts few))

-- ---- the streams

whole_contents : (policy : FaultPolicy) (cap : ℕ) (texts : List (List ℕ))
    → All (λ text. (tuples_within policy cap text).end ≡ Whole) texts
    → All (IsWholeStream policy cap) (map (λ (bytes : List ℕ). Some bytes) texts)
whole_contents policy cap [] whole = All-nil (IsWholeStream policy cap)
whole_contents policy cap (text ∷ texts) whole =
    let IsWhole : List ℕ → Type 0 = λ text. (tuples_within policy cap text).end ≡ Whole in
    All-cons (IsWholeStream policy cap) (Some text) (map (λ (bytes : List ℕ). Some bytes) texts)
    (All-head IsWhole text texts whole)
    (whole_contents policy cap texts (All-tail IsWhole text texts whole))

counted : (policy : FaultPolicy) (cap : ℕ) (texts : List (List ℕ))
    → map (tuple_count policy cap) (map (λ (bytes : List ℕ). Some bytes) texts)
    ≡ map (λ text. length (tuples_within policy cap text).tuples) texts
counted policy cap [] = refl
counted policy cap (text ∷ texts) =
    ap (λ (rest : List ℕ). length (tuples_within policy cap text).tuples ∷ rest) (counted policy cap texts)

-- what is said of the streams by the policy and the cap that are told is so by those of the settings
abbrev IsFineWithin : Told → FaultPolicy → ℕ → Type 0
IsFineWithin told policy cap = All (λ text. (tuples_within policy cap text).end ≡ Whole) (stream_texts told)
    × (sum (map (λ text. length (tuples_within policy cap text).tuples) (stream_texts told)) ≤ cap)

-- ---- all of it

-- a run over streams can be done whose files have no fault
pub can_be_done : {S K : Type 0} (means : Meanings S K) (given : Settings)
    (holds : List ℕ → Option (List ℕ)) (sinks : Sinks K) (told : Told) (run : StreamSettings)
    → OneOutcome → OneTwoWayOutcome → mode_of given ≡ Streams run
    → IsTold means given holds sinks told → AreFaultless told → CanBeDone given holds
can_be_done means given holds sinks told run one_way two_way mode is fine =
    let one = either_way one_way two_way (two_way_of given) in
    let has = subst (λ (both_ways : Bool). HasQueries both_ways told.queries fine.queries)
    (sym {A = Bool} is.two_way) fine.accepted in
    let contents = contents_are given holds told is.from is.streams in
    let policy = policy_of given in
    let cap = cap_of given in
    let streams = subst₂ (IsFineWithin told) (sym {A = FaultPolicy} is.policy) (sym is.limit)
    (fine.whole, fine.few) in
    record {
      understood = understood_in means given holds sinks told one is fine.queries has;
      joins = joins_in means given holds sinks told one is fine.queries has fine.joins fine.joined;
      asks = asks_in means given holds sinks told one is fine.queries has fine.sessions fine.asked;
      whole = subst (λ (files : List (Option (List ℕ))). All (IsWholeStream policy cap) files)
          (sym {A = List (Option (List ℕ))} contents)
          (whole_contents policy cap (stream_texts told) streams.0);
      few = omega (
        arith,
        ap (λ (files : List (Option (List ℕ))). sum (map (tuple_count policy cap) files)) contents,
        ap (λ (counts : List ℕ). sum counts) (counted policy cap (stream_texts told)),
        streams.1,
      );
      readers = readers_in means given holds sinks told one is fine.queries has told.readers
          (readers_of given) is.readers fine.few_asks;
      made = subst (λ (m : RunMode). IfSome (count_of m) (λ count. count ≤ cap))
          (sym {A = RunMode} mode) tt;
    }

-- and where nothing fails and memory doesn't run out, it is done
pub faultless_done : {S K : Type 0} (means : Meanings S K) (given : Settings)
    (holds : List ℕ → Option (List ℕ)) (sinks : Sinks K) (objects : Objects)
    (outcome : Outcome S K) (told : Told) (openings : Openings) (run : StreamSettings)
    → OneOutcome → OneTwoWayOutcome → StepsHaveTheEvents → StepsHaveJoinEvents
    → mode_of given ≡ Streams run → RunsStreams means given holds sinks objects outcome
    → IsTold means given holds sinks told → AreFaultless told
    → NothingRose means given openings sinks outcome → outcome.status ≢ 8
    → Headline means told sinks objects outcome
faultless_done means given holds sinks objects outcome told openings run one_way two_way law lines
    mode runs is fine none other =
    elim (streams_done means given holds openings sinks objects outcome runs
    (can_be_done means given holds sinks told run one_way two_way mode is fine) none) [
      | inl done ↦ headline_holds means given holds sinks objects outcome told one_way two_way law
          lines runs done is
      | inr eight ↦ absurd (other eight)
    ]

-- ---- a small run

pub small_run : OneTwoWayOutcome → TwoWayExamples → SettingsExamples → SavedTextIsRead
    → SmallRunCanBeDone
small_run one examples words read = λ holds tuples queries stream may few short.
    let given = plain (Streams (BothWays (over_both_ways (codes "t" ∷ [])))) in
    let text = saved_text tuples in
    let cap = cap_of given in
    let back : tuples_within Stop cap text ≡ record { tuples = tuples; end = Whole } =
    ap (λ limit. tuples_from Stop 1 limit text) (kept_limit cap (omega arith))
    ∙ (read Stop tuples may).alone byte_limit short in
    let bytes = inverse_line ++ codes "\n" in
    let bytes_are : length bytes ≡ 46 = refl in
    let of_query : IsSomeAnd (holds (codes "q")) (IsFaultless true) =
    subst (λ (file : Option (List ℕ)). IsSomeAnd file (IsFaultless true)) (sym queries)
    (no_query_fault true one bytes (inverse_query ∷ [])
    (omega (arith, bytes_are), examples.given)) in
    let of_stream : IsWholeStream Stop cap (holds (codes "t")) =
    subst (IsWholeStream Stop cap) (sym stream) (ap (λ (ts : StreamTuples). ts.end) back) in
    let count : tuple_count Stop cap (holds (codes "t")) ≡ length tuples =
    ap (tuple_count Stop cap) stream ∙ ap (λ (ts : StreamTuples). length ts.tuples) back in
    let none : sum [] ≡ 0 = refl in
    let contents : stream_contents given holds ≡ holds (codes "t") ∷ [] =
    ap (λ (file : Option (List ℕ)). file ∷ []) (unread (holds (codes "t"))) in
    subst (λ (found : Option Settings). IsSomeAnd found (λ all. CanBeDone all holds))
    (sym words.both_ways.over_stream) (record {
      understood = of_query;
      joins = tt;
      asks = tt;
      whole = subst (λ (files : List (Option (List ℕ))). All (IsWholeStream Stop cap) files)
          (sym {A = List (Option (List ℕ))} contents)
          (All-cons (IsWholeStream Stop cap) (holds (codes "t")) [] of_stream
          (All-nil (IsWholeStream Stop cap)));
      few = omega (
        arith,
        ap (λ (files : List (Option (List ℕ))). sum (map (tuple_count Stop cap) files)) contents,
        sum_front (tuple_count Stop cap (holds (codes "t"))) [],
        none,
        count,
        few,
      );
      readers = All-nil (λ (each : ReaderFiles). IsSomeAnd (holds each.asks)
          (AreFewAsks (two_way_of given) (holds given.queries)));
      made = tt;
    })
  where
    unread : (file : Option (List ℕ)) → join_known (Some []) file ≡ file
    unread None = refl
    unread (Some bytes) = refl
