-- From what the passes knew to what is so of the whole history.
use Rattle.std.proofs.Common.{◌≡◌, ℕ, ◌+◌, ◌<◌, ◌≤◌, Bool, true, false, ◌||◌}
use Rattle.std.proofs.Common.{List, [], ◌∷◌, ◌++◌}
use Rattle.std.proofs.Common.{length, map, Option, Some, None, refl, sym, ap}
use Rattle.std.proofs.Common.{subst, ◌∙◌, arith}
use Rattle.std.specs.Prelude.{Contains}
use Rattle.std.specs.Global.{Vec}
use Rattle.std.specs.List.{All, AllZip, list_any}
use Rattle.std.proofs.lemmas.Simd.{map-map}
use Rattle.std.proofs.lemmas.List.Elements.{All-nil, All-cons, All-head, All-tail}
use Rattle.rpq_base.specs.declared.data.Entry.{Entry}
use Rattle.rpq_base.specs.Plain.{IsPlain}
use Rattle.rpq_io.specs.Reader.{ReaderState}
use Rattle.rpq_model.specs.Query.{Query}
use Rattle.turn_lock.specs.Passes.{Knows}
use Rattle.history_model.specs.declared.line.Why.{Why}
use Rattle.history_model.specs.declared.line.Why.TheVariants.{Write, Memory}
use Rattle.history_model.specs.declared.line.Call.{Call}
use Rattle.history_model.specs.declared.line.CallAct.TheVariants.{Shut}
use Rattle.history_model.specs.declared.line.Line.{Line}
use Rattle.history_model.specs.Lines.{calls, entries, published, AllEnded, IsShutFor}
use Rattle.history_model.specs.Legal.{IsLegal}
use Rattle.history_model.specs.LegalLaws.{LegalIsSound, FrontsAreLegal}
use Rattle.history_model.specs.World.{Terms}
use Rattle.stream_history.specs.History.{HistoryValue, author}
use Rattle.stream_history.specs.Journal.{KeepsAll}
use Rattle.stream_history.proofs.Own.{own_call}
use Rattle.stream_tuples.specs.declared.ends.StreamEnd.{StreamEnd}
use Rattle.stream_tuples.specs.declared.ends.StreamEnd.TheVariants.{Closed}
use Rattle.stream_tuples.specs.declared.faults.FaultPolicy.{FaultPolicy}
use Rattle.stream_tuples.specs.History.{IsNumberOf, AreStreamsOf, AreReportedOf}
use Rattle.stream_tuples.specs.History.{policy_of_sink, policy_of_sinks}
use Rattle.ask_text.specs.declared.ask.Ask.{Ask}
use Rattle.ask_text.specs.Answered.{AnsweredValue}
use Rattle.live_asks.specs.declared.ends.ReaderEnd.{ReaderEnd}
use Rattle.live_asks.specs.declared.ends.ReaderEnd.TheVariants as reader_end
use Rattle.live_asks.specs.declared.reader.AskReader.{AskReader}
use Rattle.live_asks.specs.declared.reader.ReaderOutcome.{ReaderOutcome}
use Rattle.entry_steps.specs.Steps.{OptionsValue}
use Rattle.rpq_text.specs.Text.{IsText}
use Rattle.stream_threads.specs.declared.reader_work.ReaderWork.{ReaderWork}
use Rattle.stream_threads.specs.declared.session_work.SessionWork.{SessionWork}
use Rattle.stream_threads.specs.declared.stream_input.StreamInput.{StreamInput}
use Rattle.stream_threads.specs.declared.stream_worker.StreamResult.{StreamResult}
use Rattle.stream_threads.specs.Live.{HaveServed}
use Rattle.stream_threads.specs.Inputs.{sinks_for}
use Rattle.stream_threads.specs.Started.{HaveStreamed}
use Rattle.stream_threads.specs.Readers.{HaveReplied}
use Rattle.stream_threads.proofs.Seen.{still_there}
use Rattle.stream_threads.proofs.Numbering.{Each}
use Rattle.rpq_text.specs.Definitions.{definitions_of}
use Rattle.standing.specs.Objects.{ObjectValue}
use Rattle.standing.specs.Circles.{CircleValue, Parts, as_seen}
use Rattle.rpq_threads.specs.declared.task.RunOutcome.{RunOutcome}
use Rattle.rpq_threads.specs.declared.task.Task.{Task}
use Rattle.rpq_threads.specs.Written.{Grew, GrewByPrefix, GrewByProperPrefix}
use Rattle.rpq_threads.specs.Runs.{WritesText, IsSessionOf, AreSessionsOf, IsLiveOf}
use Rattle.rpq_threads.specs.Runs.{asks_answered, session_answers, stream_files, HasAnswered}
use Rattle.rpq_threads.specs.Runs.{Holds}
use Rattle.rpq_threads.specs.Told.{TellsObjects}
use Rattle.rpq_threads.specs.Fed.{HasFed}
use Rattle.rpq_threads.specs.Window.{IsLeftOf, IsWindowFor, ServesAs}
use Rattle.rpq_threads.specs.Served.{Given, Gave, IsServed, outcome_of}
use Rattle.rpq_threads.proofs.Answering.{none_asked, front_is, sessions_are, readers_are}
use Rattle.rpq_threads.proofs.Starting.{inputs_alike, terms_of}
use Rattle.rpq_threads.proofs.Streaming.{own_mine, reports_are, streams_are}

-- how a reader ended
abbrev reader_ended : {A K : Type 0} → ReaderWork A K → ReaderEnd
reader_ended work = work.end

-- how the readers ended is told with their sources and replies
ends_told : {A K : Type 0} (served : List (ReaderWork A K)) →
    map (λ (one : ReaderOutcome A K). one.end) (map outcome_of served) ≡ map reader_ended served
ends_told [] = refl
ends_told (r ∷ rs) = ap (λ (rest : List ReaderEnd). r.end ∷ rest) (ends_told rs)

-- the sessions and the readers were answered over these entries
pub record AreAnswered {S A K : Type 0} (left : A → Option (List ℕ)) (faults : A → ℕ)
    (written : K → Option (List ℕ)) (failures : K → ℕ) (queries : List Query)
    (history : List Entry) (given : Given S A K) (gave : Gave S A K) : Type 0 where
  pub last : ℕ
  pub within : last ≤ length history
  pub at_end : gave.why ≡ None → last ≡ length history
  pub sessions : AreSessionsOf queries history last given.sessions gave.answers
  pub all : gave.short_of_memory ≡ false → asks_answered gave.answers ≡ given.sessions
  pub readers : AllZip (IsLiveOf left faults written failures queries history last)
      (map (λ (one : AskReader A K). left one.reader.source) given.ask_readers) gave.readers
  pub closed : (why : Why) → Contains (map (λ (one : ReaderOutcome A K). one.end) gave.readers)
      (reader_end.Closed why) → gave.why ≡ Some why

-- neither of two is true
or_false : (a b : Bool) → (a || b) ≡ false → (a ≡ false) × (b ≡ false)
or_false true b is = absurd cc
or_false false b is = (refl, is)

-- ---- what the passes knew is so of the history

-- what the engine left is what is left of the whole history
window_for : (terms : Terms) (history all : List Entry) (gone : ℕ) (why : Option Why)
    (window : Option (Vec Entry)) → (why ≡ None → all ≡ history) → (KeepsAll terms → gone ≡ 0) →
    IsLeftOf terms history why window → IsWindowFor terms.queries all gone why window
window_for terms history all gone why None same whole left = whole left
window_for terms history all gone why (Some window) same whole left = λ none.
    subst (λ (h : List Entry). ServesAs terms.queries h window.items) (sym (same none)) (left none)

module _ (law : LegalIsSound) (fronts : FrontsAreLegal) (terms : Terms) (lines : List Line)
    (legal : IsLegal terms.streams terms.cap lines) where
  module _ {K : Type 0} (written : K → Option (List ℕ)) (failures : K → ℕ) (options : OptionsValue)
      (history : HistoryValue) (same : history.terms ≡ terms) (before after : K)
      (first last : CircleValue) (engine : Each) (why : Option Why) (window : Option (Vec Entry))
      (fed : HasFed written failures options history before after first last engine why window)
      (knows : Knows author terms lines engine) where
    closes : (reason : Why) → IsShutFor lines reason → why ≡ Some reason
    closes reason shut =
        let call : Call = record { by = 0; act = Shut reason } in
        fed.shut reason (subst (λ (all : List Line). Contains (calls all) call)
        (own_mine law terms lines legal 0 engine knows fed.number) (own_call lines call shut))

    no_more : why ≡ None → entries lines ≡ entries engine.seen
    no_more none =
        let front = front_is law fronts terms lines legal engine.seen knows.seen_begins in
        front.ended (subst (λ (t : Terms). AllEnded t.streams engine.seen) same (fed.ended none))

    none_after_shut : (reason : Why) → why ≡ Some reason → entries lines ≡ entries engine.seen
    none_after_shut reason is =
        let front = front_is law fronts terms lines legal engine.seen knows.seen_begins in
        let both = front.shut (reason, fed.seen_shut reason is) in both.0

    pub writes : WritesText written failures options terms.queries (entries lines) before after why
    writes = record {
      whole = λ none. subst (λ (t : Terms). Grew (IsText options t.queries (entries lines))
          (written before) (written after)) same
          (subst (λ (all : List Entry). Grew (IsText options history.terms.queries all)
          (written before) (written after)) (sym (no_more none)) (fed.text.whole none));
      write = λ is. subst (λ (t : Terms). GrewByProperPrefix
          (IsText options t.queries (entries lines)) (written before) (written after)) same
          (subst (λ (all : List Entry). GrewByProperPrefix
          (IsText options history.terms.queries all) (written before) (written after))
          (sym (none_after_shut Write is)) (fed.text.write is));
      memory = λ is. subst (λ (t : Terms). GrewByPrefix (IsText options t.queries (entries lines))
          (written before) (written after)) same
          (subst (λ (all : List Entry). GrewByPrefix (IsText options history.terms.queries all)
          (written before) (written after)) (sym (none_after_shut Memory is)) (fed.text.memory is));
      counted = fed.text.counted;
    }

    all_seen : (reason : Option Why) → why ≡ reason → entries lines ≡ entries engine.seen
    all_seen None is = no_more is
    all_seen (Some reason) is = none_after_shut reason is

    pub tells : TellsObjects options terms.queries (entries lines) (written before) (written after)
        first.members why last
    tells = subst (λ (t : Terms). TellsObjects options t.queries (entries lines) (written before)
        (written after) first.members why last) same
        (subst (λ (all : List Entry). TellsObjects options history.terms.queries all
        (written before) (written after) first.members why last) (sym (all_seen why refl))
        fed.objects)

    pub all_published : why ≡ None → 0 < history.readers →
        published lines ≡ length (entries lines)
    all_published none some =
        let sound = law terms.streams terms.cap lines legal in
        sym sound.own_publishes
        ∙ (ap published (own_mine law terms lines legal 0 engine knows fed.number)
        ∙ (fed.told none some ∙ sym (ap (λ (all : List Entry). length all) (no_more none))))

    -- what is left for a later run
    pub leaves_window : (gone : ℕ) → (KeepsAll terms → gone ≡ 0) →
        IsWindowFor terms.queries (entries lines) gone why window
    leaves_window gone whole =
        window_for terms (entries engine.seen) (entries lines) gone why window no_more whole
        (subst (λ (t : Terms). IsLeftOf t (entries engine.seen) why window) same fed.left)

    -- ---- the streams

    -- a stream that was closed is so for the reason of the shut
    closed_all : {S : Type 0} (left : S → Option (List ℕ)) (faults : S → ℕ) (from : ℕ)
        (inputs : List (StreamInput S K)) (streamed : List (StreamResult S K))
        (others : List Each) →
        HaveStreamed left faults written failures history from inputs streamed →
        All (Knows author terms lines) (map (λ (d : StreamResult S K). d.pass) streamed ++ others) →
        All (λ (end : StreamEnd). (reason : Why) → end ≡ Closed reason → why ≡ Some reason)
        (map (λ (d : StreamResult S K). d.end) streamed)
    closed_all left faults from [] [] others did knew =
        All-nil (λ (end : StreamEnd). (reason : Why) → end ≡ Closed reason → why ≡ Some reason)
    closed_all left faults from [] (d ∷ ds) others did knew = absurd did
    closed_all left faults from (x ∷ xs) [] others did knew = absurd did
    closed_all {S} left faults from (x ∷ xs) (d ∷ ds) others did knew =
        let Known = Knows author terms lines in
        let rest = map (λ (each : StreamResult S K). each.pass) ds ++ others in
        let own_is = All-head Known d.pass rest knew in
        All-cons (λ (end : StreamEnd). (reason : Why) → end ≡ Closed reason → why ≡ Some reason)
        d.end (map (λ (each : StreamResult S K). each.end) ds)
        (λ reason is. closes reason (still_there lines d.pass.seen
        (record { by = 0; act = Shut reason }) own_is.seen_begins (did.0.closed reason is)))
        (closed_all left faults (from + 1) xs ds others did.1 (All-tail Known d.pass rest knew))

    -- so is a reader
    closed_readers : {A : Type 0} (left : A → Option (List ℕ)) (faults : A → ℕ) (from : ℕ)
        (sources : List A) (served : List (ReaderWork A K)) →
        HaveServed left faults written failures history from sources served →
        All (Knows author terms lines) (map (λ (r : ReaderWork A K). r.pass) served) →
        All (λ (end : ReaderEnd). (reason : Why) → end ≡ reader_end.Closed reason →
        why ≡ Some reason) (map reader_ended served)
    closed_readers left faults from [] [] did knew =
        All-nil (λ (end : ReaderEnd). (reason : Why) → end ≡ reader_end.Closed reason →
        why ≡ Some reason)
    closed_readers left faults from [] (r ∷ rs) did knew = absurd did
    closed_readers left faults from (x ∷ xs) [] did knew = absurd did
    closed_readers {A} left faults from (x ∷ xs) (r ∷ rs) did knew =
        let Known = Knows author terms lines in
        let rest = map (λ (each : ReaderWork A K). each.pass) rs in
        let own_is = All-head Known r.pass rest knew in
        All-cons (λ (end : ReaderEnd). (reason : Why) → end ≡ reader_end.Closed reason →
        why ≡ Some reason) r.end (map reader_ended rs)
        (λ reason is. closes reason (still_there lines r.pass.seen
        (record { by = 0; act = Shut reason }) own_is.seen_begins (did.0.closed reason is)))
        (closed_readers left faults (from + 1) xs rs did.1 (All-tail Known r.pass rest knew))

  -- ---- all of it

  All-behind : {X : Type 0} (P : X → Type 0) (xs ys : List X) → All P (xs ++ ys) → All P ys
  All-behind P [] ys all = all
  All-behind P (x ∷ xs) ys all = All-behind P xs ys (All-tail P x (xs ++ ys) all)

  All-front : {X : Type 0} (P : X → Type 0) (xs ys : List X) → All P (xs ++ ys) → All P xs
  All-front P [] ys all = All-nil P
  All-front P (x ∷ xs) ys all =
      All-cons P x xs (All-head P x (xs ++ ys) all)
      (All-front P xs ys (All-tail P x (xs ++ ys) all))

  -- memory ran out for no session, so each has all its asks answered
  all_asks : (history : HistoryValue) (from : ℕ) (sessions : List (List Ask))
      (replied : List SessionWork) → HaveReplied history from sessions replied →
      list_any (λ (r : SessionWork). r.memory) replied ≡ false →
      asks_answered (map (λ (r : SessionWork). r.answers.items) replied) ≡ sessions
  all_asks history from [] [] did none = refl
  all_asks history from [] (r ∷ rs) did none = absurd did
  all_asks history from (x ∷ xs) [] did none = absurd did
  all_asks history from (x ∷ xs) (r ∷ rs) did none =
      let both = or_false r.memory (list_any (λ (each : SessionWork). each.memory) rs) none in
      ap (λ (own : List Ask).
      own ∷ asks_answered (map (λ (each : SessionWork). each.answers.items) rs))
      (did.0.all both.0)
      ∙ ap (λ (rest : List (List Ask)). x ∷ rest) (all_asks history (from + 1) xs rs did.1 both.1)

  module _ {S A K : Type 0} (left : S → Option (List ℕ)) (faults : S → ℕ)
      (asks_left : A → Option (List ℕ)) (asks_faults : A → ℕ) (written : K → Option (List ℕ))
      (failures : K → ℕ) (history : HistoryValue) (same : history.terms ≡ terms)
      (given : Given S A K) (gave : Gave S A K) (passes : List Each)
      (did : IsServed left faults asks_left asks_faults written failures history given gave passes)
      (knows : All (Knows author terms lines) passes) where
    abbrev streamed_passes : List Each
    streamed_passes = map (λ (d : StreamResult S K). d.pass) did.streamed

    abbrev replied_passes : List Each
    replied_passes = map (λ (r : SessionWork). r.pass) did.replied

    abbrev served_passes : List Each
    served_passes = map (λ (r : ReaderWork A K). r.pass) did.served

    knew : All (Knows author terms lines)
        (did.engine ∷ (streamed_passes ++ (replied_passes ++ served_passes)))
    knew = subst (All (Knows author terms lines)) did.passes_are knows

    engine_knew : Knows author terms lines did.engine
    engine_knew = All-head (Knows author terms lines) did.engine
        (streamed_passes ++ (replied_passes ++ served_passes)) knew

    others_knew : All (Knows author terms lines)
        (streamed_passes ++ (replied_passes ++ served_passes))
    others_knew = All-tail (Knows author terms lines) did.engine
        (streamed_passes ++ (replied_passes ++ served_passes)) knew

    asked_knew : All (Knows author terms lines) (replied_passes ++ served_passes)
    asked_knew = All-behind (Knows author terms lines) streamed_passes
        (replied_passes ++ served_passes) others_knew

    streamed_knew : All (Knows author terms lines) streamed_passes
    streamed_knew = All-front (Knows author terms lines) streamed_passes
        (replied_passes ++ served_passes) others_knew

    -- what the streams are read from
    abbrev read_from : List (Option (List ℕ))
    read_from = map (λ (input : StreamInput S K). left input.reader.source) given.inputs

    -- faulty lines are dealt with in one way in all streams
    abbrev AreAlike : FaultPolicy → Type 0
    AreAlike policy = All (λ (input : StreamInput S K). policy_of_sink input.faults ≡ policy)
        given.inputs

    pub all_streams : (policy : FaultPolicy) → AreAlike policy →
        AreStreamsOf policy left faults terms.cap read_from gave.sources (entries lines) gave.ends
    all_streams policy alike =
        subst (λ (sources : List S). AreStreamsOf policy left faults terms.cap read_from sources
        (entries lines) gave.ends) (sym did.sources_are)
        (subst (AreStreamsOf policy left faults terms.cap read_from
        (map (λ (d : StreamResult S K). d.source) did.streamed) (entries lines)) (sym did.ends_are)
        (streams_are law terms lines legal left faults written failures history same policy
        given.inputs alike did.streamed did.did streamed_knew))

    pub all_reports : (policy : FaultPolicy) → AreAlike policy →
        AreReportedOf policy left written failures terms.cap read_from gave.sources gave.faults
        (entries lines) gave.ends
    all_reports policy alike =
        let sources = map (λ (d : StreamResult S K). d.source) did.streamed in
        let sinks = map (λ (d : StreamResult S K). d.faults) did.streamed in
        subst (λ (all : List S). AreReportedOf policy left written failures terms.cap read_from
        all gave.faults (entries lines) gave.ends) (sym did.sources_are)
        (subst (λ (all : List (Option K)). AreReportedOf policy left written failures terms.cap
        read_from sources all (entries lines) gave.ends) (sym did.faults_are)
        (subst (AreReportedOf policy left written failures terms.cap read_from sources sinks
        (entries lines)) (sym did.ends_are)
        (reports_are law terms lines legal left faults written failures history same policy
        given.inputs alike did.streamed did.did streamed_knew)))

    pub all_closed : (reason : Why) → Contains gave.ends (Closed reason) → gave.why ≡ Some reason
    all_closed reason there =
        let ends = map (λ (d : StreamResult S K). d.end) did.streamed in
        let all = closed_all written failures given.options history same given.events gave.events
        given.circle gave.circle did.engine gave.why gave.window did.fed engine_knew left faults 1
        given.inputs did.streamed (replied_passes ++ served_passes) did.did others_knew in
        let is : Contains ends (Closed reason) =
        subst (λ (each : List StreamEnd). Contains each (Closed reason)) did.ends_are there in
        all is.0 (Closed reason) is.1 reason is.2

    pub all_numbers : All (λ (entry : Entry). IsNumberOf terms.streams entry.stream)
        (entries lines)
    all_numbers k entry below =
        let sound = law terms.streams terms.cap lines legal in
        let is = sound.appended k entry below in record { first = is.0; last = is.1 }

    pub all_text : WritesText written failures given.options terms.queries (entries lines)
        given.events gave.events gave.why
    all_text = writes written failures given.options history same given.events gave.events
        given.circle gave.circle did.engine gave.why gave.window did.fed engine_knew

    pub all_told : TellsObjects given.options terms.queries (entries lines) (written given.events)
        (written gave.events) given.circle.members gave.why gave.circle
    all_told = tells written failures given.options history same given.events gave.events
        given.circle gave.circle did.engine gave.why gave.window did.fed engine_knew

    pub all_left : (gone : ℕ) → (KeepsAll terms → gone ≡ 0) →
        IsWindowFor terms.queries (entries lines) gone gave.why gave.window
    all_left = leaves_window written failures given.options history same given.events gave.events
        given.circle gave.circle did.engine gave.why gave.window did.fed engine_knew

    all_sessions : AreSessionsOf terms.queries (entries lines) (published lines) given.sessions
        gave.answers
    all_sessions =
        subst (AreSessionsOf terms.queries (entries lines) (published lines) given.sessions)
        (sym did.answers_are)
        (sessions_are law fronts terms lines legal history same (1 + history.terms.streams)
        given.sessions did.replied did.answered_all
        (All-front (Knows author terms lines) replied_passes served_passes asked_knew))

    all_answered : gave.short_of_memory ≡ false → asks_answered gave.answers ≡ given.sessions
    all_answered none =
        ap asks_answered did.answers_are
        ∙ all_asks history (1 + history.terms.streams) given.sessions did.replied did.answered_all
        (sym did.memory_is ∙ none)

    served_knew : All (Knows author terms lines) served_passes
    served_knew = All-behind (Knows author terms lines) replied_passes served_passes asked_knew

    abbrev files : List (AskReader A K) → List (Option (List ℕ))
    files readers = map (λ (one : AskReader A K). asks_left one.reader.source) readers

    all_readers : AllZip (IsLiveOf asks_left asks_faults written failures terms.queries
        (entries lines) (published lines)) (files given.ask_readers) gave.readers
    all_readers =
        subst (AllZip (IsLiveOf asks_left asks_faults written failures terms.queries
        (entries lines) (published lines)) (files given.ask_readers)) (sym did.readers_are)
        (readers_are law fronts terms lines legal history same asks_left asks_faults written
        failures (1 + history.terms.streams + length given.sessions) given.ask_readers did.served
        did.served_all served_knew)

    readers_closed : (reason : Why) →
        Contains (map (λ (one : ReaderOutcome A K). one.end) gave.readers)
        (reader_end.Closed reason) → gave.why ≡ Some reason
    readers_closed reason there =
        let ends = map reader_ended did.served in
        let all = closed_readers written failures given.options history same given.events
        gave.events given.circle gave.circle did.engine gave.why gave.window did.fed engine_knew
        asks_left asks_faults (1 + history.terms.streams + length given.sessions)
        (map (λ (one : AskReader A K). one.reader.source) given.ask_readers) did.served
        did.served_all served_knew in
        let told = ap (map (λ (one : ReaderOutcome A K). one.end)) did.readers_are
        ∙ ends_told did.served in
        let is : Contains ends (reader_end.Closed reason) =
        subst (λ (each : List ReaderEnd). Contains each (reader_end.Closed reason)) told there in
        all is.0 (reader_end.Closed reason) is.1 reason is.2

    -- there is somebody who asks, so all was published
    asked_something : 0 < history.readers →
        AreAnswered asks_left asks_faults written failures terms.queries (entries lines) given gave
    asked_something some =
        let sound = law terms.streams terms.cap lines legal in
        record {
          last = published lines;
          within = sound.behind;
          at_end = λ none. all_published written failures given.options history same given.events
              gave.events given.circle gave.circle did.engine gave.why gave.window did.fed
              engine_knew none some;
          sessions = all_sessions;
          all = all_answered;
          readers = all_readers;
          closed = readers_closed;
        }

    answered_in : (sessions : List (List Ask)) (readers : List (AskReader A K)) →
        sessions ≡ given.sessions → readers ≡ given.ask_readers →
        length sessions + length readers ≡ history.readers →
        AreAnswered asks_left asks_faults written failures terms.queries (entries lines) given gave
    answered_in [] [] none_asks none_reads many = record {
      last = length (entries lines);
      within = omega arith;
      at_end = λ none. refl;
      sessions = none_asked (IsSessionOf terms.queries (entries lines) (published lines))
          (IsSessionOf terms.queries (entries lines) (length (entries lines))) given.sessions
          gave.answers none_asks (subst (λ (asked : List (List Ask)).
          AreSessionsOf terms.queries (entries lines) (published lines) asked gave.answers)
          (sym none_asks) all_sessions);
      all = all_answered;
      readers = none_asked (IsLiveOf asks_left asks_faults written failures terms.queries
          (entries lines) (published lines))
          (IsLiveOf asks_left asks_faults written failures terms.queries (entries lines)
          (length (entries lines))) (files given.ask_readers) gave.readers (ap files none_reads)
          (subst (λ (asked : List (AskReader A K)).
          AllZip (IsLiveOf asks_left asks_faults written failures terms.queries (entries lines)
          (published lines)) (files asked) gave.readers) (sym none_reads) all_readers);
      closed = readers_closed;
    }
    answered_in (x ∷ xs) readers is reads many = asked_something (omega (arith, many))
    answered_in [] (y ∷ ys) is reads many = asked_something (omega (arith, many))

    pub all_replies : length given.sessions + length given.ask_readers ≡ history.readers →
        AreAnswered asks_left asks_faults written failures terms.queries (entries lines) given gave
    all_replies many = answered_in given.sessions given.ask_readers refl refl many

-- what the threads' passes knew makes what a run's outcome tells
module _ (law : LegalIsSound) (fronts : FrontsAreLegal) {S A K O : Type 0}
    (left : S → Option (List ℕ)) (faults : S → ℕ) (asks_left : A → Option (List ℕ))
    (asks_faults : A → ℕ) (written : K → Option (List ℕ)) (failures : K → ℕ)
    (seen : O → ObjectValue) (task : Task S A K) (history : HistoryValue)
    (same : history.terms ≡ terms_of task) (lines : List Line)
    (legal : IsLegal (length task.readers.items) task.limit lines) (before after : K)
    (circle : Parts O) (outcome : RunOutcome S A K O) (passes : List Each) where
  abbrev gave : Gave S A K
  gave = record {
    sources = outcome.sources.items;
    ends = outcome.ends.items;
    faults = outcome.faults.items;
    answers = session_answers outcome;
    readers = outcome.readers.items;
    why = outcome.why;
    window = outcome.window;
    short_of_memory = outcome.short_of_memory;
    events = after;
    circle = as_seen seen outcome.circle;
  }

  abbrev given_of : OptionsValue → List (StreamInput S K) → List (List Ask) →
      List (AskReader A K) → Given S A K
  given_of options inputs sessions ask_readers = record {
    options = options;
    inputs = inputs;
    sessions = sessions;
    ask_readers = ask_readers;
    events = before;
    circle = as_seen seen circle;
  }

  abbrev was_served : Given S A K → Type 0
  was_served given =
      IsServed left faults asks_left asks_faults written failures history given gave passes

  -- the sessions and the readers were answered over the history of the outcome
  answers_told_of : (inputs : List (StreamInput S K)) → outcome.history.items ≡ entries lines →
      AreAnswered asks_left asks_faults written failures (definitions_of task.queries.items)
      (entries lines)
      (given_of task.options inputs task.sessions.items task.ask_readers.items) gave →
      HasAnswered asks_left asks_faults written failures task outcome
  answers_told_of inputs are was =
      let queries = definitions_of task.queries.items in
      let is = subst (λ (all : List Entry). AreAnswered asks_left asks_faults written failures
      queries all
      (given_of task.options inputs task.sessions.items task.ask_readers.items) gave)
      (sym {A = List Entry} are) was in
      record {
        last = is.last;
        within = is.within;
        at_end = is.at_end;
        sessions = is.sessions;
        all = is.all;
        readers = is.readers;
        closed = is.closed;
      }

  pub outcome_holds : outcome.history.items ≡ entries lines →
      (KeepsAll (terms_of task) → outcome.history.base ≡ 0) →
      (options : OptionsValue) (inputs : List (StreamInput S K)) (sessions : List (List Ask))
      (ask_readers : List (AskReader A K)) →
      options ≡ task.options →
      map (λ (input : StreamInput S K). input.reader) inputs ≡ task.readers.items →
      map (λ (input : StreamInput S K). input.faults) inputs
      ≡ sinks_for (length task.readers.items) task.faults.items →
      sessions ≡ task.sessions.items → ask_readers ≡ task.ask_readers.items →
      IsServed left faults asks_left asks_faults written failures history
      (record {
        options = options;
        inputs = inputs;
        sessions = sessions;
        ask_readers = ask_readers;
        events = before;
        circle = as_seen seen circle;
      })
      (record {
        sources = outcome.sources.items;
        ends = outcome.ends.items;
        faults = outcome.faults.items;
        answers = map (λ (own : Vec AnsweredValue). own.items) outcome.sessions.items;
        readers = outcome.readers.items;
        why = outcome.why;
        window = outcome.window;
        short_of_memory = outcome.short_of_memory;
        events = after;
        circle = as_seen seen outcome.circle;
      }) passes →
      All (Knows author (terms_of task) lines) passes →
      length sessions + length ask_readers ≡ history.readers →
      All IsPlain (entries lines) →
      Holds left faults asks_left asks_faults written failures seen task before after circle
      outcome
  outcome_holds are whole options inputs sessions ask_readers options_is readers_are faults_are
      sessions_are asking_are was knows asked plain =
      let queries = definitions_of task.queries.items in
      let policy = policy_of_sinks task.faults.items in
      let from_entries = sym {A = List Entry} are in
      let did = subst (λ (given : List (List Ask)). was_served
      (given_of task.options inputs given task.ask_readers.items)) sessions_are
      (subst (λ (given : OptionsValue). was_served
      (given_of given inputs sessions task.ask_readers.items)) options_is
      (subst (λ (given : List (AskReader A K)). was_served
      (given_of options inputs sessions given)) asking_are was)) in
      let alike = inputs_alike inputs (length task.readers.items) task.faults.items faults_are in
      let files : map (λ (input : StreamInput S K). left input.reader.source) inputs
      ≡ stream_files left task =
      sym (map-map (λ (reader : ReaderState S). left reader.source)
      (λ (input : StreamInput S K). input.reader) inputs)
      ∙ ap (map (λ (reader : ReaderState S). left reader.source)) readers_are in
      let asked_all : length task.sessions.items + length task.ask_readers.items
      ≡ history.readers = omega (arith, asked, ap length sessions_are, ap length asking_are) in
      record {
        streams = subst (λ (all : List Entry). AreStreamsOf policy left faults task.limit
            (stream_files left task) outcome.sources.items all outcome.ends.items) from_entries
            (subst (λ (texts : List (Option (List ℕ))). AreStreamsOf policy left faults task.limit
            texts outcome.sources.items (entries lines) outcome.ends.items) files
            (all_streams law fronts (terms_of task) lines legal left faults asks_left asks_faults
            written failures history same _ _ passes did knows policy alike));
        reported = subst (λ (all : List Entry). AreReportedOf policy left written failures
            task.limit (stream_files left task) outcome.sources.items outcome.faults.items all
            outcome.ends.items) from_entries
            (subst (λ (texts : List (Option (List ℕ))). AreReportedOf policy left written failures
            task.limit texts outcome.sources.items outcome.faults.items (entries lines)
            outcome.ends.items) files
            (all_reports law fronts (terms_of task) lines legal left faults asks_left asks_faults
            written failures history same _ _ passes did knows policy alike));
        closed = all_closed law fronts (terms_of task) lines legal left faults asks_left
            asks_faults written failures history same _ _ passes did knows;
        numbers = subst (λ (all : List Entry). All (λ (entry : Entry). IsNumberOf
            (length task.readers.items) entry.stream) all) from_entries
            (all_numbers law fronts (terms_of task) lines legal left faults asks_left asks_faults
            written failures history same _ _ passes did knows);
        few = omega (arith, legal.capped, ap length are);
        plain = subst (λ (all : List Entry). All IsPlain all) from_entries plain;
        whole = whole;
        window = subst (λ (all : List Entry). IsWindowFor queries all outcome.history.base
            outcome.why outcome.window) from_entries
            (all_left law fronts (terms_of task) lines legal left faults asks_left asks_faults
            written failures history same _ _ passes did knows outcome.history.base whole);
        text = subst (λ (all : List Entry). WritesText written failures task.options queries all
            before after outcome.why) from_entries
            (all_text law fronts (terms_of task) lines legal left faults asks_left asks_faults
            written failures history same _ _ passes did knows);
        answers = answers_told_of inputs are
            (all_replies law fronts (terms_of task) lines legal left faults asks_left asks_faults
            written failures history same _ _ passes did knows asked_all);
        objects = subst (λ (all : List Entry). TellsObjects task.options queries all
            (written before) (written after) (as_seen seen circle).members outcome.why
            (as_seen seen outcome.circle)) from_entries
            (all_told law fronts (terms_of task) lines legal left faults asks_left asks_faults
            written failures history same _ _ passes did knows);
      }
