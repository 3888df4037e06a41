use Rattle.std.proofs.Common.{◌≡◌, refl, ◌+◌, ◌-◌, ℕ, List, [], ◌∷◌, length}
use Rattle.std.proofs.Common.{Option, map, sym, ap, subst, ◌∙◌, arith}
use Rattle.std.specs.Global.{Vec}
use Rattle.std.specs.Vec.{vec_len}
use Rattle.std.specs.Vec.Iter.{into_iter_items}
use Rattle.std.proofs.lemmas.List.{length-map}
use Rattle.rpq_base.specs.declared.data.Entry.{Entry}
use Rattle.ask_text.specs.Answered.{AnsweredValue}
use Rattle.ask_text.specs.declared.ask.Ask.{Ask}
use Rattle.live_asks.specs.declared.reader.AskReader.{AskReader}
use Rattle.stream_threads.specs.declared.reader_work.ReaderWork.{ReaderWork}
use Rattle.stream_threads.specs.declared.session_work.SessionWork.{SessionWork}
use Rattle.stream_threads.specs.declared.stream_input.StreamInput.{StreamInput}
use Rattle.stream_threads.specs.declared.stream_worker.StreamResult.{StreamResult}
use Rattle.stream_threads.specs.Live.{HaveNewPasses, HaveServed}
use Rattle.stream_threads.specs.Readers.{HaveReplied}
use Rattle.stream_threads.specs.Streams.{HasStreamed}
use Rattle.stream_threads.specs.Started.{IsStarted, Gives, new_pass, new_passes}
use Rattle.stream_threads.proofs.Numbering.{numbered_then, next_new, new_length, numbered_length}
use Rattle.stream_history.specs.History.{HistoryValue}
use Rattle.history_model.specs.declared.line.Why.{Why}
use Rattle.standing.specs.Circles.{Parts, as_seen}
use Rattle.rpq_threads.specs.Fed.{IsFed, HasFed}
use Rattle.rpq_threads.proofs.Returned.{new_are}
use Rattle.rpq_threads.proofs.serving.serve_within.Goals as goal

items_of : (replied : List SessionWork) → map (λ (own : Vec AnsweredValue). own.items)
    (map (λ (r : SessionWork). r.answers) replied)
    ≡ map (λ (r : SessionWork). r.answers.items) replied
items_of [] = refl
items_of (r ∷ rs) = ap (λ (l : List (List AnsweredValue)). r.answers.items ∷ l) (items_of rs)

pub unreachable-requires : goal.unreachable-requires
unreachable-requires g c =
    let history = c.args.shared.now.history.now in
    let none = c.in_default.ensures.cases in
    absurd (omega (
      arith,
      none.0,
      c.into_iter-given.ensures.len,
      c.args.job.passes.ok.0,
      ap length c.requires.job_is.passes ∙ new_length history 0 history.turns.passes,
      c.requires.job_is.count,
    ))

pub start_streams-started-requires-clause-passes :
    goal.start_streams-started-requires-clause-passes
start_streams-started-requires-clause-passes g c κs within =
    let history = c.args.shared.now.history.now in
    (next_new history 0 history.turns.passes (history.terms.streams + history.readers) _ _ _
    (c.into_iter-given.ensures.rest ∙ c.requires.job_is.passes) c.in-Some.ensures.cases.0
    (omega (arith, c.requires.job_is.count))).1

pub session_works-works-requires-clause-few : goal.session_works-works-requires-clause-few
session_works-works-requires-clause-few g c =
    (c.requires.job_is.few, omega (arith, c.requires.job_is.readers))

pub session_works-works-requires-clause-room : goal.session_works-works-requires-clause-room
session_works-works-requires-clause-room g c = (
  c.requires.job_is.room.no_works,
  omega (arith, c.args.job.sessions.ok.0, c.requires.job_is.room.works),
)

-- as many passes are left as there are readers
left_over : (history : HistoryValue) (sessions readers : ℕ) →
    sessions + readers ≡ history.readers → history.readers - sessions ≡ readers
left_over history sessions readers all = omega (arith, all)

pub reader_works-asking-requires-clause-passes : goal.reader_works-asking-requires-clause-passes
reader_works-asking-requires-clause-passes g c =
    let history = c.args.shared.now.history.now in
    let sessions = length c.args.job.sessions.items in
    new_are history (1 + history.terms.streams + sessions) (history.readers - sessions) _
    c.session_works-works.ensures.passes

pub reader_works-asking-requires-clause-given : goal.reader_works-asking-requires-clause-given
reader_works-asking-requires-clause-given g c =
    let history = c.args.shared.now.history.now in
    let sessions = length c.args.job.sessions.items in
    ap length c.session_works-works.ensures.passes
    ∙ (new_length history (1 + history.terms.streams + sessions) (history.readers - sessions)
    ∙ left_over history sessions (length c.args.job.ask_readers.items) c.requires.job_is.readers)

pub reader_works-asking-requires-clause-room : goal.reader_works-asking-requires-clause-room
reader_works-asking-requires-clause-room g c = (
  c.requires.job_is.room.no_reader_works,
  omega (arith, c.args.job.ask_readers.ok.0, c.requires.job_is.room.reader_works),
)

pub answer_beside-replied-requires-clause-ready : goal.answer_beside-replied-requires-clause-ready
answer_beside-replied-requires-clause-ready g c κs within =
    let history = c.args.shared.now.history.now in
    let evaluator = c.args.job.evaluator in
    let first : c.in-Some.pass ≡ new_pass history 0 =
    (next_new history 0 history.turns.passes (history.terms.streams + history.readers)
    (into_iter_items c.into_iter-given.result) (into_iter_items c.next.new.self) c.in-Some.pass
    (c.into_iter-given.ensures.rest ∙ c.requires.job_is.passes) c.in-Some.ensures.cases.0
    (omega (arith, c.requires.job_is.count))).0 in
    record {
      new = c.reader_works-asking.ensures.new;
      few = c.requires.job_is.few_queries;
      start = record {
        fed = subst (IsFed history evaluator) (sym first) c.requires.job_is.fed;
        same = c.requires.job_is.queries;
        fresh = ap (map g.O.Standing.seen) c.requires.fresh;
      };
    }

-- the readers have the passes behind those of the sessions
have_new : {A K : Type 0} (history : HistoryValue) (sessions readers : ℕ)
    (works : List (ReaderWork A K)) (passes : List _) →
    sessions + readers ≡ history.readers → length works ≡ readers →
    map (λ (work : ReaderWork A K). work.pass) works ≡ passes →
    passes ≡ new_passes history (1 + history.terms.streams + sessions)
    (history.readers - sessions) →
    HaveNewPasses history (1 + history.terms.streams + sessions) works
have_new history sessions readers works passes all many are new =
    are ∙ (new ∙ ap (new_passes history (1 + history.terms.streams + sessions))
    (omega (arith, all, many)))

pub gather-requires : goal.gather-requires
gather-requires g c =
    let job = c.requires.job_is in
    let room = job.room.gathered in
    let history = c.args.shared.now.history.now in
    let beside = c.answer_beside-replied.result in
    let streams : vec_len c.join_streams-streamed.result ≡ history.terms.streams = omega (
      arith,
      c.join_streams-streamed.ensures.many,
      c.start_streams-started.ensures.many,
      c.args.job.inputs.ok.0,
      job.streams,
    ) in
    let sessions : vec_len beside.0 ≡ length c.args.job.sessions.items = omega (
      arith,
      numbered_length _ (1 + history.terms.streams) _ beside.0.items
          c.answer_beside-replied.ensures.replied,
      beside.0.ok.0,
      ap length c.session_works-works.ensures.asks,
    ) in
    let asking = c.reader_works-asking.ensures in
    let readers : vec_len beside.1.0 ≡ length c.args.job.ask_readers.items = omega (
      arith,
      numbered_length _ (1 + history.terms.streams + length c.args.job.sessions.items) _
          beside.1.0.items (c.answer_beside-replied.ensures.served
          (1 + history.terms.streams + length c.args.job.sessions.items) (have_new history
          (length c.args.job.sessions.items) (length c.args.job.ask_readers.items) _ _
          job.readers (omega (
            arith,
            asking.many,
            c.reader_works-asking.result.ok.0,
            c.args.job.ask_readers.ok.0,
          )) asking.passes c.session_works-works.ensures.passes)),
      beside.1.0.ok.0,
      ap length asking.sources,
      length-map c.args.job.ask_readers.items (λ (one : AskReader _ _). one.reader.source),
    ) in
    record {
      no_passes = room.no_passes;
      no_sources = room.no_sources;
      no_ends = room.no_ends;
      no_faults = room.no_faults;
      no_answers = room.no_answers;
      no_outcomes = room.no_outcomes;
      passes = omega (arith, streams, sessions, readers, room.passes);
      sources = omega (arith, streams, room.sources);
      ends = omega (arith, streams, room.ends);
      faults = omega (arith, streams, room.faults);
      answers = omega (arith, sessions, room.answers);
      outcomes = omega (arith, readers, room.outcomes);
    }

pub returns-clause-served : goal.returns-clause-served
returns-clause-served g c =
    let history = c.args.shared.now.history.now in
    let job = c.requires.job_is in
    let left = g.S.Source.left in
    let faults = g.S.Source.faults in
    let asks_left = g.A.Source.left in
    let asks_faults = g.A.Source.faults in
    let gathered = c.gather.ensures in
    let served = c.gather.result in
    let seen = g.O.Standing.seen in
    let written = g.K.Sink.written in
    let failures = g.K.Sink.faults in
    let options = c.args.job.evaluator.options in
    let before = c.args.events.now in
    let first = as_seen seen c.args.circle in
    let streamed = c.join_streams-streamed.result.items in
    let beside = c.answer_beside-replied.result in
    let did = c.answer_beside-replied.ensures in
    let engine = beside.1.1 in
    let asking = c.reader_works-asking.ensures in
    let first_reader = 1 + history.terms.streams + length c.args.job.sessions.items in
    let new = have_new history (length c.args.job.sessions.items)
    (length c.args.job.ask_readers.items) _ _ job.readers
    (omega (arith, asking.many, c.reader_works-asking.result.ok.0, c.args.job.ask_readers.ok.0))
    asking.passes c.session_works-works.ensures.passes in
    record {
      streamed = streamed;
      replied = beside.0.items;
      served = beside.1.0.items;
      engine = engine.pass;
      did =
          numbered_then
          (λ number input one. IsStarted left faults written failures history input
          (new_pass history number) one)
          (λ number one done. Gives left faults written failures one done)
          (λ number (input : StreamInput _ _) (done : StreamResult _ _). HasStreamed left faults
          written failures history input.reader.source input.faults (new_pass history number)
          done.source done.faults done.pass done.end)
          (λ n m x y z r k. k history x (new_pass history n) r) 1 0 _ _ _
          c.start_streams-started.ensures.started c.join_streams-streamed.ensures.gives;
      answered_all = subst (λ (asks : List (List Ask)). HaveReplied history
          (1 + history.terms.streams) asks beside.0.items)
          c.session_works-works.ensures.asks did.replied;
      served_all = subst (λ (sources : List _). HaveServed asks_left asks_faults written failures
          history first_reader sources beside.1.0.items) asking.sources
          (did.served first_reader new);
      fed =
          subst (λ (events : _). HasFed written failures options history before events first
          (as_seen seen served.circle) engine.pass served.why served.window)
          (sym gathered.events.0)
          (subst (λ (circle : Parts _). HasFed written failures options history before
          engine.events.now first (as_seen seen circle) engine.pass served.why served.window)
          (sym gathered.circle)
          (subst (λ (why : Option Why). HasFed written failures options history before
          engine.events.now first (as_seen seen engine.circle) engine.pass why served.window)
          (sym gathered.why.0)
          (subst (λ (window : Option (Vec Entry)). HasFed written failures options history before
          engine.events.now first (as_seen seen engine.circle) engine.pass engine.why window)
          (sym gathered.why.1) did.fed)));
      passes_are = gathered.passes;
      sources_are = gathered.streams.0;
      ends_are = gathered.streams.1;
      faults_are = gathered.streams.2;
      answers_are =
          ap (map (λ (own : Vec AnsweredValue). own.items)) gathered.answers.0
          ∙ items_of beside.0.items;
      readers_are = gathered.readers;
      memory_is = gathered.answers.1;
    }
