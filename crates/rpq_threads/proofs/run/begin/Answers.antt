use Rattle.std.proofs.Common.{◌≡◌, ℕ, ◌+◌, [], All, length, refl, sym, ap, subst, ◌∙◌, arith, rules}
use Rattle.std.specs.Global.{Vec}
use Rattle.std.proofs.lemmas.List.{length-map}
use Rattle.history_model.specs.World.{Terms}
use Rattle.rpq_text.specs.Definitions.{definitions_of}
use Rattle.stream_threads.specs.Inputs.{IsNewInput}
use Rattle.stream_threads.specs.declared.stream_input.StreamInput.{StreamInput}
use Rattle.rpq_threads.proofs.Starting.{first_shown, Moves, terms_of, begun_fed, begun_asks}
use Rattle.rpq_threads.proofs.Starting.{inputs_new}
use Rattle.rpq_threads.specs.Served.{HasRoom}
use Rattle.rpq_threads.proofs.Starting.{at_least, at_most, length-definitions}
use Rattle.rpq_threads.proofs.run.begin.Goals as goal

pub new-requires-3-clause-first : goal.new-requires-3-clause-first
new-requires-3-clause-first g c =
    let evaluator = c.in_ok-evaluator.evaluator in
    let given : c.in_ok-given.given.value.items ≡ definitions_of c.args.task.queries.items =
    search rules in
    first_shown c.first_view.ensures evaluator c.in_ok-given.given.value.items
    c.in_ok-first.first.value
    (ap definitions_of c.in_ok-evaluator.ensures.queries_are ∙ sym given)
    (c.in_ok-first.ensures.view [] c.in_ok-evaluator.ensures.stands)

pub new-requires-3-clause-terms : goal.new-requires-3-clause-terms
new-requires-3-clause-terms g c =
    let task = c.args.task in
    let own = c.in_ok-given.given.value.items in
    let queries : own ≡ definitions_of task.queries.items = search rules in
    let many : length own ≡ length task.queries.items =
    ap length queries ∙ length-definitions task.queries.items in
    let streams : c.len-streams.result ≡ length task.readers.items = omega (
      arith,
      c.len-streams.ensures,
      task.readers.ok.0,
      c.requires.streams.1,
    ) in
    record {
      some_queries = omega (arith, many, c.requires.understood.some);
      few_queries = omega (arith, many, c.requires.understood.few);
      some_streams = omega (arith, streams, c.requires.streams.0);
      few_streams = omega (arith, streams, c.requires.streams.1);
      some_entries = at_least task.limit c.requires.limit;
      few_entries = at_most task.limit c.requires.limit;
    }

pub returns : goal.returns
returns g c =
    let left = g.S.Source.left in
    let faults = g.S.Source.faults in
    let asks_left = g.A.Source.left in
    let asks_faults = g.A.Source.faults in
    let written = g.K.Sink.written in
    let failures = g.K.Sink.faults in
    let task = c.args.task in
    let history = c.in_ok-history.history in
    let made = c.in_ok-history.ensures in
    let room = c.in_ok-room.room in
    let inputs = c.in_ok-inputs.inputs.items in
    let given = c.in_ok-inputs.ensures in
    let many : length inputs ≡ length task.readers.items =
    sym (length-map inputs (λ (input : StreamInput _ _). input.reader))
    ∙ ap length given.readers in
    let streams : c.len-streams.result ≡ length task.readers.items = omega (
      arith,
      c.len-streams.ensures,
      task.readers.ok.0,
      c.requires.streams.1,
    ) in
    let asking : c.len.result + c.len-2.result
    ≡ length task.sessions.items + length task.ask_readers.items = omega (
      arith,
      c.len.ensures,
      c.len-2.ensures,
      task.sessions.ok.0,
      task.ask_readers.ok.0,
      c.requires.few,
      c.requires.few_readers,
    ) in
    let kept = c.view.ensures in
    let evaluator = c.view.new.self in
    let own : c.in_ok-definitions.definitions.value.items ≡ definitions_of task.queries.items =
    ap (λ (all : Vec _). all.items) c.in_ok-definitions.ensures.ok
    ∙ (c.in_ok-copied_definitions.ensures ∙ ap definitions_of c.deref.ensures.value) in
    let queries : c.in_ok-given.given.value.items ≡ definitions_of task.queries.items =
    ap (λ (all : Vec _). all.items) c.in_ok-given.ensures ∙ own in
    let slice : c.as_slice.result.now ≡ definitions_of task.queries.items =
    c.as_slice.ensures.value ∙ (ap (λ (all : Vec _). all.items) c.deref-2.ensures ∙ own) in
    let move : All Moves (definitions_of task.queries.items) =
    subst (All Moves) slice c.windows_move.ensures in
    let terms : history.terms ≡ terms_of task =
    made.terms ∙ (λ i. record { queries = queries i; streams = streams i; cap = task.limit }) in
    record {
      terms = terms;
      job = record {
        queries = own ∙ sym (ap (λ (t : Terms). t.queries) terms);
        few_queries = omega (
          arith,
          ap length own ∙ length-definitions task.queries.items,
          c.requires.understood.few,
        );
        passes = made.passes;
        count = made.count;
        fed = begun_fed left faults asks_left asks_faults written failures task c.requires history
            terms evaluator (kept.keeps.queries ∙ c.in_ok-evaluator.ensures.queries_are)
            (kept.keeps.options ∙ c.in_ok-evaluator.ensures.options_are) (made.readers ∙ asking)
            move (kept.stands [] c.in_ok-evaluator.ensures.stands);
        streams = many ∙ sym (ap (λ (t : Terms). t.streams) terms);
        fresh = subst (λ (t : Terms). All (IsNewInput t.cap left faults written failures) inputs)
            (sym terms)
            (inputs_new written failures left faults task.limit inputs task.readers.items
            task.faults.items given.readers given.faults c.requires.fresh c.requires.new_faults);
        readers = sym (made.readers ∙ asking);
        few = c.requires.few;
        few_readers = c.requires.few_readers;
        asks = begun_asks left faults asks_left asks_faults written failures task c.requires
            history terms;
        new_readers = c.requires.new_readers;
        room = subst (λ (n : ℕ). HasRoom n (length task.sessions.items)
            (length task.ask_readers.items) room) (sym (ap (λ (t : Terms). t.streams) terms))
            (subst (λ (n : ℕ). HasRoom (length task.readers.items) n
            (length task.ask_readers.items) room) (c.len-6.ensures ∙ task.sessions.ok.0)
            (subst (λ (n : ℕ). HasRoom (length task.readers.items) c.len-6.result n room)
            (c.len-7.ensures ∙ task.ask_readers.ok.0)
            (subst (λ (n : ℕ). HasRoom n c.len-6.result c.len-7.result room)
            (c.len-5.ensures ∙ task.readers.ok.0) c.in_ok-room.ensures)));
      };
      options = kept.keeps.options ∙ c.in_ok-evaluator.ensures.options_are;
      readers = given.readers;
      faults_are = given.faults;
      sessions = refl;
      ask_readers = refl;
    }
