use Rattle.std.proofs.Common.{◌≡◌, ℕ, ◌+◌, List, ◌∷◌, ◌++◌, drop, true, refl, ap, sym, ◌∙◌}
use Rattle.std.specs.Prelude.{map}
use Rattle.std.specs.Global.{Vec}
use Rattle.ask_text.specs.Answered.{AnsweredValue}
use Rattle.ask_text.specs.Replies.{session_text, sessions_text, replies}
use Rattle.rpq_run.specs.Replies.{texts_of}
use Rattle.rpq_run.proofs.Replying.{told_at, replied_more, part_in_turn}
use Rattle.rpq_run.proofs.replies.write_sessions.Goals as goal

pub returns-in-Err : goal.returns-in-Err
returns-in-Err g c =
    let own : Vec AnsweredValue → List AnsweredValue = λ session. session.items in
    let place = c.loop-place.place in
    let session = c.index-sessions-place.result in
    let told = texts_of (map own c.args.sessions.now) in
    let texts = map (λ (one : AnsweredValue). one.text) c.deref.result.now in
    let has = c.loop-place.invariant.written in
    let here : drop place told ≡ texts ∷ drop (place + 1) told =
    told_at own c.args.sessions.now place session c.loop-place-test.true c.index-sessions-place.is
    ∙ ap (λ (o : List AnsweredValue). map (λ (one : AnsweredValue). one.text) o ∷ drop (place + 1) told)
    (sym {A = List AnsweredValue} c.deref.ensures.value) in
    let all : has.done ++ (session_text (place + 1) texts ++ sessions_text ((place + 1) + 1) (drop (place + 1) told))
    ≡ replies told =
    ap (λ (t : List ℕ). has.done ++ t) (sym (ap (sessions_text (place + 1)) here)) ∙ has.cut in
    part_in_turn {text = session_text (place + 1) texts} has.done (sessions_text ((place + 1) + 1) (drop (place + 1) told)) (replies told) all
    has.written c.loop-place.invariant.quiet c.in-Err.ensures

pub loop-place-preserved : goal.loop-place-preserved
loop-place-preserved g c =
    let own : Vec AnsweredValue → List AnsweredValue = λ session. session.items in
    let place = c.loop-place.place in
    let session = c.index-sessions-place.result in
    let told = texts_of (map own c.args.sessions.now) in
    let texts = map (λ (one : AnsweredValue). one.text) c.deref.result.now in
    let here : drop place told ≡ texts ∷ drop (place + 1) told =
    told_at own c.args.sessions.now place session c.loop-place-test.true c.index-sessions-place.is
    ∙ ap (λ (o : List AnsweredValue). map (λ (one : AnsweredValue). one.text) o ∷ drop (place + 1) told)
    (sym {A = List AnsweredValue} c.deref.ensures.value) in
    record {
      written = replied_more told texts place (g.K.Sink.written c.args.sink.now) (g.K.Sink.written c.loop-place.sink)
          (g.K.Sink.written c.write_session.new.sink) here c.loop-place.invariant.written
          (c.in_default.ensures.whole (refl {a = true}));
      quiet = c.in_default.ensures.counted.quiet (λ failed. cc failed) ∙ c.loop-place.invariant.quiet;
    }
