use Rattle.std.proofs.Common.{◌≡◌, inl, inr, List, ap, sym, subst, ◌∙◌, arith}
use Rattle.std.specs.Prelude.{map}
use Rattle.std.specs.Global.{Vec}
use Rattle.std.proofs.lemmas.List.{length-map}
use Rattle.std.proofs.lemmas.Slice.Zip.{AllZip-long}
use Rattle.rpq_io.specs.Reader.{ReaderState}
use Rattle.rpq_model.specs.Query.{Query}
use Rattle.ask_text.specs.Answered.{AnsweredValue}
use Rattle.rpq_text.specs.Definitions.{definitions_of}
use Rattle.saved_window.specs.Saved.{saved}
use Rattle.saved_window.specs.SavedText.{saved_text}
use Rattle.saved_window.specs.Then.{TwoSources, left_of_both}
use Rattle.rpq_threads.specs.Runs.{IsSessionOf}
use Rattle.rpq_run.specs.Ending.{SavesIfThere, entries_left, is_left_out}
use Rattle.rpq_run.specs.Outcome.{meanings, sinks}
use Rattle.rpq_run.proofs.Running.{many_readers, run_reported}
use Rattle.rpq_run.proofs.Windows.{plain_as_left, saves_as_left, saves_of_history}
use Rattle.rpq_run.proofs.streams.run_streams.Goals as goal

pub write_own-written-requires-clause-few : goal.write_own-written-requires-clause-few
write_own-written-requires-clause-few g c =
    let own : Vec AnsweredValue → List AnsweredValue = λ session. session.items in
    let threads = c.in-Ok.outcome in
    let answers = c.in-Ok.ensures.ok.answers in
    let as_many = AllZip-long
    (IsSessionOf (definitions_of c.args.task.queries.items) threads.history.items answers.last)
    c.args.task.sessions.items (map own threads.sessions.items) answers.sessions in
    omega (arith, length-map threads.sessions.items own, as_many, c.requires.task.few)

pub write_own-written-requires-clause-plain : goal.write_own-written-requires-clause-plain
write_own-written-requires-clause-plain g c =
    let threads = c.in-Ok.outcome in
    plain_as_left (definitions_of c.args.task.queries.items) threads.window threads.history
    threads.why c.in-Ok.ensures.ok.window c.in-Ok.ensures.ok.plain

pub end_run-requires-clause-room : goal.end_run-requires-clause-room
end_run-requires-clause-room g c κs within =
    let readers = c.args.task.readers.items in
    let left = left_of_both g.F.Source.Source.left in
    let room = c.in_ok-room.ensures in
    record {
      no_source = room.no_source;
      sources = omega (
        arith,
        c.in-Ok.ensures.ok.streams.as_many_sources,
        length-map readers (λ (reader : ReaderState (TwoSources _)). left reader.source),
        room.sources,
        c.len.ensures,
      );
      no_end = room.no_end;
      ends = omega (
        arith,
        many_readers g.F.Source.Source.left g.F.Source.Source.faults g.F.Sink.Sink.written
            g.F.Sink.Sink.faults c.args.task c.in-Ok.outcome c.in-Ok.ensures.ok.answers,
        room.ends,
        c.len-2.ensures,
      );
    }

pub end_run-requires-clause-few_readers : goal.end_run-requires-clause-few_readers
end_run-requires-clause-few_readers g c κs within = omega (
  arith,
  many_readers g.F.Source.Source.left g.F.Source.Source.faults g.F.Sink.Sink.written
      g.F.Sink.Sink.faults c.args.task c.in-Ok.outcome c.in-Ok.ensures.ok.answers,
  c.requires.task.few_readers,
)

pub end_run-requires-clause-alone : goal.end_run-requires-clause-alone
end_run-requires-clause-alone g c κs within =
    let readers = c.args.task.readers.items in
    let left = left_of_both g.F.Source.Source.left in
    elim c.requires.alone [
      | inl none ↦ inl none
      | inr one ↦ inr (omega (
        arith,
        c.in-Ok.ensures.ok.streams.as_many_sources,
        length-map readers (λ (reader : ReaderState (TwoSources _)). left reader.source),
        one,
      ))
    ]

pub returns-clause-runs : goal.returns-clause-runs
returns-clause-runs g c = λ given holds asked.
    let left = g.F.Source.Source.left in
    let faults = g.F.Source.Source.faults in
    let written = g.F.Sink.Sink.written in
    let failures = g.F.Sink.Sink.faults in
    let threads = c.in-Ok.outcome in
    let texts = c.write_own-written.result in
    let own = c.write_own-written.new.own in
    let report = c.end_run.result in
    let ended = c.end_run.ensures in
    let definitions : c.deref-2.result.now ≡ definitions_of c.args.task.queries.items =
    c.deref-2.ensures.value
    ∙ (c.in_ok-definitions.ensures ∙ ap definitions_of c.deref.ensures.value) in
    run_reported (meanings left faults written failures) given holds _ c.args.task c.args.own own
    (sinks c.args.events.now c.run_threads.new.events c.args.errors.now c.end_run.new.errors) _
    c.in_ok-circle.circle threads report texts asked c.in-Ok.ensures.ok
    c.write_own-written.ensures.replied
    (saves_of_history written failures threads.why threads.short_of_memory threads.ends.items
    texts.replied _ _ c.args.own.save own.save texts.saved
    (λ quiet. ap saved_text (saves_as_left (definitions_of c.args.task.queries.items) threads.window
    threads.history threads.why c.in-Ok.ensures.ok.window quiet))
    (subst (λ (queries : List Query). SavesIfThere written failures
    (saved_text (saved queries (entries_left threads.window threads.history)))
    (is_left_out threads.why threads.short_of_memory threads.ends.items texts.replied)
    c.args.own.save own.save texts.saved) definitions c.write_own-written.ensures.saved))
    ended.sources ended.from ended.memory ended.status ended.parts c.args.standing.now.items
    c.end_run.new.standing.items report.left.items c.in_ok-circle.ensures.members
    (sym ended.objects.0) (sym ended.objects.1) c.fronts_hold_answers.ensures
    c.joins_are_sound.ensures c.fronts_hold_bindings.ensures ended.told
