use Rattle.std.proofs.Common.{◌≡◌, List, subst, sym, ◌∙◌, rules}
use Rattle.std.specs.List.{All}
use Rattle.rpq_model.specs.Query.{Query}
use Rattle.turn_lock.specs.Passes.{Knows}
use Rattle.history_model.specs.Legal.{IsLegal}
use Rattle.history_model.specs.World.{Terms}
use Rattle.stream_history.specs.History.{author}
use Rattle.stream_history.specs.Journal.{KeepsAll}
use Rattle.rpq_threads.specs.declared.task.RunOutcome.{RunOutcome}
use Rattle.rpq_threads.specs.Runs.{Holds}
use Rattle.rpq_threads.specs.Served.{IsJob}
use Rattle.rpq_threads.proofs.Finishing.{outcome_holds}
use Rattle.rpq_threads.proofs.Returned.{all_are_back, all_are_passes}
use Rattle.rpq_threads.proofs.Starting.{terms_of}
use Rattle.rpq_threads.proofs.run.run_threads.Goals as goal

pub serve-gathered-requires-after_bounds : goal.serve-gathered-requires-after_bounds
serve-gathered-requires-after_bounds g c κs within =
    let begun = c.in-Ok.begun in
    let same : c.deref-2.result.now ≡ begun.definitions.value.items = search rules in
    record {
      job_is = subst (λ (definitions : List Query). IsJob g.S.Source.left g.S.Source.faults
          g.A.Source.left g.A.Source.faults g.K.Sink.written g.K.Sink.faults begun.history
          definitions begun.job) (sym same) c.in-Ok.ensures.job;
      fresh = c.requires.fresh;
    }

pub finish-journal-requires-clause-all : goal.finish-journal-requires-clause-all
finish-journal-requires-clause-all g c =
    let begun = c.in-Ok.begun in
    let is = c.in-Ok.ensures in
    all_are_back g.S.Source.left g.S.Source.faults g.A.Source.left g.A.Source.faults
    g.K.Sink.written g.K.Sink.faults begun.history _ _ _ c.serve-gathered.ensures.served
    is.job.streams is.job.readers is.job.count

pub finish-journal-requires-clause-passes : goal.finish-journal-requires-clause-passes
finish-journal-requires-clause-passes g c =
    let begun = c.in-Ok.begun in
    let is = c.in-Ok.ensures in
    all_are_passes g.S.Source.left g.S.Source.faults g.A.Source.left g.A.Source.faults
    g.K.Sink.written g.K.Sink.faults begun.history _ _ _ c.serve-gathered.ensures.served
    is.job.streams is.job.readers

pub returns-clause-ok : goal.returns-clause-ok
returns-clause-ok g c =
    let left = g.S.Source.left in
    let faults = g.S.Source.faults in
    let asks_left = g.A.Source.left in
    let asks_faults = g.A.Source.faults in
    let written = g.K.Sink.written in
    let failures = g.K.Sink.faults in
    let task = c.args.task in
    let begun = c.in-Ok.begun in
    let is = c.in-Ok.ensures in
    let served = c.serve-gathered.result in
    let passes = served.gathered.passes.items in
    let journal = c.finish-journal.result in
    let finished = c.finish-journal.ensures in
    let same : journal.terms ≡ terms_of task = finished.terms ∙ is.terms in
    let legal = subst (λ (t : Terms). IsLegal t.streams t.cap journal.lines) same
    finished.sound.legal in
    let knows = subst (λ (t : Terms). All (Knows author t journal.lines) passes) same
    finished.passes in
    let whole = subst (λ (t : Terms). KeepsAll t → c.into_entries.result.base ≡ 0) same
    c.into_entries.ensures.whole in
    let outcome : RunOutcome _ _ _ _ = record {
      history = c.into_entries.result;
      ends = served.gathered.ends;
      sources = served.gathered.sources;
      faults = served.gathered.faults;
      sessions = served.gathered.answers;
      readers = served.gathered.readers;
      why = served.why;
      window = served.window;
      short_of_memory = served.short_of_memory;
      circle = served.circle;
    } in
    let seen = g.O.Standing.seen in
    subst (λ events. Holds left faults asks_left asks_faults written failures seen task
    c.args.events.now events c.args.circle outcome)
    (search rules)
    (outcome_holds c.legal_is_sound.ensures c.fronts_are_legal.ensures left faults asks_left
    asks_faults written failures seen task begun.history is.terms journal.lines legal
    c.args.events.now served.events.now c.args.circle outcome passes c.into_entries.ensures.items
    whole begun.job.evaluator.options begun.job.inputs.items begun.job.sessions.items
    begun.job.ask_readers.items is.options is.readers is.faults_are is.sessions is.ask_readers
    c.serve-gathered.ensures.served knows
    is.job.readers finished.sound.plain)
