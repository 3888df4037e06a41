use Rattle.std.proofs.Common.{List, inr, refl, sym, subst}
use Rattle.std.specs.Prelude.{IfSome}
use Rattle.std.proofs.lemmas.Result.{IfOk-weaker}
use Rattle.query_file.specs.Compiled.{CompiledValue}
use Rattle.rpq_words.specs.declared.settings.RunMode.TheVariants.{Check}
use Rattle.rpq_words.specs.Views.{from_of, is_both_ways}
use Rattle.rpq_text.specs.Definitions.{definitions_of}
use Rattle.run_start.specs.Files.{HasQueries}
use Rattle.run_start.specs.Ready.{IsReading, IsWork}
use Rattle.rpq_run.proofs.Running.{leaves_objects}
use Rattle.rpq_run.proofs.Tops.{generated_in, is_generation, none_named, one_named, one_reader, queries_in}
use Rattle.rpq_run.proofs.Tops.{runs_in, streams_run}
use Rattle.rpq_run.proofs.Tops.{task_is}
use Rattle.rpq_run.proofs.top.run_begun.Goals as goal

-- ---- the run over streams

pub returns-in-Alone-clause-runs : goal.returns-in-Alone-clause-runs
returns-in-Alone-clause-runs g c = IfOk-weaker c.run_streams.result _ _ (λ report runs holds ready.
    let given = c.args.chosen.now in
    streams_run g.F.Source.Source.left g.F.Source.Source.faults g.F.Sink.Sink.written
    g.F.Sink.Sink.faults given holds c.args.ready.queries.items c.args.ready.work c.in-Read.reads
    c.in-Read.is _ c.in-Alone.is c.in-Alone.readers.items c.task_of-task.result
    c.task_of-task.ensures c.requires.settings ready refl _ _ _ _ _ (none_named (from_of given))
    (runs given holds)) c.run_streams.ensures.runs

pub run_streams-requires-clause-task : goal.run_streams-requires-clause-task
run_streams-requires-clause-task g c =
    λ κs within. task_is g.F.Source.Source.left g.F.Source.Source.faults g.F.Sink.Sink.written
    g.F.Sink.Sink.faults c.args.chosen.now c.requires.ready.0 c.args.ready.queries.items
    c.args.ready.work c.in-Read.reads c.in-Read.is _ c.in-Alone.is c.in-Alone.readers.items
    c.task_of-task.result c.task_of-task.ensures c.requires.settings c.requires.ready.1 refl
    (λ fresh. fresh)

pub returns-in-Behind-clause-runs : goal.returns-in-Behind-clause-runs
returns-in-Behind-clause-runs g c =
    IfOk-weaker c.run_streams-in-Behind.result _ _ (λ report runs holds ready.
    let given = c.args.chosen.now in
    streams_run g.F.Source.Source.left g.F.Source.Source.faults g.F.Sink.Sink.written
    g.F.Sink.Sink.faults given holds c.args.ready.queries.items c.args.ready.work c.in-Read.reads
    c.in-Read.is _ c.in-Behind.is c.in-Behind.readers.items c.task_of-task-in-Behind.result
    c.task_of-task-in-Behind.ensures c.requires.settings ready refl _ _ _ _ _ (one_named (from_of given))
    (runs given holds)) c.run_streams-in-Behind.ensures.runs

pub run_streams-requires-in-Behind-clause-task : goal.run_streams-requires-in-Behind-clause-task
run_streams-requires-in-Behind-clause-task g c =
    λ κs within. task_is g.F.Source.Source.left g.F.Source.Source.faults g.F.Sink.Sink.written
    g.F.Sink.Sink.faults c.args.chosen.now c.requires.ready.0 c.args.ready.queries.items
    c.args.ready.work c.in-Read.reads c.in-Read.is _ c.in-Behind.is c.in-Behind.readers.items
    c.task_of-task-in-Behind.result c.task_of-task-in-Behind.ensures c.requires.settings
    c.requires.ready.1 refl (λ fresh. fresh)

pub run_streams-requires-in-Behind-clause-alone : goal.run_streams-requires-in-Behind-clause-alone
run_streams-requires-in-Behind-clause-alone g c =
    λ κs within. inr (one_reader g.F.Source.Source.left g.F.Source.Source.faults
    g.F.Sink.Sink.written g.F.Sink.Sink.faults c.args.chosen.now c.requires.ready.0
    c.args.ready.queries.items c.args.ready.work c.in-Read.reads c.in-Read.is _ c.in-Behind.is
    c.in-Behind.readers.items c.task_of-task-in-Behind.result c.task_of-task-in-Behind.ensures
    c.requires.settings c.requires.ready.1 refl refl)

-- ---- the check

pub returns-in-Check-clause-runs : goal.returns-in-Check-clause-runs
returns-in-Check-clause-runs g c = λ holds ready.
    let given = c.args.chosen.now in
    let queries = c.args.ready.queries.items in
    let work = subst (IsWork given (IsReading g.F.Source.Source.left g.F.Source.Source.faults
    g.F.Sink.Sink.written g.F.Sink.Sink.faults given holds queries)) c.in-Check.is
    ready.asked_for in
    runs_in _ given holds _ _ _ (Check work.0) work.1
    (c.run_check.ensures.runs (is_both_ways work.0) (holds given.queries) _
    (leaves_objects _ c.args.standing.now.items c.run_check.result.left.items
    c.run_check.ensures.left)
    (subst (λ (qs : List CompiledValue). IfSome (holds given.queries)
    (λ bytes. HasQueries (is_both_ways work.0) bytes (definitions_of qs)))
    (sym {A = List CompiledValue} c.deref.ensures.value)
    (queries_in given (holds given.queries) (definitions_of queries) (Check work.0) work.1
    ready.has)))

-- ---- the run over generated tuples

pub returns-in-Generate-clause-runs : goal.returns-in-Generate-clause-runs
returns-in-Generate-clause-runs g c = IfOk-weaker c.run_generated.result _ _
    (λ report runs holds ready.
    let given = c.args.chosen.now in
    let queries = c.args.ready.queries.items in
    let work = subst (IsWork given (IsReading g.F.Source.Source.left g.F.Source.Source.faults
    g.F.Sink.Sink.written g.F.Sink.Sink.faults given holds queries)) c.in-Generate.is
    ready.asked_for in
    generated_in _ given holds _ _ _ c.in-Generate.directions c.in-Generate.count queries
    c.generation_of-generation.result c.generation_of-generation.ensures work ready.has runs)
    c.run_generated.ensures.runs

pub run_generated-requires-clause-generation : goal.run_generated-requires-clause-generation
run_generated-requires-clause-generation g c = λ κs within.
    let given = c.args.chosen.now in
    let queries = c.args.ready.queries.items in
    let ready = c.requires.ready.1 in
    let asked_for = subst (IsWork given (IsReading g.F.Source.Source.left g.F.Source.Source.faults
    g.F.Sink.Sink.written g.F.Sink.Sink.faults given c.requires.ready.0 queries)) c.in-Generate.is
    ready.asked_for in
    is_generation given c.in-Generate.directions c.in-Generate.count queries
    c.generation_of-generation.result c.generation_of-generation.ensures ready.understood
    c.requires.settings asked_for
