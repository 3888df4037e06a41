use Rattle.std.proofs.Common.{rules, ◌≡◌, ◌∷◌, ℕ, List, Option, Some, None, refl, subst}
use Rattle.std.specs.Prelude.{IfSome}
use Rattle.query_file.specs.Compiled.{CompiledValue}
use Rattle.rpq_text.specs.declared.ends.StartFault.{StartFault}
use Rattle.run_start.specs.Given.{later_names, sink_names}
use Rattle.run_start.specs.Ready.{IsReading, IsReadWhole, fault_of}
use Rattle.run_start.specs.Start.{IsRefusedFor, UsesFiles}
use Rattle.run_start.proofs.Using.{all_steps, holds_stays, names_in_order, one_by_one}
use Rattle.run_start.proofs.ready.begin.Goals as goal
use Rattle.rpq_words.specs.Views.{asks_of, joins_of}

pub returns-in_err-reads-in-Streams-clause-cause : goal.returns-in_err-reads-in-Streams-clause-cause
returns-in_err-reads-in-Streams-clause-cause g c =
    let refusal = c.in_err-reads-in-Streams.field-0.0 in
    let moved : IsRefusedFor c.args.chosen.now (g.F.Files.holds c.args.files.now) refusal.fault =
    subst (λ (holds : List ℕ → Option (List ℕ)). IsRefusedFor c.args.chosen.now holds refusal.fault)
    (holds_stays c.in_ok-queries.ensures.files) c.in_err-reads-in-Streams.ensures.refused.cause in
    search (rules, moved)

pub returns-in_err-reads-in-Streams-clause-files : goal.returns-in_err-reads-in-Streams-clause-files
returns-in_err-reads-in-Streams-clause-files g c =
    let given = c.args.chosen.now in
    let fault = c.in_err-reads-in-Streams.field-0.0.fault in
    let start : Some fault ≡ fault_of c.from_residual-in_err-reads-in-Streams.result = search rules in
    subst (λ (s : Option StartFault). UsesFiles g.F.Files.holds g.F.Files.opened g.F.Files.made g.F.Files.unread
    g.F.Files.unmade (Some given) s c.args.files.now c.begin_reading.new.files) start
    (all_steps given (given.queries ∷ later_names given) (sink_names given) (Some fault)
    c.args.files.now c.begin_reading.new.files (names_in_order given) refl
    (one_by_one {more = later_names given} {start = Some fault} c.in_ok-queries.ensures.files
    c.in_err-reads-in-Streams.ensures.files))

pub returns-in_ok-reads-in-Streams-clause-read : goal.returns-in_ok-reads-in-Streams-clause-read
returns-in_ok-reads-in-Streams-clause-read g c = record {
  queries = c.in_ok-queries.ensures.read;
  joins = subst (λ (h : List ℕ → Option (List ℕ)). IfSome (joins_of c.args.chosen.now) (λ name.
      IsReadWhole g.F.Source.Source.left g.F.Source.Source.faults (h name)))
      (holds_stays c.in_ok-queries.ensures.files) c.in_ok-reads-in-Streams.ensures.read_joins;
  asks = subst (λ (h : List ℕ → Option (List ℕ)). IfSome (asks_of c.args.chosen.now) (λ name.
      IsReadWhole g.F.Source.Source.left g.F.Source.Source.faults (h name)))
      (holds_stays c.in_ok-queries.ensures.files) c.in_ok-reads-in-Streams.ensures.read_asks;
}

pub returns-in_ok-reads-in-Streams-clause-ready : goal.returns-in_ok-reads-in-Streams-clause-ready
returns-in_ok-reads-in-Streams-clause-ready g c =
    let given = c.args.chosen.now in
    let holds = g.F.Files.holds c.args.files.now in
    let reading = subst (λ (h : List ℕ → Option (List ℕ)). IsReading g.F.Source.Source.left g.F.Source.Source.faults
    g.F.Sink.Sink.written g.F.Sink.Sink.faults given h c.deref.result.now c.in_ok-reads-in-Streams.reads)
    (holds_stays c.in_ok-queries.ensures.files) c.in_ok-reads-in-Streams.ensures.reading in
    record {
      has = c.in_ok-queries.ensures.queries;
      understood = c.in_ok-queries.ensures.understood;
      asked_for = subst (λ (qs : List CompiledValue). IsReading g.F.Source.Source.left g.F.Source.Source.faults
          g.F.Sink.Sink.written g.F.Sink.Sink.faults given holds qs c.in_ok-reads-in-Streams.reads)
          c.deref.ensures.value reading;
    }

pub returns-in_ok-reads-in-Streams-clause-files : goal.returns-in_ok-reads-in-Streams-clause-files
returns-in_ok-reads-in-Streams-clause-files g c =
    let given = c.args.chosen.now in
    all_steps given (given.queries ∷ later_names given) (sink_names given) None
    c.args.files.now c.begin_reading.new.files (names_in_order given) refl
    (one_by_one {more = later_names given} {start = None}
    c.in_ok-queries.ensures.files c.in_ok-reads-in-Streams.ensures.files)
