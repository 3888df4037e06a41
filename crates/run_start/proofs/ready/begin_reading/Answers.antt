use Rattle.std.proofs.Common.{◌≡◌, ◌∷◌, [], ℕ, List, Option, Some, None, refl, sym, subst, ◌∙◌}
use Rattle.std.proofs.Common.{append-nil}
use Rattle.std.specs.Prelude.{IfSome}
use Rattle.rpq_text.specs.Definitions.{definitions_of}
use Rattle.run_start.specs.Files.{AreUnderstoodJoins, ForSessions, HasQueries, stream_contents}
use Rattle.run_start.specs.Given.{later_names, sink_names}
use Rattle.run_start.specs.Ready.{IsReadWhole}
use Rattle.run_start.specs.Readers.{contents_of}
use Rattle.run_start.specs.Steps.{IsRefusal, UsesMore}
use Rattle.run_start.proofs.AskReaders.{as_many, ask_readers_are}
use Rattle.run_start.proofs.Using.{all_understood, behind_all, behind_streams, faults_refuse}
use Rattle.run_start.proofs.Using.{files_behind, holds_stays, joins_understood, one_by_one, refused_behind}
use Rattle.run_start.proofs.Using.{refused_by, replies_refuse}
use Rattle.run_start.proofs.ready.begin_reading.Goals as goal
use Rattle.rpq_words.specs.Views.{asks_of, two_way_of}

-- ---- the sessions

pub sessions_of_file-requires-clause-has : goal.sessions_of_file-requires-clause-has
sessions_of_file-requires-clause-has g c κs within =
    subst (λ (holds : List ℕ → Option (List ℕ)). IfSome (holds c.args.chosen.now.queries)
    (λ bytes. HasQueries (two_way_of c.args.chosen.now) bytes (definitions_of c.args.queries.now)))
    (sym (holds_stays c.in_ok-joins.ensures.files)) c.requires.has

pub sessions_of_file-requires-clause-joins : goal.sessions_of_file-requires-clause-joins
sessions_of_file-requires-clause-joins g c κs within =
    let given = c.args.chosen.now in
    subst (λ (holds : List ℕ → Option (List ℕ)). AreUnderstoodJoins given holds)
    (sym (holds_stays c.in_ok-joins.ensures.files))
    (joins_understood given (g.F.Files.holds c.args.files.now) (definitions_of c.args.queries.now)
    c.in_ok-joins.joins.value.items c.requires.has c.in_ok-joins.ensures.joins)

pub returns-in_err-sessions-clause-refused : goal.returns-in_err-sessions-clause-refused
returns-in_err-sessions-clause-refused g c =
    refused_behind g.F.Source.Source.left g.F.Source.Source.faults c.args.chosen.now
    (g.F.Files.holds c.args.files.now) (g.F.Files.holds c.joins_of_file.new.files)
    c.from_residual-in_err-sessions.result c.in_err-sessions.field-0.0
    c.from_residual-in_err-sessions.ensures.1
    (holds_stays c.in_ok-joins.ensures.files) c.in_err-sessions.ensures.refused

pub returns-in_err-sessions-clause-files : goal.returns-in_err-sessions-clause-files
returns-in_err-sessions-clause-files g c =
    let given = c.args.chosen.now in
    let refusal = c.in_err-sessions.field-0.0 in
    files_behind (later_names given) (sink_names given) c.from_residual-in_err-sessions.result
    refusal
    c.from_residual-in_err-sessions.ensures.1
    (one_by_one {start = Some refusal.fault} c.in_ok-joins.ensures.files
    c.in_err-sessions.ensures.files)

-- ---- the readers

pub open_readers-requires-clause-understood : goal.open_readers-requires-clause-understood
open_readers-requires-clause-understood g c κs within =
    all_understood c.args.chosen.now (g.F.Files.holds c.args.files.now)
    (g.F.Files.holds c.joins_of_file.new.files)
    (g.F.Files.holds c.sessions_of_file.new.files) (definitions_of c.args.queries.now)
    c.in_ok-joins.joins.value.items c.in_ok-sessions.sessions.items
    (holds_stays c.in_ok-joins.ensures.files)
    (holds_stays c.in_ok-sessions.ensures.files ∙ holds_stays c.in_ok-joins.ensures.files)
    c.requires.has
    c.in_ok-joins.ensures.joins c.in_ok-sessions.ensures.sessions

pub returns-in_err-readers-clause-refused : goal.returns-in_err-readers-clause-refused
returns-in_err-readers-clause-refused g c =
    refused_behind g.F.Source.Source.left g.F.Source.Source.faults c.args.chosen.now
    (g.F.Files.holds c.args.files.now) (g.F.Files.holds c.sessions_of_file.new.files)
    c.from_residual-in_err-readers.result c.in_err-readers.field-0.0
    c.from_residual-in_err-readers.ensures.1
    (holds_stays c.in_ok-sessions.ensures.files ∙ holds_stays c.in_ok-joins.ensures.files)
    c.in_err-readers.ensures.refused

pub returns-in_err-readers-clause-files : goal.returns-in_err-readers-clause-files
returns-in_err-readers-clause-files g c =
    let given = c.args.chosen.now in
    let refusal = c.in_err-readers.field-0.0 in
    files_behind (later_names given) (sink_names given) c.from_residual-in_err-readers.result
    refusal
    c.from_residual-in_err-readers.ensures.1
    (one_by_one {start = Some refusal.fault}
    (one_by_one {start = None} c.in_ok-joins.ensures.files c.in_ok-sessions.ensures.files)
    c.in_err-readers.ensures.files)

-- ---- what the readers beside the run ask

pub open_asks-requires-clause-understood : goal.open_asks-requires-clause-understood
open_asks-requires-clause-understood g c κs within =
    all_understood c.args.chosen.now (g.F.Files.holds c.args.files.now)
    (g.F.Files.holds c.joins_of_file.new.files)
    (g.F.Files.holds c.open_readers.new.files) (definitions_of c.args.queries.now)
    c.in_ok-joins.joins.value.items c.in_ok-sessions.sessions.items
    (holds_stays c.in_ok-joins.ensures.files)
    (holds_stays c.in_ok-readers.ensures.files
    ∙ (holds_stays c.in_ok-sessions.ensures.files ∙ holds_stays c.in_ok-joins.ensures.files))
    c.requires.has
    c.in_ok-joins.ensures.joins c.in_ok-sessions.ensures.sessions

pub returns-in_err-asks-clause-refused : goal.returns-in_err-asks-clause-refused
returns-in_err-asks-clause-refused g c =
    refused_behind g.F.Source.Source.left g.F.Source.Source.faults c.args.chosen.now
    (g.F.Files.holds c.args.files.now) (g.F.Files.holds c.open_readers.new.files)
    c.from_residual-in_err-asks.result c.in_err-asks.field-0.0
    c.from_residual-in_err-asks.ensures.1
    (holds_stays c.in_ok-readers.ensures.files
    ∙ (holds_stays c.in_ok-sessions.ensures.files ∙ holds_stays c.in_ok-joins.ensures.files))
    c.in_err-asks.ensures.refused

pub returns-in_err-asks-clause-files : goal.returns-in_err-asks-clause-files
returns-in_err-asks-clause-files g c =
    let given = c.args.chosen.now in
    let refusal = c.in_err-asks.field-0.0 in
    files_behind (later_names given) (sink_names given) c.from_residual-in_err-asks.result refusal
    c.from_residual-in_err-asks.ensures.1
    (one_by_one {start = Some refusal.fault}
    (one_by_one {start = None}
    (one_by_one {start = None} c.in_ok-joins.ensures.files c.in_ok-sessions.ensures.files)
    c.in_ok-readers.ensures.files) (behind_streams c.in_err-asks.ensures.files))

-- ---- the sinks

pub open_sinks-requires-after_bounds : goal.open_sinks-requires-after_bounds
open_sinks-requires-after_bounds g c κs within =
    all_understood c.args.chosen.now (g.F.Files.holds c.args.files.now)
    (g.F.Files.holds c.joins_of_file.new.files)
    (g.F.Files.holds c.open_asks.new.files) (definitions_of c.args.queries.now)
    c.in_ok-joins.joins.value.items c.in_ok-sessions.sessions.items
    (holds_stays c.in_ok-joins.ensures.files)
    (holds_stays c.in_ok-asks.ensures.files ∙ (holds_stays c.in_ok-readers.ensures.files
    ∙ (holds_stays c.in_ok-sessions.ensures.files ∙ holds_stays c.in_ok-joins.ensures.files)))
    c.requires.has
    c.in_ok-joins.ensures.joins c.in_ok-sessions.ensures.sessions

pub returns-in_err-sinks-clause-refused : goal.returns-in_err-sinks-clause-refused
returns-in_err-sinks-clause-refused g c =
    refused_behind g.F.Source.Source.left g.F.Source.Source.faults c.args.chosen.now
    (g.F.Files.holds c.args.files.now) (g.F.Files.holds c.open_asks.new.files)
    c.from_residual-in_err-sinks.result c.in_err-sinks.field-0.0
    c.from_residual-in_err-sinks.ensures.1
    (holds_stays c.in_ok-asks.ensures.files ∙ (holds_stays c.in_ok-readers.ensures.files
    ∙ (holds_stays c.in_ok-sessions.ensures.files ∙ holds_stays c.in_ok-joins.ensures.files)))
    c.in_err-sinks.ensures.refused

pub returns-in_err-sinks-clause-files : goal.returns-in_err-sinks-clause-files
returns-in_err-sinks-clause-files g c =
    let given = c.args.chosen.now in
    let refusal = c.in_err-sinks.field-0.0 in
    files_behind (later_names given) (sink_names given) c.from_residual-in_err-sinks.result refusal
    c.from_residual-in_err-sinks.ensures.1
    (one_by_one {start = Some refusal.fault}
    (one_by_one {start = None}
    (one_by_one {start = None}
    (one_by_one {start = None} c.in_ok-joins.ensures.files c.in_ok-sessions.ensures.files)
    c.in_ok-readers.ensures.files) (behind_streams c.in_ok-asks.ensures.files))
    (behind_all c.in_err-sinks.ensures.files))

-- ---- the sinks of faulty lines

pub returns-in_err-faults-clause-refused : goal.returns-in_err-faults-clause-refused
returns-in_err-faults-clause-refused g c =
    let given = c.args.chosen.now in
    let holds = g.F.Files.holds c.args.files.now in
    refused_by (IsRefusal g.F.Source.Source.left g.F.Source.Source.faults given holds)
    c.from_residual-in_err-faults.result c.in_err-faults.field-0.0
    c.from_residual-in_err-faults.ensures.1
    (faults_refuse g.F.Source.Source.left g.F.Source.Source.faults given holds
    c.in_err-faults.field-0.0
    (all_understood given holds
    (g.F.Files.holds c.joins_of_file.new.files) holds (definitions_of c.args.queries.now)
    c.in_ok-joins.joins.value.items c.in_ok-sessions.sessions.items
    (holds_stays c.in_ok-joins.ensures.files) refl c.requires.has
    c.in_ok-joins.ensures.joins c.in_ok-sessions.ensures.sessions)
    c.in_err-faults.ensures.refused)

pub returns-in_err-faults-clause-files : goal.returns-in_err-faults-clause-files
returns-in_err-faults-clause-files g c =
    let given = c.args.chosen.now in
    let refusal = c.in_err-faults.field-0.0 in
    files_behind (later_names given) (sink_names given) c.from_residual-in_err-faults.result refusal
    c.from_residual-in_err-faults.ensures.1
    (one_by_one {start = Some refusal.fault}
    (one_by_one {start = None}
    (one_by_one {start = None}
    (one_by_one {start = None} c.in_ok-joins.ensures.files c.in_ok-sessions.ensures.files)
    c.in_ok-readers.ensures.files) (behind_streams c.in_ok-asks.ensures.files))
    (behind_all (c.in_err-faults.ensures.files c.open_asks.new.files c.in_ok-sinks.ensures.files)))

-- ---- the readers beside the run

pub open_ask_readers-requires-clause-all : goal.open_ask_readers-requires-clause-all
open_ask_readers-requires-clause-all g c κs within =
    as_many (g.F.Files.holds c.open_readers.new.files) g.F.Source.Source.left c.args.chosen.now
    c.in_ok-asks.asks.items c.in_ok-asks.ensures.contents

pub returns-in_err-ask_readers-clause-refused : goal.returns-in_err-ask_readers-clause-refused
returns-in_err-ask_readers-clause-refused g c =
    let given = c.args.chosen.now in
    let holds = g.F.Files.holds c.args.files.now in
    refused_by (IsRefusal g.F.Source.Source.left g.F.Source.Source.faults given holds)
    c.from_residual-in_err-ask_readers.result c.in_err-ask_readers.field-0.0
    c.from_residual-in_err-ask_readers.ensures.1
    (replies_refuse g.F.Source.Source.left g.F.Source.Source.faults given holds
    c.in_err-ask_readers.field-0.0
    (all_understood given holds
    (g.F.Files.holds c.joins_of_file.new.files) holds (definitions_of c.args.queries.now)
    c.in_ok-joins.joins.value.items c.in_ok-sessions.sessions.items
    (holds_stays c.in_ok-joins.ensures.files) refl c.requires.has
    c.in_ok-joins.ensures.joins c.in_ok-sessions.ensures.sessions)
    c.in_err-ask_readers.ensures.refused)

pub returns-in_err-ask_readers-clause-files : goal.returns-in_err-ask_readers-clause-files
returns-in_err-ask_readers-clause-files g c =
    let given = c.args.chosen.now in
    let refusal = c.in_err-ask_readers.field-0.0 in
    files_behind (later_names given) (sink_names given) c.from_residual-in_err-ask_readers.result
    refusal
    c.from_residual-in_err-ask_readers.ensures.1
    (one_by_one {start = Some refusal.fault}
    (one_by_one {start = None}
    (one_by_one {start = None}
    (one_by_one {start = None} c.in_ok-joins.ensures.files c.in_ok-sessions.ensures.files)
    c.in_ok-readers.ensures.files) (behind_streams c.in_ok-asks.ensures.files))
    (behind_all (c.in_err-ask_readers.ensures.files c.open_asks.new.files
    (c.in_ok-faults.ensures.files c.open_asks.new.files c.in_ok-sinks.ensures.files))))

-- ---- all of it

pub returns-clause-read_asks : goal.returns-clause-read_asks
returns-clause-read_asks g c =
    subst (λ (holds : List ℕ → Option (List ℕ)). IfSome (asks_of c.args.chosen.now) (λ name.
    IsReadWhole g.F.Source.Source.left g.F.Source.Source.faults (holds name)))
    (holds_stays c.in_ok-joins.ensures.files) c.in_ok-sessions.ensures.read

pub returns-clause-reading : goal.returns-clause-reading
returns-clause-reading g c = record {
  run = c.args.run.now;
  mode = c.requires.streams;
  contents = subst (λ (holds : List ℕ → Option (List ℕ)). stream_contents c.args.chosen.now holds
      ≡ contents_of g.F.Source.Source.left c.in_ok-readers.readers)
      (holds_stays c.in_ok-sessions.ensures.files ∙ holds_stays c.in_ok-joins.ensures.files)
      c.in_ok-readers.ensures.contents;
  behind = c.in_ok-readers.ensures.behind;
  fresh = c.in_ok-readers.ensures.fresh;
  fault_sinks = c.in_ok-faults.ensures.sinks;
  joined = c.in_ok-joins.ensures.joins;
  few_joins = c.in_ok-joins.ensures.few;
  sound = c.in_ok-joins.ensures.sound;
  asked = subst (λ (holds : List ℕ → Option (List ℕ)). ForSessions c.args.chosen.now holds
      (definitions_of c.args.queries.now) (λ asked. c.in_ok-sessions.sessions.items ≡ asked))
      (holds_stays c.in_ok-joins.ensures.files) c.in_ok-sessions.ensures.sessions;
  few = c.in_ok-sessions.ensures.few;
  ranges = c.in_ok-sessions.ensures.ranges;
  ask_readers = ask_readers_are g.F.Source.Source.left g.F.Source.Source.faults
      g.F.Sink.Sink.written g.F.Sink.Sink.faults c.args.chosen.now
      (g.F.Files.holds c.args.files.now) (g.F.Files.holds c.open_readers.new.files)
      c.in_ok-asks.asks.items c.in_ok-ask_readers.ask_readers.items c.requires.settings
      (holds_stays c.in_ok-readers.ensures.files
      ∙ (holds_stays c.in_ok-sessions.ensures.files ∙ holds_stays c.in_ok-joins.ensures.files))
      c.in_ok-asks.ensures.contents c.in_ok-ask_readers.ensures.sources
      c.in_ok-ask_readers.ensures.new;
  sinks = c.in_ok-sinks.ensures.sinks;
}

pub returns-clause-files : goal.returns-clause-files
returns-clause-files g c =
    let given = c.args.chosen.now in
    subst (λ (names : List (List ℕ)). UsesMore g.F.Files.holds g.F.Files.opened g.F.Files.made
    g.F.Files.unread g.F.Files.unmade given (given.queries ∷ []) names (sink_names given) None
    c.args.files.now c.open_ask_readers.new.files)
    (append-nil (later_names given))
    (one_by_one {start = None}
    (one_by_one {start = None}
    (one_by_one {start = None}
    (one_by_one {start = None} c.in_ok-joins.ensures.files c.in_ok-sessions.ensures.files)
    c.in_ok-readers.ensures.files) (behind_streams c.in_ok-asks.ensures.files))
    (behind_all (c.in_ok-ask_readers.ensures.files c.open_asks.new.files
    (c.in_ok-faults.ensures.files c.open_asks.new.files c.in_ok-sinks.ensures.files))))
