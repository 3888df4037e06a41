-- What the check of queries does.
use Rattle.std.proofs.Common.{◌≡◌, ℕ, Bool, true, false, List, [], Option, None}
use Rattle.std.proofs.Common.{Result, Ok, Err, refl, sym, subst, ◌∙◌, arith}
use Rattle.std.specs.Prelude.{IfSome, Contains, is_err}
use Rattle.std.specs.List.{All, flat_map}
use Rattle.live_asks.specs.declared.reader.ReaderOutcome.{ReaderOutcome}
use Rattle.rpq_base.specs.declared.data.Entry.{Entry}
use Rattle.rpq_io.proofs.Counting.{counts_as}
use Rattle.history_model.specs.declared.line.Why.TheVariants.{Write}
use Rattle.stream_tuples.specs.declared.ends.StreamEnd.{StreamEnd}
use Rattle.stream_tuples.specs.declared.ends.StreamEnd.TheVariants.{Closed}
use Rattle.query_file.specs.Compiled.{CompiledValue, IsCompiled}
use Rattle.ask_text.specs.Answered.{AnsweredValue}
use Rattle.rpq_text.specs.Definitions.{compiled_line, definitions_of}
use Rattle.rpq_text.specs.declared.ends.SinkName.TheVariants.{Events}
use Rattle.rpq_text.specs.ErrorLines.{run_lines}
use Rattle.rpq_text.specs.Statuses.{first_status}
use Rattle.rpq_text.specs.Verdicts.{AreVerdicts}
use Rattle.rpq_text.proofs.VerdictLines.{are_verdicts}
use Rattle.run_start.specs.Files.{HasQueries}
use Rattle.rpq_threads.specs.Written.{Grew, GrewByProperPrefix}
use Rattle.rpq_run.specs.Failed.{failed_sinks}
use Rattle.rpq_run.specs.Outcome.{Meanings, Sinks, Objects, Outcome}
use Rattle.rpq_run.specs.RunsCheck.{LeavesObjects, RunsCheck}
use Rattle.rpq_run.specs.Written.{Tells, TellsLines, WritesWhere}
use Rattle.rpq_run.proofs.Sinks.{some_sinks, in_replies, in_save, events_in}
use Rattle.rpq_run.proofs.Sinks.{in_events, none_contained}
use Rattle.rpq_run.proofs.Sinks.{proper_is_prefix}
use Rattle.rpq_run.proofs.Sinks.{whole_is_prefix}
use Rattle.rpq_run.proofs.Running.{for_queries, is_queries_file}

-- what a check answers
abbrev pub check_outcome : {S K : Type 0} → ℕ → Outcome S K
check_outcome status =
    record {
      status = status;
      history = [];
      base = 0;
      ends = [];
      sources = [];
      faults = [];
      from = None;
      sessions = [];
      readers = [];
      replies = None;
      save = None;
    }

-- it has no member in any list
nothing_taken : {S K : Type 0} (status : ℕ) (history : List Entry) (base : ℕ)
    (ends : List StreamEnd) (sources : List S) (faults : List (Option K))
    (sessions : List (List AnsweredValue)) (readers : List (ReaderOutcome S K)) → history ≡ []
    → base ≡ 0 → ends ≡ [] → sources ≡ [] → faults ≡ [] → sessions ≡ [] → readers ≡ [] → check_outcome {S = S} {K = K} status ≡ record {
      status = status;
      history = history;
      base = base;
      ends = ends;
      sources = sources;
      faults = faults;
      from = None;
      sessions = sessions;
      readers = readers;
      replies = None;
      save = None;
    }
nothing_taken {S} {K} status history base ends sources faults sessions readers no_history none_gone
    no_end no_source no_faults no_session no_reader = λ i. record {
      status = status;
      history = sym {A = List Entry} no_history i;
      base = sym none_gone i;
      ends = sym {A = List StreamEnd} no_end i;
      sources = sym no_source i;
      faults = sym {A = List (Option K)} no_faults i;
      from = None;
      sessions = sym {A = List (List AnsweredValue)} no_session i;
      readers = sym {A = List (ReaderOutcome S K)} no_reader i;
      replies = None;
      save = None;
    }

-- the verdicts, by whether a write failed
verdicts_written : {K T E : Type 0} (written : K → Option (List ℕ)) (failures : K → ℕ)
    (queries : List CompiledValue) (old new : K) (result : Result T E)
    → All IsCompiled queries → Tells written failures (flat_map compiled_line queries)
    old new result
    → WritesWhere (Contains (failed_sinks (is_err result) false false) Events) ⊥
    (AreVerdicts (definitions_of queries)) (written old) (written new)
verdicts_written written failures queries old new (Ok x) all told =
    let whole : Grew (AreVerdicts (definitions_of queries)) (written old) (written new) = record {
      text = flat_map compiled_line queries;
      of_kind = are_verdicts queries all;
      written = told.whole refl;
    } in
    record {
      whole = λ none other. whole;
      part = λ has. absurd (none_contained Events has);
      prefix = whole_is_prefix (AreVerdicts (definitions_of queries)) (written old)
          (written new) whole;
      apart = λ has never. never;
    }
verdicts_written written failures queries old new (Err e) all told =
    let part = told.part refl in
    let proper : GrewByProperPrefix (AreVerdicts (definitions_of queries)) (written old)
    (written new) = record {
      front = part.front;
      rest = part.rest;
      of_kind = subst (AreVerdicts (definitions_of queries)) part.cut (are_verdicts queries all);
      proper = part.proper;
      written = part.written;
    } in
    record {
      whole = λ none other. absurd (none (events_in true false false refl));
      part = λ has. proper;
      prefix = proper_is_prefix (AreVerdicts (definitions_of queries)) (written old)
          (written new) proper;
      apart = λ has never. never;
    }

-- it never ends for want of memory
never_short : (failed : Bool) → first_status [] [] (failed_sinks failed false false) ≡ 8 → ⊥
never_short false eight = absurd (omega (arith, eight))
never_short true eight = absurd (omega (arith, eight))

-- the check of queries
check_runs : {S K T E : Type 0} (means : Meanings S K) (two_way : Bool)
    (file : Option (List ℕ)) (queries : List CompiledValue) (sinks : Sinks K)
    (result : Result T E) (status : ℕ) (all : Objects) → LeavesObjects all
    → IfSome file (λ bytes. HasQueries two_way bytes
    (definitions_of queries))
    → All IsCompiled queries
    → Tells means.written means.failures (flat_map compiled_line queries) sinks.events_old
    sinks.events_new result
    → status ≡ first_status [] [] (failed_sinks (is_err result) false false)
    → TellsLines means.written means.failures
    (run_lines [] [] (failed_sinks (is_err result) false false) status)
    sinks.errors_old sinks.errors_new
    → RunsCheck {S = S} {K = K} means two_way file sinks all (check_outcome status)
check_runs means two_way file queries sinks result status all kept has are told is lines = record {
  understood = is_queries_file two_way file (definitions_of queries) has;
  nothing = record {
    no_history = refl;
    none_gone = refl;
    no_stream = refl;
    no_faults = refl;
    no_session = refl;
    no_reader = refl;
    no_replies = refl;
    no_window = (refl, refl);
  };
  no_source = refl;
  failed = failed_sinks (is_err result) false false;
  text = for_queries two_way file (definitions_of queries) (λ each.
      WritesWhere (Contains (failed_sinks (is_err result) false false) Events) ⊥
      (AreVerdicts each) (means.written sinks.events_old) (means.written sinks.events_new)) has
      (verdicts_written means.written means.failures queries sinks.events_old sinks.events_new
      result are told);
  causes = record {
    once = some_sinks (is_err result) false false;
    events_failed = counts_as (is_err result ≡ true)
        (Contains (failed_sinks (is_err result) false false) Events)
        (means.failures sinks.events_old) (means.failures sinks.events_new)
        (events_in (is_err result) false false) (in_events (is_err result) false false)
        told.counted;
    replies_failed = tt;
    no_replies = λ none has.
        let no : false ≡ true = in_replies (is_err result) false false has in
        absurd (cc no);
    save_failed = tt;
    no_save = λ none has.
        let no : false ≡ true = in_save (is_err result) false false has in
        absurd (cc no);
    closed = λ closed. absurd (none_contained (Closed Write) closed);
    status_is = record { memory = λ eight. is ∙ eight; others = λ other. is };
    memory = (
      λ eight. absurd (never_short (is_err result) (sym is ∙ eight)),
      λ short. absurd (cc short),
    );
    told = lines;
  };
  objects_kept = kept;
}

-- the same with what it answers in its lists
pub runs_check : {S K T E : Type 0} (means : Meanings S K) (two_way : Bool)
    (file : Option (List ℕ)) (queries : List CompiledValue) (sinks : Sinks K)
    (result : Result T E) (status : ℕ) (all : Objects) (history : List Entry) (base : ℕ)
    (ends : List StreamEnd) (sources : List S) (faults : List (Option K))
    (sessions : List (List AnsweredValue)) (readers : List (ReaderOutcome S K)) → history ≡ []
    → base ≡ 0 → ends ≡ [] → sources ≡ [] → faults ≡ []
    → sessions ≡ [] → readers ≡ [] → LeavesObjects all
    → IfSome file (λ bytes. HasQueries two_way bytes
    (definitions_of queries))
    → All IsCompiled queries
    → Tells means.written means.failures (flat_map compiled_line queries) sinks.events_old
    sinks.events_new result
    → status ≡ first_status [] [] (failed_sinks (is_err result) false false)
    → TellsLines means.written means.failures
    (run_lines [] [] (failed_sinks (is_err result) false false) status)
    sinks.errors_old sinks.errors_new
    → RunsCheck means two_way file sinks all (record {
      status = status;
      history = history;
      base = base;
      ends = ends;
      sources = sources;
      faults = faults;
      from = None;
      sessions = sessions;
      readers = readers;
      replies = None;
      save = None;
    })
runs_check {S} {K} means two_way file queries sinks result status all history base ends sources
    faults sessions readers no_history none_gone no_end no_source no_faults no_session no_reader kept has compiled told
    status_is lines =
    subst (λ (outcome : Outcome S K). RunsCheck means two_way file sinks all outcome)
    (nothing_taken status history base ends sources faults sessions readers no_history none_gone
    no_end no_source no_faults no_session no_reader)
    (check_runs means two_way file queries sinks result status all kept has compiled told
    status_is lines)
