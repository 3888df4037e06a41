-- What the run over generated tuples does.
use Rattle.std.proofs.Common.{◌≡◌, ◌≢◌, ℕ, ◌<◌, Bool, true, false, List, [], ◌∷◌, ◌++◌, min}
use Rattle.std.proofs.Common.{Option, Some, None, Result, Ok, Err, refl, ap, sym, subst, subst₂, ◌∙◌, arith}
use Rattle.std.proofs.Common.{inl, inr, ◌⊎◌}
use Rattle.std.specs.Prelude.{IfSome, IsSome, Contains, is_err, is_some, map, nat_le}
use Rattle.std.specs.Global.{Vec}
use Rattle.std.proofs.lemmas.Bool.{leb-true}
use Rattle.std.proofs.lemmas.Bool.Decides.{leb_tells}
use Rattle.rpq_io.proofs.Bytes.{append_known-nil}
use Rattle.rpq_io.proofs.Counting.{counts_as}
use Rattle.rpq_io.specs.Writes.{WritesProperPrefix}
use Rattle.ask_text.specs.Answered.{AnsweredValue}
use Rattle.live_asks.specs.declared.reader.ReaderOutcome.{ReaderOutcome}
use Rattle.rpq_base.specs.declared.data.Entry.{Entry}
use Rattle.history_model.specs.declared.line.Why.TheVariants.{Write}
use Rattle.stream_tuples.specs.declared.ends.StreamEnd.{StreamEnd}
use Rattle.stream_tuples.specs.declared.ends.StreamEnd.TheVariants.{Whole, Full, Closed, Memory}
use Rattle.standing.specs.Circles.{Parts, as_seen}
use Rattle.standing.specs.Objects.{ObjectValue}
use Rattle.standing.proofs.HavingStood.{stood_weaker}
use Rattle.generated_run.specs.declared.generation.GenerationResult.{GenerationResult}
use Rattle.generated_run.specs.declared.generation.Generation.{Generation}
use Rattle.generated_run.specs.Generates.{AreTold, Generates, said_by}
use Rattle.generated_run.specs.Summary.{IsSummary, all_of}
use Rattle.rpq_text.specs.Definitions.{definitions_of}
use Rattle.rpq_text.specs.declared.ends.SinkName.TheVariants.{Events}
use Rattle.rpq_text.specs.ErrorLines.{run_lines}
use Rattle.rpq_text.specs.Statuses.{IsStatusOf, first_status}
use Rattle.run_start.specs.Files.{HasQueries}
use Rattle.rpq_run.specs.Ended.{bytes_of, end_of}
use Rattle.rpq_run.specs.Failed.{failed_sinks}
use Rattle.rpq_run.specs.Outcome.{Meanings, Sinks, Objects, Outcome, objects}
use Rattle.rpq_run.specs.RunsGenerated.{HoldsGenerated, WritesSummary, RunsGenerated}
use Rattle.rpq_run.specs.Shortage.{is_short, no_shortage}
use Rattle.rpq_run.specs.Written.{Tells, TellsLines}
use Rattle.rpq_run.proofs.Running.{for_queries, is_queries_file, objects_are}
use Rattle.rpq_run.proofs.Sinks.{events_in, in_events, in_replies, in_save, none_contained, one_contained}
use Rattle.rpq_run.proofs.Sinks.{some_sinks}

-- ---- the stream's end

-- it is one of these
one_of : (all fits : Bool) → (end_of all fits ≡ Whole) ⊎ ((end_of all fits ≡ Full) ⊎ (end_of all fits ≡ Memory))
one_of false fits = inr (inr refl)
one_of true false = inr (inl refl)
one_of true true = inl refl

-- no such stream is closed
not_closed : (all fits : Bool) → end_of all fits ≡ Closed Write → ⊥
not_closed false fits is = absurd (cc is)
not_closed true false is = absurd (cc is)
not_closed true true is = absurd (cc is)

-- no such status is that of want of memory, where all is done for which memory is needed
not_short : (fits failed : Bool)
    → first_status (end_of true fits ∷ []) [] (failed_sinks failed false false) ≡ 8 → ⊥
not_short false false eight = absurd (omega (arith, eight))
not_short false true eight = absurd (omega (arith, eight))
not_short true false eight = absurd (omega (arith, eight))
not_short true true eight = absurd (omega (arith, eight))

-- nothing has a proper prefix
none_of_nothing : (before now : Option (List ℕ)) → WritesProperPrefix [] before now → ⊥
none_of_nothing before now part = by part.front part.rest part.cut part.proper
  where
    by : (front rest : List ℕ) → [] ≡ front ++ rest → rest ≢ [] → ⊥
    by [] rest cut proper = proper (sym cut)
    by (byte ∷ front) rest cut proper = absurd (cc cut)

-- a number that isn't within a limit is above it
not_within : (count limit : ℕ) → nat_le count limit ≡ false → limit < count
not_within count limit above = elim (leb_tells count limit) [
  | inl is ↦
      let both : true ≡ false = sym is.0 ∙ above in
      absurd (cc both)
  | inr is ↦ is.1
]

-- ---- the run

-- what the run answers, by its history and how its stream ended
abbrev pub generated_outcome : {S K : Type 0} → ℕ → List Entry → ℕ → List StreamEnd → List S
    → List (Option K) → List (List AnsweredValue) → List (ReaderOutcome S K) → Outcome S K
generated_outcome status history base ends sources faults sessions readers = record {
  status = status;
  history = history;
  base = base;
  ends = ends;
  sources = sources;
  faults = faults;
  from = None;
  sessions = sessions;
  readers = readers;
  replies = None;
  save = None;
}

-- it has no source, no session and no reader, and all its history is there
nothing_asked : {S K : Type 0} (status : ℕ) (history history' : List Entry) (base : ℕ)
    (ends ends' : List StreamEnd)
    (sources : List S) (faults : List (Option K)) (sessions : List (List AnsweredValue))
    (readers : List (ReaderOutcome S K)) → history' ≡ history → base ≡ 0 → ends ≡ ends'
    → sources ≡ [] → faults ≡ [] → sessions ≡ [] → readers ≡ []
    → generated_outcome {S = S} {K = K} status history 0 ends [] [] [] []
    ≡ generated_outcome status history' base ends' sources faults sessions readers
nothing_asked {S} {K} status history history' base ends ends' sources faults sessions readers one none_gone same
    no_source no_faults no_session no_reader = λ i.
    generated_outcome status (sym one i) (sym none_gone i) (same i) (sym no_source i)
    (sym {A = List (Option K)} no_faults i) (sym {A = List (List AnsweredValue)} no_session i) (sym {A = List (ReaderOutcome S K)} no_reader i)

module _ {S K T E O : Type 0} (means : Meanings S K)
    (file : Option (List ℕ)) (task : Generation) (sinks : Sinks K) (seen : O → ObjectValue)
    (circle : Parts O) (run : GenerationResult O) (wrote : Result T E) (status : ℕ)
    (has : IfSome file
    (λ bytes. HasQueries task.two_way bytes (definitions_of task.queries.items)))
    (made : Generates seen task circle run)
    (tells : Tells means.written means.failures (bytes_of run.summary) sinks.events_old sinks.events_new wrote)
    (short : is_some run.summary ≡ false → status ≡ 8)
    (others : is_some run.summary ≡ true
    → status ≡ first_status (end_of (is_some run.summary) (nat_le task.count task.limit) ∷ []) []
    (failed_sinks (is_err wrote) false false)) where
  -- whether all tuples fit into the history, how the stream ended, and what the run answers
  abbrev pub fits : Bool
  fits = nat_le task.count task.limit

  abbrev pub end_in : StreamEnd
  end_in = end_of (is_some run.summary) fits

  abbrev pub outcome_in : Outcome S K
  outcome_in = generated_outcome status run.history.items 0 (end_in ∷ []) [] [] [] []

  -- the objects before and after
  abbrev pub objects_in : Objects
  objects_in = objects seen circle.members run.circle.members run.circle.left

  -- there is no summary exactly where memory ran out
  short_of_memory : (summary : Option (Vec ℕ)) → run.summary ≡ summary → status ≡ 8 → summary ≡ None
  short_of_memory None is eight = refl
  short_of_memory (Some text) is eight =
      let first : status ≡ first_status (end_of true fits ∷ []) [] (failed_sinks (is_err wrote) false false) =
      others (ap is_some is)
      ∙ ap (λ (s : Option (Vec ℕ)).
      first_status (end_of (is_some s) fits ∷ []) [] (failed_sinks (is_err wrote) false false)) is in
      absurd (not_short fits (is_err wrote) (sym first ∙ eight))

  -- the history
  holds_generated : HoldsGenerated task.limit task.count outcome_in
  holds_generated = record {
    made = made.made;
    within = (made.wanted, made.within);
    history = made.history;
    none_gone = refl;
    end = end_in;
    one_stream = refl;
    one_of = one_of (is_some run.summary) fits;
    whole = whole run.summary refl fits refl;
    full = at_limit run.summary refl fits refl;
    memory = (memory run.summary refl, λ eight. at_memory run.summary (short_of_memory run.summary refl eight));
  }
    where
      whole : (summary : Option (Vec ℕ)) → run.summary ≡ summary → (f : Bool) → fits ≡ f
          → end_of (is_some summary) f ≡ Whole → made.made ≡ task.count
      whole None is f f_is end = absurd (cc end)
      whole (Some text) is false f_is end = absurd (cc end)
      whole (Some text) is true f_is end =
          let least : made.made ≡ min task.count task.limit = made.all (ap is_some is) in
          omega (arith, least, leb-true task.count task.limit f_is)

      at_limit : (summary : Option (Vec ℕ)) → run.summary ≡ summary → (f : Bool) → fits ≡ f
          → end_of (is_some summary) f ≡ Full → (made.made ≡ task.limit) × (made.made < task.count)
      at_limit None is f f_is end = absurd (cc end)
      at_limit (Some text) is true f_is end = absurd (cc end)
      at_limit (Some text) is false f_is end =
          let least : made.made ≡ min task.count task.limit = made.all (ap is_some is) in
          let less = not_within task.count task.limit f_is in
          (omega (arith, least, less), omega (arith, least, less))

      memory : (summary : Option (Vec ℕ)) → run.summary ≡ summary → end_of (is_some summary) fits ≡ Memory
          → status ≡ 8
      memory None is end = short (ap is_some is)
      memory (Some text) is end = some fits end
        where
          some : (f : Bool) → end_of true f ≡ Memory → status ≡ 8
          some false end = absurd (cc end)
          some true end = absurd (cc end)

      at_memory : (summary : Option (Vec ℕ)) → summary ≡ None → end_of (is_some summary) fits ≡ Memory
      at_memory summary is = ap (λ (s : Option (Vec ℕ)). end_of (is_some s) fits) is

  -- the texts of the summary
  abbrev IsText : List ℕ → Type 0
  IsText =
      IsSummary task.two_way (definitions_of task.queries.items) run.history.items (said_by objects_in.after)

  -- the summary
  writes_summary : WritesSummary means task.two_way (definitions_of task.queries.items)
      (failed_sinks (is_err wrote) false false) sinks objects_in outcome_in
  writes_summary = by run.summary refl made.summary wrote refl tells
    where
      by : (summary : Option (Vec ℕ)) → run.summary ≡ summary → IfSome summary (λ text. IsText text.items)
          → (result : Result T E) → wrote ≡ result
          → Tells means.written means.failures (bytes_of summary) sinks.events_old sinks.events_new result
          → WritesSummary means task.two_way (definitions_of task.queries.items)
          (failed_sinks (is_err result) false false) sinks objects_in outcome_in
      by None is text (Err e) result_is told =
          absurd (none_of_nothing (means.written sinks.events_old) (means.written sinks.events_new) (told.part refl))
      by None is text (Ok done) result_is told = record {
        whole = λ none other. absurd (other (short (ap is_some is)));
        part = λ has. absurd (none_contained Events has);
        nothing = λ eight. told.whole refl ∙ append_known-nil (means.written sinks.events_old);
      }
      by (Some summary) is text (Ok done) result_is told = record {
        whole = λ none other. record { text = summary.items; of_kind = text; written = told.whole refl };
        part = λ has. absurd (none_contained Events has);
        nothing = λ eight. absurd (cc (sym is ∙ short_of_memory run.summary refl eight));
      }
      by (Some summary) is text (Err e) result_is told =
          let part = told.part refl in
          record {
            whole = λ none other. absurd (none (events_in true false false refl));
            part = λ has. record {
              front = part.front;
              rest = part.rest;
              of_kind = subst IsText part.cut text;
              proper = part.proper;
              written = part.written;
            };
            nothing = λ eight. absurd (cc (sym is ∙ short_of_memory run.summary refl eight));
          }

  -- the objects
  are_told : AreTold task.two_way (definitions_of task.queries.items) run.history.items
      (map seen circle.members) (status ≢ 8) (as_seen seen run.circle)
  are_told = record {
    events = made.told.events;
    are_events = made.told.are_events;
    told = stood_weaker (map seen circle.members) (all_of made.told.events) (IsSome run.summary) (status ≢ 8)
        (map seen run.circle.members) (map seen run.circle.left) (there run.summary refl) made.told.told;
  }
    where
      there : (summary : Option (Vec ℕ)) → run.summary ≡ summary → status ≢ 8 → IsSome summary
      there None is other = absurd (other (short (ap is_some is)))
      there (Some text) is other = refl

  -- memory ran out exactly where the stream ended for want of it
  end_is_memory : run.summary ≡ None → end_in ≡ Memory
  end_is_memory is = ap (λ (s : Option (Vec ℕ)). end_of (is_some s) fits) is

  by_end : (summary : Option (Vec ℕ)) → run.summary ≡ summary
      → is_short (end_of (is_some summary) fits ∷ []) [] no_shortage ≡ true → status ≡ 8
  by_end None is ended = short (ap is_some is)
  by_end (Some text) is ended = absurd (fine fits ended)
    where
      fine : (f : Bool) → is_short (end_of true f ∷ []) [] no_shortage ≡ true → ⊥
      fine false ended = absurd (cc ended)
      fine true ended = absurd (cc ended)

  -- all of it
  generated_runs : IsStatusOf (end_in ∷ []) [] (failed_sinks (is_err wrote) false false) status
      → TellsLines means.written means.failures
      (run_lines (end_in ∷ []) [] (failed_sinks (is_err wrote) false false) status)
      sinks.errors_old sinks.errors_new
      → RunsGenerated means task.two_way task.limit task.count file sinks objects_in outcome_in
  generated_runs status_is lines = record {
    understood = is_queries_file task.two_way file (definitions_of task.queries.items) has;
    no_source = refl;
    no_faults = refl;
    no_session = refl;
    no_reader = refl;
    no_replies = refl;
    no_window = (refl, refl);
    failed = failed_sinks (is_err wrote) false false;
    history = holds_generated;
    summary = for_queries task.two_way file (definitions_of task.queries.items) (λ queries.
        WritesSummary means task.two_way queries (failed_sinks (is_err wrote) false false) sinks objects_in outcome_in) has
        writes_summary;
    told = for_queries task.two_way file (definitions_of task.queries.items) (λ queries.
        AreTold task.two_way queries run.history.items (map seen circle.members) (status ≢ 8) (as_seen seen run.circle)) has
        are_told;
    causes = record {
      once = some_sinks (is_err wrote) false false;
      events_failed = counts_as (is_err wrote ≡ true) (Contains (failed_sinks (is_err wrote) false false) Events)
          (means.failures sinks.events_old) (means.failures sinks.events_new)
          (events_in (is_err wrote) false false) (in_events (is_err wrote) false false) tells.counted;
      replies_failed = tt;
      no_replies = λ none has.
          let no : false ≡ true = in_replies (is_err wrote) false false has in
          absurd (cc no);
      save_failed = tt;
      no_save = λ none has.
          let no : false ≡ true = in_save (is_err wrote) false false has in
          absurd (cc no);
      closed = λ closed. absurd (not_closed (is_some run.summary) fits (one_contained end_in (Closed Write) closed));
      status_is = status_is;
      memory = (
        λ eight. ap (λ (end : StreamEnd). is_short (end ∷ []) [] no_shortage)
            (end_is_memory (short_of_memory run.summary refl eight)),
        by_end run.summary refl,
      );
      told = lines;
    };
  }

  -- the same with what it answers and the objects in their lists
  pub runs_generated : (history : List Entry) (base : ℕ) (ends : List StreamEnd) (sources : List S)
      (faults : List (Option K)) (sessions : List (List AnsweredValue)) (readers : List (ReaderOutcome S K)) (before stayed left : List O)
      → history ≡ run.history.items
      → base ≡ 0 → end_in ∷ [] ≡ ends → sources ≡ [] → faults ≡ [] → sessions ≡ [] → readers ≡ []
      → circle.members ≡ before → run.circle.members ≡ stayed → run.circle.left ≡ left
      → IsStatusOf (end_in ∷ []) [] (failed_sinks (is_err wrote) false false) status
      → TellsLines means.written means.failures
      (run_lines (end_in ∷ []) [] (failed_sinks (is_err wrote) false false) status)
      sinks.errors_old sinks.errors_new
      → RunsGenerated means task.two_way task.limit task.count file sinks (objects seen before stayed left)
      (generated_outcome status history base ends sources faults sessions readers)
  runs_generated history base ends sources faults sessions readers before stayed left same none_gone ends_are no_source
      no_faults no_session no_reader befores stays leaves status_is lines =
      subst₂ (λ (all : Objects) (outcome : Outcome S K). RunsGenerated means task.two_way task.limit task.count file sinks all outcome)
      (objects_are seen circle.members before run.circle.members stayed run.circle.left left befores stays leaves)
      (nothing_asked status run.history.items history base (end_in ∷ []) ends sources faults sessions readers same none_gone
      ends_are no_source no_faults no_session no_reader)
      (generated_runs status_is lines)
