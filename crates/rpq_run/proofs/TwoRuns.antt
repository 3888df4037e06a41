-- A run that goes on from what an earlier one saved.
use Rattle.std.proofs.Common.{◌≡◌, ℕ, ◌+◌, Bool, false, List, [], ◌∷◌, ◌++◌, length, map, Option, Some}
use Rattle.std.proofs.Common.{refl, sym, ap, ap₂, subst, subst₂, ◌∙◌, append-nil}
use Rattle.std.specs.Prelude.{All, option_map, slice_get, unwrap_or}
use Rattle.std.proofs.lemmas.List.{map-append}
use Rattle.text_parts.specs.Lines.{text_of}
use Rattle.rpq_base.specs.declared.data.Entry.{Entry}
use Rattle.rpq_base.specs.declared.data.Tuple.{Tuple}
use Rattle.rpq_model.specs.Query.{Query}
use Rattle.tuple_text.specs.Parts.{LineByParts}
use Rattle.stream_tuples.specs.declared.ends.StreamEnd.{StreamEnd}
use Rattle.stream_tuples.specs.declared.ends.StreamEnd.TheVariants.{Whole}
use Rattle.stream_tuples.specs.declared.faults.FaultPolicy.{FaultPolicy}
use Rattle.stream_tuples.specs.History.{IsNumberOf, AreTuplesOfEnd, own_tuples}
use Rattle.stream_tuples.specs.Limits.{byte_limit_of}
use Rattle.stream_tuples.specs.StreamText.{tuples_with}
use Rattle.join_file.specs.Joins.{JoinValue}
use Rattle.query_file.specs.Laws.{OneOutcome}
use Rattle.saved_window.specs.Continues.{SavedContinues}
use Rattle.saved_window.specs.Saved.{saved, first_stream}
use Rattle.saved_window.specs.SavedText.{SavedTextIsRead}
use Rattle.saved_window.specs.Then.{left_of_both, faults_of_both}
use Rattle.entry_steps.specs.Steps.{OptionsValue, StepValue, AreSteps, AreStepsFrom}
use Rattle.rpq_text.specs.Text.{IsText, blocks_from}
use Rattle.rpq_words.specs.Views.{cap_of, from_of}
use Rattle.run_start.specs.Files.{HasQueries, stream_contents}
use Rattle.run_start.specs.Given.{policy_of}
use Rattle.run_start.specs.Texts.{tuples_within}
use Rattle.rpq_run.specs.Continued.{StreamRun, IsToldRun, GoesOn, StandsFor, WritesOn, Continues, no_paths, without_paths}
use Rattle.rpq_run.specs.Headline.{Told, Headline, AreJoined, behind_text, options_told}
use Rattle.rpq_run.specs.Outcome.{Meanings, ends_of}
use Rattle.rpq_run.specs.Sources.{stream_sources}
use Rattle.rpq_run.proofs.ContinuedFirst.{HasSaved, forwards_with, has_saved}
use Rattle.rpq_run.proofs.ContinuedHistories.{one_stream_alone, saved_from_stream}
use Rattle.rpq_run.proofs.ContinuedQueries.{file_moves, one_list_of_joins}
use Rattle.rpq_run.proofs.ContinuedReading.{IsReadBehind, read_behind}
use Rattle.rpq_run.proofs.ContinuedSettings.{from_is_resumed, one_told}
use Rattle.rpq_run.proofs.ContinuedSteps.{AreCut, steps_cut, none_to_leave_out, alike_itself, stands_for, stands_further}
use Rattle.rpq_run.proofs.ContinuedSteps.{stands_with, steps_there, blocks_cut, text_joined}
use Rattle.rpq_run.proofs.Done.{stream_at}
use Rattle.rpq_run.proofs.Headlines.{contents_are, one_query_list}
use Rattle.rpq_run.proofs.Statuses.{first_of_done, whole_end}

-- ---- what was written

options_are : (told : Told) (joins : List JoinValue) → told.two_way ≡ false → options_told told joins ≡ forwards_with told.paths joins
options_are told joins forwards =
    ap (λ (two_way : Bool). record { two_way = two_way; paths = told.paths; joins = joins }) forwards

-- the joins of the second run, and the steps of its history
record IsSecond (queries : List Query) (before new : List Entry) (told : Told) : Type 0 where
  joins : List JoinValue
  joined : AreJoined queries told.joins joins
  steps : List StepValue
  are_steps : AreSteps (forwards_with told.paths joins) queries (before ++ new) steps

writes_on : {S K : Type 0} (means : Meanings S K) (first second : StreamRun S K) (window : List ℕ) (before new : List Entry)
    (has : HasSaved means first window) (is : IsSecond has.queries before new second.told) →
    second.told.two_way ≡ false → StandsFor has.queries before first.outcome.history →
    means.written second.sinks.events_new ≡ Some (second.told.events ++ blocks_from has.queries 1 (before ++ new) is.steps) →
    WritesOn means first second has.queries before new
writes_on means first second window before new has is forwards stands written = record {
  joins = joins;
  joined = is.joined;
  text_before = blocks_from queries 1 before cut.front;
  is_before = (
    cut.front,
    subst (λ (options : OptionsValue). AreSteps options queries before cut.front)
        (sym (options_are second.told joins forwards)) cut.front_are,
    refl,
  );
  steps = cut.rest;
  written = written ∙ ap (λ (text : List ℕ). Some (second.told.events ++ text)) both_blocks;
  brought = brought;
  one_text = λ silent entries text also is_text.
      let rest_are : AreStepsFrom (no_paths joins) queries before new cut.rest =
      subst (λ (options : OptionsValue). AreStepsFrom options queries before new cut.rest)
      (ap (λ (paths : Bool). forwards_with paths joins) silent) cut.rest_are in
      text_joined (no_paths joins) queries entries text new cut.rest is_text
      (subst (λ (all : List StepValue). AreStepsFrom (no_paths joins) queries entries new all)
      (none_to_leave_out new before cut.rest joins queries rest_are) (brought entries also));
  first_text = has.text;
  first_written = has.written;
  first_is_text = λ silent same_joins.
      let are_joins : AreJoined queries first.told.joins joins =
      subst (λ (file : Option (List ℕ)). AreJoined queries file joins) same_joins is.joined in
      let one_joins : has.joins ≡ joins = one_list_of_joins queries first.told.joins has.joins joins has.joined are_joins in
      subst (λ (options : OptionsValue). IsText options queries history has.text)
      (ap₂ forwards_with silent one_joins) has.is_text;
}
  where
    history : List Entry
    history = first.outcome.history

    queries : List Query
    queries = has.queries

    joins : List JoinValue
    joins = is.joins

    options : OptionsValue
    options = forwards_with second.told.paths joins

    cut : AreCut options queries [] before new is.steps
    cut = steps_cut before [] new is.steps options queries is.are_steps

    brought : (entries : List Entry) → StandsFor queries history entries →
        AreStepsFrom (no_paths joins) queries entries new (map without_paths cut.rest)
    brought entries also =
        let all = stands_further queries before history entries stands also in
        subst (λ (all : List Entry). AreStepsFrom (no_paths joins) queries all new (map without_paths cut.rest)) (append-nil entries)
        (steps_there queries before entries all new [] cut.rest joins second.told.paths
        (subst (λ (all : List Entry). AreStepsFrom options queries all new cut.rest) (sym (append-nil before)) cut.rest_are))

    both_blocks : blocks_from queries 1 (before ++ new) is.steps
        ≡ blocks_from queries 1 before cut.front ++ blocks_from queries (length before + 1) new cut.rest
    both_blocks =
        ap (λ (all : List StepValue). blocks_from queries 1 (before ++ new) all) cut.joined
        ∙ blocks_cut options queries before new cut.front cut.rest cut.front_are

-- ---- what is read

-- all that the one stream of a run that is done gives
record IsOneStream {S K : Type 0} (means : Meanings S K) (run : StreamRun S K) (bytes : List ℕ) : Type 0 where
  forwards : run.told.two_way ≡ false
  stream : List ℕ
  one : run.told.streams ≡ stream ∷ []
  read : tuples_within run.told.policy run.told.limit (bytes ++ stream) ≡ tuples_with (own_tuples 1 run.outcome.history) Whole

is_one_stream : {S K : Type 0} (means : Meanings S K) (run : StreamRun S K) (bytes : List ℕ) → IsToldRun means run → run.outcome.status ≡ 0 →
    run.told.from ≡ Some bytes → IsOneStream means run bytes
is_one_stream means run bytes is done begins =
    let from : option_map run.holds (from_of run.given) ≡ Some (Some bytes) =
    is.told.from ∙ ap (λ (told : Option (List ℕ)). option_map (λ (text : List ℕ). Some text) told) begins in
    let resumed = from_is_resumed run.given run.holds bytes from in
    let named : map run.holds (resumed.stream ∷ []) ≡ map (λ (text : List ℕ). Some text) run.told.streams =
    sym (ap (λ (names : List (List ℕ)). map run.holds names) resumed.one) ∙ is.told.streams in
    let told = one_told run.holds resumed.stream run.told.streams named in
    let text = bytes ++ told.0 in
    let file : slice_get (stream_contents run.given run.holds) 0 ≡ Some (Some text) =
    ap (λ (files : List (Option (List ℕ))). slice_get files 0)
    (contents_are run.given run.holds run.told is.told.from is.told.streams
    ∙ ap₂ (λ (front : Option (List ℕ)) (texts : List (List ℕ)).
    map (λ (all : List ℕ). Some all) (behind_text (unwrap_or front []) texts)) begins told.1) in
    let runs = is.runs in
    let outcome = run.outcome in
    let at = stream_at (policy_of run.given) (left_of_both means.left) (faults_of_both means.faults) (cap_of run.given)
    (stream_contents run.given run.holds) (stream_sources outcome.from outcome.sources) outcome.history outcome.ends
    runs.history.each_stream 0 (Some text) file in
    let whole : at.end ≡ Whole = whole_end outcome.ends (ends_of outcome.readers) runs.failed 0 at.end
    (first_of_done outcome.ends (ends_of outcome.readers) runs.failed outcome.status runs.causes.status_is done)
    at.end_is in
    let tied = subst (λ (end : StreamEnd).
    AreTuplesOfEnd (policy_of run.given) (byte_limit_of (cap_of run.given)) text (left_of_both means.left at.source) (own_tuples 1 outcome.history) end) whole at.stream.tied in
    record {
      forwards = sym is.told.two_way ∙ resumed.forwards;
      stream = told.0;
      one = told.1;
      read = subst₂ (λ (policy : FaultPolicy) (cap : ℕ). tuples_within policy cap text ≡ tuples_with (own_tuples 1 outcome.history) Whole)
          is.told.policy is.told.limit tied.0;
    }

-- ---- both runs

-- the entry of the first stream with a tuple
abbrev first_entry : Tuple → Entry
first_entry tuple = record { stream = 1; tuple = tuple }

-- what the laws that the law of two runs rests on say
pub record Laws : Type 0 where
  pub one : OneOutcome
  pub continues : SavedContinues
  pub is_read : SavedTextIsRead
  pub by_parts : LineByParts

pub two_runs : {S K : Type 0} (means : Meanings S K) (first second : StreamRun S K) → Laws → IsToldRun means first → IsToldRun means second →
    Headline means second.told second.sinks second.objects second.outcome →
    GoesOn means first second → Continues means first second
two_runs means first second laws is_first is_second two goes = record {
  forwards = (has.forwards, read.forwards);
  queries = queries;
  accepted = has.has;
  stream = read.stream;
  one_stream = read.one;
  whole = behind.whole;
  before = before;
  before_is = refl;
  new = new;
  new_is = refl;
  history = history;
  itself = λ later. alike_itself queries (first.outcome.history ++ later);
  stands = λ entries also.
      let all = stands_further queries before first.outcome.history entries stands also in (
        all,
        subst (λ (entire : List Entry). StandsFor queries entire (entries ++ new)) (sym history)
            (stands_with queries before entries new all),
      );
  writes = writes_on means first second goes.window before new has is read.forwards stands
      (two.written ∙ ap₂ (λ (all : List Query) (entries : List Entry). Some (second.told.events ++ blocks_from all 1 entries two.steps))
      same history);
}
  where
    has : HasSaved means first goes.window
    has = has_saved means first goes.window laws.one laws.by_parts is_first goes.no_write goes.no_memory goes.saved_is

    queries : List Query
    queries = has.queries

    kept : List Tuple
    kept = saved queries first.outcome.history

    bytes : List ℕ
    bytes = text_of goes.notes ++ goes.window

    read : IsOneStream means second bytes
    read = is_one_stream means second bytes is_second goes.done goes.begins

    same : two.queries ≡ queries
    same =
        one_query_list false laws.one first.told.queries two.queries queries
        (subst (λ (file : List ℕ). HasQueries false file two.queries) goes.same_queries
        (subst (λ (two_way : Bool). HasQueries two_way second.told.queries two.queries) read.forwards two.accepted))
        has.has

    before : List Entry
    before = first_stream kept

    stands : StandsFor queries before first.outcome.history
    stands =
        stands_for queries first.outcome.history before
        (laws.continues queries (file_moves false first.told.queries queries has.has) first.outcome.history)

    behind : IsReadBehind second.told.policy (byte_limit_of second.told.limit) kept read.stream (own_tuples 1 second.outcome.history)
    behind =
        read_behind second.told.policy laws.is_read laws.by_parts (byte_limit_of second.told.limit) goes.notes kept read.stream (own_tuples 1 second.outcome.history) goes.are_notes
        (saved_from_stream first.outcome.history queries has.from_stream)
        (sym (ap (λ (text : List ℕ). tuples_within second.told.policy second.told.limit ((text_of goes.notes ++ text) ++ read.stream)) has.window_is) ∙ read.read)

    new : List Entry
    new = first_stream (tuples_within second.told.policy second.told.limit read.stream).tuples

    history : second.outcome.history ≡ before ++ new
    history =
        one_stream_alone second.outcome.history
        (subst (λ (texts : List (List ℕ)). All (λ (entry : Entry). IsNumberOf (length texts) entry.stream) second.outcome.history)
        read.one two.no_other)
        ∙ (ap first_stream behind.all_is
        ∙ map-append first_entry kept (tuples_within second.told.policy second.told.limit read.stream).tuples)

    is : IsSecond queries before new second.told
    is = record {
      joins = two.joins;
      joined = subst (λ (all : List Query). AreJoined all second.told.joins two.joins) same two.joined;
      steps = two.steps;
      are_steps = subst (λ (options : OptionsValue). AreSteps options queries (before ++ new) two.steps)
          (options_are second.told two.joins read.forwards)
          (subst (λ (entries : List Entry). AreSteps (options_told second.told two.joins) queries entries two.steps) history
          (subst (λ (all : List Query). AreSteps (options_told second.told two.joins) all second.outcome.history two.steps) same
          two.are_steps));
    }
