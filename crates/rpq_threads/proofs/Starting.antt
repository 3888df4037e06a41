-- What a run begins with.
use Rattle.std.proofs.Common.{◌≡◌, ℕ, suc, ◌+◌, ◌<◌, Bool, true, false, List, [], ◌∷◌, length}
use Rattle.std.proofs.Common.{refl, sym, ap, subst, ◌∙◌}
use Rattle.std.proofs.Common.{Option, Some, None, get_or, map, arith, ◌≤◌, ◌^◌, ⊎_elim}
use Rattle.std.specs.List.{All}
use Rattle.std.proofs.lemmas.List.Elements.{All-map, All-replicate, All-same}
use Rattle.containment_laws.specs.Accepted.{IsAccepted}
use Rattle.query_file.specs.Compiled.{CompiledValue}
use Rattle.rpq_base.specs.declared.data.Entry.{Entry}
use Rattle.rpq_model.specs.Query.{Query, path_query}
use Rattle.rpq_model.specs.Window.{clock}
use Rattle.two_way.specs.TwoWay.{walked}
use Rattle.std.specs.List.{AllZip}
use Rattle.answer_rows.specs.Answers.{Answer}
use Rattle.answer_view.specs.View.{ViewValue, IsViewOf, AreRowsOf}
use Rattle.entry_steps.specs.Evaluator.{EvaluatorValue, StandsAfter, IsViewAfter, compiled_of}
use Rattle.entry_steps.specs.Evaluator.{queries_of}
use Rattle.rpq_text.specs.Definitions.{definitions_of}
use Rattle.entry_steps.specs.Steps.{OptionsValue, CanRun, HaveSoundJoins}
use Rattle.history_model.specs.World.{Terms}
use Rattle.stream_history.specs.History.{HistoryValue}
use Rattle.stream_history.specs.Journal.{empty_view}
use Rattle.stream_history.specs.Laws.{FirstView}
use Rattle.ask_text.specs.declared.ask.Ask.{Ask}
use Rattle.ask_text.specs.Ranges.{IsInRange, IsSession}
use Rattle.live_asks.specs.declared.reader.AskReader.{AskReader}
use Rattle.stream_threads.specs.Started.{new_pass}
use Rattle.rpq_threads.specs.declared.task.Task.{Task}
use Rattle.rpq_threads.specs.Fed.{IsFed}
use Rattle.rpq_threads.specs.Runs.{IsTask}
use Rattle.rpq_words.specs.Modes.{IsCap}
use Rattle.rpq_threads.specs.Served.{AreAbout}
use Rattle.rpq_threads.proofs.Closing.{first_fed}
use Rattle.rpq_threads.proofs.Streaming.{all_from_map}
use Rattle.rpq_io.specs.Files.{IsNewSink}
use Rattle.rpq_io.specs.Reader.{ReaderState}
use Rattle.std.specs.Prelude.{IfSome}
use Rattle.stream_threads.specs.Inputs.{IsNewInput, sinks_for}
use Rattle.stream_threads.specs.declared.stream_input.StreamInput.{StreamInput}
use Rattle.stream_tuples.specs.History.{policy_of_sink, policy_of_sinks}
use Rattle.stream_tuples.specs.Progress.{IsNewReader}
use Rattle.stream_tuples.specs.declared.faults.FaultPolicy.TheVariants.{Report, Stop}

pub length-definitions : (queries : List CompiledValue) →
    length (definitions_of queries) ≡ length queries
length-definitions [] = refl
length-definitions (each ∷ queries) = ap suc (length-definitions queries)

-- where there are no entries none are walked
walked_none : (two_way : Bool) → ◌≡◌ {A = List Entry} (walked two_way []) []
walked_none false = refl
walked_none true = refl

-- the view over no entries is the one with which a history begins
pub first_shown : FirstView → (evaluator : EvaluatorValue) (queries : List Query)
    (view : ViewValue) → queries_of evaluator ≡ queries →
    IsViewAfter evaluator [] view → view ≡ empty_view (length queries)
first_shown law evaluator queries view same shows =
    let is : IsViewOf (queries_of evaluator) [] view = record {
      position = shows.says;
      clock = shows.clock ∙ ap clock (walked_none evaluator.options.two_way);
      rows = subst (λ (history : List Entry). AllZip (λ (query : Query) (rows : List Answer).
          AreRowsOf (path_query query) history rows) (queries_of evaluator) view.rows)
          (walked_none evaluator.options.two_way) shows.rows;
    } in
    (law queries view).0 (subst (λ (qs : List Query). IsViewOf qs [] view) same is)

-- the query's window moves
abbrev pub Moves : Query → Type 0
Moves query = 0 < query.window.slide

-- what a history is made with for a task
abbrev pub terms_of : {S A K : Type 0} → Task S A K → Terms
terms_of task = record {
  queries = definitions_of task.queries.items;
  streams = length task.readers.items;
  cap = task.limit;
}

-- a limit is some entries at least
pub at_least : (limit : ℕ) → IsCap limit → 1 ≤ limit
at_least limit is = ⊎_elim (λ within. omega (arith, within.0)) (λ same. omega (arith, same)) is

-- no limit is beyond 2^61
pub at_most : (limit : ℕ) → IsCap limit → limit ≤ 2 ^ 61
at_most limit is = ⊎_elim (λ within. omega (arith, within.1)) (λ same. omega (arith, same)) is

-- ---- the inputs of the streams

-- a faulty line is dealt with in one way in all streams
none_alike : {K : Type 0} (count : ℕ) →
    All (λ (sink : Option K). policy_of_sink sink ≡ Stop) (sinks_for count [])
none_alike {K} count =
    All-replicate (λ (sink : Option K). policy_of_sink sink ≡ Stop) count None refl

sinks_alike : {K : Type 0} (count : ℕ) (sinks : List K) →
    All (λ (sink : Option K). policy_of_sink sink ≡ policy_of_sinks sinks) (sinks_for count sinks)
sinks_alike count [] = none_alike count
sinks_alike {K} count (k ∷ ks) =
    All-map (λ (sink : Option K). policy_of_sink sink ≡ Report) (λ (sink : K). Some sink) (k ∷ ks)
    (λ place sink below. refl)

pub inputs_alike : {S K : Type 0} (inputs : List (StreamInput S K)) (count : ℕ)
    (sinks : List K) → map (λ (input : StreamInput S K). input.faults) inputs
    ≡ sinks_for count sinks →
    All (λ (input : StreamInput S K). policy_of_sink input.faults ≡ policy_of_sinks sinks) inputs
inputs_alike {S} {K} inputs count sinks are =
    let Alike = λ (sink : Option K). policy_of_sink sink ≡ policy_of_sinks sinks in
    all_from_map Alike (λ (input : StreamInput S K). input.faults) inputs
    (All-same Alike (map (λ (input : StreamInput S K). input.faults) inputs)
    (sinks_for count sinks) are (sinks_alike count sinks))

module _ {K : Type 0} (written : K → Option (List ℕ)) (failures : K → ℕ) where
  -- a sink is new, if there is one
  abbrev NewIfThere : Option K → Type 0
  NewIfThere sink = IfSome sink (IsNewSink written failures)

  none_new : (count : ℕ) → All NewIfThere (sinks_for count [])
  none_new count = All-replicate NewIfThere count None tt

  sinks_new : (count : ℕ) (sinks : List K) → All (IsNewSink written failures) sinks →
      All NewIfThere (sinks_for count sinks)
  sinks_new count [] new = none_new count
  sinks_new count (k ∷ ks) new =
      All-map NewIfThere (λ (sink : K). Some sink) (k ∷ ks) new

  pub inputs_new : {S : Type 0} (left : S → Option (List ℕ)) (faults : S → ℕ) (cap : ℕ)
      (inputs : List (StreamInput S K)) (readers : List (ReaderState S)) (sinks : List K) →
      map (λ (input : StreamInput S K). input.reader) inputs ≡ readers →
      map (λ (input : StreamInput S K). input.faults) inputs ≡ sinks_for (length readers) sinks →
      All (IsNewReader cap left faults) readers → All (IsNewSink written failures) sinks →
      All (IsNewInput cap left faults written failures) inputs
  inputs_new {S} left faults cap inputs readers sinks readers_are faults_are new_readers new_sinks =
      let IsNew = IsNewReader cap left faults in
      let one = all_from_map IsNew (λ (input : StreamInput S K). input.reader) inputs
      (All-same IsNew (map (λ (input : StreamInput S K). input.reader) inputs) readers readers_are
      new_readers) in
      let other = all_from_map NewIfThere (λ (input : StreamInput S K). input.faults) inputs
      (All-same NewIfThere (map (λ (input : StreamInput S K). input.faults) inputs)
      (sinks_for (length readers) sinks) faults_are (sinks_new (length readers) sinks new_sinks)) in
      λ place input below. (one place input below, other place input below)

-- ---- the engine and the sessions

module _ {S A K : Type 0} (left : S → Option (List ℕ)) (faults : S → ℕ)
    (asks_left : A → Option (List ℕ)) (asks_faults : A → ℕ) (written : K → Option (List ℕ))
    (failures : K → ℕ) (task : Task S A K)
    (given : IsTask left faults asks_left asks_faults written failures task)
    (history : HistoryValue)
    (terms : history.terms ≡ terms_of task) where
  same_queries : history.terms.queries ≡ definitions_of task.queries.items
  same_queries = ap (λ (t : Terms). t.queries) terms

  -- the history's queries can be evaluated, and the joins are over them
  begun_can_run : All Moves (definitions_of task.queries.items) →
      CanRun task.options history.terms.queries
  begun_can_run move =
      let queries = definitions_of task.queries.items in
      let many : length task.queries.items ≡ length history.terms.queries =
      sym (ap length same_queries ∙ length-definitions task.queries.items) in
      record {
        evaluable = record {
          accepted = All-same IsAccepted history.terms.queries queries same_queries
              (All-map IsAccepted (λ (each : CompiledValue). each.def) task.queries.items
              given.understood.accepted);
          move = All-same Moves history.terms.queries queries same_queries move;
        };
        sound = subst (λ (n : ℕ). HaveSoundJoins n task.options) many given.sound;
      }

  -- the engine begins at the first position
  pub begun_fed : (evaluator : EvaluatorValue) →
      compiled_of evaluator ≡ task.queries.items →
      evaluator.options ≡ task.options →
      history.readers ≡ length task.sessions.items + length task.ask_readers.items →
      All Moves (definitions_of task.queries.items) → StandsAfter evaluator [] →
      IsFed history evaluator (new_pass history 0)
  begun_fed evaluator queries options readers move stands =
      let two_way = ap (λ (o : OptionsValue). o.two_way) options in
      let paths = ap (λ (o : OptionsValue). o.paths) options in
      first_fed history evaluator (ap definitions_of queries ∙ sym same_queries)
      (subst (λ (o : OptionsValue). CanRun o history.terms.queries) (sym options)
      (begun_can_run move))
      (λ is. let none = given.unasked (sym two_way ∙ is) in
      omega (
        arith,
        readers,
        ap (λ (sessions : List (List Ask)). length sessions) none.0,
        ap (λ (asking : List (AskReader A K)). length asking) none.1,
      ))
      (λ told. two_way ∙ given.forwards (sym paths ∙ told))
      (omega (arith, ap (λ (t : Terms). t.cap) terms, at_most task.limit given.limit)) stands

  -- what is asked is about the queries of the history
  pub begun_asks : AreAbout history task.sessions.items
  begun_asks k asks below =
      let many : length task.queries.items ≡ length history.terms.queries =
      sym (ap length same_queries ∙ length-definitions task.queries.items) in
      let own : List Ask = get_or task.sessions.items k asks in
      let is : IsSession (length task.queries.items) own = given.sessions k asks below in
      subst (λ (n : ℕ). All (IsInRange n) own) many is.ranges
