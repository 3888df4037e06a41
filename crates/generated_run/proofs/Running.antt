-- A run from its start to its end.
use Rattle.std.proofs.Common.{◌≡◌, ℕ, ◌≤◌, min, Bool, List, [], ◌++◌, length, map}
use Rattle.std.proofs.Common.{sym, ap, subst, ◌∙◌, arith, Option, Some, None, Result, Ok, Err}
use Rattle.std.specs.Prelude.{⊤, OnOk, OnErr, IfOk, IsSome}
use Rattle.std.specs.Result.{result_ok}
use Rattle.std.specs.List.{AllZip}
use Rattle.std.specs.Global.{Vec}
use Rattle.answer_rows.specs.Answers.{Answer}
use Rattle.answer_view.specs.View.{ViewValue, AreRowsOf}
use Rattle.engine_loop.specs.Loop.{TakesMore}
use Rattle.entry_steps.proofs.StepLists.{steps_have_events}
use Rattle.entry_steps.specs.Evaluator.{EvaluatorValue, queries_of as queries_in}
use Rattle.entry_steps.specs.Steps.{AreSteps, AreStepsFrom, events_of}
use Rattle.history_model.specs.declared.line.Why.{Why}
use Rattle.rpq_base.specs.declared.data.Entry.{Entry}
use Rattle.rpq_model.specs.Query.{Query, path_query}
use Rattle.standing.specs.Circles.{Parts, as_seen}
use Rattle.standing.specs.Objects.{ObjectValue}
use Rattle.standing.specs.Stood.{HaveStood}
use Rattle.standing.proofs.HavingStood.{none_told, stood_weaker}
use Rattle.tuple_generator.specs.Generator.{generated_history}
use Rattle.two_way.specs.TwoWay.{walked, AreAllWalkedEvents}
use Rattle.generated_run.specs.Counts.{CountsSteps, AreNew}
use Rattle.generated_run.specs.Generates.{AreTold, Generates, queries_of, said_by}
use Rattle.generated_run.specs.Summary.{all_of, additions, retractions, summary_text, IsSummary}
use Rattle.generated_run.specs.Totals.{TotalsValue, no_totals, HasCounted}
use Rattle.generated_run.specs.declared.counts.EventCounts.{EventCounts}
use Rattle.generated_run.specs.declared.generation.Generation.{Generation}

-- the view has the rows of these queries' answers, which may take edges backwards or not
abbrev pub AreRowsFor : Bool → List Query → List Entry → ViewValue → Type 0
AreRowsFor two_way queries history view =
    AllZip (λ (query : Query) (own : List Answer).
    AreRowsOf (path_query query) (walked two_way history) own) queries view.rows

-- objects that weren't told of anything
untold : {O : Type 0} (seen : O → ObjectValue) (circle : Parts O) → circle.left ≡ [] →
    HaveStood (map seen circle.members) [] ⊤ (map seen circle.members) (map seen circle.left)
untold seen circle fresh =
    subst (λ (left : List ObjectValue). HaveStood (map seen circle.members) [] ⊤
    (map seen circle.members) left) (sym (ap (map seen) fresh))
    (none_told (map seen circle.members) ⊤)

-- of no entry nothing is told
pub told_none : {O : Type 0} (seen : O → ObjectValue) (two_way : Bool) (queries : List Query)
    (circle : Parts O) → circle.left ≡ [] → (whole : Type 0) →
    AreTold two_way queries [] (map seen circle.members) whole (as_seen seen circle)
told_none seen two_way queries circle fresh whole = record {
  events = [];
  are_events = tt;
  told = stood_weaker (map seen circle.members) [] ⊤ whole (map seen circle.members)
      (map seen circle.left) (λ _. tt) (untold seen circle fresh);
}

-- ---- from a start with no entries the loop went on to this history

module _ {O : Type 0} (seen : O → ObjectValue) (task : Generation) (evaluator : EvaluatorValue)
    (two_way : evaluator.options.two_way ≡ task.two_way)
    (queries : queries_in evaluator ≡ queries_of task) (before after : List Entry)
    (none : before ≡ []) (why : Option Why) (old new : EventCounts O) (fresh : AreNew old)
    (did : TakesMore (λ (own : List Query) entries steps reason first last.
    CountsSteps seen entries steps reason first last) evaluator before after why old new) where
  all_are : did.later ≡ after
  all_are = sym (did.all ∙ ap (λ (h : List Entry). h ++ did.later) none)

  steps_are : AreSteps evaluator.options (queries_in evaluator) after did.steps
  steps_are = subst (λ (later : List Entry). AreStepsFrom evaluator.options
      (queries_in evaluator) [] later did.steps) all_are
      (subst (λ (h : List Entry). AreStepsFrom evaluator.options (queries_in evaluator) h
      did.later did.steps) none did.are_steps)

  events_are : AreAllWalkedEvents task.two_way (queries_of task) after (events_of did.steps)
  events_are =
      subst (λ (taken : Bool). AreAllWalkedEvents taken (queries_of task) after
      (events_of did.steps)) two_way
      (subst (λ (qs : List Query). AreAllWalkedEvents evaluator.options.two_way qs after
      (events_of did.steps)) queries
      (steps_have_events after [] evaluator.options (queries_in evaluator) did.steps steps_are))

  -- the objects were told of its events
  pub told_so : (whole : Type 0) → (whole → why ≡ None) →
      AreTold task.two_way (queries_of task) after (map seen old.circle.members) whole
      (as_seen seen new.circle)
  told_so whole since = record {
    events = events_of did.steps;
    are_events = events_are;
    told = stood_weaker (map seen old.circle.members) (all_of (events_of did.steps))
        (why ≡ None) whole (map seen new.circle.members) (map seen new.circle.left) since
        (did.did.told (map seen old.circle.members) [] (untold seen old.circle fresh.fresh));
  }

  -- and the summary that the code writes is its own
  pub summary_so : why ≡ None → (view : ViewValue) (text : List ℕ) →
      AreRowsFor evaluator.options.two_way (queries_in evaluator) after view →
      text ≡ summary_text new.totals.entries new.totals.added new.totals.retracted
      (queries_in evaluator) (map (λ (own : List Answer). length own) view.rows)
      (said_by (as_seen seen new.circle)) →
      IsSummary task.two_way (queries_of task) after (said_by (as_seen seen new.circle)) text
  summary_so whole view text shows is =
      let said = said_by (as_seen seen new.circle) in
      let counts = map (λ (own : List Answer). length own) view.rows in
      let events = all_of (events_of did.steps) in
      let counted : HasCounted (length did.later) events no_totals new.totals =
      subst (λ (totals : TotalsValue). HasCounted (length did.later) events totals new.totals)
      fresh.none (did.did.counted whole) in
      let entries : new.totals.entries ≡ length after =
      omega (arith, counted.entries, ap (λ (h : List Entry). length h) all_are) in
      let added : new.totals.added ≡ additions events = omega (arith, counted.added) in
      let retracted : new.totals.retracted ≡ retractions events =
      omega (arith, counted.retracted) in
      let sees : AreRowsFor task.two_way (queries_of task) after view =
      subst (λ (taken : Bool). AreRowsFor taken (queries_of task) after view) two_way
      (subst (λ (qs : List Query). AreRowsFor evaluator.options.two_way qs after view) queries
      shows) in
      record {
        events = events_of did.steps;
        are_events = events_are;
        answers = view.rows;
        are_answers = sees;
        is = is
            ∙ (ap (λ (qs : List Query). summary_text new.totals.entries new.totals.added
            new.totals.retracted qs counts said) queries
            ∙ (ap (λ (n : ℕ). summary_text n new.totals.added new.totals.retracted
            (queries_of task) counts said) entries
            ∙ (ap (λ (n : ℕ). summary_text (length after) n new.totals.retracted
            (queries_of task) counts said) added
            ∙ ap (λ (n : ℕ). summary_text (length after) (additions events) n
            (queries_of task) counts said) retracted)));
      }

-- ---- what a run gives

module _ {O : Type 0} (seen : O → ObjectValue) (task : Generation) (circle last : Parts O)
    (history : Vec Entry) (made : ℕ) (is : history.items ≡ generated_history made)
    (within : made ≤ min task.count task.limit) where
  -- what was told of the entries that were made
  told_of : (whole weaker : Type 0) → (weaker → whole) →
      AreTold task.two_way (queries_of task) (generated_history made) (map seen circle.members)
      whole (as_seen seen last) →
      AreTold task.two_way (queries_of task) history.items (map seen circle.members) weaker
      (as_seen seen last)
  told_of whole weaker since was = record {
    events = was.events;
    are_events = subst (λ (h : List Entry). AreAllWalkedEvents task.two_way (queries_of task) h
        was.events) (sym is) was.are_events;
    told = stood_weaker (map seen circle.members) (all_of was.events) whole weaker
        (map seen last.members) (map seen last.left) since was.told;
  }

  -- with a summary, and without
  pub generates : (result : Result (Vec ℕ) Why) →
      OnOk result (made ≡ min task.count task.limit) →
      OnOk result (AreTold task.two_way (queries_of task) (generated_history made)
      (map seen circle.members) ⊤ (as_seen seen last)) →
      OnErr result (AreTold task.two_way (queries_of task) (generated_history made)
      (map seen circle.members) ⊥ (as_seen seen last)) →
      IfOk result (λ text. IsSummary task.two_way (queries_of task) (generated_history made)
      (said_by (as_seen seen last)) text.items) →
      Generates seen task circle
      (record { history = history; summary = result_ok result; circle = last })
  generates (Ok text) all told part summary = record {
    made = made;
    history = is;
    wanted = omega arith;
    within = omega arith;
    all = λ some. all;
    told = told_of ⊤ (IsSome (Some text)) (λ some. tt) told;
    summary = subst (λ (h : List Entry). IsSummary task.two_way (queries_of task) h
        (said_by (as_seen seen last)) text.items) (sym is) summary;
  }
  generates (Err fault) all told part summary = record {
    made = made;
    history = is;
    wanted = omega arith;
    within = omega arith;
    all = λ some. cc;
    told = told_of ⊥ _ (λ some. cc) part;
    summary = tt;
  }
