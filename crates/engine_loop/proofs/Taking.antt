-- What a sink took, front after front.
use Rattle.std.proofs.Common.{◌≡◌, ℕ, ◌+◌, ◌<◌, ◌≤◌, ◌^◌, true, false, List, [], ◌∷◌, ◌++◌, length, take}
use Rattle.std.proofs.Common.{map, Option, Some, None, Result, Ok, Err, length-append, append_assoc}
use Rattle.std.proofs.Common.{refl, sym, ap, ap₂, subst, ◌∙◌, arith}
use Rattle.std.specs.List.{All}
use Rattle.std.specs.Result.{result_err, IsErrAnd}
use Rattle.std.proofs.lemmas.List.{append-nil, take_at}
use Rattle.std.proofs.lemmas.List.Elements.{All-nil, All-cons, All-head, All-tail}
use Rattle.entry_steps.proofs.StepLists.{steps_as_many}
use Rattle.entry_steps.specs.Evaluator.{EvaluatorValue, StandsAfter, KeepsSetup, Brings, Tells}
use Rattle.entry_steps.specs.Evaluator.{StandsInFor, compiled_of, queries_of, steps_told}
use Rattle.entry_steps.specs.Laws.{EntriesStandIn, EveryEntryHasAStep}
use Rattle.entry_steps.specs.Steps.{OptionsValue, StepValue, CanRun, AreStepsFrom, events_of}
use Rattle.entry_steps.specs.declared.unnamed_steps.UnnamedSteps.{UnnamedSteps}
use Rattle.history_model.specs.declared.line.Why.{Why}
use Rattle.history_model.specs.declared.line.Why.TheVariants.{Memory}
use Rattle.query_file.specs.Compiled.{CompiledValue}
use Rattle.rpq_base.specs.declared.data.Entry.{Entry}
use Rattle.rpq_base.specs.declared.data.Event.{Event}
use Rattle.rpq_model.specs.Query.{Query}
use Rattle.engine_loop.specs.Loop.{IsRunnable, IsAlong, IsBehind, TakesMore, answered}
use Rattle.engine_loop.specs.Sinks.{GoesOn}
use Rattle.engine_loop.specs.Sources.{ComesNext, GetsOn}
use Rattle.engine_loop.proofs.MoreSteps.{steps_append, have_steps}

-- ---- evaluators of one setup

-- what is said by an evaluator's options and queries is said by those of one with its setup
pub by_setup : (P : OptionsValue → List Query → Type 0) (old new : EvaluatorValue) →
    KeepsSetup old new → P old.options (queries_of old) → P new.options (queries_of new)
by_setup P old new keeps was =
    subst (λ (options : OptionsValue). P options (queries_of new)) (sym keeps.options)
    (subst (λ (compiled : List CompiledValue). P old.options
    (map (λ (each : CompiledValue). each.def) compiled)) (sym keeps.queries) was)

-- and the other way round
pub setup_back : (old new : EvaluatorValue) → KeepsSetup old new → KeepsSetup new old
setup_back old new keeps = record {
  queries = sym keeps.queries;
  options = sym keeps.options;
  workers = sym keeps.workers;
}

pub setup_then : (old mid new : EvaluatorValue) → KeepsSetup old mid → KeepsSetup mid new →
    KeepsSetup old new
setup_then old mid new first second = record {
  queries = second.queries ∙ first.queries;
  options = second.options ∙ first.options;
  workers = second.workers ∙ first.workers;
}

pub runs_still : (old new : EvaluatorValue) → KeepsSetup old new → IsRunnable old →
    IsRunnable new
runs_still old new keeps runs = record {
  can_run = by_setup (λ options queries. CanRun options queries) old new keeps runs.can_run;
  forwards = by_setup (λ options queries.
      options.paths ≡ true → options.two_way ≡ false) old new keeps runs.forwards;
}

-- ---- the steps of a front, as they are handed to the sink

-- what holds of the events of each step
each_step : (P : List Event → Type 0) (steps : List StepValue) → All P (events_of steps) →
    All (λ (step : StepValue). P step.events) steps
each_step P [] all = All-nil (λ (step : StepValue). P step.events)
each_step P (step ∷ steps) all =
    All-cons (λ (each : StepValue). P each.events) step steps
    (All-head P step.events (events_of steps) all)
    (each_step P steps (All-tail P step.events (events_of steps) all))

module _ (before entries : List Entry) (evaluator : EvaluatorValue) (steps : List StepValue)
    (brings : Brings before evaluator entries steps) (compiled : List CompiledValue)
    (same : compiled ≡ compiled_of evaluator) where
  pub numbers_told : All (λ (step : StepValue). All (λ (event : Event).
      event.query < length compiled) step.events) steps
  numbers_told = each_step (λ (own : List Event). All (λ (event : Event).
      event.query < length compiled) own) steps
      (subst (λ (each : List CompiledValue). All (λ (own : List Event). All (λ (event : Event).
      event.query < length each) own) (events_of steps)) (sym same) brings.numbers)

  pub many_told : length steps ≡ length entries
  many_told = steps_as_many entries before evaluator.options (queries_of evaluator) steps
      brings.are_steps

-- ---- what a sink takes

module _ {K : Type 0} (taken : K → ℕ)
    (takes : List Query → List Entry → List StepValue → Option Why → K → K → Type 0)
    (law : GoesOn taken takes) where
  -- nothing was taken, and nothing was to be
  pub takes_none : (evaluator : EvaluatorValue) (history : List Entry) (sink : K) →
      TakesMore takes evaluator history history None sink sink
  takes_none evaluator history sink = record {
    later = [];
    steps = [];
    all = sym (append-nil history);
    are_steps = tt;
    did = law.none (queries_of evaluator) sink;
  }

  -- memory ran out before anything was taken of these steps
  none_of : (queries : List Query) (entries : List Entry) (steps : List StepValue) (sink : K) →
      takes queries entries steps (Some Memory) sink sink
  none_of queries entries steps sink =
      law.longer queries [] entries [] steps Memory sink sink refl
      (law.stopped queries [] [] sink sink (law.none queries sink))

  -- memory ran out before anything was taken of what came
  pub takes_none_of : EveryEntryHasAStep → (evaluator : EvaluatorValue) → IsRunnable evaluator →
      (before later after : List Entry) → after ≡ before ++ later → (sink : K) →
      TakesMore takes evaluator before after (Some Memory) sink sink
  takes_none_of have evaluator runs before later after all sink =
      let found = have_steps have later evaluator.options (queries_of evaluator) runs.can_run
      before in
      record {
        later = later;
        steps = found.0;
        all = all;
        are_steps = found.1;
        did = none_of (queries_of evaluator) later found.0 sink;
      }

  -- memory ran out before anything was taken of what is told
  pub takes_none_told : (before entries : List Entry) (evaluator : EvaluatorValue)
      (told : UnnamedSteps) →
      Tells before evaluator entries told → (sink : K) →
      TakesMore takes evaluator before (before ++ entries) (Some Memory) sink sink
  takes_none_told before entries evaluator told tells sink =
      let steps = steps_told evaluator told in
      record {
        later = entries;
        steps = steps;
        all = refl;
        are_steps = tells.brings.are_steps;
        did = none_of (queries_of evaluator) entries steps sink;
      }

  -- the steps that are told were taken, all of them or a part
  pub takes_told : (before entries : List Entry) (evaluator : EvaluatorValue)
      (steps : List StepValue) → Brings before evaluator entries steps →
      (compiled : List CompiledValue) → compiled ≡ compiled_of evaluator → (why : Option Why)
      (old new : K) →
      takes (map (λ (each : CompiledValue). each.def) compiled) entries steps why old new →
      TakesMore takes evaluator before (before ++ entries) why old new
  takes_told before entries evaluator steps brings compiled same why old new did = record {
    later = entries;
    steps = steps;
    all = refl;
    are_steps = brings.are_steps;
    did = subst (λ (each : List CompiledValue). takes
        (map (λ (one : CompiledValue). one.def) each) entries steps why old new) same did;
  }

  -- so many were taken
  pub takes_many : (evaluator : EvaluatorValue) (before after : List Entry) (old new : K) →
      TakesMore takes evaluator before after None old new → taken old ≡ length before →
      taken new ≡ length after
  takes_many evaluator before after old new did many = omega (
    arith,
    law.counted (queries_of evaluator) did.later did.steps old new did.did,
    many,
    ap length did.all,
    length-append before did.later,
  )

  -- memory ran out behind the last step
  pub takes_stopped : (evaluator : EvaluatorValue) (before after : List Entry) (old new : K) →
      TakesMore takes evaluator before after None old new →
      TakesMore takes evaluator before after (Some Memory) old new
  takes_stopped evaluator before after old new did = record {
    later = did.later;
    steps = did.steps;
    all = did.all;
    are_steps = did.are_steps;
    did = law.stopped (queries_of evaluator) did.later did.steps old new did.did;
  }

  -- by an evaluator of the same setup
  pub takes_by : (old new : EvaluatorValue) → KeepsSetup old new → (before after : List Entry)
      (why : Option Why) (first last : K) → TakesMore takes new before after why first last →
      TakesMore takes old before after why first last
  takes_by old new keeps before after why first last did = record {
    later = did.later;
    steps = did.steps;
    all = did.all;
    are_steps = by_setup (λ options queries.
        AreStepsFrom options queries before did.later did.steps) new old
        (setup_back old new keeps) did.are_steps;
    did = by_setup (λ options queries.
        takes queries did.later did.steps why first last) new old (setup_back old new keeps)
        did.did;
  }

  -- some entries were taken, and then those behind them, all or a part
  pub takes_then : (evaluator : EvaluatorValue) (first between last : List Entry)
      (why : Option Why) (old mid new : K) →
      TakesMore takes evaluator first between None old mid →
      TakesMore takes evaluator between last why mid new →
      TakesMore takes evaluator first last why old new
  takes_then evaluator first between last why old mid new did then =
      let queries = queries_of evaluator in
      let many = steps_as_many did.later first evaluator.options queries did.steps
      did.are_steps in
      record {
        later = did.later ++ then.later;
        steps = did.steps ++ then.steps;
        all = then.all ∙ (ap (λ (h : List Entry). h ++ then.later) did.all
            ∙ append_assoc first did.later then.later);
        are_steps = steps_append did.later did.steps evaluator.options queries first then.later
            then.steps did.are_steps
            (subst (λ (h : List Entry). AreStepsFrom evaluator.options queries h then.later
            then.steps) did.all then.are_steps);
        did = law.more queries did.later then.later did.steps then.steps why old mid new many
            did.did then.did;
      }

  -- and so by an evaluator of the same setup
  pub takes_on : (first mid : EvaluatorValue) → KeepsSetup first mid →
      (start between last : List Entry) (why : Option Why) (old now new : K) →
      TakesMore takes first start between None old now →
      TakesMore takes mid between last why now new → TakesMore takes first start last why old new
  takes_on first mid keeps start between last why old now new did then =
      takes_then first start between last why old now new did
      (takes_by first mid keeps between last why now new then)

-- ---- the exit of a `?`

-- what is so of a fault is so of the answer that hands it on
pub handed_fault : {T E : Type 0} (result : Result T E) (fault : E) (P : Option E → Type 0) →
    IsErrAnd result (λ handed. handed ≡ fault) → P (Some fault) → P (result_err result)
handed_fault (Ok x) fault P hands p = absurd hands
handed_fault {E = E} (Err other) fault P hands p =
    subst (λ (each : E). P (Some each)) (sym hands) p

-- ---- a front that came next

-- of what was given with the front, the evaluator answered what was given before
pub answered_before : (evaluator : EvaluatorValue) (before after front : List Entry) →
    after ≡ before ++ front → evaluator.position ≡ length before →
    answered evaluator after ≡ before
answered_before evaluator before after front all place =
    ap (take evaluator.position) all ∙ take_at before front evaluator.position (sym place)

module _ {S K : Type 0} (given kept front : S → List Entry)
    (feeds : S → EvaluatorValue → Type 0) (taken : K → ℕ) (old new : S)
    (evaluator : EvaluatorValue) (sink : K)
    (along : IsAlong given kept front feeds taken old evaluator sink)
    (keeps : kept new ≡ kept old ++ front old)
    (comes : ComesNext evaluator (given old) (given new) (front new)) where
  pub same_answered : answered evaluator (given new) ≡ given old
  same_answered = answered_before evaluator (given old) (given new) (front new) comes.all
      along.stands.fed.counted

  -- the evaluator and the sink are behind by the front
  pub is_behind : feeds new evaluator →
      IsBehind given kept front feeds taken new evaluator sink
  is_behind fed = record {
    is_fed = fed;
    runs = along.runs;
    stands = subst (StandsAfter evaluator) (sym same_answered) along.stands;
    stands_in = subst (λ (all : List Entry). StandsInFor evaluator all
        (answered evaluator (given new))) (sym keeps)
        (subst (λ (before : List Entry). StandsInFor evaluator (kept old ++ front old) before)
        (sym same_answered) along.stands_in);
    comes = subst (λ (before : List Entry). ComesNext evaluator before (given new) (front new))
        (sym same_answered) comes;
    as_many = along.as_many ∙ sym along.stands.fed.counted;
  }

  pub goes_further : length (given old) < length (given new)
  goes_further = omega (
    arith,
    ap length comes.all,
    length-append (given old) (front new),
    comes.some,
  )

-- nothing came, and the evaluator and the sink are along still
pub along_still : {S K : Type 0} (given kept front : S → List Entry)
    (feeds : S → EvaluatorValue → Type 0) (taken : K → ℕ) (old new : S)
    (evaluator : EvaluatorValue) (sink : K) →
    IsAlong given kept front feeds taken old evaluator sink → feeds new evaluator →
    kept new ≡ kept old ++ front old → given new ≡ given old → front new ≡ [] →
    IsAlong given kept front feeds taken new evaluator sink
along_still given kept front feeds taken old new evaluator sink along fed keeps same none = record {
  is_fed = fed;
  runs = along.runs;
  stands = subst (StandsAfter evaluator) (sym same) along.stands;
  stands_in = subst (λ (all : List Entry). StandsInFor evaluator all (given new))
      (sym (ap (λ (more : List Entry). kept new ++ more) none
      ∙ (append-nil (kept new) ∙ keeps)))
      (subst (StandsInFor evaluator (kept old ++ front old)) (sym same) along.stands_in);
  as_many = along.as_many ∙ ap length (sym same);
}

-- ---- a front that is answered

module _ {S K : Type 0} (given kept front : S → List Entry)
    (feeds : S → EvaluatorValue → Type 0) (taken : K → ℕ)
    (takes : List Query → List Entry → List StepValue → Option Why → K → K → Type 0)
    (law : GoesOn taken takes) (source : S) (old : EvaluatorValue) (sink : K)
    (was : IsBehind given kept front feeds taken source old sink) where
  abbrev before : List Entry
  before = answered old (given source)

  -- the front isn't too long to be taken
  pub front_is_short : taken sink + length (front source) ≤ 2 ^ 61
  front_is_short = omega (
    arith,
    was.as_many,
    was.stands.fed.counted,
    ap length was.comes.all,
    length-append before (front source),
    was.comes.short,
  )

  -- memory ran out before anything was taken of it
  pub took_none : EveryEntryHasAStep →
      TakesMore takes old before (given source) (Some Memory) sink sink
  took_none have =
      takes_none_of taken takes law have old was.runs before (front source) (given source)
      was.comes.all sink

  -- the evaluator found the steps of its entries
  module _ (new : EvaluatorValue) (keeps : KeepsSetup old new) (entries : List Entry)
      (same : entries ≡ front source) where
    -- they were taken, all of them or a part
    pub took_front : (why : Option Why) (last : K) →
        TakesMore takes new before (before ++ entries) why sink last →
        TakesMore takes old before (given source) why sink last
    took_front why last did =
        takes_by taken takes law old new keeps before (given source) why sink last
        (subst (λ (all : List Entry). TakesMore takes new before all why sink last)
        (ap (λ (more : List Entry). before ++ more) same ∙ sym was.comes.all) did)

    -- the evaluator stands after all that was given
    module _ (told : UnnamedSteps) (tells : Tells before new entries told) where
      pub stands_all : StandsAfter new (given source)
      stands_all = subst (StandsAfter new)
          (ap (λ (more : List Entry). before ++ more) same ∙ sym was.comes.all)
          tells.brings.stands

      -- it got on
      pub got_on : GetsOn old new
      got_on = record {
        setup = keeps;
        further = omega (
          arith,
          stands_all.fed.counted,
          ap length was.comes.all,
          length-append before (front source),
          was.stands.fed.counted,
          was.comes.some,
        );
      }

  -- all of its steps were taken
  module _ (last : K) (did : TakesMore takes old before (given source) None sink last) where
    pub took_many : taken last ≡ length (given source)
    took_many = takes_many taken takes law old before (given source) sink last did
        (was.as_many ∙ was.stands.fed.counted)

    pub along_then : EntriesStandIn → (after : S) (final : EvaluatorValue) →
        KeepsSetup old final → StandsAfter final (given source) → given after ≡ given source →
        kept after ≡ kept source → front after ≡ front source → feeds after final →
        IsAlong given kept front feeds taken after final last
    along_then stand_in after final keeps stands same same_kept same_front fed = record {
      is_fed = fed;
      runs = runs_still old final keeps was.runs;
      stands = subst (StandsAfter final) (sym same) stands;
      stands_in = subst (λ (all : List Entry). StandsInFor final all (given after))
          (sym (ap₂ (λ (first more : List Entry). first ++ more) same_kept same_front))
          (subst (StandsInFor final (kept source ++ front source))
          (sym was.comes.all ∙ sym same)
          (stand_in.by_setup old final (kept source ++ front source) (before ++ front source)
          keeps (stand_in.with_more old (kept source) before (front source) was.stands_in)));
      as_many = took_many ∙ sym (ap (λ (h : List Entry). length h) same);
    }
