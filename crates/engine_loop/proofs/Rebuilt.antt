-- An engine that is rebuilt over the entries that it had answered, and one that is fed a front.
use Rattle.std.proofs.Common.{◌≡◌, ℕ, ◌+◌, ◌<◌, ◌≤◌, ◌^◌, true, false, List, [], ◌++◌, length, take}
use Rattle.std.proofs.Common.{length-append, refl, sym, ap, ap₂, subst, ◌∙◌, arith}
use Rattle.std.proofs.Common.{Result, Ok, Err}
use Rattle.std.specs.Prelude.{OnOk}
use Rattle.std.proofs.lemmas.List.{append-nil, length-take, take_all}
use Rattle.engine_feed.specs.declared.event_lists.EventLists.{EventLists}
use Rattle.entry_steps.proofs.Feeding.{tells_still}
use Rattle.entry_steps.specs.Evaluator.{EvaluatorValue, IsFedOver, StandsAfter, StandsInFor, Finds}
use Rattle.entry_steps.specs.Evaluator.{OnlyFeeds, queries_of}
use Rattle.entry_steps.specs.Laws.{EntriesStandIn}
use Rattle.entry_steps.specs.Steps.{OptionsValue, AreEvaluable}
use Rattle.query_file.specs.Compiled.{CompiledValue}
use Rattle.rpq_base.specs.declared.data.Entry.{Entry}
use Rattle.engine_loop.specs.Loop.{HasAnswered, IsRunnable, answered}
use Rattle.engine_loop.specs.Sources.{IsAsFar, Repeats, StaysAs}

-- ---- a source that gave the same

module _ {S H : Type 0} (home : S → H) (given kept front : S → List Entry)
    (feeds : S → EvaluatorValue → Type 0) where
  -- it is as it is
  pub stays : (source : S) → StaysAs home given kept front feeds source source
  stays source = record {
    has = record { same_home = refl; same_given = refl; same_kept = refl; same_front = refl };
    still_feeds = λ evaluator fed. fed;
  }

  -- it stayed, and then again
  pub stays_then : (old mid new : S) → StaysAs home given kept front feeds old mid →
      StaysAs home given kept front feeds mid new → StaysAs home given kept front feeds old new
  stays_then old mid new first second = record {
    has = record {
      same_home = second.has.same_home ∙ first.has.same_home;
      same_given = second.has.same_given ∙ first.has.same_given;
      same_kept = second.has.same_kept ∙ first.has.same_kept;
      same_front = second.has.same_front ∙ first.has.same_front;
    };
    still_feeds = λ evaluator fed.
        second.still_feeds evaluator (first.still_feeds evaluator fed);
  }

-- what follows some first entries isn't more than there is
pub repeats_within : (kept : List Entry) (from : ℕ) (entries : List Entry) → from < length kept →
    Repeats kept from entries → from + length entries ≤ length kept
repeats_within kept from entries behind repeats = omega (
  arith,
  ap length repeats.follow,
  length-append (take from kept) entries,
  length-take from kept,
  length-take (from + length entries) kept,
  behind,
)

-- ---- the rebuild

-- the engine stood for the first of what is kept, and was fed the next of it
module _ (kept : List Entry) (old new : EvaluatorValue) (entries : List Entry)
    (found : EventLists) (was : IsFedOver old (answered old kept))
    (behind : old.position < length kept) (repeats : Repeats kept old.position entries)
    (finds : Finds (answered old kept) new entries found) where
  further : new.position ≡ old.position + length entries
  further = omega (
    arith,
    finds.fed.counted,
    was.counted,
    length-append (answered old kept) entries,
  )

  -- the engine got on, and not beyond what is kept
  pub gets_on : (old.position < new.position) × (new.position ≤ length kept)
  gets_on = (
    omega (arith, further, repeats.some),
    omega (arith, further, repeats_within kept old.position entries behind repeats),
  )

  -- and stands for what it was fed then
  pub stands_further : IsFedOver new (answered new kept)
  stands_further = subst (IsFedOver new)
      (sym repeats.follow ∙ ap (λ (n : ℕ). take n kept) (sym further)) finds.fed

-- an engine that was fed as many entries as are kept stands for all of them
pub fed_all : (kept : List Entry) (evaluator : EvaluatorValue) →
    length kept ≤ evaluator.position → IsFedOver evaluator (answered evaluator kept) →
    IsFedOver evaluator kept
fed_all kept evaluator all fed =
    subst (IsFedOver evaluator) (take_all evaluator.position kept all) fed

-- what the engine alone was fed changes nothing of it beside
pub feeds_only_then : (old mid new : EvaluatorValue) → OnlyFeeds old mid → OnlyFeeds mid new →
    OnlyFeeds old new
feeds_only_then old mid new first second = record {
  setup = record {
    queries = second.setup.queries ∙ first.setup.queries;
    options = second.setup.options ∙ first.setup.options;
    workers = second.setup.workers ∙ first.setup.workers;
  };
  marks = second.marks ∙ first.marks;
  joins = second.joins ∙ first.joins;
}

-- ---- a front

-- an evaluator with which a run can be is one while its engine alone is fed
module _ (old new : EvaluatorValue) (keeps : OnlyFeeds old new) (runs : IsRunnable old) where
  pub evaluable_still : AreEvaluable (queries_of new)
  evaluable_still = subst (λ (compiled : List CompiledValue). AreEvaluable
      (Rattle.std.proofs.Common.map (λ (each : CompiledValue). each.def) compiled))
      (sym keeps.setup.queries) runs.can_run.evaluable

  paths_still : new.options.paths ≡ true → old.options.paths ≡ true
  paths_still told = sym (ap (λ (o : OptionsValue). o.paths) keeps.setup.options) ∙ told

  pub forwards_still : new.options.paths ≡ true → new.options.two_way ≡ false
  forwards_still told =
      ap (λ (o : OptionsValue). o.two_way) keeps.setup.options
      ∙ runs.forwards (paths_still told)

  pub one_still : (entries : List Entry) →
      (old.options.paths ≡ true → length entries ≤ 1) → new.options.paths ≡ true →
      length entries ≤ 1
  one_still entries one told = one (paths_still told)

-- what is kept stands alone where there is no front behind
pub front_gone : (kept front : List Entry) → front ≡ [] → kept ++ front ≡ kept
front_gone kept front none = ap (λ (more : List Entry). kept ++ more) none ∙ append-nil kept

-- an engine that was rebuilt over what is kept has answered all that it had
module _ {S H : Type 0} (home : S → H) (given kept front : S → List Entry)
    (feeds : S → EvaluatorValue → Type 0) (mid new : S) (old final : EvaluatorValue)
    (history : List Entry) (stays : StaysAs home given kept front feeds mid new)
    (keeps : OnlyFeeds old final) (gave : given mid ≡ history)
    (may : (other : EvaluatorValue) → IsAsFar old other → feeds mid other)
    (was : StandsAfter old history) (stand_in : EntriesStandIn)
    (alike : StandsInFor old (kept mid ++ front mid) history) where
  same_given : given new ≡ history
  same_given = stays.has.same_given ∙ gave

  pub answered_then : IsFedOver final history → HasAnswered given kept front feeds new final
  answered_then fed = record {
    is_fed = stays.still_feeds final (may final (record {
      setup = keeps.setup;
      place = fed.counted ∙ sym was.fed.counted;
    }));
    stands = subst (StandsAfter final) (sym same_given)
        (record { fed = fed; tells = tells_still old final history keeps was.tells });
    stands_in = subst (λ (all : List Entry). StandsInFor final all (given new))
        (sym (ap₂ (λ (first more : List Entry). first ++ more) stays.has.same_kept
        stays.has.same_front))
        (subst (StandsInFor final (kept mid ++ front mid)) (sym same_given)
        (stand_in.by_setup old final (kept mid ++ front mid) history keeps.setup alike));
  }

-- what is so if all went well is so of what follows from it
pub on_ok_then : {T E P Q : Type 0} (result : Result T E) → (P → Q) → OnOk result P →
    OnOk result Q
on_ok_then (Ok value) gives p = gives p
on_ok_then (Err fault) gives p = tt
