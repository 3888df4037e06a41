-- The engine's loop has ended.
use Rattle.std.proofs.Common.{◌≡◌, ℕ, ◌-◌, ◌<◌, ◌≤◌, ◌^◌, All, true, false, List, [], ◌∷◌, ◌++◌}
use Rattle.std.proofs.Common.{length, take, drop, Option, Some, None, Result, Ok, Err, refl, sym}
use Rattle.std.proofs.Common.{ap, subst, ◌∙◌, inl, ⊎_elim, arith}
use Rattle.std.specs.Prelude.{Contains, OnOk, OnErr, IfErr}
use Rattle.std.specs.Result.{result_err}
use Rattle.std.proofs.lemmas.List.{append-nil, take-append-drop, take_all}
use Rattle.std.specs.Global.{Vec}
use Rattle.std.proofs.lemmas.List.Elements.{Contains-push_cases, All-nil}
use Rattle.entry_steps.specs.Evaluator.{EvaluatorValue, StandsAfter, queries_of}
use Rattle.entry_steps.specs.Laws.{EveryEntryHasAStep}
use Rattle.entry_steps.specs.Steps.{OptionsValue, StepValue, CanRun, AreSteps, AreStepsFrom}
use Rattle.history_model.specs.Lines.{shut_line, calls, entries, published, AllEnded}
use Rattle.history_model.specs.Lines.{IsShut, IsShutFor}
use Rattle.history_model.specs.declared.line.Call.{Call}
use Rattle.history_model.specs.declared.line.CallAct.TheVariants.{Shut}
use Rattle.history_model.specs.declared.line.Line.{Line}
use Rattle.history_model.specs.World.{Terms}
use Rattle.history_model.specs.declared.line.Why.{Why}
use Rattle.history_model.specs.declared.line.Why.TheVariants.{Write}
use Rattle.rpq_base.proofs.Members.{none_in}
use Rattle.rpq_base.specs.Plain.{IsPlain}
use Rattle.rpq_base.specs.declared.data.Entry.{Entry}
use Rattle.rpq_io.specs.Counts.{CountsFault}
use Rattle.rpq_model.specs.Query.{Query}
use Rattle.stream_threads.proofs.Numbering.{Each, new_is}
use Rattle.stream_threads.proofs.Seen.{added_starts, starts_then}
use Rattle.stream_threads.specs.Started.{new_pass}
use Rattle.standing.specs.Circles.{CircleValue}
use Rattle.stream_history.proofs.Pushes.{calls_push, called}
use Rattle.stream_history.proofs.Turns.{first_entries}
use Rattle.stream_history.specs.History.{HistoryValue, IsFeedingPass, HasAdded}
use Rattle.turn_lock.specs.Lines.{StartsWith}
use Rattle.rpq_threads.specs.Blocks.{WritesBlocks}
use Rattle.rpq_threads.specs.Entries.{FeedsFrom, IsNoted}
use Rattle.rpq_threads.specs.Fed.{IsFed, HasFed}
use Rattle.rpq_threads.specs.Past.{IsPastOf, window_of}
use Rattle.rpq_threads.specs.Window.{IsLeftOf, ServesAs}
use Rattle.rpq_threads.specs.declared.past.Past.{Past}
use Rattle.rpq_threads.specs.declared.past.Past.TheVariants.{InHistory, Kept}
use Rattle.rpq_threads.proofs.AllWritten.{HaveWritten, wrote_of_longer, writes_text, told_objects}

-- ---- the start

-- a new pass of the engine, and an evaluator that answered nothing
pub first_fed : (history : HistoryValue) (evaluator : EvaluatorValue) →
    queries_of evaluator ≡ history.terms.queries →
    CanRun evaluator.options history.terms.queries →
    (evaluator.options.two_way ≡ true → history.readers ≡ 0) →
    (evaluator.options.paths ≡ true → evaluator.options.two_way ≡ false) →
    history.terms.cap ≤ 2 ^ 61 → StandsAfter evaluator [] →
    IsFed history evaluator (new_pass history 0)
first_fed history evaluator queries accepted unread forwards small stands = record {
  feeds = record {
    is = record { is = new_is history 0; number = refl };
    goes_on = λ shut. none_in (record { by = 0; act = Shut shut.0 }) shut.1;
  };
  none_seen = refl;
  none_added = refl;
  queries = queries;
  accepted = accepted;
  unread = unread;
  forwards = forwards;
  few = small;
  stands = stands;
}

-- nothing was given yet, and what comes may be
pub feeds_first : (history : HistoryValue) (evaluator : EvaluatorValue) (pass : Each) →
    IsFed history evaluator pass → FeedsFrom history pass 0 [] evaluator
feeds_first history evaluator pass was = record {
  feeds = was.feeds;
  queries = was.queries;
  unread = was.unread;
  few = was.few;
  place = omega (arith, was.stands.fed.counted);
  told = λ some.
      let same : published pass.mine ≡ evaluator.position =
      ap published was.none_added ∙ sym was.stands.fed.counted in
      record {
        within = omega (arith, same);
        near = omega (arith, same);
        goes_on = inl same;
      };
  plain = subst (λ (seen : List Line). All IsPlain (entries seen)) (sym was.none_seen)
      (All-nil IsPlain);
  rest_comes = record {
    there = omega arith;
    begins = (entries pass.seen, refl);
    plain = All-nil IsPlain;
    short = omega arith;
  };
}

-- and nothing is noted
pub noted_first : (history : HistoryValue) (evaluator : EvaluatorValue) (pass : Each)
    (shown known : ℕ) → IsFed history evaluator pass → shown ≡ 0 → known ≡ 0 →
    IsNoted history pass shown known
noted_first history evaluator pass shown known was shown_is known_is = record {
  is_published = λ some. ap published was.none_added ∙ sym shown_is;
  shown_there = omega (arith, shown_is);
  known_there = omega (arith, known_is);
}

-- ---- the end

-- a shut that is there is the new one
shut_said : (lines : List Line) (why other : Why) → (IsShut lines → ⊥) →
    IsShutFor (lines ++ shut_line why ∷ []) other → Some why ≡ Some other
shut_said lines why other going shut =
    let call : Call = record { by = 0; act = Shut other } in
    ⊎_elim (λ old. absurd (going (other, old)))
    (λ is. let same : Shut why ≡ Shut other = ap (λ (each : Call). each.act) is in
    let reason : why ≡ other = cc in ap (λ (w : Why). Some w) reason)
    (Contains-push_cases (calls lines) (record { by = 0; act = Shut why }) call
    (subst (λ (all : List Call). Contains all call) (calls_push lines (shut_line why)) shut))

-- what is left after a shut is so of any entries
left_at_shut : (terms : Terms) (history other : List Entry) (why : Why)
    (window : Option (Vec Entry)) → IsLeftOf terms history (Some why) window →
    IsLeftOf terms other (Some why) window
left_at_shut terms history other why None left = left
left_at_shut terms history other why (Some window) left = λ is. absurd cc

-- what a past leaves, which has all that was given where the run wasn't cut off
pub leaves : (terms : Terms) (past : Past) (first given all : List Entry) (why : Option Why) →
    IsPastOf terms past first given → (why ≡ None → (first ≡ []) × (given ≡ all)) →
    IsLeftOf terms all why (window_of past)
leaves terms InHistory first given all why was whole = was
leaves terms (Kept window) first given all why was whole = λ none.
    let own = window.entries.items in
    subst (ServesAs terms.queries all)
    (ap (λ (each : List Entry). own ++ each) (whole none).0 ∙ append-nil own)
    (subst (λ (h : List Entry). ServesAs terms.queries h (own ++ first)) (whole none).1 was.2)

module _ {K : Type 0} (written : K → Option (List ℕ)) (faults : K → ℕ) (options : OptionsValue)
    (history : HistoryValue) (before after : K) (first last : CircleValue)
    (fresh : first.left ≡ []) (window : Option (Vec Entry)) where
  -- all streams have ended, and the blocks of all entries were written
  pub fed_whole : (pass : Each) → IsFeedingPass history pass →
      AllEnded history.terms.streams pass.seen →
      (0 < history.readers → published pass.mine ≡ length (entries pass.seen)) →
      HaveWritten options history.terms.queries (entries pass.seen) None (written before)
      (written after) first last →
      CountsFault (None ≡ Some Write) (faults before) (faults after) →
      IsLeftOf history.terms (entries pass.seen) None window →
      HasFed written faults options history before after first last pass None window
  fed_whole pass feeds ended told wrote counted left = record {
    is = feeds.is.is;
    number = feeds.is.number;
    ended = λ _. ended;
    told = λ _ some. told some;
    shut = λ other shut. absurd (feeds.goes_on (other, shut));
    seen_shut = λ other is. absurd cc;
    left = left;
    text = writes_text written faults options history.terms.queries (entries pass.seen) wrote.steps
        wrote.are_steps None before after first last wrote.did counted;
    objects = told_objects options history.terms.queries (entries pass.seen) wrote.steps
        wrote.are_steps None (written before) (written after) first last wrote.did fresh;
  }

  -- the history was shut
  pub fed_shut : EveryEntryHasAStep → CanRun options history.terms.queries →
      (going pass : Each) (why : Why) → IsFeedingPass history going →
      HasAdded history going (shut_line why) pass → (given : List Entry) →
      StartsWith (entries going.seen) given →
      HaveWritten options history.terms.queries given (Some why) (written before)
      (written after) first last →
      CountsFault (Some why ≡ Some Write) (faults before) (faults after) →
      IsLeftOf history.terms (entries going.seen) (Some why) window →
      HasFed written faults options history before after first last pass (Some why) window
  fed_shut have can going pass why feeds added given starts wrote counted left =
      let all = starts_then (entries pass.seen) (entries going.seen) given
      (first_entries pass.seen going.seen
      (added_starts history going pass (shut_line why) added)) starts in
      let longer = wrote_of_longer have options history.terms.queries can given
      (entries pass.seen) all why (written before) (written after) first last wrote in
      record {
        is = added.is;
        number = added.number ∙ feeds.is.number;
        ended = λ is. absurd cc;
        told = λ is some. absurd cc;
        shut = λ other shut. shut_said going.mine why other feeds.goes_on
            (subst (λ (lines : List Line). IsShutFor lines other) added.mine shut);
        seen_shut = λ other is.
            let same : why ≡ other = cc in
            subst (λ (lines : List Line). IsShutFor lines other) (sym added.ends)
            (subst (λ (w : Why). IsShutFor (added.found ++ shut_line why ∷ []) w) same
            (called added.found (shut_line why)));
        left = left_at_shut history.terms (entries going.seen) (entries pass.seen) why window left;
        text = writes_text written faults options history.terms.queries (entries pass.seen)
            longer.steps longer.are_steps (Some why) before after first last longer.did counted;
        objects = told_objects options history.terms.queries (entries pass.seen) longer.steps
            longer.are_steps (Some why) (written before) (written after) first last longer.did
            fresh;
      }

-- ---- what the loop took since the start

-- the steps that were taken from the start on are those of a history
pub from_start : (options : OptionsValue) (queries : List Query) (none given later : List Entry)
    (steps : List StepValue) → none ≡ [] → given ≡ none ++ later →
    AreStepsFrom options queries none later steps →
    (later ≡ given) × AreSteps options queries given steps
from_start options queries none given later steps is all are =
    let same : later ≡ given = sym (all ∙ ap (λ (h : List Entry). h ++ later) is) in (
      same,
      subst (λ (h : List Entry). AreSteps options queries h steps) same
          (subst (λ (h : List Entry). AreStepsFrom options queries h later steps) is are),
    )

-- what was taken since the start was written of all that was given
pub have_written : (options : OptionsValue) (own queries : List Query)
    (none given later : List Entry) (steps : List StepValue) (why : Option Why)
    (before after : Option (List ℕ)) (old new : CircleValue) → own ≡ queries → none ≡ [] →
    given ≡ none ++ later → AreStepsFrom options own none later steps →
    WritesBlocks own 1 later steps why before after old new →
    HaveWritten options queries given why before after old new
have_written options own queries none given later steps why before after old new same is all are
    did =
    let start = from_start options own none given later steps is all are in
    subst (λ (qs : List Query). HaveWritten options qs given why before after old new) same
    (record {
      steps = steps;
      are_steps = start.1;
      did = subst (λ (entries : List Entry). WritesBlocks own 1 entries steps why before after old
          new) start.0 did;
    })

-- what holds either way
pub either : {T E X : Type 0} (result : Result T E) → OnOk result X → OnErr result X → X
either (Ok x) ok err = ok
either (Err e) ok err = err

-- the loop ended, and the history was shut if it ended early
pub has_fed : {K T : Type 0} (written : K → Option (List ℕ)) (faults : K → ℕ)
    (options : OptionsValue) (history : HistoryValue) (before after : K)
    (first last : CircleValue) → first.left ≡ [] → EveryEntryHasAStep →
    CanRun options history.terms.queries → (going pass : Each) (count : ℕ)
    (ended : Result T Why) (window : Option (Vec Entry)) → IsFeedingPass history going →
    OnOk ended (AllEnded history.terms.streams going.seen × (count ≡ length (entries going.seen))
    × (0 < history.readers → published going.mine ≡ count)) →
    OnOk ended (pass ≡ going) →
    IfErr ended (λ why. HasAdded history going (shut_line why) pass) →
    HaveWritten options history.terms.queries (take count (entries going.seen))
    (result_err ended) (written before) (written after) first last →
    CountsFault (result_err ended ≡ Some Write) (faults before) (faults after) →
    IsLeftOf history.terms (entries going.seen) (result_err ended) window →
    HasFed written faults options history before after first last pass (result_err ended) window
has_fed written faults options history before after first last fresh have can going pass count
    (Ok x) window feeds whole same shut wrote counted left =
    let all : take count (entries going.seen) ≡ entries going.seen =
    take_all count (entries going.seen) (omega (arith, whole.1)) in
    subst (λ (each : Each). HasFed written faults options history before after first last each
    None window) (sym same)
    (fed_whole written faults options history before after first last fresh window going feeds
    whole.0
    (λ some. whole.2 some ∙ whole.1)
    (subst (λ (h : List Entry). HaveWritten options history.terms.queries h None (written before)
    (written after) first last) all wrote) counted left)
has_fed written faults options history before after first last fresh have can going pass count
    (Err why) window feeds whole same shut wrote counted left =
    fed_shut written faults options history before after first last fresh window have can going pass
    why feeds shut (take count (entries going.seen))
    (drop count (entries going.seen), sym (take-append-drop count (entries going.seen))) wrote
    counted left

-- both of two facts hold of an answer
pub both_ok : {T E X Y Z : Type 0} (result : Result T E) → (X → Y → Z) → OnOk result X →
    OnOk result Y → OnOk result Z
both_ok (Ok x) then first second = then first second
both_ok (Err e) then first second = tt

-- what holds of an answer, holds where there is no error
pub where_ok : {T E X : Type 0} (result : Result T E) → OnOk result X →
    result_err result ≡ None → X
where_ok (Ok x) holds none = holds
where_ok (Err e) holds none = absurd cc

-- where all was given and nothing is left of it, nothing stands before the last front, and what was
-- given before it is all
pub all_given : (from to count : ℕ) (buffer seen : List Entry) → from ≡ 0 → to ≡ 0 →
    count ≡ length seen →
    (◌≡◌ {A = List Entry} (take from buffer) []) × (take (count - (to - from)) seen ≡ seen)
all_given from to count buffer seen from_is to_is many = (
  ap (λ (n : ℕ). take n buffer) from_is,
  take_all (count - (to - from)) seen (omega (arith, many, to_is)),
)
