-- The blocks of a history: its text, and what the objects were told of.
use Rattle.std.proofs.Common.{◌≡◌, ◌≢◌, ℕ, zero, suc, ◌+◌, ◌≤◌, inl, inr, ⊎_elim, List, []}
use Rattle.std.proofs.Common.{◌∷◌, ◌++◌, length, take, drop, Option, Some, None, slice_get, refl}
use Rattle.std.proofs.Common.{ap, sym, subst, ◌∙◌, append_assoc, arith}
use Rattle.std.specs.Prelude.{⊤}
use Rattle.std.proofs.lemmas.List.{append-nil}
use Rattle.std.proofs.lemmas.Option.{slice_get_within}
use Rattle.engine_loop.proofs.MoreSteps.{steps_append, have_steps}
use Rattle.entry_steps.proofs.StepLists.{steps_as_many, steps_fronts}
use Rattle.entry_steps.specs.Laws.{EveryEntryHasAStep}
use Rattle.entry_steps.specs.Steps.{OptionsValue, StepValue, CanRun, IsStep, AreSteps, AreStepsFrom}
use Rattle.history_model.specs.declared.line.Why.{Why}
use Rattle.history_model.specs.declared.line.Why.TheVariants.{Write}
use Rattle.rpq_base.specs.declared.data.Entry.{Entry}
use Rattle.rpq_io.specs.Counts.{CountsFault}
use Rattle.rpq_model.specs.Query.{Query}
use Rattle.rpq_text.proofs.BlockLists.{blocks_cut, blocks_with}
use Rattle.rpq_text.specs.Text.{block, blocks_from, IsText}
use Rattle.standing.proofs.HavingStood.{none_told}
use Rattle.standing.specs.Circles.{CircleValue}
use Rattle.standing.specs.Objects.{ObjectValue}
use Rattle.standing.specs.Stood.{HaveStood}
use Rattle.turn_lock.specs.Lines.{StartsWith}
use Rattle.rpq_threads.specs.Blocks.{BeginsNext, WritesBlocks}
use Rattle.rpq_threads.specs.Runs.{WritesText}
use Rattle.rpq_threads.specs.Told.{BeginsBlock, TellsObjects}
use Rattle.rpq_threads.specs.Written.{Grew, GrewByPrefix, GrewByProperPrefix}
use Rattle.rpq_threads.proofs.Writing.{all_written, writes_longer}

-- the step of the entry at a place
step_at : (entries : List Entry) (steps : List StepValue) (i : ℕ) (options : OptionsValue)
    (queries : List Query) (before : List Entry) (entry : Entry) (step : StepValue) →
    AreStepsFrom options queries before entries steps → slice_get entries i ≡ Some entry →
    slice_get steps i ≡ Some step →
    IsStep options queries (before ++ take i entries) ((before ++ take i entries) ++ entry ∷ [])
    step
step_at [] steps i options queries before entry step are there is = absurd cc
step_at (next ∷ later) [] i options queries before entry step are there is = absurd are
step_at (next ∷ later) (one ∷ rest) zero options queries before entry step are there is =
    let entry_is : next ≡ entry = cc in
    let step_is : one ≡ step = cc in
    let here : before ≡ before ++ [] = sym (append-nil before) in
    subst (λ (h : List Entry). IsStep options queries h (h ++ entry ∷ []) step) here
    (subst (λ (e : Entry). IsStep options queries before (before ++ e ∷ []) step) entry_is
    (subst (λ (each : StepValue). IsStep options queries before (before ++ next ∷ []) each)
    step_is are.0))
step_at (next ∷ later) (one ∷ rest) (suc i) options queries before entry step are there is =
    subst (λ (h : List Entry). IsStep options queries h (h ++ entry ∷ []) step)
    (append_assoc before (next ∷ []) (take i later))
    (step_at later rest i options queries (before ++ next ∷ []) entry step are.1 there is)

-- the bytes of some blocks go on to all of them, by something if a part of the next was written
module _ (queries : List Query) (entries : List Entry) (steps : List StepValue)
    (many : length steps ≡ length entries) (count : ℕ) (rest : List ℕ) where
  abbrev done : List ℕ
  done = blocks_from queries 1 (take count entries) (take count steps)

  pub goes_on_by_none : count ≤ length entries → rest ≡ [] →
      (more : List ℕ) × (blocks_from queries 1 entries steps ≡ (done ++ rest) ++ more)
  goes_on_by_none within none =
      let later = blocks_from queries (1 + count) (drop count entries) (drop count steps) in (
        later,
        blocks_cut entries steps count queries 1 many within
            ∙ ap (λ (bytes : List ℕ). bytes ++ later)
            (sym (append-nil done) ∙ ap (λ (bytes : List ℕ). done ++ bytes) (sym none)),
      )

  pub goes_on_by_part : BeginsNext queries 1 entries steps count rest →
      (more : List ℕ) × (blocks_from queries 1 entries steps ≡ (done ++ rest) ++ more)
      × (more ≢ [])
  goes_on_by_part next =
      let within = slice_get_within entries count next.entry next.there in
      let later = blocks_from queries (1 + (count + 1)) (drop (count + 1) entries)
      (drop (count + 1) steps) in
      let own = block queries (1 + count) next.entry next.step in (
        next.more ++ later,
        blocks_cut entries steps (count + 1) queries 1 many (omega (arith, within))
            ∙ (ap (λ (bytes : List ℕ). bytes ++ later)
            (blocks_with entries steps count next.entry next.step next.there next.is_step many
            queries 1)
            ∙ (append_assoc done own later
            ∙ (ap (λ (bytes : List ℕ). done ++ (bytes ++ later)) next.cut
            ∙ (ap (λ (bytes : List ℕ). done ++ bytes) (append_assoc rest next.more later)
            ∙ sym (append_assoc done rest (next.more ++ later)))))),
        not_empty next.more later next.proper,
      )
    where
      not_empty : (some more : List ℕ) → some ≢ [] → some ++ more ≢ []
      not_empty [] more full is = full refl
      not_empty (first ∷ some) more full is = cc

-- ---- the blocks of a history were written, all or some

module _ (options : OptionsValue) (queries : List Query) (history : List Entry)
    (steps : List StepValue) (are : AreSteps options queries history steps) (why : Option Why)
    (before after : Option (List ℕ)) (old new : CircleValue)
    (did : WritesBlocks queries 1 history steps why before after old new) where
  many : length steps ≡ length history
  many = steps_as_many history [] options queries steps are

  pub wrote_all : why ≡ None → Grew (IsText options queries history) before after
  wrote_all none = record {
    text = blocks_from queries 1 history steps;
    of_kind = (steps, are, refl);
    written = all_written queries 1 history steps many before after old new
        (subst (λ (reason : Option Why). WritesBlocks queries 1 history steps reason before after
        old new) none did);
  }

  pub wrote_proper : why ≡ Some Write →
      GrewByProperPrefix (IsText options queries history) before after
  wrote_proper is =
      let next : BeginsNext queries 1 history steps did.count did.rest =
      ⊎_elim (λ none. absurd (none.0 is)) (λ begins. begins) did.part in
      let more = goes_on_by_part queries history steps many did.count did.rest next in
      record {
        front = blocks_from queries 1 (take did.count history) (take did.count steps) ++ did.rest;
        rest = more.0;
        of_kind = (steps, are, sym more.1);
        proper = more.2;
        written = did.written;
      }

  some_more : (more : List ℕ) × (blocks_from queries 1 history steps
      ≡ (blocks_from queries 1 (take did.count history) (take did.count steps) ++ did.rest)
      ++ more)
  some_more =
      ⊎_elim (λ none. goes_on_by_none queries history steps many did.count did.rest did.within
      none.1)
      (λ next. let by = goes_on_by_part queries history steps many did.count did.rest next in
      (by.0, by.1))
      did.part

  pub wrote_prefix : GrewByPrefix (IsText options queries history) before after
  wrote_prefix = record {
    front = blocks_from queries 1 (take did.count history) (take did.count steps) ++ did.rest;
    rest = some_more.0;
    of_kind = (steps, are, sym some_more.1);
    written = did.written;
  }

  begins_at : BeginsNext queries 1 history steps did.count did.rest →
      BeginsBlock options queries history did.count did.rest
  begins_at next = record {
    entry = next.entry;
    step = next.step;
    more = next.more;
    there = next.there;
    is_step = step_at history steps did.count options queries [] next.entry next.step are
        next.there next.is_step;
    cut = ap (λ (n : ℕ). block queries n next.entry next.step) {x = did.count + 1}
        {y = 1 + did.count} (omega arith) ∙ next.cut;
    proper = next.proper;
  }

  -- objects of which none had left were told of the events of these blocks
  pub told_objects : old.left ≡ [] →
      TellsObjects options queries history before after old.members why new
  told_objects fresh = record {
    count = did.count;
    within = did.within;
    steps = take did.count steps;
    are_steps = steps_fronts history steps did.count options queries [] are;
    rest = did.rest;
    part = ⊎_elim (λ none. inl none.1) (λ next. inr (begins_at next)) did.part;
    written = did.written;
    told = did.told old.members [] (subst (λ (left : List ObjectValue).
        HaveStood old.members [] ⊤ old.members left) (sym fresh) (none_told old.members ⊤));
    all = did.all;
  }

-- so the text was written, and the faults counted
pub writes_text : {K : Type 0} (written : K → Option (List ℕ)) (faults : K → ℕ)
    (options : OptionsValue) (queries : List Query) (history : List Entry)
    (steps : List StepValue) → AreSteps options queries history steps → (why : Option Why)
    (before after : K) (old new : CircleValue) →
    WritesBlocks queries 1 history steps why (written before) (written after) old new →
    CountsFault (why ≡ Some Write) (faults before) (faults after) →
    WritesText written faults options queries history before after why
writes_text written faults options queries history steps are why before after old new did counted =
    record {
      whole = wrote_all options queries history steps are why (written before) (written after) old
          new did;
      write = wrote_proper options queries history steps are why (written before) (written after)
          old new did;
      memory = λ _. wrote_prefix options queries history steps are why (written before)
          (written after) old new did;
      counted = counted;
    }

-- ---- and behind them come entries that were never answered

-- what was written of a history, with steps of all its entries
pub record HaveWritten (options : OptionsValue) (queries : List Query) (history : List Entry)
    (why : Option Why) (before after : Option (List ℕ)) (old new : CircleValue) : Type 0 where
  pub steps : List StepValue
  pub are_steps : AreSteps options queries history steps
  pub did : WritesBlocks queries 1 history steps why before after old new

-- is so of a longer one, if something ended it early
pub wrote_of_longer : EveryEntryHasAStep → (options : OptionsValue) (queries : List Query) →
    CanRun options queries → (given all : List Entry) → StartsWith all given → (why : Why)
    (before after : Option (List ℕ)) (old new : CircleValue) →
    HaveWritten options queries given (Some why) before after old new →
    HaveWritten options queries all (Some why) before after old new
wrote_of_longer have options queries can given all starts why before after old new was =
    let later = starts.0 in
    let found = have_steps have later options queries can given in
    let many = steps_as_many given [] options queries was.steps was.are_steps in
    subst (λ (history : List Entry). HaveWritten options queries history (Some why) before after
    old new) (sym starts.1)
    (record {
      steps = was.steps ++ found.0;
      are_steps = steps_append given was.steps options queries [] later found.0 was.are_steps
          found.1;
      did = writes_longer queries 1 given later was.steps found.0 many why before after old new
          was.did;
    })
