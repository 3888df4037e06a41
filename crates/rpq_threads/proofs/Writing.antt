-- The blocks of some entries are written, and the objects told of their events.
use Rattle.std.proofs.Common.{◌≡◌, ◌≢◌, ℕ, ◌+◌, ◌<◌, inl, inr, ⊎_elim, List, []}
use Rattle.std.proofs.Common.{◌∷◌, ◌++◌, length, take, Option, Some, None, slice_get, Result, Ok}
use Rattle.std.proofs.Common.{Err, OnOk, OnErr, IfErr, refl, ap, sym, subst, ◌∙◌, append_assoc}
use Rattle.std.proofs.Common.{length-append, arith}
use Rattle.std.specs.Prelude.{⊤}
use Rattle.std.specs.Result.{result_err}
use Rattle.std.specs.Io.KnownBytes.{append_known}
use Rattle.std.proofs.lemmas.Grind.{flat_map-append}
use Rattle.std.proofs.lemmas.List.{append-nil, map-append, take-append-le, take_all}
use Rattle.std.proofs.lemmas.List.{get_or_append_left, get_or-append-add}
use Rattle.std.proofs.lemmas.Option.{slice_get_within, slice_get-get_or, get_or_from_slice_get}
use Rattle.std.proofs.Math.Seq.{take-append-add}
use Rattle.engine_loop.proofs.TellingMore.{tells_nothing, tells_more, tells_weaker, tells_nobody}
use Rattle.engine_loop.specs.Telling.{TellsOn}
use Rattle.entry_steps.specs.Steps.{StepValue, events_of}
use Rattle.history_model.specs.declared.line.Why.{Why}
use Rattle.history_model.specs.declared.line.Why.TheVariants.{Write, Memory}
use Rattle.rpq_base.specs.declared.data.Entry.{Entry}
use Rattle.rpq_base.specs.declared.data.Event.{Event}
use Rattle.rpq_io.proofs.Bytes.{append_known-nil}
use Rattle.rpq_io.specs.Writes.{WritesProperPrefix}
use Rattle.rpq_model.specs.Query.{Query}
use Rattle.rpq_text.proofs.BlockLists.{blocks_append, blocks_with, take_with}
use Rattle.rpq_text.specs.Text.{block, blocks_from}
use Rattle.standing.specs.Circles.{CircleValue, Parts, as_seen}
use Rattle.standing.specs.Objects.{ObjectValue}
use Rattle.rpq_threads.specs.Blocks.{BeginsNext, WritesBlocks}
use Rattle.rpq_threads.specs.Told.{all_events}
use Rattle.rpq_threads.proofs.BlockParts.{written_more, blocks_of_prefix}

-- the events of some steps, and then those of others
pub events_append : (first second : List StepValue) →
    all_events (events_of (first ++ second))
    ≡ all_events (events_of first) ++ all_events (events_of second)
events_append first second =
    ap all_events (map-append (λ (step : StepValue). step.events) first second)
    ∙ flat_map-append (λ (own : List Event). own) (events_of first) (events_of second)

-- the events of the first steps, and those of the one behind them
events_with : (steps : List StepValue) (i : ℕ) (step : StepValue) →
    slice_get steps i ≡ Some step →
    all_events (events_of (take (i + 1) steps))
    ≡ all_events (events_of (take i steps)) ++ step.events
events_with steps i step are =
    ap (λ (first : List StepValue). all_events (events_of first)) (take_with steps i step are)
    ∙ (events_append (take i steps) (step ∷ [])
    ∙ ap (λ (events : List Event). all_events (events_of (take i steps)) ++ events)
    (append-nil step.events))

-- ---- one block after another

module _ (entries : List Entry) (steps : List StepValue) (i : ℕ) (entry : Entry)
    (step : StepValue) (there : slice_get entries i ≡ Some entry)
    (are : slice_get steps i ≡ Some step) (many : length steps ≡ length entries)
    (queries : List Query) (position : ℕ) (before between : Option (List ℕ))
    (old mid : CircleValue)
    (so_far : between
    ≡ append_known before (blocks_from queries position (take i entries) (take i steps)))
    (told : TellsOn (all_events (events_of (take i steps))) ⊤ old mid) where
  within : i < length entries
  within = slice_get_within entries i entry there

  -- the block at the place was written, and its events were told
  pub written_with : (after : Option (List ℕ)) →
      after ≡ append_known between (block queries (position + i) entry step) →
      after ≡ append_known before
      (blocks_from queries position (take (i + 1) entries) (take (i + 1) steps))
  written_with after written =
      written_more (blocks_from queries position (take i entries) (take i steps))
      (block queries (position + i) entry step) before between after so_far written
      ∙ ap (append_known before)
      (sym (blocks_with entries steps i entry step there are many queries position))

  pub told_with : (whole : Type 0) (new : CircleValue) → TellsOn step.events whole mid new →
      TellsOn (all_events (events_of (take (i + 1) steps))) whole old new
  told_with whole new goes_on =
      subst (λ (events : List Event). TellsOn events whole old new)
      (sym (events_with steps i step are))
      (tells_more (all_events (events_of (take i steps))) step.events whole old mid new told
      goes_on)

  -- the block wasn't written, or a part of it
  pub block_stops : (why : Why) (after : Option (List ℕ)) →
      (why ≡ Write → WritesProperPrefix (block queries (position + i) entry step) between after) →
      (why ≡ Memory → after ≡ between) →
      WritesBlocks queries position entries steps (Some why) before after old mid
  block_stops Write after proper same =
      let part = proper refl in
      let events = all_events (events_of (take i steps)) in
      record {
        count = i;
        within = omega (arith, within);
        all = λ is. absurd cc;
        rest = part.front;
        part = inr (record {
          entry = entry;
          step = step;
          more = part.rest;
          there = there;
          is_step = are;
          cut = part.cut;
          proper = part.proper;
        });
        written = written_more (blocks_from queries position (take i entries) (take i steps))
            part.front before between after so_far part.written;
        told = tells_weaker events ⊤ (Some Write ≢ Some Memory) old mid (λ _. tt) told;
      }
  block_stops Memory after proper same =
      let done = blocks_from queries position (take i entries) (take i steps) in
      let events = all_events (events_of (take i steps)) in
      record {
        count = i;
        within = omega (arith, within);
        all = λ is. absurd cc;
        rest = [];
        part = inl ((λ is. cc), refl);
        written = same refl ∙ (so_far ∙ ap (append_known before) (sym (append-nil done)));
        told = tells_weaker events ⊤ (Some Memory ≢ Some Memory) old mid (λ _. tt) told;
      }

  -- the block was written, and memory ran out while its events were told
  pub tell_stops : (after : Option (List ℕ)) (new : CircleValue) →
      after ≡ append_known between (block queries (position + i) entry step) →
      TellsOn step.events ⊥ mid new →
      WritesBlocks queries position entries steps (Some Memory) before after old new
  tell_stops after new written part =
      let done = blocks_from queries position (take (i + 1) entries) (take (i + 1) steps) in
      let events = all_events (events_of (take (i + 1) steps)) in
      record {
        count = i + 1;
        within = omega (arith, within);
        all = λ is. absurd cc;
        rest = [];
        part = inl ((λ is. cc), refl);
        written = written_with after written ∙ ap (append_known before) (sym (append-nil done));
        told = tells_weaker events ⊥ (Some Memory ≢ Some Memory) old new (λ never. never refl)
            (told_with ⊥ new part);
      }

-- ---- all blocks

module _ (queries : List Query) (position : ℕ) (entries : List Entry) (steps : List StepValue)
    (many : length steps ≡ length entries) (before after : Option (List ℕ)) where
  -- the blocks of all entries were written, and their events told
  pub writes_all : (old new : CircleValue) →
      after ≡ append_known before (blocks_from queries position entries steps) →
      TellsOn (all_events (events_of steps)) ⊤ old new →
      WritesBlocks queries position entries steps None before after old new
  writes_all old new written told =
      let same : take (length entries) entries ≡ entries =
      take_all (length entries) entries (omega arith) in
      let own : take (length entries) steps ≡ steps =
      take_all (length entries) steps (omega (arith, many)) in
      record {
        count = length entries;
        within = omega arith;
        all = λ _. refl;
        rest = [];
        part = inl ((λ is. cc), refl);
        written = written ∙ ap (append_known before)
            (sym (append-nil (blocks_from queries position
            (take (length entries) entries) (take (length entries) steps))
            ∙ (ap (λ (es : List Entry). blocks_from queries position es
            (take (length entries) steps)) same
            ∙ ap (λ (ss : List StepValue). blocks_from queries position entries ss) own)));
        told = tells_weaker (all_events (events_of (take (length entries) steps))) ⊤
            (None ≢ Some Memory) old new (λ _. tt)
            (subst (λ (ss : List StepValue). TellsOn (all_events (events_of ss)) ⊤ old new)
            (sym own) told);
      }

  -- nothing is left where all blocks were written
  pub none_left : (old new : CircleValue) →
      (did : WritesBlocks queries position entries steps None before after old new) →
      did.rest ≡ []
  none_left old new did =
      ⊎_elim (λ none. none.1)
      (λ begins. absurd (omega (
        arith,
        slice_get_within entries did.count begins.entry begins.there,
        did.all refl,
      )))
      did.part

  -- so they are the blocks of all entries
  pub all_written : (old new : CircleValue) →
      WritesBlocks queries position entries steps None before after old new →
      after ≡ append_known before (blocks_from queries position entries steps)
  all_written old new did =
      let whole = did.all refl in
      let same : take did.count entries ≡ entries =
      take_all did.count entries (omega (arith, whole)) in
      let own : take did.count steps ≡ steps =
      take_all did.count steps (omega (arith, whole, many)) in
      did.written ∙ ap (append_known before)
      (ap (λ (bytes : List ℕ). blocks_from queries position (take did.count entries)
      (take did.count steps) ++ bytes) (none_left old new did)
      ∙ (append-nil (blocks_from queries position (take did.count entries)
      (take did.count steps))
      ∙ (ap (λ (es : List Entry). blocks_from queries position es (take did.count steps)) same
      ∙ ap (λ (ss : List StepValue). blocks_from queries position entries ss) own)))

  -- and the objects were told of all events
  pub all_told : (old new : CircleValue) →
      WritesBlocks queries position entries steps None before after old new →
      TellsOn (all_events (events_of steps)) ⊤ old new
  all_told old new did =
      let own : take did.count steps ≡ steps =
      take_all did.count steps (omega (arith, did.all refl, many)) in
      subst (λ (ss : List StepValue). TellsOn (all_events (events_of ss)) ⊤ old new) own
      (tells_weaker (all_events (events_of (take did.count steps))) (None ≢ Some Memory) ⊤ old
      new (λ _ is. cc) did.told)

-- of all the blocks of these entries a part was written, where nobody hears of their events
front_stops : {S : Type 0} (seen : S → ObjectValue) (circle : Parts S) (entries : List Entry)
    (steps : List StepValue) (queries : List Query) (position : ℕ)
    (before after : Option (List ℕ)) →
    circle.members ≡ [] → length steps ≡ length entries →
    WritesProperPrefix (blocks_from queries position entries steps) before after →
    WritesBlocks queries position entries steps (Some Write) before after (as_seen seen circle)
    (as_seen seen circle)
front_stops seen circle entries steps queries position before after none many part =
    let did = blocks_of_prefix entries steps queries position part.front part.rest many part.cut
    part.proper in
    record {
      count = did.count;
      within = did.within;
      all = λ is. absurd cc;
      rest = did.rest;
      part = inr did.begins;
      written = part.written ∙ ap (append_known before) did.are;
      told = tells_nobody seen circle (all_events (events_of (take did.count steps)))
          (Some Write ≢ Some Memory) none;
    }

-- all blocks were put out in one text, where nobody hears of their events
pub one_write : {S T : Type 0} (seen : S → ObjectValue) (circle : Parts S)
    (entries : List Entry) (steps : List StepValue) (queries : List Query) (position : ℕ)
    (text : List ℕ) (result : Result T Why) (before after : Option (List ℕ)) →
    circle.members ≡ [] → length steps ≡ length entries →
    text ≡ blocks_from queries position entries steps →
    OnOk result (after ≡ append_known before text) →
    OnErr result (WritesProperPrefix text before after) →
    IfErr result (λ why. why ≡ Write) →
    WritesBlocks queries position entries steps (result_err result) before after
    (as_seen seen circle) (as_seen seen circle)
one_write seen circle entries steps queries position text (Ok x) before after none many is whole
    part cause =
    writes_all queries position entries steps many before after (as_seen seen circle)
    (as_seen seen circle) (whole ∙ ap (append_known before) is)
    (tells_nobody seen circle (all_events (events_of steps)) ⊤ none)
one_write seen circle entries steps queries position text (Err why) before after none many is
    whole part cause =
    subst (λ (fault : Why). WritesBlocks queries position entries steps (Some fault) before after
    (as_seen seen circle) (as_seen seen circle)) (sym cause)
    (front_stops seen circle entries steps queries position before after none many
    (subst (λ (bytes : List ℕ). WritesProperPrefix bytes before after) is part))

-- ---- what is written goes on

-- an entry stands at its place where others follow
get_before : {X : Type 0} (first later : List X) (i : ℕ) (entry : X) →
    slice_get first i ≡ Some entry → slice_get (first ++ later) i ≡ Some entry
get_before {X} first later i entry there =
    let below = slice_get_within first i entry there in
    slice_get-get_or (first ++ later) i entry (omega (arith, length-append first later, below))
    ∙ ap (λ (e : X). Some e) (get_or_append_left first later entry i below
    ∙ get_or_from_slice_get first i entry entry there)

-- and behind others
get_behind : {X : Type 0} (first later : List X) (i : ℕ) (entry : X) →
    slice_get later i ≡ Some entry → slice_get (first ++ later) (length first + i) ≡ Some entry
get_behind {X} first later i entry there =
    slice_get-get_or (first ++ later) (length first + i) entry
    (omega (arith, length-append first later, slice_get_within later i entry there))
    ∙ ap (λ (e : X). Some e) (get_or-append-add first later i entry
    ∙ get_or_from_slice_get later i entry entry there)

-- nothing is written of no entries
pub writes_none : (queries : List Query) (position : ℕ) (written : Option (List ℕ))
    (circle : CircleValue) → WritesBlocks queries position [] [] None written written circle circle
writes_none queries position written circle =
    writes_all queries position [] [] refl written written circle circle
    (sym (append_known-nil written)) (tells_nothing ⊤ circle)

-- all blocks were written, and then some of those behind them
module _ (queries : List Query) (position : ℕ) (first later : List Entry)
    (steps rest : List StepValue) (many : length steps ≡ length first) (why : Option Why)
    (before between after : Option (List ℕ)) (old mid new : CircleValue)
    (did : WritesBlocks queries position first steps None before between old mid)
    (then : WritesBlocks queries (position + length first) later rest why between after mid new)
  where
    taken : take (length first + then.count) (first ++ later) ≡ first ++ take then.count later
    taken = take-append-add first later then.count

    own : take (length first + then.count) (steps ++ rest) ≡ steps ++ take then.count rest
    own = subst (λ (n : ℕ). take (n + then.count) (steps ++ rest) ≡ steps ++ take then.count rest)
        many (take-append-add steps rest then.count)

    blocks_are : blocks_from queries position (take (length first + then.count) (first ++ later))
        (take (length first + then.count) (steps ++ rest))
        ≡ blocks_from queries position first steps
        ++ blocks_from queries (position + length first) (take then.count later)
        (take then.count rest)
    blocks_are =
        ap (λ (es : List Entry). blocks_from queries position es
        (take (length first + then.count) (steps ++ rest))) taken
        ∙ (ap (λ (ss : List StepValue). blocks_from queries position
        (first ++ take then.count later) ss) own
        ∙ blocks_append first steps queries position (take then.count later)
        (take then.count rest) (sym many))

    events_are : all_events (events_of (take (length first + then.count) (steps ++ rest)))
        ≡ all_events (events_of steps) ++ all_events (events_of (take then.count rest))
    events_are =
        ap (λ (ss : List StepValue). all_events (events_of ss)) own
        ∙ events_append steps (take then.count rest)

    begins_behind : BeginsNext queries (position + length first) later rest then.count then.rest →
        BeginsNext queries position (first ++ later) (steps ++ rest) (length first + then.count)
        then.rest
    begins_behind next = record {
      entry = next.entry;
      step = next.step;
      more = next.more;
      there = get_behind first later then.count next.entry next.there;
      is_step = subst (λ (n : ℕ). slice_get (steps ++ rest) (n + then.count) ≡ Some next.step)
          many (get_behind steps rest then.count next.step next.is_step);
      cut = ap (λ (n : ℕ). block queries n next.entry next.step)
          {x = position + (length first + then.count)}
          {y = (position + length first) + then.count} (omega arith) ∙ next.cut;
      proper = next.proper;
    }

    pub writes_then : WritesBlocks queries position (first ++ later) (steps ++ rest) why before
        after old new
    writes_then =
        let one = blocks_from queries position first steps in
        let two = blocks_from queries (position + length first) (take then.count later)
        (take then.count rest) in
        record {
          count = length first + then.count;
          within = omega (arith, then.within, length-append first later);
          all = λ whole. omega (arith, then.all whole, length-append first later);
          rest = then.rest;
          part = ⊎_elim (λ none. inl none) (λ begins. inr (begins_behind begins)) then.part;
          written =
              written_more one (two ++ then.rest) before between after
              (all_written queries position first steps many before between old mid did)
              then.written
              ∙ ap (append_known before) (sym (append_assoc one two then.rest)
              ∙ ap (λ (bytes : List ℕ). bytes ++ then.rest) (sym blocks_are));
          told = subst (λ (events : List Event). TellsOn events (why ≢ Some Memory) old new)
              (sym events_are) (tells_more (all_events (events_of steps))
              (all_events (events_of (take then.count rest))) (why ≢ Some Memory) old mid new
              (all_told queries position first steps many before between old mid did)
              then.told);
        }

-- a part of some blocks is a part of more
pub writes_longer : (queries : List Query) (position : ℕ) (first later : List Entry)
    (steps rest : List StepValue) → length steps ≡ length first → (why : Why)
    (before after : Option (List ℕ)) (old new : CircleValue) →
    WritesBlocks queries position first steps (Some why) before after old new →
    WritesBlocks queries position (first ++ later) (steps ++ rest) (Some why) before after old new
writes_longer queries position first later steps rest many why before after old new did =
    let same : take did.count (first ++ later) ≡ take did.count first =
    take-append-le did.count first later did.within in
    let own : take did.count (steps ++ rest) ≡ take did.count steps =
    take-append-le did.count steps rest (omega (arith, many, did.within)) in
    record {
      count = did.count;
      within = omega (arith, did.within, length-append first later);
      all = λ is. absurd cc;
      rest = did.rest;
      part = ⊎_elim (λ none. inl none) (λ next. inr (record {
        entry = next.entry;
        step = next.step;
        more = next.more;
        there = get_before first later did.count next.entry next.there;
        is_step = get_before steps rest did.count next.step next.is_step;
        cut = next.cut;
        proper = next.proper;
      })) did.part;
      written = did.written ∙ ap (append_known before)
          (ap (λ (es : List Entry). blocks_from queries position es (take did.count steps)
          ++ did.rest) (sym same)
          ∙ ap (λ (ss : List StepValue). blocks_from queries position
          (take did.count (first ++ later)) ss ++ did.rest) (sym own));
      told = subst (λ (ss : List StepValue). TellsOn (all_events (events_of ss))
          (Some why ≢ Some Memory) old new) (sym own) did.told;
    }

-- memory ran out behind the last block
pub writes_stopped : (queries : List Query) (position : ℕ) (entries : List Entry)
    (steps : List StepValue) (before after : Option (List ℕ)) (old new : CircleValue) →
    WritesBlocks queries position entries steps None before after old new →
    WritesBlocks queries position entries steps (Some Memory) before after old new
writes_stopped queries position entries steps before after old new did = record {
  count = did.count;
  within = did.within;
  all = λ is. absurd cc;
  rest = did.rest;
  part = ⊎_elim (λ none. inl ((λ is. cc), none.1)) (λ next. inr next) did.part;
  written = did.written;
  told = tells_weaker (all_events (events_of (take did.count steps))) (None ≢ Some Memory)
      (Some Memory ≢ Some Memory) old new (λ never. absurd (never refl)) did.told;
}
