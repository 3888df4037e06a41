-- The world stays safe.
use Rattle.std.proofs.Common.{◌≡◌, ℕ, ◌+◌, ◌<◌, ◌≤◌, ◌==◌, ◌↔◌, Bool, true, false, List, [], ◌∷◌, ◌++◌, Option, Some, None, length, take, refl, sym, ap, subst, ◌∙◌, arith, length-append, unwrap_or}
use Rattle.std.specs.Prelude.{IsTrue, slice_get, if◌then◌else◌}
use Rattle.std.proofs.lemmas.Bool.{false≢true, eq-eqb}
use Rattle.std.proofs.lemmas.List.{take_more, take-append-le}
use Rattle.std.proofs.lemmas.List.Sums.{fold-append}
use Rattle.std.proofs.lemmas.Option.{slice_get_within, get_or_from_slice_get}
use Rattle.rpq_base.specs.declared.data.Entry.{Entry}
use Rattle.rpq_model.specs.Answers.{IsAnswer}
use Rattle.rpq_model.specs.Query.{Query, path_query}
use Rattle.rpq_model.specs.EventLaws.{HeldStep, EventsGrow, EachHeldIsAnswers}
use Rattle.history_model.specs.declared.line.CallAct.{CallAct}
use Rattle.history_model.specs.declared.line.CallAct.TheVariants.{Append, EndStream, Publish, Shut}
use Rattle.history_model.specs.declared.line.Line.{Line}
use Rattle.history_model.specs.Lines.{append_line, end_line, publish_line, shut_line, entries, number_of, published, IsShut}
use Rattle.history_model.specs.Legal.{HasItsTuple, IsLegal}
use Rattle.history_model.specs.World.{Terms, Pairs, Snapshot, Block, World, start, no_pairs, pairs_after}
use Rattle.history_model.specs.Steps.{Step, Appends, Ends, Shuts, Feeds, Publishes, Looks, IsBlockAt, IsAllowed, with_line, after, after_all, AreAllowed}
use Rattle.history_model.specs.Safe.{AreBlocks, HoldsAnswers, ShowsAnswers, IsBehind, IsSafe, IsPublished}
use Rattle.history_model.specs.WorldLaws.{CoreSafe, ShutIsFinal, StepsAreCalls}
use Rattle.history_model.proofs.ByLines.{entries_push, published_push, no_entry, none_legal, push_legal, may_follow}
use Rattle.history_model.proofs.Blocks.{push_block}

-- ---- one line more

-- the first entries stay
first_entries : (count : ℕ) (lines : List Line) (line : Line) → count ≤ length (entries lines) →
    take count (entries (lines ++ line ∷ [])) ≡ take count (entries lines)
first_entries count lines line within =
    ap (take count) (entries_push lines line) ∙ take-append-le count (entries lines) (entries (line ∷ [])) within

more_entries : (lines : List Line) (line : Line) → length (entries lines) ≤ length (entries (lines ++ line ∷ []))
more_entries lines line = omega (arith, ap length (entries_push lines line), length-append (entries lines) (entries (line ∷ [])))

still_blocks : (queries : List Query) (count : ℕ) (lines : List Line) (line : Line) (blocks : List Block) → count ≤ length (entries lines) →
    AreBlocks queries (take count (entries lines)) blocks → AreBlocks queries (take count (entries (lines ++ line ∷ []))) blocks
still_blocks queries count lines line blocks within are =
    subst (λ (history : List Entry). AreBlocks queries history blocks) (sym (first_entries count lines line within)) are

still_holds : (queries : List Query) (count : ℕ) (lines : List Line) (line : Line) (pairs : Pairs) → count ≤ length (entries lines) →
    HoldsAnswers queries (take count (entries lines)) pairs → HoldsAnswers queries (take count (entries (lines ++ line ∷ []))) pairs
still_holds queries count lines line pairs within holds =
    subst (λ (history : List Entry). HoldsAnswers queries history pairs) (sym (first_entries count lines line within)) holds

-- a line that publishes nothing
line_safe : (terms : Terms) (world : World) (line : Line) → IsSafe terms world → IsLegal terms.streams terms.cap (world.lines ++ line ∷ []) →
    number_of line.call.act ≡ None → IsSafe terms (with_line world line)
line_safe terms world line safe legal none = record {
  legal = legal;
  position = safe.position
      ∙ sym (published_push world.lines line ∙ ap (λ (number : Option ℕ). unwrap_or number (published world.lines)) none);
  shown_behind = safe.shown_behind;
  fed_behind = omega (arith, safe.fed_behind, more_entries world.lines line);
  blocks = still_blocks terms.queries world.fed world.lines line world.blocks safe.fed_behind safe.blocks;
  kept = still_holds terms.queries world.fed world.lines line world.kept safe.fed_behind safe.kept;
  shown = still_holds terms.queries world.shown.position world.lines line world.shown.pairs (omega (arith, safe.shown_behind, safe.fed_behind)) safe.shown;
  readers = λ reader. record {
    position = (safe.readers reader).position;
    answers = still_holds terms.queries (world.readers reader).position world.lines line (world.readers reader).pairs
        (omega (arith, (safe.readers reader).position, safe.shown_behind, safe.fed_behind)) (safe.readers reader).answers;
  };
}

-- ---- the engine is fed

-- the entries up to the next
next_entry : (history : List Entry) (place : ℕ) (entry : Entry) → slice_get history place ≡ Some entry →
    take (place + 1) history ≡ take place history ++ entry ∷ []
next_entry history place entry there =
    take_more history place entry (slice_get_within history place entry there)
    ∙ ap (λ (each : Entry). take place history ++ each ∷ []) (get_or_from_slice_get history place entry entry there)

feed_safe : HeldStep → EventsGrow → (terms : Terms) (world : World) (block : Block) → IsSafe terms world →
    IsBlockAt terms.queries (entries world.lines) world.fed block → IsSafe terms (after world (Feeds block))
feed_safe step grow terms world block safe next =
    let history = entries world.lines in
    let taken = next_entry history world.fed block.entry next.entry in
    let below = slice_get_within history world.fed block.entry next.entry in record {
      legal = safe.legal;
      position = safe.position;
      shown_behind = omega (arith, safe.shown_behind);
      fed_behind = omega (arith, below);
      blocks = subst (λ (front : List Entry). AreBlocks terms.queries front (world.blocks ++ block ∷ [])) (sym taken)
          (push_block grow terms.queries (take world.fed history) world.blocks block safe.blocks next.events);
      kept = λ place query pair there.
          subst (λ (front : List Entry). IsTrue (pairs_after world.kept block.events place pair) ↔ IsAnswer (path_query query) front pair) (sym taken)
          (step terms.queries place query (take world.fed history) block.entry block.events (world.kept place pair) pair there next.events
          (safe.kept place query pair there));
      shown = safe.shown;
      readers = λ reader. record { position = (safe.readers reader).position; answers = (safe.readers reader).answers };
    }

-- ---- the engine publishes

-- a line without a tuple whose call is no append
no_tuple : (by : ℕ) (act : CallAct) → (act ≡ Append → ⊥) → HasItsTuple (record { call = record { by = by; act = act }; tuple = None })
no_tuple by act other = ((λ some. absurd (false≢true some)), (λ is. absurd (other is)))

publish_legal : (terms : Terms) (world : World) → IsSafe terms world → (IsShut world.lines → ⊥) → world.shown.position < world.fed →
    IsLegal terms.streams terms.cap (world.lines ++ publish_line world.fed ∷ [])
publish_legal terms world safe going rises =
    push_legal terms.streams terms.cap world.lines (publish_line world.fed) safe.legal (record {
      tuple = no_tuple 0 (Publish world.fed) (λ is. cc);
      call = (refl, going, subst (λ (number : ℕ). number < world.fed) safe.position rises, safe.fed_behind);
    })

publish_safe : (terms : Terms) (world : World) → IsSafe terms world → (IsShut world.lines → ⊥) → world.shown.position < world.fed →
    IsSafe terms (after world Publishes)
publish_safe terms world safe going rises =
    let line = publish_line world.fed in record {
      legal = publish_legal terms world safe going rises;
      position = sym (published_push world.lines line);
      shown_behind = omega arith;
      fed_behind = omega (arith, safe.fed_behind, more_entries world.lines line);
      blocks = still_blocks terms.queries world.fed world.lines line world.blocks safe.fed_behind safe.blocks;
      kept = still_holds terms.queries world.fed world.lines line world.kept safe.fed_behind safe.kept;
      shown = still_holds terms.queries world.fed world.lines line world.kept safe.fed_behind safe.kept;
      readers = λ reader. record {
        position = omega (arith, (safe.readers reader).position, rises);
        answers = still_holds terms.queries (world.readers reader).position world.lines line (world.readers reader).pairs
            (omega (arith, (safe.readers reader).position, safe.shown_behind, safe.fed_behind)) (safe.readers reader).answers;
      };
    }

-- ---- a reader looks

either_behind : (mine : Bool) (terms : Terms) (world : World) (first second : Snapshot) → IsBehind terms world first → IsBehind terms world second →
    IsBehind terms world (if mine then first else second)
either_behind true terms world first second first_is second_is = first_is
either_behind false terms world first second first_is second_is = second_is

look_safe : (terms : Terms) (world : World) (reader : ℕ) → IsSafe terms world → IsSafe terms (after world (Looks reader))
look_safe terms world reader safe =
    let shown : IsBehind terms world world.shown = record { position = omega arith; answers = safe.shown } in
    record {
      legal = safe.legal;
      position = safe.position;
      shown_behind = safe.shown_behind;
      fed_behind = safe.fed_behind;
      blocks = safe.blocks;
      kept = safe.kept;
      shown = safe.shown;
      readers = λ other.
          let behind = either_behind (other == reader) terms world world.shown (world.readers other) shown (safe.readers other) in
          record { position = behind.position; answers = behind.answers };
    }

-- ---- any steps

safe_step : HeldStep → EventsGrow → (terms : Terms) (world : World) (step : Step) → IsSafe terms world → IsAllowed terms world step →
    IsSafe terms (after world step)
safe_step held grow terms world (Appends stream tuple) safe allowed = line_safe terms world (append_line stream tuple) safe allowed refl
safe_step held grow terms world (Ends stream) safe allowed = line_safe terms world (end_line stream) safe allowed refl
safe_step held grow terms world (Shuts why) safe allowed = line_safe terms world (shut_line why) safe allowed refl
safe_step held grow terms world (Feeds block) safe allowed = feed_safe held grow terms world block safe allowed.1
safe_step held grow terms world Publishes safe allowed = publish_safe terms world safe allowed.0 allowed.1
safe_step held grow terms world (Looks reader) safe allowed = look_safe terms world reader safe

safe_steps : (steps : List Step) → HeldStep → EventsGrow → (terms : Terms) (world : World) → IsSafe terms world → AreAllowed terms world steps →
    IsSafe terms (after_all world steps)
safe_steps [] held grow terms world safe allowed = safe
safe_steps (step ∷ steps) held grow terms world safe allowed =
    safe_steps steps held grow terms (after world step) (safe_step held grow terms world step safe allowed.0) allowed.1

none_there : {X : Type 0} (place : ℕ) (x : X) → slice_get [] place ≡ Some x → ⊥
none_there place x there = cc

start_safe : EachHeldIsAnswers → (terms : Terms) → IsSafe terms start
start_safe each terms =
    let holds : HoldsAnswers terms.queries [] no_pairs = λ place query pair there. each terms.queries place query [] [] there tt pair in
    record {
      legal = none_legal terms.streams terms.cap;
      position = refl;
      shown_behind = omega arith;
      fed_behind = omega arith;
      blocks = record { heads = refl; each = λ place block there. absurd (none_there place block there); all = tt };
      kept = holds;
      shown = holds;
      readers = λ reader. record { position = omega arith; answers = holds };
    }

-- ---- no reader's position falls

either_onward : (mine : Bool) (old shown : Snapshot) → old.position ≤ shown.position → old.position ≤ (if mine then shown else old).position
either_onward true old shown below = below
either_onward false old shown below = omega arith

onward_step : (terms : Terms) (world : World) (step : Step) (reader : ℕ) → IsSafe terms world →
    (world.readers reader).position ≤ ((after world step).readers reader).position
onward_step terms world (Appends stream tuple) reader safe = omega arith
onward_step terms world (Ends stream) reader safe = omega arith
onward_step terms world (Shuts why) reader safe = omega arith
onward_step terms world (Feeds block) reader safe = omega arith
onward_step terms world Publishes reader safe = omega arith
onward_step terms world (Looks other) reader safe = either_onward (reader == other) (world.readers reader) world.shown (safe.readers reader).position

onward_steps : (steps : List Step) → HeldStep → EventsGrow → (terms : Terms) (world : World) (reader : ℕ) → IsSafe terms world →
    AreAllowed terms world steps → (world.readers reader).position ≤ ((after_all world steps).readers reader).position
onward_steps [] held grow terms world reader safe allowed = omega arith
onward_steps (step ∷ steps) held grow terms world reader safe allowed =
    let here = onward_step terms world step reader safe in
    let later = onward_steps steps held grow terms (after world step) reader (safe_step held grow terms world step safe allowed.0) allowed.1 in
    omega (arith, here, later)

-- steps one after another
parts_allowed : (earlier later : List Step) (terms : Terms) (world : World) → AreAllowed terms world (earlier ++ later) →
    AreAllowed terms world earlier × AreAllowed terms (after_all world earlier) later
parts_allowed [] later terms world allowed = (tt, allowed)
parts_allowed (step ∷ earlier) later terms world allowed =
    let both = parts_allowed earlier later terms (after world step) allowed.1 in
    ((allowed.0, both.0), both.1)

onward : HeldStep → EventsGrow → EachHeldIsAnswers → (terms : Terms) (steps earlier later : List Step) (reader : ℕ) → AreAllowed terms start steps →
    steps ≡ earlier ++ later → ((after_all start earlier).readers reader).position ≤ ((after_all start steps).readers reader).position
onward held grow each terms steps earlier later reader allowed is =
    let both = parts_allowed earlier later terms start (subst (AreAllowed terms start) is allowed) in
    let middle = after_all start earlier in
    let safe = safe_steps earlier held grow terms start (start_safe each terms) both.0 in
    let end : after_all middle later ≡ after_all start steps = sym (fold-append after start earlier later) ∙ ap (after_all start) (sym is) in
    subst (λ (world : World). (middle.readers reader).position ≤ (world.readers reader).position) end
    (onward_steps later held grow terms middle reader safe both.1)

-- ---- what was answered stays the answer

behind_line : (terms : Terms) (world : World) (line : Line) (snapshot : Snapshot) → IsSafe terms world → IsBehind terms world snapshot →
    ShowsAnswers terms.queries (entries (world.lines ++ line ∷ [])) snapshot
behind_line terms world line snapshot safe behind =
    still_holds terms.queries snapshot.position world.lines line snapshot.pairs (omega (arith, behind.position, safe.shown_behind, safe.fed_behind)) behind.answers

behind_step : (terms : Terms) (world : World) (step : Step) (snapshot : Snapshot) → IsSafe terms world → IsAllowed terms world step → IsBehind terms world snapshot →
    IsBehind terms (after world step) snapshot
behind_step terms world (Appends stream tuple) snapshot safe allowed behind =
    record { position = behind.position; answers = behind_line terms world (append_line stream tuple) snapshot safe behind }
behind_step terms world (Ends stream) snapshot safe allowed behind =
    record { position = behind.position; answers = behind_line terms world (end_line stream) snapshot safe behind }
behind_step terms world (Shuts why) snapshot safe allowed behind =
    record { position = behind.position; answers = behind_line terms world (shut_line why) snapshot safe behind }
behind_step terms world (Feeds block) snapshot safe allowed behind = record { position = behind.position; answers = behind.answers }
behind_step terms world Publishes snapshot safe allowed behind =
    let rises = allowed.1 in
    record { position = omega (arith, behind.position, rises); answers = behind_line terms world (publish_line world.fed) snapshot safe behind }
behind_step terms world (Looks other) snapshot safe allowed behind = record { position = behind.position; answers = behind.answers }

behind_steps : (steps : List Step) → HeldStep → EventsGrow → (terms : Terms) (world : World) (snapshot : Snapshot) → IsSafe terms world →
    AreAllowed terms world steps → IsBehind terms world snapshot → IsBehind terms (after_all world steps) snapshot
behind_steps [] held grow terms world snapshot safe allowed behind = behind
behind_steps (step ∷ steps) held grow terms world snapshot safe allowed behind =
    behind_steps steps held grow terms (after world step) snapshot (safe_step held grow terms world step safe allowed.0) allowed.1
    (behind_step terms world step snapshot safe allowed.0 behind)

stays : HeldStep → EventsGrow → EachHeldIsAnswers → (terms : Terms) (steps earlier later : List Step) (reader : ℕ) → AreAllowed terms start steps →
    steps ≡ earlier ++ later → IsBehind terms (after_all start steps) ((after_all start earlier).readers reader)
stays held grow each terms steps earlier later reader allowed is =
    let both = parts_allowed earlier later terms start (subst (AreAllowed terms start) is allowed) in
    let middle = after_all start earlier in
    let safe = safe_steps earlier held grow terms start (start_safe each terms) both.0 in
    let end : after_all middle later ≡ after_all start steps = sym (fold-append after start earlier later) ∙ ap (after_all start) (sym is) in
    subst (λ (world : World). IsBehind terms world (middle.readers reader)) end
    (behind_steps later held grow terms middle (middle.readers reader) safe both.1 (safe.readers reader))

-- ---- the law

published_given : (terms : Terms) (world : World) (reader : ℕ) → IsSafe terms world → IsPublished terms world ((after world (Looks reader)).readers reader)
published_given terms world reader safe =
    let mine : (if reader == reader then world.shown else world.readers reader) ≡ world.shown =
    ap (λ (same : Bool). if same then world.shown else world.readers reader) (eq-eqb reader reader refl) in
    subst (IsPublished terms world) (sym mine) (record { position = safe.position; answers = safe.shown })

pub core_safe : HeldStep → EventsGrow → EachHeldIsAnswers → CoreSafe
core_safe held grow each terms steps allowed =
    let safe = safe_steps steps held grow terms start (start_safe each terms) allowed in record {
      world = safe;
      look = λ reader. published_given terms (after_all start steps) reader safe;
      onward = λ earlier later reader is. onward held grow each terms steps earlier later reader allowed is;
      stays = λ earlier later reader is. stays held grow each terms steps earlier later reader allowed is;
    }

-- ---- after a shut

pub shut_is_final : ShutIsFinal
shut_is_final terms world (Appends stream tuple) shut allowed =
    absurd ((may_follow terms.streams terms.cap world.lines (append_line stream tuple) allowed).call.2 shut)
shut_is_final terms world (Ends stream) shut allowed =
    record { appended = no_entry world.lines (record { by = stream; act = EndStream }); fed = refl; blocks = refl; shown = refl }
shut_is_final terms world (Shuts why) shut allowed =
    absurd ((may_follow terms.streams terms.cap world.lines (shut_line why) allowed).call.1 shut)
shut_is_final terms world (Feeds block) shut allowed = absurd (allowed.0 shut)
shut_is_final terms world Publishes shut allowed = absurd (allowed.0 shut)
shut_is_final terms world (Looks reader) shut allowed = record { appended = refl; fed = refl; blocks = refl; shown = refl }

-- ---- steps and calls

pub steps_are_calls : StepsAreCalls
steps_are_calls terms world safe = record {
  appends = λ stream tuple. (
    (λ legal. (may_follow terms.streams terms.cap world.lines (append_line stream tuple) legal).call),
    (λ may. push_legal terms.streams terms.cap world.lines (append_line stream tuple) safe.legal
        (record { tuple = ((λ some. refl), (λ is. refl)); call = may })),
  );
  ends = λ stream. (
    (λ legal. (may_follow terms.streams terms.cap world.lines (end_line stream) legal).call),
    (λ may. push_legal terms.streams terms.cap world.lines (end_line stream) safe.legal
        (record { tuple = no_tuple stream EndStream (λ is. cc); call = may })),
  );
  shuts = λ why. (
    (λ legal. (may_follow terms.streams terms.cap world.lines (shut_line why) legal).call),
    (λ may. push_legal terms.streams terms.cap world.lines (shut_line why) safe.legal
        (record { tuple = no_tuple 0 (Shut why) (λ is. cc); call = may })),
  );
  feeds = λ block at goes. (goes, at);
  looks = λ reader. tt;
  publishes = (
    (λ allowed. (may_follow terms.streams terms.cap world.lines (publish_line world.fed)
        (publish_legal terms world safe allowed.0 allowed.1)).call),
    (λ may. (may.1, subst (λ (number : ℕ). number < world.fed) (sym safe.position) may.2)),
  );
}
