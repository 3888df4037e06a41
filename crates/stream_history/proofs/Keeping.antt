-- What each call keeps.
use Rattle.std.proofs.Common.{◌≡◌, ℕ, ◌<◌, ◌≤◌, ◌==◌, Bool, true, false, not, List, [], ◌∷◌}
use Rattle.std.proofs.Common.{◌++◌, Option, Some, None, length, take, filter, refl, sym, ap, ap₂}
use Rattle.std.proofs.Common.{subst, ◌∙◌, ◌⊎◌, inl, inr, ⊎_elim, arith, append-nil, length-take}
use Rattle.std.specs.Prelude.{Contains}
use Rattle.std.proofs.lemmas.Bool.{false≢true, eqb-true, eq-eqb}
use Rattle.std.specs.List.{All}
use Rattle.std.proofs.lemmas.List.Elements.{Contains-push_cases, All-nil, All-cons, All-append}
use Rattle.std.proofs.lemmas.List.{take-append-le}
use Rattle.rpq_base.specs.Plain.{IsPlain, IsPlainTuple}
use Rattle.rpq_base.specs.declared.data.Tuple.{Tuple}
use Rattle.rpq_base.specs.declared.data.Entry.{Entry}
use Rattle.answer_view.specs.View.{ViewValue, IsViewOf}
use Rattle.history_model.specs.declared.line.Why.{Why}
use Rattle.history_model.specs.declared.line.CallAct.{CallAct}
use Rattle.history_model.specs.declared.line.CallAct.TheVariants.{Append, EndStream, Publish, Shut}
use Rattle.history_model.specs.declared.line.Call.{Call}
use Rattle.history_model.specs.declared.line.Line.{Line}
use Rattle.history_model.specs.Lines.{calls as calls_of, append_line, end_line, publish_line}
use Rattle.history_model.specs.Lines.{shut_line, entries, published, HasEnded, IsShutFor, IsShut}
use Rattle.history_model.specs.Legal.{HasItsTuple}
use Rattle.history_model.specs.Follow.{MayCall}
use Rattle.history_model.specs.Joined.{lines_of}
use Rattle.history_model.specs.LegalLaws.{LegalByLines, LinesAreJoined}
use Rattle.stream_history.specs.Journal.{JournalValue, IsSound, IsOpen, ShowsFront, with_line}
use Rattle.stream_history.specs.Journal.{with_view}
use Rattle.stream_history.specs.Kept.{journal_of, AreOpen, IsReason, IsKept}
use Rattle.stream_history.proofs.Filters.{kept_member, passing_member}
use Rattle.stream_history.proofs.Pushes.{calls_push, entries_push, published_push, called}
use Rattle.stream_history.proofs.Pushes.{still_called, called_before, told_push}

-- ---- the parts

-- lines that have no tuple have none
no_tuple : (by : ℕ) (act : CallAct) → (act ≡ Append → ⊥) →
    HasItsTuple (record { call = record { by = by; act = act }; tuple = None })
no_tuple by act other = ((λ is. absurd (false≢true is)), (λ is. absurd (other is)))

-- a line that ends no stream leaves the open ones
still_open : (streams : ℕ) (lines : List Line) (line : Line) (open_streams : List ℕ) →
    (line.call.act ≡ EndStream → ⊥) →
    AreOpen streams lines open_streams → AreOpen streams (lines ++ line ∷ []) open_streams
still_open streams lines line open_streams other are = record {
  going = λ stream has. let old = are.going stream has in (
    old.0,
    (λ ended. old.1 (called_before lines line (record { by = stream; act = EndStream })
        (λ is. other (ap (λ (call : Call). call.act) is)) ended)),
  );
  others = λ stream is. ⊎_elim
      (λ ended. inl (still_called lines line (record { by = stream; act = EndStream }) ended))
      (λ has. inr has)
      (are.others stream is);
}

-- a line that doesn't shut leaves the reason
still_reason : (lines : List Line) (line : Line) (reason : Option Why) →
    ((why : Why) → line.call.act ≡ Shut why → ⊥) →
    IsReason lines reason → IsReason (lines ++ line ∷ []) reason
still_reason lines line reason other is why = (
  (λ said. still_called lines line (record { by = 0; act = Shut why }) ((is why).0 said)),
  (λ shut. (is why).1 (called_before lines line (record { by = 0; act = Shut why })
      (λ same. other why (ap (λ (call : Call). call.act) same)) shut)),
)

-- a view's position is at most that of the entries
pub view_there : (journal : JournalValue) → IsSound journal →
    journal.view.position ≤ length (entries journal.lines)
view_there journal sound =
    omega (arith, sound.view.position, length-take journal.view.position (entries journal.lines))

-- a view over the first entries is so with more lines
pub still_shows : (journal : JournalValue) (line : Line) (view : ViewValue) →
    view.position ≤ length (entries journal.lines) →
    ShowsFront journal.terms.queries (entries journal.lines) view →
    ShowsFront journal.terms.queries (entries (journal.lines ++ line ∷ [])) view
still_shows journal line view below shows =
    let same : take view.position (entries (journal.lines ++ line ∷ [])) ≡ take view.position
    (entries journal.lines) =
    ap (take view.position) (entries_push journal.lines line) ∙ take-append-le view.position
    (entries journal.lines) (entries (line ∷ [])) below in
    subst (λ (front : List Entry). IsViewOf journal.terms.queries front view) (sym same) shows

-- ---- all of them

-- what a call that adds this line leaves
pub record Adds (journal later : JournalValue) (calls : List Call) (told : List Entry)
    (base : ℕ) (open_streams : List ℕ) (reason : Option Why) : Type 0 where
  pub kept : IsKept (journal_of journal.terms calls told base later.view) calls told open_streams
      reason
  pub is : journal_of journal.terms calls told base later.view ≡ later
  pub sound : IsSound later

-- a sound journal with one line more is kept as before and its call
adds : LinesAreJoined →
    (journal : JournalValue) (line : Line) (view : ViewValue) (calls : List Call)
    (told : List Entry)
    (new_calls : List Call) (new_told : List Entry) (new_base : ℕ) (open_streams : List ℕ)
    (reason : Option Why) →
    journal.lines ≡ lines_of calls told → entries journal.lines ≡ told →
    new_calls ≡ calls ++ line.call ∷ [] → new_told ≡ told ++ entries (line ∷ []) →
    new_base ≡ journal.base →
    IsSound (record (with_line journal line) { view = view }) →
    AreOpen journal.terms.streams (journal.lines ++ line ∷ []) open_streams →
    IsReason (journal.lines ++ line ∷ []) reason →
    Adds journal (record (with_line journal line) { view = view }) new_calls new_told new_base
    open_streams reason
adds law journal line view calls told new_calls new_told new_base open_streams reason lines_are
    told_are calls_is told_is base_is sound open_are reason_is =
    let later : JournalValue = record (with_line journal line) { view = view } in
    let whole : lines_of new_calls new_told ≡ later.lines =
    ap₂ lines_of calls_is told_is
    ∙ sym (told_push law journal.terms.streams journal.terms.cap journal.lines calls told line
    lines_are told_are sound.legal) in
    let is : journal_of journal.terms new_calls new_told new_base view ≡ later =
    ap₂ (λ (lines : List Line) (base : ℕ). record {
      terms = journal.terms;
      lines = lines;
      base = base;
      view = view;
    }) whole base_is in
    let has : entries later.lines ≡ new_told =
    entries_push journal.lines line
    ∙ (ap (λ (all : List Entry). all ++ entries (line ∷ [])) told_are ∙ sym told_is) in
    let kept : IsKept later new_calls new_told open_streams reason = record {
      sound = sound;
      lines = sym whole;
      appended = has;
      going = open_are;
      shut = reason_is;
    } in
    record {
      kept = subst (λ (each : JournalValue). IsKept each new_calls new_told open_streams reason)
          (sym is) kept;
      is = is;
      sound = sound;
    }

-- a line that may follow, with the view that is published after it
grows : LegalByLines → (journal : JournalValue) (line : Line) (view : ViewValue) → IsSound journal →
    HasItsTuple line →
    MayCall journal.terms.streams journal.terms.cap journal.lines line.call.by line.call.act →
    view.position ≡ published (journal.lines ++ line ∷ []) →
    view.position ≤ length (entries journal.lines) →
    ShowsFront journal.terms.queries (entries journal.lines) view →
    All IsPlain (entries (line ∷ [])) →
    IsSound (record (with_line journal line) { view = view })
grows law journal line view sound has may position below shows plain = record {
  terms = sound.terms;
  legal = (law.next journal.terms.streams journal.terms.cap journal.lines line).1
      (sound.legal, record { tuple = has; call = may });
  plain = subst (λ (all : List Entry). All IsPlain all) (sym (entries_push journal.lines line))
      (All-append IsPlain (entries journal.lines) (entries (line ∷ [])) sound.plain plain);
  position = position;
  view = still_shows journal line view below shows;
  whole = sound.whole;
}

-- nothing is shut where there is no reason
pub goes_on : (lines : List Line) (reason : Option Why) → IsReason lines reason → reason ≡ None →
    IsShut lines → ⊥
goes_on lines reason is none shut = let said = sym none ∙ (is shut.0).1 shut.1 in cc

-- ---- the calls

pub append_adds : LegalByLines → LinesAreJoined →
    (journal : JournalValue) (calls new_calls : List Call) (told new_told : List Entry)
    (new_base : ℕ) (open_streams : List ℕ) (reason : Option Why) (stream : ℕ) (tuple : Tuple) →
    IsKept journal calls told open_streams reason → IsOpen journal stream → IsPlainTuple tuple →
    reason ≡ None →
    length told < journal.terms.cap →
    new_calls ≡ calls ++ record { by = stream; act = Append } ∷ [] →
    new_told ≡ told ++ record { stream = stream; tuple = tuple } ∷ [] →
    new_base ≡ journal.base →
    Adds journal (with_line journal (append_line stream tuple)) new_calls new_told new_base
    open_streams reason
append_adds by_lines joined journal calls new_calls told new_told new_base open_streams reason
    stream tuple kept still plain none short calls_is told_is base_is =
    let line : Line = append_line stream tuple in
    let going = goes_on journal.lines reason kept.shut none in
    let below : length (entries journal.lines) < journal.terms.cap =
    omega (arith, short, ap length kept.appended) in
    adds joined journal line journal.view calls told new_calls new_told new_base open_streams reason
    kept.lines kept.appended calls_is told_is base_is
    (grows by_lines journal line journal.view kept.sound ((λ is. refl), (λ is. refl))
    (still.is, still.goes_on, going, below)
    (kept.sound.position ∙ sym (published_push journal.lines line)) (view_there journal kept.sound)
    kept.sound.view
    (All-cons IsPlain (record { stream = stream; tuple = tuple }) [] plain (All-nil IsPlain)))
    (still_open journal.terms.streams journal.lines line open_streams (λ is. cc) kept.going)
    (still_reason journal.lines line reason (λ why is. cc) kept.shut)

pub publish_adds : LegalByLines → LinesAreJoined →
    (journal : JournalValue) (calls new_calls : List Call) (told : List Entry)
    (open_streams : List ℕ) (reason : Option Why) (view : ViewValue) →
    IsKept journal calls told open_streams reason → (IsShut journal.lines → ⊥) →
    journal.view.position < view.position →
    view.position ≤ length (entries journal.lines) →
    ShowsFront journal.terms.queries (entries journal.lines) view →
    new_calls ≡ calls ++ record { by = 0; act = Publish view.position } ∷ [] →
    Adds journal (with_view journal view) new_calls told journal.base open_streams reason
publish_adds by_lines joined journal calls new_calls told open_streams reason view kept going above
    below shows calls_is =
    let line : Line = publish_line view.position in
    let rises : published journal.lines < view.position =
    omega (arith, above, kept.sound.position) in
    adds joined journal line view calls told new_calls told journal.base open_streams reason
    kept.lines kept.appended calls_is (sym (append-nil told)) refl
    (grows by_lines journal line view kept.sound (no_tuple 0 (Publish view.position) (λ is. cc))
    (refl, going, rises, below)
    (sym (published_push journal.lines line)) below shows (All-nil IsPlain))
    (still_open journal.terms.streams journal.lines line open_streams (λ is. cc) kept.going)
    (still_reason journal.lines line reason (λ why is. cc) kept.shut)

-- a shut that is there is the new one
shut_said : (lines : List Line) (why other : Why) → (IsShut lines → ⊥) →
    IsShutFor (lines ++ shut_line why ∷ []) other → Some why ≡ Some other
shut_said lines why other going shut =
    let call : Call = record { by = 0; act = Shut other } in
    ⊎_elim (λ old. absurd (going (other, old)))
    (λ is. let same : Shut why ≡ Shut other = ap (λ (each : Call). each.act) is in
    let reason : why ≡ other = cc in ap Some reason)
    (Contains-push_cases (calls_of lines) (record { by = 0; act = Shut why }) call
    (subst (λ (all : List Call). Contains all call) (calls_push lines (shut_line why)) shut))

-- the reason of a shut
shut_reason : (lines : List Line) (why : Why) → (IsShut lines → ⊥) →
    IsReason (lines ++ shut_line why ∷ []) (Some why)
shut_reason lines why going other = (
  (λ said. let same : why ≡ other = cc in
      subst (IsShutFor (lines ++ shut_line why ∷ [])) same (called lines (shut_line why))),
  (λ shut. shut_said lines why other going shut),
)

pub shut_adds : LegalByLines → LinesAreJoined →
    (journal : JournalValue) (calls new_calls : List Call) (told : List Entry)
    (open_streams : List ℕ) (reason : Option Why) (why : Why) →
    IsKept journal calls told open_streams reason → (IsShut journal.lines → ⊥) →
    new_calls ≡ calls ++ record { by = 0; act = Shut why } ∷ [] →
    Adds journal (with_line journal (shut_line why)) new_calls told journal.base open_streams
    (Some why)
shut_adds by_lines joined journal calls new_calls told open_streams reason why kept going calls_is =
    let line : Line = shut_line why in
    adds joined journal line journal.view calls told new_calls told journal.base open_streams
    (Some why) kept.lines kept.appended calls_is (sym (append-nil told)) refl
    (grows by_lines journal line journal.view kept.sound (no_tuple 0 (Shut why) (λ is. cc))
    (refl, going)
    (kept.sound.position ∙ sym (published_push journal.lines line)) (view_there journal kept.sound)
    kept.sound.view (All-nil IsPlain))
    (still_open journal.terms.streams journal.lines line open_streams (λ is. cc) kept.going)
    (shut_reason journal.lines why going)

-- ---- the end of a stream

-- the test of the streams that stay open
abbrev pub is_other : ℕ → ℕ → Bool
is_other stream each = not (each == stream)

-- a stream that stays isn't this one
not_other : (stream each : ℕ) → stream ≡ each → is_other stream each ≡ true → ⊥
not_other stream each same other =
    let is : (each == stream) ≡ true = eq-eqb each stream (sym same) in
    absurd (false≢true (sym (ap not is) ∙ other))

-- an open stream is the one that ends, or another
ended_or_not : (streams : ℕ) (lines : List Line) (stream each : ℕ) (open_streams : List ℕ) →
    Contains open_streams each → (b : Bool) → (each == stream) ≡ b →
    HasEnded (lines ++ end_line stream ∷ []) each ⊎ Contains (filter (is_other stream) open_streams)
    each
ended_or_not streams lines stream each open_streams has true is =
    inl (subst (HasEnded (lines ++ end_line stream ∷ [])) (sym (eqb-true each stream is))
    (called lines (end_line stream)))
ended_or_not streams lines stream each open_streams has false is =
    inr (passing_member (is_other stream) open_streams each (ap not is) has)

-- the open streams after an end
one_ended : (streams : ℕ) (lines : List Line) (stream : ℕ) (open_streams : List ℕ) →
    AreOpen streams lines open_streams →
    AreOpen streams (lines ++ end_line stream ∷ []) (filter (is_other stream) open_streams)
one_ended streams lines stream open_streams are = record {
  going = λ each has.
      let member = kept_member (is_other stream) open_streams each has in
      let old = are.going each member.0 in (
        old.0,
        (λ ended. old.1
            (called_before lines (end_line stream) (record { by = each; act = EndStream })
            (λ is. not_other stream each (ap (λ (call : Call). call.by) is) member.1) ended)),
      );
  others = λ each is. ⊎_elim
      (λ ended. inl (still_called lines (end_line stream) (record { by = each; act = EndStream })
      ended))
      (λ has. ended_or_not streams lines stream each open_streams has (each == stream) refl)
      (are.others each is);
}

pub end_adds : LegalByLines → LinesAreJoined →
    (journal : JournalValue) (calls new_calls : List Call) (told : List Entry)
    (open_streams new_open : List ℕ) (reason : Option Why) (stream : ℕ) →
    IsKept journal calls told open_streams reason → IsOpen journal stream →
    new_calls ≡ calls ++ record { by = stream; act = EndStream } ∷ [] →
    new_open ≡ filter (is_other stream) open_streams →
    Adds journal (with_line journal (end_line stream)) new_calls told journal.base new_open reason
end_adds by_lines joined journal calls new_calls told open_streams new_open reason stream kept still
    calls_is open_is =
    let line : Line = end_line stream in
    adds joined journal line journal.view calls told new_calls told journal.base new_open reason
    kept.lines kept.appended calls_is (sym (append-nil told)) refl
    (grows by_lines journal line journal.view kept.sound (no_tuple stream EndStream (λ is. cc))
    (still.is, still.goes_on)
    (kept.sound.position ∙ sym (published_push journal.lines line)) (view_there journal kept.sound)
    kept.sound.view (All-nil IsPlain))
    (subst (AreOpen journal.terms.streams (journal.lines ++ line ∷ [])) (sym open_is)
    (one_ended journal.terms.streams journal.lines stream open_streams kept.going))
    (still_reason journal.lines line reason (λ why is. cc) kept.shut)
