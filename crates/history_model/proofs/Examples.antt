-- Some lists of lines that are legal, by a test that goes line by line, and some that are not.
use Rattle.std.proofs.Common.{◌≡◌, ℕ, ◌<◌, ◌≤◌, ◌==◌, nat_le, nat_lt, Bool, true, false, not, ◌&&◌, List, [], ◌∷◌, ◌++◌, Option, Some, None, length, take, refl, sym, ap, subst, ◌∙◌, ◌⊎◌, inl, inr, ⊎_elim, arith, append-nil, append_assoc}
use Rattle.std.specs.Prelude.{Contains}
use Rattle.std.specs.List.{list_any}
use Rattle.std.proofs.lemmas.Bool.{false≢true, both_ways, and_parts, not-true, leb-true, ltb-true, eqb-true, eq-eqb, cases_eq}
use Rattle.std.proofs.lemmas.List.Folds.{list_any_at}
use Rattle.rpq_base.specs.declared.data.Tuple.{Tuple}
use Rattle.history_model.specs.declared.line.Why.TheVariants.{Write, Memory}
use Rattle.history_model.specs.declared.line.CallAct.{CallAct}
use Rattle.history_model.specs.declared.line.CallAct.TheVariants.{Append, EndStream, Publish, Shut}
use Rattle.history_model.specs.declared.line.Call.{Call}
use Rattle.history_model.specs.declared.line.Line.{Line}
use Rattle.history_model.specs.Lines.{publish_line, calls, entries, published, IsStream, HasEnded, AllEnded, IsShut}
use Rattle.history_model.specs.Legal.{HasItsTuple, IsLegal}
use Rattle.history_model.specs.Follow.{MayCall, MayFollow}
use Rattle.history_model.specs.Examples.{LineExamples, LegalExamples, some_lines, some_append, any_line}
use Rattle.history_model.proofs.ByLines.{none_legal, push_legal}

-- ---- the test

abbrev is_append : CallAct → Bool
is_append Append = true
is_append EndStream = false
is_append (Publish number) = false
is_append (Shut why) = false

abbrev is_end : CallAct → Bool
is_end Append = false
is_end EndStream = true
is_end (Publish number) = false
is_end (Shut why) = false

abbrev is_shut : CallAct → Bool
is_shut Append = false
is_shut EndStream = false
is_shut (Publish number) = false
is_shut (Shut why) = true

-- the stream hasn't ended
abbrev open_test : List Line → ℕ → Bool
open_test lines stream = not (list_any (λ call. call.by == stream && is_end call.act) (calls lines))

-- nothing is shut
abbrev going_test : List Line → Bool
going_test lines = not (list_any (λ call. is_shut call.act) (calls lines))

abbrev stream_test : ℕ → ℕ → Bool
stream_test streams number = nat_le 1 number && nat_le number streams

abbrev call_test : ℕ → ℕ → List Line → ℕ → CallAct → Bool
call_test streams cap lines by Append = (stream_test streams by && open_test lines by) && (going_test lines && nat_lt (length (entries lines)) cap)
call_test streams cap lines by EndStream = stream_test streams by && open_test lines by
call_test streams cap lines by (Publish number) =
    (by == 0 && going_test lines) && (nat_lt (published lines) number && nat_le number (length (entries lines)))
call_test streams cap lines by (Shut why) = by == 0 && going_test lines

-- a tuple for an append alone
abbrev tuple_test : Option Tuple → CallAct → Bool
tuple_test None act = not (is_append act)
tuple_test (Some tuple) act = is_append act

abbrev pub legal_test : List Line → ℕ → ℕ → List Line → Bool
legal_test [] streams cap before = true
legal_test (line ∷ later) streams cap before =
    (tuple_test line.tuple line.call.act && call_test streams cap before line.call.by line.call.act) && legal_test later streams cap (before ++ line ∷ [])

-- ---- what passes it

append_is : (act : CallAct) → is_append act ≡ true → act ≡ Append
append_is Append passes = refl
append_is EndStream passes = absurd (false≢true passes)
append_is (Publish number) passes = absurd (false≢true passes)
append_is (Shut why) passes = absurd (false≢true passes)

has_tuple : (by : ℕ) (act : CallAct) (tuple : Option Tuple) → tuple_test tuple act ≡ true →
    HasItsTuple (record { call = record { by = by; act = act }; tuple = tuple })
has_tuple by act None passes = (
  (λ some. absurd (false≢true some)),
  (λ is. absurd (both_ways (is_append act) (not-true (is_append act) passes) (ap is_append is))),
)
has_tuple by act (Some tuple) passes = ((λ some. append_is act passes), (λ is. refl))

is_open : (lines : List Line) (stream : ℕ) → open_test lines stream ≡ true → HasEnded lines stream → ⊥
is_open lines stream passes ended =
    let test : Call → Bool = λ call. call.by == stream && is_end call.act in
    let end : Call = record { by = stream; act = EndStream } in
    let found : test end ≡ true = ap (λ (same : Bool). same && true) (eq-eqb stream stream refl) in
    both_ways (list_any test (calls lines)) (not-true (list_any test (calls lines)) passes)
    (list_any_at test (calls lines) ended.0 end ended.1 (ap test ended.2 ∙ found))

pub is_going : (lines : List Line) → going_test lines ≡ true → IsShut lines → ⊥
is_going lines passes shut =
    let test : Call → Bool = λ call. is_shut call.act in
    let call : Call = record { by = 0; act = Shut shut.0 } in
    both_ways (list_any test (calls lines)) (not-true (list_any test (calls lines)) passes)
    (list_any_at test (calls lines) shut.1.0 call shut.1.1 (ap test shut.1.2))

is_stream : (streams number : ℕ) → stream_test streams number ≡ true → IsStream streams number
is_stream streams number passes =
    let both = and_parts (nat_le 1 number) (nat_le number streams) passes in
    (leb-true 1 number both.0, leb-true number streams both.1)

may_call : (streams cap : ℕ) (lines : List Line) (by : ℕ) (act : CallAct) → call_test streams cap lines by act ≡ true → MayCall streams cap lines by act
may_call streams cap lines by Append passes =
    let both = and_parts (stream_test streams by && open_test lines by) (going_test lines && nat_lt (length (entries lines)) cap) passes in
    let first = and_parts (stream_test streams by) (open_test lines by) both.0 in
    let second = and_parts (going_test lines) (nat_lt (length (entries lines)) cap) both.1 in
    (is_stream streams by first.0, is_open lines by first.1, is_going lines second.0, ltb-true (length (entries lines)) cap second.1)
may_call streams cap lines by EndStream passes =
    let both = and_parts (stream_test streams by) (open_test lines by) passes in
    (is_stream streams by both.0, is_open lines by both.1)
may_call streams cap lines by (Publish number) passes =
    let both = and_parts (by == 0 && going_test lines) (nat_lt (published lines) number && nat_le number (length (entries lines))) passes in
    let first = and_parts (by == 0) (going_test lines) both.0 in
    let second = and_parts (nat_lt (published lines) number) (nat_le number (length (entries lines))) both.1 in
    (eqb-true by 0 first.0, is_going lines first.1, ltb-true (published lines) number second.0, leb-true number (length (entries lines)) second.1)
may_call streams cap lines by (Shut why) passes =
    let both = and_parts (by == 0) (going_test lines) passes in
    (eqb-true by 0 both.0, is_going lines both.1)

-- lines that pass after legal ones are legal with them
pass_legal : (later : List Line) (streams cap : ℕ) (before : List Line) → IsLegal streams cap before → legal_test later streams cap before ≡ true →
    IsLegal streams cap (before ++ later)
pass_legal [] streams cap before legal passes = subst (IsLegal streams cap) (sym (append-nil before)) legal
pass_legal (line ∷ later) streams cap before legal passes =
    let here = tuple_test line.tuple line.call.act && call_test streams cap before line.call.by line.call.act in
    let both = and_parts here (legal_test later streams cap (before ++ line ∷ [])) passes in
    let first = and_parts (tuple_test line.tuple line.call.act) (call_test streams cap before line.call.by line.call.act) both.0 in
    let may : MayFollow streams cap before line = record {
      tuple = has_tuple line.call.by line.call.act line.tuple first.0;
      call = may_call streams cap before line.call.by line.call.act first.1;
    } in
    subst (IsLegal streams cap) (append_assoc before (line ∷ []) later)
    (pass_legal later streams cap (before ++ line ∷ []) (push_legal streams cap before line legal may) both.1)

pub legal_from_test : (streams cap : ℕ) (lines : List Line) → legal_test lines streams cap [] ≡ true → IsLegal streams cap lines
legal_from_test streams cap lines passes = pass_legal lines streams cap [] (none_legal streams cap) passes

-- ---- what some lines say

-- one of two streams
first_or_second : (stream : ℕ) → IsStream 2 stream → (stream ≡ 1) ⊎ (stream ≡ 2)
first_or_second stream is = ⊎_elim (λ same. inl same) (λ other. inr (omega (arith, is.0, is.1, other))) (cases_eq stream 1)

all_ended : AllEnded 2 some_lines
all_ended stream is = ⊎_elim
    (λ first. subst (HasEnded some_lines) (sym first) (2, omega arith, refl))
    (λ second. subst (HasEnded some_lines) (sym second) (6, omega arith, refl))
    (first_or_second stream is)

other_call : (lines : List Line) (call : Call) (test : Call → Bool) → test call ≡ true → list_any test (calls lines) ≡ false → Contains (calls lines) call → ⊥
other_call lines call test passes none member =
    both_ways (list_any test (calls lines)) none (list_any_at test (calls lines) member.0 call member.1 (ap test member.2 ∙ passes))

-- a shut because memory ran out
abbrev is_memory : CallAct → Bool
is_memory Append = false
is_memory EndStream = false
is_memory (Publish number) = false
is_memory (Shut Write) = false
is_memory (Shut Memory) = true

pub line_examples : LineExamples
line_examples = record {
  both = refl;
  own = refl;
  last = refl;
  first = refl;
  none = refl;
  ended = all_ended;
  one_ended = (2, omega arith, refl);
  one_open = is_open (take 6 some_lines) 2 refl;
  shut = (5, omega arith, refl);
  other_reason = other_call some_lines (record { by = 0; act = Shut Memory }) (λ call. is_memory call.act) refl refl;
  not_shut = is_going (take 5 some_lines) refl;
}

-- ---- which lists are legal

-- a publish of a legal list, by the lines in front of it
publish_in : (streams cap : ℕ) (before after : List Line) (number : ℕ) → IsLegal streams cap (before ++ publish_line number ∷ after) →
    (published before < number) × (number ≤ length (entries before))
publish_in streams cap before after number legal = legal.publishes before after (publish_line number) number refl refl

pub legal_examples : LegalExamples
legal_examples = record {
  whole = legal_from_test 2 2 some_lines refl;
  append_by_none = λ legal. let caller = legal.callers 0 (record { by = 0; act = Append }) (omega arith) in absurd (omega (arith, caller.0));
  append_by_third = λ legal. let caller = legal.callers 0 (record { by = 0; act = Append }) (omega arith) in absurd (omega (arith, caller.1));
  end_by_none = λ legal. let caller = legal.callers 0 (record { by = 0; act = Append }) (omega arith) in absurd (omega (arith, caller.0));
  end_by_third = λ legal. let caller = legal.callers 0 (record { by = 0; act = Append }) (omega arith) in absurd (omega (arith, caller.1));
  publish_by_stream = λ legal. let caller = legal.callers 1 (record { by = 0; act = Append }) (omega arith) in absurd (omega (arith, caller));
  shut_by_stream = λ legal. let caller = legal.callers 0 (record { by = 0; act = Append }) (omega arith) in absurd (omega (arith, caller));
  append_without_tuple = λ legal. let has = legal.tuples 0 (any_line 1 Append None) (omega arith) in false≢true (has.1 refl);
  end_with_tuple = λ legal. let has = legal.tuples 0 (any_line 1 Append None) (omega arith) in let is = has.0 refl in cc;
  append_after_end = λ legal. (legal.ended 0 1 (record { by = 0; act = Append }) (omega arith) (omega arith) refl refl).0 refl;
  second_end = λ legal. (legal.ended 0 2 (record { by = 0; act = Append }) (omega arith) (omega arith) refl refl).1 refl;
  append_after_shut = λ legal. let is = legal.shut 0 1 (record { by = 0; act = Append }) (omega arith) (omega arith) Write refl in cc;
  publish_after_shut = λ legal. let is = legal.shut 1 2 (record { by = 0; act = Append }) (omega arith) (omega arith) Memory refl in cc;
  second_shut = λ legal. let is = legal.shut 0 2 (record { by = 0; act = Append }) (omega arith) (omega arith) Write refl in cc;
  third_entry = λ legal. absurd (omega (arith, legal.capped));
  publish_of_nothing = λ legal. absurd (omega (arith, (publish_in 2 2 (some_append 1 ∷ []) [] 0 legal).0));
  publish_ahead = λ legal. absurd (omega (arith, (publish_in 2 2 (some_append 1 ∷ []) [] 2 legal).1));
  publish_twice = λ legal. absurd (omega (arith, (publish_in 2 2 (some_append 1 ∷ publish_line 1 ∷ []) [] 1 legal).0));
  publish_behind = λ legal. absurd (omega (arith, (publish_in 2 2 (some_append 1 ∷ some_append 2 ∷ publish_line 2 ∷ []) [] 1 legal).0));
}
