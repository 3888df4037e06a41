-- Legality, line by line.
use Rattle.std.proofs.Common.{◌≡◌, ◌≢◌, ℕ, ◌+◌, ◌<◌, ◌≤◌, List, [], ◌∷◌, ◌++◌, Option, Some, None, length, get_or, refl, sym, ap, subst, ◌∙◌, ⊎_elim, arith, append-nil, append_assoc, length-append, unwrap_or}
use Rattle.std.proofs.lemmas.Bool.{false≢true}
use Rattle.std.specs.Prelude.{All, AllPairs}
use Rattle.std.proofs.lemmas.List.{map-append, length_push, get_or_default}
use Rattle.std.proofs.lemmas.List.Elements.{All-nil, All-push, All-get_or, filter_map-append}
use Rattle.std.proofs.lemmas.List.Quantifiers.{all_pairs_push}
use Rattle.std.proofs.lemmas.List.Sums.{fold_push}
use Rattle.rpq_base.specs.declared.data.Tuple.{Tuple}
use Rattle.history_model.specs.declared.line.Why.{Why}
use Rattle.history_model.specs.declared.line.CallAct.{CallAct}
use Rattle.history_model.specs.declared.line.CallAct.TheVariants.{Append, EndStream, Publish, Shut}
use Rattle.history_model.specs.declared.line.Call.{Call}
use Rattle.history_model.specs.declared.line.Line.{Line}
use Rattle.history_model.specs.Lines.{calls, entry_of, entries, number_of, published, HasEnded, IsShut}
use Rattle.history_model.specs.Legal.{HasItsTuple, IsCaller, StaysEnded, StaysShut, PublishesRise, IsLegal}
use Rattle.history_model.specs.Follow.{MayCall, MayFollow}
use Rattle.history_model.specs.LegalLaws.{LegalByLines}
use Rattle.history_model.proofs.Pushes.{all_front, all_last, pairs_front, pairs_last, cut_has_one, cut_of_push}

-- ---- what one line more says

pub calls_push : (lines : List Line) (line : Line) → calls (lines ++ line ∷ []) ≡ calls lines ++ line.call ∷ []
calls_push lines line = map-append (λ (each : Line). each.call) lines (line ∷ [])

pub entries_push : (lines : List Line) (line : Line) → entries (lines ++ line ∷ []) ≡ entries lines ++ entries (line ∷ [])
entries_push lines line = filter_map-append entry_of lines (line ∷ [])

pub published_push : (lines : List Line) (line : Line) → published (lines ++ line ∷ []) ≡ unwrap_or (number_of line.call.act) (published lines)
published_push lines line = fold_push (λ (before : ℕ) (each : Line). unwrap_or (number_of each.call.act) before) 0 lines line

-- a line without a tuple adds no entry
pub no_entry : (lines : List Line) (call : Call) → entries (lines ++ record { call = call; tuple = None } ∷ []) ≡ entries lines
no_entry lines call = entries_push lines (record { call = call; tuple = None }) ∙ append-nil (entries lines)

-- and one with a tuple adds one
pub one_entry : (lines : List Line) (call : Call) (tuple : Tuple) →
    entries (lines ++ record { call = call; tuple = Some tuple } ∷ []) ≡ entries lines ++ record { stream = call.by; tuple = tuple } ∷ []
one_entry lines call tuple = entries_push lines (record { call = call; tuple = Some tuple })

-- ---- legal lines with one more: they are legal, and it may follow them

pub front_legal : (streams cap : ℕ) (lines : List Line) (line : Line) → IsLegal streams cap (lines ++ line ∷ []) → IsLegal streams cap lines
front_legal streams cap lines line legal = record {
  tuples = all_front HasItsTuple lines line legal.tuples;
  callers = all_front (λ call. IsCaller streams call.by call.act) (calls lines) line.call
      (subst (All (λ call. IsCaller streams call.by call.act)) (calls_push lines line) legal.callers);
  ended = pairs_front StaysEnded (calls lines) line.call (subst (AllPairs StaysEnded) (calls_push lines line) legal.ended);
  shut = pairs_front StaysShut (calls lines) line.call (subst (AllPairs StaysShut) (calls_push lines line) legal.shut);
  capped = omega (arith, legal.capped, ap length (entries_push lines line), length-append (entries lines) (entries (line ∷ [])));
  publishes = λ before after each number is acts. legal.publishes before (after ++ line ∷ []) each number
      (ap (λ (front : List Line). front ++ line ∷ []) is ∙ append_assoc before (each ∷ after) (line ∷ [])) acts;
}

-- a stream that has ended calls no more
no_end : (streams cap : ℕ) (lines : List Line) (line : Line) → IsLegal streams cap (lines ++ line ∷ []) → HasEnded lines line.call.by →
    (line.call.act ≢ Append) × (line.call.act ≢ EndStream)
no_end streams cap lines line legal ended =
    let end : Call = record { by = line.call.by; act = EndStream } in
    let ties = pairs_last StaysEnded (calls lines) line.call (subst (AllPairs StaysEnded) (calls_push lines line) legal.ended) ended.0 end ended.1 in
    subst (λ (earlier : Call). StaysEnded earlier line.call) ended.2 ties refl refl

-- after a shut streams end
pub only_ends : (streams cap : ℕ) (lines : List Line) (line : Line) → IsLegal streams cap (lines ++ line ∷ []) → IsShut lines → line.call.act ≡ EndStream
only_ends streams cap lines line legal shut =
    let call : Call = record { by = 0; act = Shut shut.0 } in
    let ties = pairs_last StaysShut (calls lines) line.call (subst (AllPairs StaysShut) (calls_push lines line) legal.shut) shut.1.0 call shut.1.1 in
    subst (λ (earlier : Call). StaysShut earlier line.call) shut.1.2 ties shut.0 refl

caller_of : (streams cap : ℕ) (lines : List Line) (line : Line) → IsLegal streams cap (lines ++ line ∷ []) → IsCaller streams line.call.by line.call.act
caller_of streams cap lines line legal =
    all_last (λ call. IsCaller streams call.by call.act) (calls lines) line.call
    (subst (All (λ call. IsCaller streams call.by call.act)) (calls_push lines line) legal.callers)

-- an append of legal lines leaves room before it
room : (streams cap by : ℕ) (lines : List Line) (tuple : Option Tuple) →
    IsLegal streams cap (lines ++ record { call = record { by = by; act = Append }; tuple = tuple } ∷ []) → length (entries lines) < cap
room streams cap by lines None legal =
    let has = all_last HasItsTuple lines (record { call = record { by = by; act = Append }; tuple = None }) legal.tuples in
    absurd (false≢true (has.1 refl))
room streams cap by lines (Some tuple) legal =
    omega (arith, legal.capped, ap length (one_entry lines (record { by = by; act = Append }) tuple), length_push (entries lines) (record { stream = by; tuple = tuple }))

may_call : (streams cap : ℕ) (lines : List Line) (by : ℕ) (act : CallAct) (tuple : Option Tuple) →
    IsLegal streams cap (lines ++ record { call = record { by = by; act = act }; tuple = tuple } ∷ []) → MayCall streams cap lines by act
may_call streams cap lines by Append tuple legal =
    let line : Line = record { call = record { by = by; act = Append }; tuple = tuple } in (
      caller_of streams cap lines line legal,
      (λ ended. (no_end streams cap lines line legal ended).0 refl),
      (λ shut. let is = only_ends streams cap lines line legal shut in cc),
      room streams cap by lines tuple legal,
    )
may_call streams cap lines by EndStream tuple legal =
    let line : Line = record { call = record { by = by; act = EndStream }; tuple = tuple } in (
      caller_of streams cap lines line legal,
      (λ ended. (no_end streams cap lines line legal ended).1 refl),
    )
may_call streams cap lines by (Publish number) tuple legal =
    let line : Line = record { call = record { by = by; act = Publish number }; tuple = tuple } in
    let rises = legal.publishes lines [] line number refl refl in (
      caller_of streams cap lines line legal,
      (λ shut. let is = only_ends streams cap lines line legal shut in cc),
      rises.0,
      rises.1,
    )
may_call streams cap lines by (Shut why) tuple legal =
    let line : Line = record { call = record { by = by; act = Shut why }; tuple = tuple } in (
      caller_of streams cap lines line legal,
      (λ shut. let is = only_ends streams cap lines line legal shut in cc),
    )

pub may_follow : (streams cap : ℕ) (lines : List Line) (line : Line) → IsLegal streams cap (lines ++ line ∷ []) → MayFollow streams cap lines line
may_follow streams cap lines line legal = record {
  tuple = all_last HasItsTuple lines line legal.tuples;
  call = may_call streams cap lines line.call.by line.call.act line.tuple legal;
}

-- ---- legal lines and one that may follow them: together they are legal

may_caller : (streams cap : ℕ) (lines : List Line) (by : ℕ) (act : CallAct) → MayCall streams cap lines by act → IsCaller streams by act
may_caller streams cap lines by Append may = may.0
may_caller streams cap lines by EndStream may = may.0
may_caller streams cap lines by (Publish number) may = may.0
may_caller streams cap lines by (Shut why) may = may.0

-- an earlier end of the stream is one of the calls
has_ended : (lines : List Line) (k : ℕ) (d : Call) (by : ℕ) → k < length (calls lines) →
    (get_or (calls lines) k d).act ≡ EndStream → by ≡ (get_or (calls lines) k d).by → HasEnded lines by
has_ended lines k d by below act same =
    let end : Call = record { by = by; act = EndStream } in
    (k, below, get_or_default (calls lines) k end d below ∙ (λ i. record { by = sym same i; act = act i }))

stays_ended : (streams cap : ℕ) (lines : List Line) (by : ℕ) (act : CallAct) → MayCall streams cap lines by act →
    (k : ℕ) (d : Call) → k < length (calls lines) → StaysEnded (get_or (calls lines) k d) (record { by = by; act = act })
stays_ended streams cap lines by Append may k d below ends same = absurd (may.1 (has_ended lines k d by below ends same))
stays_ended streams cap lines by EndStream may k d below ends same = absurd (may.1 (has_ended lines k d by below ends same))
stays_ended streams cap lines by (Publish number) may k d below ends same = ((λ is. cc), (λ is. cc))
stays_ended streams cap lines by (Shut why) may k d below ends same = ((λ is. cc), (λ is. cc))

-- an earlier shut is by the engine
has_shut : (streams : ℕ) (lines : List Line) (k : ℕ) (d : Call) (why : Why) → All (λ call. IsCaller streams call.by call.act) (calls lines) →
    k < length (calls lines) → (get_or (calls lines) k d).act ≡ Shut why → IsShut lines
has_shut streams lines k d why all below act =
    let call = get_or (calls lines) k d in
    let shut : Call = record { by = 0; act = Shut why } in
    let by : call.by ≡ 0 = subst (IsCaller streams call.by) act (All-get_or (λ call. IsCaller streams call.by call.act) (calls lines) k d below all) in
    (why, (k, below, get_or_default (calls lines) k shut d below ∙ (λ i. record { by = by i; act = act i })))

stays_shut : (streams cap : ℕ) (lines : List Line) (by : ℕ) (act : CallAct) → IsLegal streams cap lines → MayCall streams cap lines by act →
    (k : ℕ) (d : Call) → k < length (calls lines) → StaysShut (get_or (calls lines) k d) (record { by = by; act = act })
stays_shut streams cap lines by Append legal may k d below why shut = absurd (may.2 (has_shut streams lines k d why legal.callers below shut))
stays_shut streams cap lines by EndStream legal may k d below why shut = refl
stays_shut streams cap lines by (Publish number) legal may k d below why shut = absurd (may.1 (has_shut streams lines k d why legal.callers below shut))
stays_shut streams cap lines by (Shut other) legal may k d below why shut = absurd (may.1 (has_shut streams lines k d why legal.callers below shut))

-- only an append has a tuple
none_of : (by : ℕ) (act : CallAct) (tuple : Option Tuple) → HasItsTuple (record { call = record { by = by; act = act }; tuple = tuple }) →
    act ≢ Append → tuple ≡ None
none_of by act None has other = refl
none_of by act (Some tuple) has other = absurd (other (has.0 refl))

pub adds_none : (by : ℕ) (lines : List Line) (act : CallAct) (tuple : Option Tuple) →
    HasItsTuple (record { call = record { by = by; act = act }; tuple = tuple }) → act ≢ Append →
    entries (lines ++ record { call = record { by = by; act = act }; tuple = tuple } ∷ []) ≡ entries lines
adds_none by lines act tuple has other =
    ap (λ (each : Option Tuple). entries (lines ++ record { call = record { by = by; act = act }; tuple = each } ∷ [])) (none_of by act tuple has other)
    ∙ no_entry lines (record { by = by; act = act })

-- a line adds one entry at most
one_at_most : (lines : List Line) (call : Call) (tuple : Option Tuple) →
    length (entries (lines ++ record { call = call; tuple = tuple } ∷ [])) ≤ length (entries lines) + 1
one_at_most lines call None = omega (arith, ap length (no_entry lines call))
one_at_most lines call (Some tuple) =
    omega (arith, ap length (one_entry lines call tuple), length_push (entries lines) (record { stream = call.by; tuple = tuple }))

fits : (streams cap by : ℕ) (lines : List Line) (act : CallAct) (tuple : Option Tuple) →
    HasItsTuple (record { call = record { by = by; act = act }; tuple = tuple }) → length (entries lines) ≤ cap → MayCall streams cap lines by act →
    length (entries (lines ++ record { call = record { by = by; act = act }; tuple = tuple } ∷ [])) ≤ cap
fits streams cap by lines Append tuple has full may = omega (arith, one_at_most lines (record { by = by; act = Append }) tuple, may.3)
fits streams cap by lines EndStream tuple has full may = omega (arith, full, ap length (adds_none by lines EndStream tuple has (λ is. cc)))
fits streams cap by lines (Publish number) tuple has full may =
    omega (arith, full, ap length (adds_none by lines (Publish number) tuple has (λ is. cc)))
fits streams cap by lines (Shut why) tuple has full may = omega (arith, full, ap length (adds_none by lines (Shut why) tuple has (λ is. cc)))

-- a publish that may come rises
may_rise : (streams cap by number : ℕ) (lines : List Line) (act : CallAct) → act ≡ Publish number → MayCall streams cap lines by act →
    (published lines < number) × (number ≤ length (entries lines))
may_rise streams cap by number lines act is may =
    let publish : MayCall streams cap lines by (Publish number) = subst (MayCall streams cap lines by) is may in
    (publish.2, publish.3)

rises : (streams cap : ℕ) (lines : List Line) (line : Line) → PublishesRise lines → MayCall streams cap lines line.call.by line.call.act →
    PublishesRise (lines ++ line ∷ [])
rises streams cap lines line so_far may before after each number is acts = ⊎_elim
    (λ behind. subst (λ (front : List Line). (published front < number) × (number ≤ length (entries front))) (sym behind.0)
    (may_rise streams cap line.call.by number lines line.call.act (ap (λ (one : Line). one.call.act) (sym behind.1) ∙ acts) may))
    (λ cut. so_far before cut.rest each number cut.whole acts)
    (cut_of_push lines before after line each is)

pub push_legal : (streams cap : ℕ) (lines : List Line) (line : Line) → IsLegal streams cap lines → MayFollow streams cap lines line →
    IsLegal streams cap (lines ++ line ∷ [])
push_legal streams cap lines line legal may = record {
  tuples = All-push HasItsTuple lines line legal.tuples may.tuple;
  callers = subst (All (λ call. IsCaller streams call.by call.act)) (sym (calls_push lines line))
      (All-push (λ call. IsCaller streams call.by call.act) (calls lines) line.call legal.callers
      (may_caller streams cap lines line.call.by line.call.act may.call));
  ended = subst (AllPairs StaysEnded) (sym (calls_push lines line))
      (all_pairs_push StaysEnded (calls lines) line.call legal.ended (stays_ended streams cap lines line.call.by line.call.act may.call));
  shut = subst (AllPairs StaysShut) (sym (calls_push lines line))
      (all_pairs_push StaysShut (calls lines) line.call legal.shut (stays_shut streams cap lines line.call.by line.call.act legal may.call));
  capped = fits streams cap line.call.by lines line.call.act line.tuple may.tuple legal.capped may.call;
  publishes = rises streams cap lines line legal.publishes may.call;
}

-- ---- no lines

pub none_legal : (streams cap : ℕ) → IsLegal streams cap []
none_legal streams cap = record {
  tuples = All-nil HasItsTuple;
  callers = All-nil (λ call. IsCaller streams call.by call.act);
  ended = λ i j d order below. absurd (omega (arith, below));
  shut = λ i j d order below. absurd (omega (arith, below));
  capped = omega arith;
  publishes = λ before after line number is acts. absurd (omega (arith, cut_has_one before after line, ap length is));
}

pub legal_by_lines : LegalByLines
legal_by_lines = record {
  none = none_legal;
  next = λ streams cap lines line. (
    (λ legal. (front_legal streams cap lines line legal, may_follow streams cap lines line legal)),
    (λ both. push_legal streams cap lines line both.0 both.1),
  );
}
