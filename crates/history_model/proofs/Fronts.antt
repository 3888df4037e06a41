-- What legal lines tell, and what those that begin them tell.
use Rattle.std.proofs.Common.{◌≡◌, ◌≢◌, ℕ, ◌<◌, ◌≤◌, List, [], ◌∷◌, ◌++◌, Option, Some, None, length, get_or, refl, sym, ap, subst, ◌∙◌, ⊎_elim, arith, length-append, append-nil, append_assoc}
use Rattle.std.specs.Prelude.{All, Contains}
use Rattle.std.proofs.lemmas.Bool.{cases_order}
use Rattle.std.proofs.lemmas.List.{get_or_default}
use Rattle.std.proofs.lemmas.List.Elements.{All-nil, All-push, Contains-append_left}
use Rattle.rpq_base.specs.declared.data.Tuple.{Tuple}
use Rattle.history_model.specs.declared.line.Why.{Why}
use Rattle.history_model.specs.declared.line.CallAct.{CallAct}
use Rattle.history_model.specs.declared.line.CallAct.TheVariants.{Append, EndStream, Publish, Shut}
use Rattle.history_model.specs.declared.line.Call.{Call}
use Rattle.history_model.specs.declared.line.Line.{Line}
use Rattle.history_model.specs.Lines.{calls, entries, published, IsStream, AllEnded, IsShutFor, IsShut}
use Rattle.history_model.specs.Legal.{HasItsTuple, StaysShut, IsLegal}
use Rattle.history_model.specs.Follow.{MayCall, MayFollow}
use Rattle.history_model.specs.LegalLaws.{LegalIsSound, FrontsAreLegal}
use Rattle.history_model.proofs.Own.{own_entries, own_publishes}
use Rattle.history_model.proofs.ByLines.{calls_push, entries_push, published_push, one_entry, no_entry, adds_none, front_legal, only_ends, may_follow}

-- ---- acts apart

append_or_end : Append ≡ EndStream → ⊥
append_or_end is = cc

append_or_publish : (number : ℕ) → Append ≡ Publish number → ⊥
append_or_publish number is = cc

append_or_shut : (why : Why) → Append ≡ Shut why → ⊥
append_or_shut why is = cc

publish_or_end : (number : ℕ) → Publish number ≡ EndStream → ⊥
publish_or_end number is = cc

shut_or_end : (why : Why) → Shut why ≡ EndStream → ⊥
shut_or_end why is = cc

same_reason : (why other : Why) → ◌≡◌ {A = Call} (record { by = 0; act = Shut why }) (record { by = 0; act = Shut other }) → why ≡ other
same_reason why other is = let acts = ap (λ (call : Call). call.act) is in cc

-- ---- one line more

-- the lines before a line, and it
with_next : (streams cap : ℕ) (front rest : List Line) (line : Line) → IsLegal streams cap (front ++ line ∷ rest) →
    IsLegal streams cap ((front ++ line ∷ []) ++ rest)
with_next streams cap front rest line legal = subst (IsLegal streams cap) (sym (append_assoc front (line ∷ []) rest)) legal

pub lines_in_front : (rest : List Line) (streams cap : ℕ) (front : List Line) → IsLegal streams cap (front ++ rest) → IsLegal streams cap front
lines_in_front [] streams cap front legal = subst (IsLegal streams cap) (append-nil front) legal
lines_in_front (line ∷ rest) streams cap front legal =
    front_legal streams cap front line (lines_in_front rest streams cap (front ++ line ∷ []) (with_next streams cap front rest line legal))

-- a line that may follow publishes no less than what is published, and no more than is appended
publishes_on : (streams cap by : ℕ) (act : CallAct) (tuple : Option Tuple) (lines : List Line) → MayCall streams cap lines by act →
    (published lines ≤ published (lines ++ record { call = record { by = by; act = act }; tuple = tuple } ∷ []))
    × (published lines ≤ length (entries lines) →
    published (lines ++ record { call = record { by = by; act = act }; tuple = tuple } ∷ []) ≤ length (entries lines))
publishes_on streams cap by Append tuple lines may =
    let is = published_push lines (record { call = record { by = by; act = Append }; tuple = tuple }) in
    (omega (arith, is), (λ below. omega (arith, is, below)))
publishes_on streams cap by EndStream tuple lines may =
    let is = published_push lines (record { call = record { by = by; act = EndStream }; tuple = tuple }) in
    (omega (arith, is), (λ below. omega (arith, is, below)))
publishes_on streams cap by (Publish number) tuple lines may =
    let is = published_push lines (record { call = record { by = by; act = Publish number }; tuple = tuple }) in
    (omega (arith, is, may.2), (λ below. omega (arith, is, may.3)))
publishes_on streams cap by (Shut why) tuple lines may =
    let is = published_push lines (record { call = record { by = by; act = Shut why }; tuple = tuple }) in
    (omega (arith, is), (λ below. omega (arith, is, below)))

-- the next of legal lines may follow those before it
next_may : (streams cap : ℕ) (front rest : List Line) (line : Line) → IsLegal streams cap (front ++ line ∷ rest) → MayFollow streams cap front line
next_may streams cap front rest line legal =
    may_follow streams cap front line (lines_in_front rest streams cap (front ++ line ∷ []) (with_next streams cap front rest line legal))

rises : (rest : List Line) (streams cap : ℕ) (front : List Line) → IsLegal streams cap (front ++ rest) → published front ≤ published (front ++ rest)
rises [] streams cap front legal = omega (arith, ap published (append-nil front))
rises (line ∷ rest) streams cap front legal =
    let may = next_may streams cap front rest line legal in
    let here = (publishes_on streams cap line.call.by line.call.act line.tuple front may.call).0 in
    let later = rises rest streams cap (front ++ line ∷ []) (with_next streams cap front rest line legal) in
    omega (arith, here, later, ap published (append_assoc front (line ∷ []) rest))

-- ---- after a shut

-- what is called stays called
still_called : (front : List Line) (line : Line) (call : Call) → Contains (calls front) call → Contains (calls (front ++ line ∷ [])) call
still_called front line call member =
    subst (λ (all : List Call). Contains all call) (sym (calls_push front line)) (Contains-append_left (calls front) (line.call ∷ []) call member)

-- an end adds no entry and publishes nothing
end_adds : (by : ℕ) (act : CallAct) (tuple : Option Tuple) (front : List Line) → act ≡ EndStream →
    HasItsTuple (record { call = record { by = by; act = act }; tuple = tuple }) →
    (entries (front ++ record { call = record { by = by; act = act }; tuple = tuple } ∷ []) ≡ entries front)
    × (published (front ++ record { call = record { by = by; act = act }; tuple = tuple } ∷ []) ≡ published front)
end_adds by Append tuple front is has = absurd (append_or_end is)
end_adds by EndStream tuple front is has = (
  adds_none by front EndStream tuple has (λ other. append_or_end (sym other)),
  published_push front (record { call = record { by = by; act = EndStream }; tuple = tuple }),
)
end_adds by (Publish number) tuple front is has = absurd (publish_or_end number is)
end_adds by (Shut why) tuple front is has = absurd (shut_or_end why is)

after_shut : (rest : List Line) (streams cap : ℕ) (front : List Line) → IsLegal streams cap (front ++ rest) → IsShut front →
    (entries (front ++ rest) ≡ entries front) × (published (front ++ rest) ≡ published front)
after_shut [] streams cap front legal shut = (ap entries (append-nil front), ap published (append-nil front))
after_shut (line ∷ rest) streams cap front legal shut =
    let next = with_next streams cap front rest line legal in
    let with_line = lines_in_front rest streams cap (front ++ line ∷ []) next in
    let may = may_follow streams cap front line with_line in
    let here = end_adds line.call.by line.call.act line.tuple front (only_ends streams cap front line with_line shut) may.tuple in
    let later = after_shut rest streams cap (front ++ line ∷ []) next
    (shut.0, still_called front line (record { by = 0; act = Shut shut.0 }) shut.1) in
    let regrouped = append_assoc front (line ∷ []) rest in (
      sym (ap entries regrouped) ∙ (later.0 ∙ here.0),
      sym (ap published regrouped) ∙ (later.1 ∙ here.1),
    )

-- ---- after all streams have ended

no_append : (streams cap by : ℕ) (act : CallAct) (front : List Line) → AllEnded streams front → MayCall streams cap front by act → act ≢ Append
no_append streams cap by Append front ended may is = may.1 (ended by may.0)
no_append streams cap by EndStream front ended may is = append_or_end (sym is)
no_append streams cap by (Publish number) front ended may is = append_or_publish number (sym is)
no_append streams cap by (Shut why) front ended may is = append_or_shut why (sym is)

after_ends : (rest : List Line) (streams cap : ℕ) (front : List Line) → IsLegal streams cap (front ++ rest) → AllEnded streams front →
    entries (front ++ rest) ≡ entries front
after_ends [] streams cap front legal ended = ap entries (append-nil front)
after_ends (line ∷ rest) streams cap front legal ended =
    let next = with_next streams cap front rest line legal in
    let may = next_may streams cap front rest line legal in
    let here = adds_none line.call.by front line.call.act line.tuple may.tuple (no_append streams cap line.call.by line.call.act front ended may.call) in
    let later = after_ends rest streams cap (front ++ line ∷ []) next
    (λ stream is. still_called front line (record { by = stream; act = EndStream }) (ended stream is)) in
    sym (ap entries (append_assoc front (line ∷ []) rest)) ∙ (later ∙ here)

pub fronts_are_legal : FrontsAreLegal
fronts_are_legal streams cap front rest legal = record {
  legal = lines_in_front rest streams cap front legal;
  rises = rises rest streams cap front legal;
  shut = after_shut rest streams cap front legal;
  ended = after_ends rest streams cap front legal;
}

-- ---- what legal lines tell

-- the entries of lines with one more are of streams
next_entries : (streams cap by : ℕ) (act : CallAct) (tuple : Option Tuple) (front : List Line) →
    HasItsTuple (record { call = record { by = by; act = act }; tuple = tuple }) → MayCall streams cap front by act →
    All (λ entry. IsStream streams entry.stream) (entries front) →
    All (λ entry. IsStream streams entry.stream) (entries (front ++ record { call = record { by = by; act = act }; tuple = tuple } ∷ []))
next_entries streams cap by act None front has may all =
    subst (All (λ entry. IsStream streams entry.stream)) (sym (no_entry front (record { by = by; act = act }))) all
next_entries streams cap by act (Some tuple) front has may all =
    let appends : MayCall streams cap front by Append = subst (MayCall streams cap front by) (has.0 refl) may in
    subst (All (λ entry. IsStream streams entry.stream)) (sym (one_entry front (record { by = by; act = act }) tuple))
    (All-push (λ entry. IsStream streams entry.stream) (entries front) (record { stream = by; tuple = tuple }) all appends.0)

-- what is told of the lines in front
pub record Tells (streams : ℕ) (lines : List Line) : Type 0 where
  pub appended : All (λ entry. IsStream streams entry.stream) (entries lines)
  pub behind : published lines ≤ length (entries lines)

next_tells : (streams cap : ℕ) (front : List Line) (line : Line) → MayFollow streams cap front line → Tells streams front → Tells streams (front ++ line ∷ [])
next_tells streams cap front line may tells = record {
  appended = next_entries streams cap line.call.by line.call.act line.tuple front may.tuple may.call tells.appended;
  behind =
      let below = (publishes_on streams cap line.call.by line.call.act line.tuple front may.call).1 tells.behind in
      omega (arith, below, ap length (entries_push front line), length-append (entries front) (entries (line ∷ [])));
}

all_tell : (rest : List Line) (streams cap : ℕ) (front : List Line) → IsLegal streams cap (front ++ rest) → Tells streams front → Tells streams (front ++ rest)
all_tell [] streams cap front legal tells = subst (Tells streams) (sym (append-nil front)) tells
all_tell (line ∷ rest) streams cap front legal tells =
    subst (Tells streams) (append_assoc front (line ∷ []) rest)
    (all_tell rest streams cap (front ++ line ∷ []) (with_next streams cap front rest line legal)
    (next_tells streams cap front line (next_may streams cap front rest line legal) tells))

-- two shuts, one after the other
two_shuts : (streams cap : ℕ) (lines : List Line) (why other : Why) → IsLegal streams cap lines →
    (first : IsShutFor lines why) (second : IsShutFor lines other) → first.0 < second.0 → ⊥
two_shuts streams cap lines why other legal first second below =
    let one : Call = record { by = 0; act = Shut why } in
    let two : Call = record { by = 0; act = Shut other } in
    let ties = legal.shut first.0 second.0 one below second.1 in
    let last : get_or (calls lines) second.0 one ≡ two = get_or_default (calls lines) second.0 one two second.1 ∙ second.2 in
    shut_or_end other (subst (λ (later : Call). StaysShut one later) last (subst (λ (earlier : Call). StaysShut earlier (get_or (calls lines) second.0 one)) first.2 ties) why refl)

same_place : (lines : List Line) (why other : Why) (first : IsShutFor lines why) (second : IsShutFor lines other) → first.0 ≡ second.0 → why ≡ other
same_place lines why other first second is =
    let one : Call = record { by = 0; act = Shut why } in
    let two : Call = record { by = 0; act = Shut other } in
    let there : get_or (calls lines) first.0 two ≡ two = ap (λ (place : ℕ). get_or (calls lines) place two) is ∙ second.2 in
    same_reason why other (sym first.2 ∙ (get_or_default (calls lines) first.0 one two first.1 ∙ there))

one_reason : (streams cap : ℕ) (lines : List Line) (why other : Why) → IsLegal streams cap lines → IsShutFor lines why → IsShutFor lines other → why ≡ other
one_reason streams cap lines why other legal first second = ⊎_elim
    (λ same. same_place lines why other first second same)
    (λ apart. absurd (⊎_elim
    (λ below. two_shuts streams cap lines why other legal first second below)
    (λ above. two_shuts streams cap lines other why legal second first above)
    apart))
    (cases_order first.0 second.0)

pub legal_is_sound : LegalIsSound
legal_is_sound streams cap lines legal =
    let tells = all_tell lines streams cap [] legal (record { appended = All-nil (λ entry. IsStream streams entry.stream); behind = omega arith }) in record {
      appended = tells.appended;
      behind = tells.behind;
      reason = λ why other first second. one_reason streams cap lines why other legal first second;
      own_entries = own_entries lines;
      own_publishes = own_publishes lines streams legal.callers;
    }
