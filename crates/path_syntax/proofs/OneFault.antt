-- Bytes have one outcome: an expression within the limits, or one fault.
use Rattle.std.proofs.Common.{◌≡◌, ℕ, ◌+◌, ◌≤◌, ◌||◌, ◌==◌, ◌⊎◌, Bool, true, false, cond, List, [], ◌∷◌, ◌++◌, length, Some, Result, Ok, Err, refl, sym, ◌∙◌, ap, subst, inl, inr, ⊎_elim, append_assoc, arith}
use Rattle.std.specs.Option.{option_and_then}
use Rattle.std.proofs.lemmas.List.{append-nil}
use Rattle.std.proofs.lemmas.List.Folds.{list_all-append}
use Rattle.std.proofs.lemmas.Bool.{and_parts}
use Rattle.rpq_base.specs.Names.{is_name_byte}
use Rattle.path_syntax.specs.declared.read.BadExpr.{BadExpr}
use Rattle.path_syntax.specs.declared.read.BadExpr.TheVariants.{Unexpected, Ended, TooLarge, LongName, Memory}
use Rattle.path_syntax.specs.Expression.{Expression}
use Rattle.path_syntax.specs.Grammar.{is_bare_byte, IsBare, AreNameBytes, escaped, quoted, IsAlternative, CanGoOn}
use Rattle.path_syntax.specs.Faults.{signs, BeginsLabel, BeginsBare, BeginsQuoted, HasLongName, IsWithinLimits, IsTaken, Reaches, IsEnded, IsFault, IsOutcomeOf, Whole, Faulty}
use Rattle.path_syntax.specs.Reading.{kind_of, FrameValue, ModeValue, Operand, BareLabel, QuotedLabel, Escape, Primary, Element, state_with, initial, name_length, takes_operand, reading}
use Rattle.path_syntax.proofs.Steps.{run, run_from}
use Rattle.path_syntax.proofs.Completeness.{begin_quoted, escaped_run, one_expression}
use Rattle.path_syntax.proofs.Fronts.{goes_through, goes_through_front, TakesOperand, takes_operand_there}
use Rattle.path_syntax.proofs.Signs.{signs_grow}
use Rattle.path_syntax.proofs.Limits.{begins_run, split_push, outcome}

-- a fault shows at a byte
data Shows (inverses : Bool) (front : List ℕ) (byte : ℕ) : BadExpr → Type 0 where
  ShowsUnexpected : (at : ℕ) → at ≡ length front + 1 → (CanGoOn inverses (front ++ byte ∷ []) → ⊥) → Shows inverses front byte (Unexpected at)
  ShowsLong : (at : ℕ) → CanGoOn inverses (front ++ byte ∷ []) → HasLongName inverses (front ++ byte ∷ []) at → Shows inverses front byte (LongName at)
  ShowsMany : CanGoOn inverses (front ++ byte ∷ []) → ((at : ℕ) → HasLongName inverses (front ++ byte ∷ []) at → ⊥) → signs (front ++ byte ∷ []) ≡ 513 →
      Shows inverses front byte TooLarge

data Has (inverses : Bool) (bytes : List ℕ) (fault : BadExpr) : Type 0 where
  Within : (front : List ℕ) (byte : ℕ) → Reaches inverses bytes front byte → Shows inverses front byte fault → Has inverses bytes fault
  AtEnd : fault ≡ Ended → IsEnded inverses bytes → Has inverses bytes fault

has_fault : (inverses : Bool) (fault : BadExpr) (bytes : List ℕ) → IsFault inverses fault bytes → Has inverses bytes fault
has_fault inverses (Unexpected at) bytes f = Within f.front f.byte f.reached (ShowsUnexpected at f.place f.refused)
has_fault inverses Ended bytes f = AtEnd refl f
has_fault inverses TooLarge bytes f = Within f.front f.byte f.reached (ShowsMany f.goes_on f.short f.many)
has_fault inverses (LongName at) bytes f = Within f.front f.byte f.reached (ShowsLong at f.goes_on f.long)
has_fault inverses Memory bytes f = absurd f

longer_still : (inverses : Bool) (bytes more : List ℕ) (at : ℕ) → HasLongName inverses bytes at → HasLongName inverses (bytes ++ more) at
longer_still inverses bytes more at h = record {
  before = h.before;
  label = h.label;
  after = h.after ++ more;
  name = h.name;
  split = ap (λ t. t ++ more) h.split ∙ append_assoc (h.before ++ h.label) h.after more;
  place = h.place;
  stands = h.stands;
  begins = h.begins;
  long = h.long;
}

-- what a fault shows in is not taken, however it goes on
not_taken : {inverses : Bool} {front : List ℕ} {byte : ℕ} {fault : BadExpr} → Shows inverses front byte fault → (more : List ℕ) → IsTaken inverses (front ++ byte ∷ more) → ⊥
not_taken {inverses} {front} {byte} (ShowsUnexpected at place refused) more t =
    refused (goes_through_front inverses (front ++ byte ∷ []) more (subst (CanGoOn inverses) (sym (append_assoc front (byte ∷ []) more)) t.goes_on))
not_taken {inverses} {front} {byte} (ShowsLong at on long) more t =
    t.limits.short at (subst (λ b. HasLongName inverses b at) (append_assoc front (byte ∷ []) more) (longer_still inverses (front ++ byte ∷ []) more at long))
not_taken {inverses} {front} {byte} (ShowsMany on short many) more t =
    let g = goes_through inverses (front ++ byte ∷ []) on in
    let grows : signs (front ++ byte ∷ []) ≤ signs (front ++ byte ∷ [] ++ more) = signs_grow inverses (front ++ byte ∷ []) more g.state g.ran in
    let same : signs (front ++ byte ∷ [] ++ more) ≡ signs (front ++ byte ∷ more) = ap signs (append_assoc front (byte ∷ []) more) in
    let few : signs (front ++ byte ∷ more) ≤ 512 = t.limits.few in
    absurd (omega arith)

-- an expression's text within the limits has no fault
has_not : (inverses : Bool) (bytes : List ℕ) (fault : BadExpr) → Has inverses bytes fault → (e : Expression) → IsAlternative inverses bytes e → IsWithinLimits inverses bytes → ⊥
has_not inverses bytes fault (Within front byte reached shows) e text limits =
    not_taken shows reached.rest (subst (IsTaken inverses) reached.split (record {
      goes_on = record { rest = []; whole = e; text = subst (λ t. IsAlternative inverses t e) (sym (append-nil bytes)) text };
      limits = limits;
    }))
has_not inverses bytes fault (AtEnd is ended) e text limits = ended.incomplete e text

pub no_fault : (inverses : Bool) (bytes : List ℕ) (fault : BadExpr) (e : Expression) → IsAlternative inverses bytes e → IsWithinLimits inverses bytes → IsFault inverses fault bytes → ⊥
no_fault inverses bytes fault e text limits f = has_not inverses bytes fault (has_fault inverses fault bytes f) e text limits

-- two fronts of the same bytes
data Fronts (first : List ℕ) (x : ℕ) (second : List ℕ) (y : ℕ) : Type 0 where
  Equal : first ≡ second → x ≡ y → Fronts first x second y
  Shorter : (more : List ℕ) → second ≡ first ++ x ∷ more → Fronts first x second y
  Longer : (more : List ℕ) → first ≡ second ++ y ∷ more → Fronts first x second y

fronts : (first : List ℕ) (x : ℕ) (second : List ℕ) (y : ℕ) (rest other : List ℕ) → first ++ x ∷ rest ≡ second ++ y ∷ other → Fronts first x second y
fronts [] x [] y rest other e = Equal refl cc
fronts [] x (z ∷ second) y rest other e = let head : x ≡ z = cc in Shorter second (ap (λ h. h ∷ second) (sym head))
fronts (z ∷ first) x [] y rest other e = let head : z ≡ y = cc in Longer first (ap (λ h. h ∷ first) head)
fronts (z ∷ first) x (w ∷ second) y rest other e =
    let head : z ≡ w = cc in
    let tail : first ++ x ∷ rest ≡ second ++ y ∷ other = cc in
    under (fronts first x second y rest other tail) head
  where
    under : Fronts first x second y → z ≡ w → Fronts (z ∷ first) x (w ∷ second) y
    under (Equal f b) head = Equal (ap (λ t. z ∷ t) f ∙ ap (λ h. h ∷ second) head) b
    under (Shorter more f) head = Shorter more (ap (λ t. w ∷ t) f ∙ ap (λ h. h ∷ (first ++ x ∷ more)) (sym head))
    under (Longer more f) head = Longer more (ap (λ t. z ∷ t) f ∙ ap (λ h. h ∷ (second ++ y ∷ more)) head)

-- within a label no operand is to come
pub record InLabel (inverses : Bool) (outer : List FrameValue) (frame : FrameValue) (text : List ℕ) (from : ModeValue) : Type 0 where
  pub mode : ModeValue
  pub within : takes_operand mode ≡ false
  pub ran : run inverses text (state_with outer frame from) ≡ Some (state_with outer frame mode)

after_escape : (inverses : Bool) (name : List ℕ) (back : Bool) (outer : List FrameValue) (frame : FrameValue) →
    run inverses (92 ∷ []) (state_with outer frame (QuotedLabel name back)) ≡ Some (state_with outer frame (Escape name back))
unfolding kind_of
after_escape inverses name back outer frame = refl

escaped_cases : (byte : ℕ) → (escaped byte ≡ 92 ∷ byte ∷ []) ⊎ (escaped byte ≡ byte ∷ [])
escaped_cases byte = by (byte == 34 || byte == 92)
  where
    by : (test : Bool) → (cond test (92 ∷ byte ∷ []) (byte ∷ []) ≡ 92 ∷ byte ∷ []) ⊎ (cond test (92 ∷ byte ∷ []) (byte ∷ []) ≡ byte ∷ [])
    by true = inl refl
    by false = inr refl

quoted_front : (inverses : Bool) (name front rest before : List ℕ) (back : Bool) (outer : List FrameValue) (frame : FrameValue) → AreNameBytes name → front ++ rest ≡ quoted name →
    InLabel inverses outer frame front (QuotedLabel before back)
quoted_front inverses name [] rest before back outer frame named e = record { mode = QuotedLabel before back; within = refl; ran = refl }
quoted_front inverses [] (x ∷ front) rest before back outer frame named e = absurd cc
quoted_front inverses (byte ∷ name) (x ∷ front) rest before back outer frame named e =
    let both : (is_name_byte byte ≡ true) × (AreNameBytes name) = and_parts _ _ named in
    ⊎_elim
    (λ escape.
    let there : x ∷ (front ++ rest) ≡ 92 ∷ byte ∷ quoted name = e ∙ ap (λ t. t ++ quoted name) escape in
    let head : 92 ≡ x = cc in
    let tail : front ++ rest ≡ byte ∷ quoted name = cc in
    let ran : run inverses (92 ∷ byte ∷ []) (state_with outer frame (QuotedLabel before back)) ≡ Some (state_with outer frame (QuotedLabel (before ++ byte ∷ []) back)) =
    ap (λ t. run inverses t (state_with outer frame (QuotedLabel before back))) (sym escape) ∙ escaped_run inverses byte before back outer frame both.0 in
    subst (λ z. InLabel inverses outer frame (z ∷ front) (QuotedLabel before back)) head
    (escape_front front tail ran (λ more same. quoted_front inverses name more rest (before ++ byte ∷ []) back outer frame both.1 same)))
    (λ plain.
    let there : x ∷ (front ++ rest) ≡ byte ∷ quoted name = e ∙ ap (λ t. t ++ quoted name) plain in
    let head : byte ≡ x = cc in
    let tail : front ++ rest ≡ quoted name = cc in
    let next = quoted_front inverses name front rest (before ++ byte ∷ []) back outer frame both.1 tail in
    let ran : run inverses (byte ∷ []) (state_with outer frame (QuotedLabel before back)) ≡ Some (state_with outer frame (QuotedLabel (before ++ byte ∷ []) back)) =
    ap (λ t. run inverses t (state_with outer frame (QuotedLabel before back))) (sym plain) ∙ escaped_run inverses byte before back outer frame both.0 in
    subst (λ z. InLabel inverses outer frame (z ∷ front) (QuotedLabel before back)) head
    (record { mode = next.mode; within = next.within; ran = run_from inverses (byte ∷ []) front (state_with outer frame (QuotedLabel before back)) (state_with outer frame (QuotedLabel (before ++ byte ∷ []) back)) ran ∙ next.ran }))
    (escaped_cases byte)
  where
    escape_front : (front : List ℕ) → front ++ rest ≡ byte ∷ quoted name →
        run inverses (92 ∷ byte ∷ []) (state_with outer frame (QuotedLabel before back)) ≡ Some (state_with outer frame (QuotedLabel (before ++ byte ∷ []) back)) →
        ((more : List ℕ) → more ++ rest ≡ quoted name → InLabel inverses outer frame more (QuotedLabel (before ++ byte ∷ []) back)) →
        InLabel inverses outer frame (92 ∷ front) (QuotedLabel before back)
    escape_front [] tail ran again = record { mode = Escape before back; within = refl; ran = after_escape inverses before back outer frame }
    escape_front (y ∷ more) tail ran again =
        let second : byte ≡ y = cc in
        let last : more ++ rest ≡ quoted name = cc in
        let next = again more last in
        subst (λ z. InLabel inverses outer frame (92 ∷ z ∷ more) (QuotedLabel before back)) second
        (record { mode = next.mode; within = next.within; ran = run_from inverses (92 ∷ byte ∷ []) more (state_with outer frame (QuotedLabel before back)) (state_with outer frame (QuotedLabel (before ++ byte ∷ []) back)) ran ∙ next.ran })

label_front : (inverses : Bool) {label name : List ℕ} → BeginsLabel label name → (x : ℕ) (front rest : List ℕ) → label ≡ x ∷ front ++ rest →
    (back : Bool) (outer : List FrameValue) (frame : FrameValue) → InLabel inverses outer frame (x ∷ front) (Operand back)
label_front inverses (BeginsBare name bare) x front rest e back outer frame =
    let all : IsBare (x ∷ front ++ rest) = subst IsBare e bare in
    let part : IsBare (x ∷ front) = (and_parts _ _ (sym (list_all-append is_bare_byte (x ∷ front) rest) ∙ all)).0 in
    let r = begins_run inverses (BeginsBare (x ∷ front) part) back outer frame in
    record { mode = r.mode; within = some r.mode r.size; ran = r.ran }
  where
    some : (mode : ModeValue) → name_length mode ≡ length (x ∷ front) → takes_operand mode ≡ false
    some (Operand back) size = absurd cc
    some (BareLabel name back) size = refl
    some (QuotedLabel name back) size = refl
    some (Escape name back) size = refl
    some (Primary e) size = refl
    some (Element e) size = refl
label_front inverses (BeginsQuoted name named) x front rest e back outer frame =
    let head : 34 ≡ x = cc in
    let tail : front ++ rest ≡ quoted name = cc in
    let r = quoted_front inverses name front rest [] back outer frame named tail in
    subst (λ z. InLabel inverses outer frame (z ∷ front) (Operand back)) head
    (record { mode = r.mode; within = r.within; ran = ap (option_and_then (run inverses front)) (begin_quoted inverses back outer frame) ∙ r.ran })

-- two splits of the same bytes
data Splits (first second third fourth : List ℕ) : Type 0 where
  FirstIsFront : (middle : List ℕ) → third ≡ first ++ middle → second ≡ middle ++ fourth → Splits first second third fourth
  ThirdIsFront : (middle : List ℕ) → first ≡ third ++ middle → fourth ≡ middle ++ second → Splits first second third fourth

splits : (first second third fourth : List ℕ) → first ++ second ≡ third ++ fourth → Splits first second third fourth
splits [] second third fourth e = FirstIsFront third refl e
splits (x ∷ first) second [] fourth e = ThirdIsFront (x ∷ first) refl (sym e)
splits (x ∷ first) second (y ∷ third) fourth e =
    let head : x ≡ y = cc in
    let tail : first ++ second ≡ third ++ fourth = cc in
    under (splits first second third fourth tail) head
  where
    under : Splits first second third fourth → x ≡ y → Splits (x ∷ first) second (y ∷ third) fourth
    under (FirstIsFront middle a b) head = FirstIsFront middle (ap (λ t. y ∷ t) a ∙ ap (λ h. h ∷ (first ++ middle)) (sym head)) b
    under (ThirdIsFront middle a b) head = ThirdIsFront middle (ap (λ t. x ∷ t) a ∙ ap (λ h. h ∷ (third ++ middle)) head) b

-- no label begins within another
nothing_between : (inverses : Bool) (before other label name rest middle : List ℕ) → TakesOperand inverses before → TakesOperand inverses other → BeginsLabel label name →
    other ≡ before ++ middle → label ≡ middle ++ rest → other ≡ before
nothing_between inverses before other label name rest [] t o begins split parts = split ∙ append-nil before
nothing_between inverses before other label name rest (x ∷ middle) t o begins split parts =
    let r = label_front inverses begins x middle rest parts t.back t.outer t.frame in
    let there : run inverses other initial ≡ Some (state_with t.outer t.frame r.mode) =
    ap (λ b. run inverses b initial) split ∙ run_from inverses before (x ∷ middle) initial _ t.ran ∙ r.ran in
    let both : Some (state_with o.outer o.frame (Operand o.back)) ≡ Some (state_with t.outer t.frame r.mode) = sym o.ran ∙ there in
    let same : state_with o.outer o.frame (Operand o.back) ≡ state_with t.outer t.frame r.mode = cc in
    let modes : Operand o.back ≡ r.mode = ap (λ s. s.mode) same in
    let h : true ≡ false = ap takes_operand modes ∙ r.within in
    absurd cc

-- the label ends the bytes, if no front of them has it
ends_there : (inverses : Bool) (front : List ℕ) (byte at : ℕ) → IsTaken inverses front → (h : HasLongName inverses (front ++ byte ∷ []) at) → front ++ byte ∷ [] ≡ h.before ++ h.label
ends_there inverses front byte at taken h =
    ⊎_elim
    (λ whole. sym whole.0)
    (λ (more, part). absurd (taken.limits.short at (record {
      before = h.before;
      label = h.label;
      after = more;
      name = h.name;
      split = part;
      place = h.place;
      stands = h.stands;
      begins = h.begins;
      long = h.long;
    })))
    (split_push front byte (h.before ++ h.label) h.after h.split)

long_place : (inverses : Bool) (front : List ℕ) (byte first second : ℕ) → IsTaken inverses front → HasLongName inverses (front ++ byte ∷ []) first → HasLongName inverses (front ++ byte ∷ []) second →
    first ≡ second
long_place inverses front byte first second taken h k =
    let both : h.before ++ h.label ≡ k.before ++ k.label = sym (ends_there inverses front byte first taken h) ∙ ends_there inverses front byte second taken k in
    let t = takes_operand_there inverses h.before h.stands in
    let o = takes_operand_there inverses k.before k.stands in
    h.place ∙ ap (λ b. length b + 1) (same t o (splits h.before h.label k.before k.label both)) ∙ sym k.place
  where
    same : TakesOperand inverses h.before → TakesOperand inverses k.before → Splits h.before h.label k.before k.label → h.before ≡ k.before
    same t o (FirstIsFront middle a b) = sym (nothing_between inverses h.before k.before h.label h.name k.label middle t o h.begins a b)
    same t o (ThirdIsFront middle a b) = nothing_between inverses k.before h.before k.label k.name h.label middle o t k.begins a b

one_there : {inverses : Bool} {front : List ℕ} {byte : ℕ} {first second : BadExpr} → IsTaken inverses front → Shows inverses front byte first → Shows inverses front byte second → first ≡ second
one_there taken (ShowsUnexpected at place refused) (ShowsUnexpected other there refused') = ap (λ n. Unexpected n) (place ∙ sym there)
one_there taken (ShowsUnexpected at place refused) (ShowsLong other on long) = absurd (refused on)
one_there taken (ShowsUnexpected at place refused) (ShowsMany on short many) = absurd (refused on)
one_there taken (ShowsLong at on long) (ShowsUnexpected other there refused) = absurd (refused on)
one_there {inverses} {front} {byte} taken (ShowsLong at on long) (ShowsLong other on' long') = ap (λ n. LongName n) (long_place inverses front byte at other taken long long')
one_there taken (ShowsLong at on long) (ShowsMany on' short many) = absurd (short at long)
one_there taken (ShowsMany on short many) (ShowsUnexpected other there refused) = absurd (refused on)
one_there taken (ShowsMany on short many) (ShowsLong at on' long) = absurd (short at long)
one_there taken (ShowsMany on short many) (ShowsMany on' short' many') = refl

one_has : (inverses : Bool) (bytes : List ℕ) (first second : BadExpr) → Has inverses bytes first → Has inverses bytes second → first ≡ second
one_has inverses bytes first second (AtEnd is a) (AtEnd there b) = is ∙ sym there
one_has inverses bytes first second (AtEnd is a) (Within front byte reached shows) = absurd (not_taken shows reached.rest (subst (IsTaken inverses) reached.split a.taken))
one_has inverses bytes first second (Within front byte reached shows) (AtEnd there b) = absurd (not_taken shows reached.rest (subst (IsTaken inverses) reached.split b.taken))
one_has inverses bytes first second (Within front byte reached shows) (Within other last reached' shows') =
    by (fronts front byte other last reached.rest reached'.rest (sym reached.split ∙ reached'.split))
  where
    by : Fronts front byte other last → first ≡ second
    by (Equal a b) =
        one_there reached'.taken (subst (λ f. Shows inverses f last first) a (subst (λ c. Shows inverses front c first) b shows)) shows'
    by (Shorter more a) = absurd (not_taken shows more (subst (IsTaken inverses) a reached'.taken))
    by (Longer more a) = absurd (not_taken shows' more (subst (IsTaken inverses) a reached.taken))

-- bytes have one fault at most
pub one_fault : (inverses : Bool) (bytes : List ℕ) (first second : BadExpr) → IsFault inverses first bytes → IsFault inverses second bytes → first ≡ second
one_fault inverses bytes first second f g = one_has inverses bytes first second (has_fault inverses first bytes f) (has_fault inverses second bytes g)

-- and one outcome
pub one_outcome : (inverses : Bool) (bytes : List ℕ) (first second : Result Expression BadExpr) → IsOutcomeOf inverses bytes first → IsOutcomeOf inverses bytes second → first ≡ second
one_outcome inverses bytes first second (Whole e text limits) (Whole f there within) = ap (λ x. Ok x) (one_expression inverses bytes e f text there)
one_outcome inverses bytes first second (Whole e text limits) (Faulty fault has) = absurd (no_fault inverses bytes fault e text limits has)
one_outcome inverses bytes first second (Faulty fault has) (Whole e text limits) = absurd (no_fault inverses bytes fault e text limits has)
one_outcome inverses bytes first second (Faulty fault has) (Faulty other there) = ap (λ f. Err f) (one_fault inverses bytes fault other has there)

-- what reading gives is the outcome
pub outcome_is_read : (inverses : Bool) (bytes : List ℕ) (is : Result Expression BadExpr) → IsOutcomeOf inverses bytes is → reading inverses bytes ≡ is
outcome_is_read inverses bytes is there = one_outcome inverses bytes (reading inverses bytes) is (outcome inverses bytes) there
