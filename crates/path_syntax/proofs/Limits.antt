-- Where the reader stands with its counts, and what each fault of it says.
use Rattle.std.proofs.Common.{◌≡◌, ℕ, ◌+◌, ◌≤◌, ◌<◌, ◌&&◌, ◌⊎◌, Bool, true, false, cond, List, [], ◌∷◌, ◌++◌, length, Option, Some, None, Result, Ok, Err, codes, refl, sym, ◌∙◌, ap, subst, inl, inr, ⊎_elim, append_assoc, arith, nat_lt}
use Rattle.std.specs.Option.{option_and_then}
use Rattle.std.proofs.lemmas.List.{append-nil, length_push}
use Rattle.std.proofs.lemmas.Bool.{and_parts, and_from, ltb-true, ltb-false}
use Rattle.rpq_base.specs.Names.{is_name_byte}
use Rattle.path_syntax.specs.declared.read.BadExpr.{BadExpr}
use Rattle.path_syntax.specs.declared.read.BadExpr.TheVariants.{Unexpected, Ended, TooLarge, LongName}
use Rattle.path_syntax.specs.Expression.{Expression}
use Rattle.path_syntax.specs.Grammar.{is_bare_byte, IsBare, AreNameBytes, quoted, CanGoOn}
use Rattle.path_syntax.specs.Faults.{is_sign, signs, BeginsLabel, BeginsBare, BeginsQuoted, HasLongName, IsTaken, Reaches, IsFault, IsOutcomeOf, Whole, Faulty}
use Rattle.path_syntax.specs.Reading.{FrameValue, ModeValue, Operand, BareLabel, QuotedLabel, Escape, Primary, Element, StateValue, state_with, initial, step, whole_of, name_length, takes_operand, is_outside, ReaderValue, start, label_place_after, signs_after, after_step, read_byte, ◌>>=◌, read_all, ended_by, reading}
use Rattle.path_syntax.proofs.Steps.{Leads, OperandBlank, OperandOpen, OperandCaret, OperandQuote, OperandBare, BareMore, QuotedMore, QuotedBackslash, QuotedEnd, EscapeQuote, EscapeBackslash, PrimaryBlank, PrimaryStar, PrimaryPlus, PrimaryOpt, ElementBlank, ElementSlash, ElementBar, ElementClose, step_leads, run, run_from, run_one}
use Rattle.path_syntax.proofs.Soundness.{quoted_push, escaped_plain, all_push, sound}
use Rattle.path_syntax.proofs.Completeness.{begin_bare, bare_run, begin_quoted, quoted_run, complete}
use Rattle.path_syntax.proofs.Fronts.{goes_on, goes_through, TakesOperand, takes_label, takes_operand_there}
use Rattle.path_syntax.proofs.Signs.{signs_push, name_grows}

-- the label that stands directly before began at this place
pub record LabelAt (inverses : Bool) (front : List ℕ) (operand : ℕ) (label : List ℕ) : Type 0 where
  pub before : List ℕ
  pub split : front ≡ before ++ label
  pub place : operand ≡ length before + 1
  pub takes : TakesOperand inverses before

abbrev SaysOperand : Bool → List ℕ → ModeValue → ℕ → Type 0
SaysOperand inverses front (Operand back) operand = Unit {0}
SaysOperand inverses front (BareLabel name back) operand = LabelAt inverses front operand name × IsBare name
SaysOperand inverses front (QuotedLabel name back) operand = LabelAt inverses front operand (codes "\"" ++ quoted name) × AreNameBytes name
SaysOperand inverses front (Escape name back) operand = LabelAt inverses front operand (codes "\"" ++ quoted name ++ codes "\\") × AreNameBytes name
SaysOperand inverses front (Primary e) operand = Unit {0}
SaysOperand inverses front (Element e) operand = Unit {0}

-- the label has more bytes
longer : (inverses : Bool) (front : List ℕ) (operand : ℕ) (label more : List ℕ) → LabelAt inverses front operand label → LabelAt inverses (front ++ more) operand (label ++ more)
longer inverses front operand label more l = record {
  before = l.before;
  split = ap (λ t. t ++ more) l.split ∙ append_assoc l.before label more;
  place = l.place;
  takes = l.takes;
}

relabelled : (inverses : Bool) (front : List ℕ) (operand : ℕ) (label other : List ℕ) → label ≡ other → LabelAt inverses front operand label → LabelAt inverses front operand other
relabelled inverses front operand label other e l = subst (LabelAt inverses front operand) e l

begun : (inverses : Bool) (front : List ℕ) (back : Bool) (outer : List FrameValue) (frame : FrameValue) (label : List ℕ) → run inverses front initial ≡ Some (state_with outer frame (Operand back)) →
    LabelAt inverses (front ++ label) (length front + 1) label
begun inverses front back outer frame label ran = record { before = front; split = refl; place = refl; takes = record { back = back; outer = outer; frame = frame; ran = ran } }

operand_lead : (inverses : Bool) {outer : List FrameValue} {frame : FrameValue} {mode : ModeValue} {byte : ℕ} {after : StateValue} → Leads inverses outer frame mode byte after →
    (front : List ℕ) (operand : ℕ) → run inverses front initial ≡ Some (state_with outer frame mode) → SaysOperand inverses front mode operand →
    SaysOperand inverses (front ++ byte ∷ []) after.mode (cond (takes_operand mode) (length front + 1) operand)
operand_lead inverses (OperandBlank outer frame back byte blank) front operand ran says = tt
operand_lead inverses (OperandOpen outer frame) front operand ran says = tt
operand_lead inverses (OperandCaret outer frame taken) front operand ran says = tt
operand_lead inverses (OperandQuote outer frame back) front operand ran says = (begun inverses front back outer frame (34 ∷ []) ran, refl)
operand_lead inverses (OperandBare outer frame back byte bare) front operand ran says = (begun inverses front back outer frame (byte ∷ []) ran, and_from _ _ bare refl)
operand_lead inverses (BareMore outer frame name back byte bare) front operand ran says =
    (longer inverses front operand name (byte ∷ []) says.0, all_push is_bare_byte name byte says.1 bare)
operand_lead inverses (QuotedMore outer frame name back byte named quote backslash) front operand ran says = (
  relabelled inverses (front ++ byte ∷ []) operand (codes "\"" ++ quoted name ++ byte ∷ []) (codes "\"" ++ quoted (name ++ byte ∷ []))
      (ap (λ t. codes "\"" ++ (quoted name ++ t)) (sym (escaped_plain byte quote backslash)) ∙ ap (λ t. codes "\"" ++ t) (sym (quoted_push name byte)))
      (longer inverses front operand (codes "\"" ++ quoted name) (byte ∷ []) says.0),
  all_push is_name_byte name byte says.1 named,
)
operand_lead inverses (QuotedBackslash outer frame name back) front operand ran says =
    (longer inverses front operand (codes "\"" ++ quoted name) (92 ∷ []) says.0, says.1)
operand_lead inverses (QuotedEnd outer frame first name back) front operand ran says = tt
operand_lead inverses (EscapeQuote outer frame name back) front operand ran says = (
  relabelled inverses (front ++ 34 ∷ []) operand (codes "\"" ++ quoted name ++ codes "\\" ++ 34 ∷ []) (codes "\"" ++ quoted (name ++ 34 ∷ []))
      (append_assoc (codes "\"" ++ quoted name) (codes "\\") (34 ∷ []) ∙ ap (λ t. codes "\"" ++ t) (sym (quoted_push name 34)))
      (longer inverses front operand (codes "\"" ++ quoted name ++ codes "\\") (34 ∷ []) says.0),
  all_push is_name_byte name 34 says.1 refl,
)
operand_lead inverses (EscapeBackslash outer frame name back) front operand ran says = (
  relabelled inverses (front ++ 92 ∷ []) operand (codes "\"" ++ quoted name ++ codes "\\" ++ 92 ∷ []) (codes "\"" ++ quoted (name ++ 92 ∷ []))
      (append_assoc (codes "\"" ++ quoted name) (codes "\\") (92 ∷ []) ∙ ap (λ t. codes "\"" ++ t) (sym (quoted_push name 92)))
      (longer inverses front operand (codes "\"" ++ quoted name ++ codes "\\") (92 ∷ []) says.0),
  all_push is_name_byte name 92 says.1 refl,
)
operand_lead inverses (PrimaryBlank outer frame mode e byte is blank) front operand ran says = tt
operand_lead inverses (PrimaryStar outer frame mode e is) front operand ran says = tt
operand_lead inverses (PrimaryPlus outer frame mode e is) front operand ran says = tt
operand_lead inverses (PrimaryOpt outer frame mode e is) front operand ran says = tt
operand_lead inverses (ElementBlank outer frame e byte blank) front operand ran says = tt
operand_lead inverses (ElementSlash outer frame mode e ends) front operand ran says = tt
operand_lead inverses (ElementBar outer frame mode e ends) front operand ran says = tt
operand_lead inverses (ElementClose other outer frame mode e ends) front operand ran says = tt

-- the reader over the beginning of a label
pub record LabelRun (inverses back : Bool) (outer : List FrameValue) (frame : FrameValue) (label name : List ℕ) : Type 0 where
  pub mode : ModeValue
  pub ran : run inverses label (state_with outer frame (Operand back)) ≡ Some (state_with outer frame mode)
  pub size : name_length mode ≡ length name

pub begins_run : (inverses : Bool) {label name : List ℕ} → BeginsLabel label name → (back : Bool) (outer : List FrameValue) (frame : FrameValue) → LabelRun inverses back outer frame label name
begins_run inverses (BeginsBare [] bare) back outer frame = record { mode = Operand back; ran = refl; size = refl }
begins_run inverses (BeginsBare (byte ∷ name) bare) back outer frame =
    let both : (is_bare_byte byte ≡ true) × (IsBare name) = and_parts _ _ bare in
    record {
      mode = BareLabel (byte ∷ name) back;
      ran = ap (option_and_then (run inverses name)) (begin_bare inverses byte back outer frame both.0) ∙ bare_run inverses name (byte ∷ []) back outer frame both.1;
      size = refl;
    }
begins_run inverses (BeginsQuoted name named) back outer frame = record {
  mode = QuotedLabel name back;
  ran = ap (option_and_then (run inverses (quoted name))) (begin_quoted inverses back outer frame) ∙ quoted_run inverses name [] back outer frame named;
  size = refl;
}

-- no name before is longer than 255 bytes
abbrev pub IsShort : Bool → List ℕ → Type 0
IsShort inverses front = (first second : List ℕ) (state : StateValue) → front ≡ first ++ second → run inverses first initial ≡ Some state → name_length state.mode ≤ 255

pub short_no_long : (inverses : Bool) (front : List ℕ) → IsShort inverses front → (at : ℕ) → HasLongName inverses front at → ⊥
short_no_long inverses front short at h =
    let t = takes_operand_there inverses h.before h.stands in
    let l = begins_run inverses h.begins t.back t.outer t.frame in
    let bound : name_length l.mode ≤ 255 =
    short (h.before ++ h.label) h.after (state_with t.outer t.frame l.mode) h.split (run_from inverses h.before h.label initial _ t.ran ∙ l.ran) in
    let size : name_length l.mode ≡ length h.name = l.size in
    let long : length h.name ≡ 256 = h.long in
    absurd (omega arith)

-- a front of one more byte is the whole or a front of what stood before
pub split_push : (front : List ℕ) (byte : ℕ) (first second : List ℕ) → front ++ byte ∷ [] ≡ first ++ second →
    ((first ≡ front ++ byte ∷ []) × (second ≡ [])) ⊎ ((more : List ℕ) × (front ≡ first ++ more))
split_push front byte [] second e = inr (front, refl)
split_push [] byte (x ∷ first) second e =
    let tail : [] ≡ first ++ second = cc in
    let head : byte ≡ x = cc in
    inl (nothing first second tail x head)
  where
    nothing : (first second : List ℕ) → [] ≡ first ++ second → (x : ℕ) → byte ≡ x → (x ∷ first ≡ byte ∷ []) × (second ≡ [])
    nothing [] second e x h = (ap (λ y. y ∷ []) (sym h), sym e)
    nothing (y ∷ first) second e x h = absurd cc
split_push (y ∷ front) byte (x ∷ first) second e =
    let tail : front ++ byte ∷ [] ≡ first ++ second = cc in
    let head : y ≡ x = cc in
    ⊎_elim
    (λ whole. inl (ap (λ t. x ∷ t) whole.0 ∙ ap (λ z. z ∷ (front ++ byte ∷ [])) (sym head), whole.1))
    (λ (more, part). inr (more, ap (λ t. y ∷ t) part ∙ ap (λ z. z ∷ (first ++ more)) head))
    (split_push front byte first second tail)

pub short_push : (inverses : Bool) (front : List ℕ) (byte : ℕ) (state : StateValue) → IsShort inverses front → run inverses (front ++ byte ∷ []) initial ≡ Some state →
    name_length state.mode ≤ 255 → IsShort inverses (front ++ byte ∷ [])
short_push inverses front byte state short ran bound first second other e there =
    ⊎_elim
    (λ whole.
    let both : Some other ≡ Some state = sym there ∙ ap (λ t. run inverses t initial) whole.0 ∙ ran in
    let same : state ≡ other = cc in
    subst (λ s. name_length s.mode ≤ 255) same bound)
    (λ (more, part). short first more other part there)
    (split_push front byte first second e)

-- the reader has gone through these bytes without a fault
pub record IsAt (inverses : Bool) (front : List ℕ) (reader : ReaderValue) : Type 0 where
  pub ran : run inverses front initial ≡ Some reader.state
  pub place : reader.place ≡ length front
  pub counted : reader.signs ≡ signs front
  pub few : reader.signs ≤ 512
  pub short : IsShort inverses front
  pub operand : SaysOperand inverses front reader.state.mode reader.label_place

short_start : (inverses : Bool) → IsShort inverses []
short_start inverses [] second state e ran = let same : initial ≡ state = cc in subst (λ s. name_length s.mode ≤ 255) same (omega arith)
short_start inverses (byte ∷ first) second state e ran = absurd cc

pub at_start : (inverses : Bool) → IsAt inverses [] start
at_start inverses = record { ran = refl; place = refl; counted = refl; few = omega arith; short = short_start inverses; operand = tt }

-- no fault shows in what the reader has gone through
pub at_taken : (inverses : Bool) (front : List ℕ) (reader : ReaderValue) → IsAt inverses front reader → IsTaken inverses front
at_taken inverses front reader at = record {
  goes_on = goes_on inverses front reader.state at.ran;
  limits = record {
    few = let counted : reader.signs ≡ signs front = at.counted in let few : reader.signs ≤ 512 = at.few in omega arith;
    short = short_no_long inverses front at.short;
  };
}

-- the signs with one more byte
signs_there : (inverses : Bool) (front : List ℕ) (byte : ℕ) (reader : ReaderValue) (state : StateValue) → IsAt inverses front reader → step inverses reader.state byte ≡ Some state →
    signs_after reader byte ≡ signs (front ++ byte ∷ [])
signs_there inverses front byte reader state at e =
    let pushed = signs_push inverses front byte reader.state state at.ran e in
    counts (is_outside reader.state.mode && is_sign byte) reader.signs (signs front) at.counted ∙ sym pushed
  where
    counts : (sign : Bool) (n m : ℕ) → n ≡ m → cond sign (n + 1) n ≡ m + cond sign 1 0
    counts true n m e = ap (λ k. k + 1) e
    counts false n m e = omega arith

pub ran_push : (inverses : Bool) (front : List ℕ) (byte : ℕ) (reader : ReaderValue) (state : StateValue) → IsAt inverses front reader → step inverses reader.state byte ≡ Some state →
    run inverses (front ++ byte ∷ []) initial ≡ Some state
ran_push inverses front byte reader state at e = run_from inverses front (byte ∷ []) initial reader.state at.ran ∙ run_one inverses byte reader.state state e

says_there : (inverses : Bool) (front : List ℕ) (byte : ℕ) (reader : ReaderValue) (state : StateValue) → IsAt inverses front reader → step inverses reader.state byte ≡ Some state →
    SaysOperand inverses (front ++ byte ∷ []) state.mode (label_place_after reader)
says_there inverses front byte reader state at e =
    let place : length front + 1 ≡ reader.place + 1 = ap (λ n. n + 1) (sym at.place) in
    subst (λ n. SaysOperand inverses (front ++ byte ∷ []) state.mode (cond (takes_operand reader.state.mode) n reader.label_place)) place
    (operand_lead inverses (step_leads inverses reader.state byte state e) front reader.label_place at.ran at.operand)

at_push : (inverses : Bool) (front : List ℕ) (byte : ℕ) (reader : ReaderValue) (state : StateValue) → IsAt inverses front reader → step inverses reader.state byte ≡ Some state →
    name_length state.mode ≤ 255 → signs_after reader byte ≤ 512 →
    IsAt inverses (front ++ byte ∷ []) (record { state = state; label_place = label_place_after reader; signs = signs_after reader byte; place = reader.place + 1 })
at_push inverses front byte reader state at e short few = record {
  ran = ran_push inverses front byte reader state at e;
  place = ap (λ n. n + 1) at.place ∙ sym (length_push front byte);
  counted = signs_there inverses front byte reader state at e;
  few = few;
  short = short_push inverses front byte state at.short (ran_push inverses front byte reader state at e) short;
  operand = says_there inverses front byte reader state at e;
}

-- a name that has become too long has 256 bytes, and none of them is escaped by half
long_there : (inverses : Bool) (front : List ℕ) (operand : ℕ) (mode : ModeValue) (before : ℕ) → SaysOperand inverses front mode operand → 255 < name_length mode →
    name_length mode ≤ 256 → ((name : List ℕ) (back : Bool) → mode ≡ Escape name back → ⊥) → HasLongName inverses front operand
long_there inverses front operand (Operand back) before says long bound whole = absurd (omega arith)
long_there inverses front operand (BareLabel name back) before (l, bare) long bound whole = record {
  before = l.before;
  label = name;
  after = [];
  name = name;
  split = l.split ∙ sym (append-nil _);
  place = l.place;
  stands = takes_label inverses l.before l.takes;
  begins = BeginsBare name bare;
  long = omega arith;
}
long_there inverses front operand (QuotedLabel name back) before (l, named) long bound whole = record {
  before = l.before;
  label = codes "\"" ++ quoted name;
  after = [];
  name = name;
  split = l.split ∙ sym (append-nil _);
  place = l.place;
  stands = takes_label inverses l.before l.takes;
  begins = BeginsQuoted name named;
  long = omega arith;
}
long_there inverses front operand (Escape name back) before says long bound whole = absurd (whole name back refl)
long_there inverses front operand (Primary e) before says long bound whole = absurd (omega arith)
long_there inverses front operand (Element e) before says long bound whole = absurd (omega arith)

-- a backslash doesn't make the name longer
no_escape : {inverses : Bool} {outer : List FrameValue} {frame : FrameValue} {mode : ModeValue} {byte : ℕ} {after : StateValue} → Leads inverses outer frame mode byte after →
    name_length mode ≤ 255 → 255 < name_length after.mode → (name : List ℕ) (back : Bool) → after.mode ≡ Escape name back → ⊥
no_escape (OperandBlank outer frame back byte blank) short long name back' e = cc
no_escape (OperandOpen outer frame) short long name back' e = cc
no_escape (OperandCaret outer frame taken) short long name back' e = cc
no_escape (OperandQuote outer frame back) short long name back' e = cc
no_escape (OperandBare outer frame back byte bare) short long name back' e = cc
no_escape (BareMore outer frame other back byte bare) short long name back' e = cc
no_escape (QuotedMore outer frame other back byte named quote backslash) short long name back' e = cc
no_escape (QuotedBackslash outer frame other back) short long name back' e = omega arith
no_escape (QuotedEnd outer frame first other back) short long name back' e = cc
no_escape (EscapeQuote outer frame other back) short long name back' e = cc
no_escape (EscapeBackslash outer frame other back) short long name back' e = cc
no_escape (PrimaryBlank outer frame mode f byte is blank) short long name back' e = cc
no_escape (PrimaryStar outer frame mode f is) short long name back' e = cc
no_escape (PrimaryPlus outer frame mode f is) short long name back' e = cc
no_escape (PrimaryOpt outer frame mode f is) short long name back' e = cc
no_escape (ElementBlank outer frame f byte blank) short long name back' e = cc
no_escape (ElementSlash outer frame mode f ends) short long name back' e = cc
no_escape (ElementBar outer frame mode f ends) short long name back' e = cc
no_escape (ElementClose other outer frame mode f ends) short long name back' e = cc

-- what the reader makes of one more byte
data ByteOutcome (inverses : Bool) (front : List ℕ) (byte : ℕ) : Result ReaderValue BadExpr → Type 0 where
  Goes : (reader : ReaderValue) → IsAt inverses (front ++ byte ∷ []) reader → ByteOutcome inverses front byte (Ok reader)
  RefusedAt : (at : ℕ) → at ≡ length front + 1 → (CanGoOn inverses (front ++ byte ∷ []) → ⊥) → ByteOutcome inverses front byte (Err (Unexpected at))
  LongAt : (at : ℕ) → CanGoOn inverses (front ++ byte ∷ []) → HasLongName inverses (front ++ byte ∷ []) at → ByteOutcome inverses front byte (Err (LongName at))
  ManyAt : CanGoOn inverses (front ++ byte ∷ []) → ((at : ℕ) → HasLongName inverses (front ++ byte ∷ []) at → ⊥) → signs (front ++ byte ∷ []) ≡ 513 →
      ByteOutcome inverses front byte (Err TooLarge)

within : (inverses : Bool) (front : List ℕ) (byte : ℕ) (reader : ReaderValue) (state : StateValue) → IsAt inverses front reader → step inverses reader.state byte ≡ Some state →
    (long many : Bool) → nat_lt 255 (name_length state.mode) ≡ long → nat_lt 512 (signs_after reader byte) ≡ many →
    ByteOutcome inverses front byte (cond long (Err (LongName (label_place_after reader))) (cond many (Err TooLarge)
    (Ok (record { state = state; label_place = label_place_after reader; signs = signs_after reader byte; place = reader.place + 1 }))))
within inverses front byte reader state at e true many long_is many_is =
    let long : 255 < name_length state.mode = ltb-true _ _ long_is in
    let short : name_length reader.state.mode ≤ 255 = at.short front [] reader.state (sym (append-nil front)) at.ran in
    let grows : name_length state.mode ≤ name_length reader.state.mode + 1 = name_grows inverses reader.state byte state e in
    LongAt (label_place_after reader) (goes_on inverses (front ++ byte ∷ []) state (ran_push inverses front byte reader state at e))
    (long_there inverses (front ++ byte ∷ []) (label_place_after reader) state.mode 0 (says_there inverses front byte reader state at e) long (omega arith)
    (no_escape (step_leads inverses reader.state byte state e) short long))
within inverses front byte reader state at e false true long_is many_is =
    let short : name_length state.mode ≤ 255 = ltb-false _ _ long_is in
    let many : 512 < signs_after reader byte = ltb-true _ _ many_is in
    let there : signs_after reader byte ≡ signs (front ++ byte ∷ []) = signs_there inverses front byte reader state at e in
    let one_more : signs_after reader byte ≤ reader.signs + 1 = at_most_one (is_outside reader.state.mode && is_sign byte) reader.signs in
    let few : reader.signs ≤ 512 = at.few in
    ManyAt (goes_on inverses (front ++ byte ∷ []) state (ran_push inverses front byte reader state at e))
    (short_no_long inverses (front ++ byte ∷ []) (short_push inverses front byte state at.short (ran_push inverses front byte reader state at e) short)) (omega arith)
  where
    at_most_one : (sign : Bool) (n : ℕ) → cond sign (n + 1) n ≤ n + 1
    at_most_one true n = omega arith
    at_most_one false n = omega arith
within inverses front byte reader state at e false false long_is many_is =
    Goes _ (at_push inverses front byte reader state at e (ltb-false _ _ long_is) (ltb-false _ _ many_is))

by_step : (inverses : Bool) (front : List ℕ) (byte : ℕ) (reader : ReaderValue) → IsAt inverses front reader → (next : Option StateValue) → step inverses reader.state byte ≡ next →
    ByteOutcome inverses front byte (after_step reader byte next)
by_step inverses front byte reader at None e =
    RefusedAt (reader.place + 1) (ap (λ n. n + 1) at.place) (λ on.
    let g = goes_through inverses (front ++ byte ∷ []) on in
    let none : run inverses (front ++ byte ∷ []) initial ≡ None = run_from inverses front (byte ∷ []) initial reader.state at.ran ∙ ap (option_and_then (run inverses [])) e in
    let both : None ≡ Some g.state = sym none ∙ g.ran in cc)
by_step inverses front byte reader at (Some state) e =
    within inverses front byte reader state at e (nat_lt 255 (name_length state.mode)) (nat_lt 512 (signs_after reader byte)) refl refl

byte_outcome : (inverses : Bool) (front : List ℕ) (byte : ℕ) (reader : ReaderValue) → IsAt inverses front reader → ByteOutcome inverses front byte (read_byte inverses reader byte)
unfolding read_byte
byte_outcome inverses front byte reader at = by_step inverses front byte reader at (step inverses reader.state byte) refl

-- what the reader makes of bytes
pub data ReadOutcome (inverses : Bool) (bytes : List ℕ) : Result ReaderValue BadExpr → Type 0 where
  Through : (reader : ReaderValue) → IsAt inverses bytes reader → ReadOutcome inverses bytes (Ok reader)
  Failed : (fault : BadExpr) → IsFault inverses fault bytes → ReadOutcome inverses bytes (Err fault)

reaches : (inverses : Bool) (front : List ℕ) (byte : ℕ) (rest : List ℕ) (reader : ReaderValue) → IsAt inverses front reader → Reaches inverses (front ++ byte ∷ rest) front byte
reaches inverses front byte rest reader at = record { rest = rest; split = refl; taken = at_taken inverses front reader at }

after_byte : (inverses : Bool) (byte : ℕ) (bytes front : List ℕ) (reader : ReaderValue) → IsAt inverses front reader →
    ((next : ReaderValue) → IsAt inverses (front ++ byte ∷ []) next → ReadOutcome inverses (front ++ byte ∷ [] ++ bytes) (read_all inverses bytes next)) →
    (given : Result ReaderValue BadExpr) → ByteOutcome inverses front byte given → ReadOutcome inverses (front ++ byte ∷ bytes) (given >>= read_all inverses bytes)
after_byte inverses byte bytes front reader at again given (Goes next there) =
    subst (λ t. ReadOutcome inverses t (read_all inverses bytes next)) (append_assoc front (byte ∷ []) bytes) (again next there)
after_byte inverses byte bytes front reader at again given (RefusedAt place is refused) =
    Failed (Unexpected place) (record { front = front; byte = byte; reached = reaches inverses front byte bytes reader at; place = is; refused = refused })
after_byte inverses byte bytes front reader at again given (LongAt place on long) =
    Failed (LongName place) (record { front = front; byte = byte; reached = reaches inverses front byte bytes reader at; goes_on = on; long = long })
after_byte inverses byte bytes front reader at again given (ManyAt on short many) =
    Failed TooLarge (record { front = front; byte = byte; reached = reaches inverses front byte bytes reader at; goes_on = on; short = short; many = many })

all_outcome : (inverses : Bool) (bytes front : List ℕ) (reader : ReaderValue) → IsAt inverses front reader → ReadOutcome inverses (front ++ bytes) (read_all inverses bytes reader)
all_outcome inverses [] front reader at = subst (λ t. ReadOutcome inverses t (Ok reader)) (sym (append-nil front)) (Through reader at)
all_outcome inverses (byte ∷ bytes) front reader at =
    after_byte inverses byte bytes front reader at (all_outcome inverses bytes (front ++ byte ∷ [])) (read_byte inverses reader byte) (byte_outcome inverses front byte reader at)

at_end : (inverses : Bool) (bytes : List ℕ) (reader : ReaderValue) → IsAt inverses bytes reader → (whole : Option Expression) → whole_of reader.state ≡ whole →
    IsOutcomeOf inverses bytes (ended_by whole)
at_end inverses bytes reader at (Some e) is =
    let taken = at_taken inverses bytes reader at in Whole e (sound inverses bytes reader.state e at.ran is) taken.limits
at_end inverses bytes reader at None is =
    Faulty Ended (record {
      taken = at_taken inverses bytes reader at;
      incomplete = λ e text.
          let r = complete inverses bytes e text in
          let both : Some reader.state ≡ Some r.state = sym at.ran ∙ r.ran in
          let same : reader.state ≡ r.state = cc in
          let none : None ≡ Some e = sym is ∙ ap whole_of same ∙ r.whole in
          cc;
    })

outcome_of : (inverses : Bool) (bytes : List ℕ) (given : Result ReaderValue BadExpr) → ReadOutcome inverses bytes given →
    IsOutcomeOf inverses bytes (given >>= λ reader. ended_by (whole_of reader.state))
outcome_of inverses bytes given (Through reader at) = at_end inverses bytes reader at (whole_of reader.state) refl
outcome_of inverses bytes given (Failed fault has) = Faulty fault has

pub outcome : (inverses : Bool) (bytes : List ℕ) → IsOutcomeOf inverses bytes (reading inverses bytes)
unfolding reading
outcome inverses bytes = outcome_of inverses bytes (read_all inverses bytes start) (all_outcome inverses bytes [] start (at_start inverses))
