-- The texts without inverses are those with inverses whose labels point forwards.
use Rattle.std.proofs.Common.{◌≡◌, ℕ, Bool, List, [], ◌∷◌, ◌++◌, Some, Ok, sym, ◌∙◌, subst, append_assoc}
use Rattle.std.proofs.lemmas.Option.{option_and_then_some}
use Rattle.path_syntax.specs.declared.byte_kind.ByteKind.{ByteKind}
use Rattle.path_syntax.specs.declared.byte_kind.ByteKind.TheVariants as kinds
use Rattle.path_syntax.specs.Expression.{Expression}
use Rattle.path_syntax.specs.Plain.{IsPlainExpression}
use Rattle.path_syntax.specs.Grammar.{one_way, two_way, IsAlternative, OneSequence, Either, IsSequence, OneElement, Then, IsElement, Once, Starred, Plussed, Optional, IsPrimary, Named, Inverse, InParentheses, IsText, CanGoOn}
use Rattle.path_syntax.specs.Faults.{HasLongName, IsWithinLimits, IsOutcome, IsTwoWayOutcome, Whole}
use Rattle.path_syntax.specs.GrammarLaws.{OneWayIsPlain}
use Rattle.path_syntax.specs.Reading.{kind_of, FrameValue, ModeValue, Operand, BareLabel, QuotedLabel, Escape, Primary, Element, StateValue, state_with, initial, in_operand, step_by, step}
use Rattle.path_syntax.proofs.Steps.{run, run_by}
use Rattle.path_syntax.proofs.Completeness.{complete}
use Rattle.path_syntax.proofs.Fronts.{TakesOperand, takes_label, takes_operand_there}
use Rattle.path_syntax.proofs.Answering.{plain_text}

-- a text without inverses is one with them
mutual
  alternative_wider : {text : List ℕ} {e : Expression} → IsAlternative one_way text e → IsAlternative two_way text e
  alternative_wider (OneSequence s) = OneSequence (sequence_wider s)
  alternative_wider (Either left right a s) = Either left right (alternative_wider a) (sequence_wider s)

  sequence_wider : {text : List ℕ} {e : Expression} → IsSequence one_way text e → IsSequence two_way text e
  sequence_wider (OneElement l) = OneElement (element_wider l)
  sequence_wider (Then left right s l) = Then left right (sequence_wider s) (element_wider l)

  element_wider : {text : List ℕ} {e : Expression} → IsElement one_way text e → IsElement two_way text e
  element_wider (Once p) = Once (primary_wider p)
  element_wider (Starred text after p a) = Starred text after (primary_wider p) a
  element_wider (Plussed text after p a) = Plussed text after (primary_wider p) a
  element_wider (Optional text after p a) = Optional text after (primary_wider p) a

  primary_wider : {text : List ℕ} {e : Expression} → IsPrimary one_way text e → IsPrimary two_way text e
  primary_wider (Named before text after b l a) = Named before text after b l a
  primary_wider (Inverse before between text after taken b w l a) = absurd cc
  primary_wider (InParentheses before inside after b i a) = InParentheses before inside after b (alternative_wider i) a

-- one with them whose labels point forwards is one without them
mutual
  alternative_narrower : {text : List ℕ} {e : Expression} → IsAlternative two_way text e → IsPlainExpression e → IsAlternative one_way text e
  alternative_narrower (OneSequence s) plain = OneSequence (sequence_narrower s plain)
  alternative_narrower (Either left right a s) plain = Either left right (alternative_narrower a plain.0) (sequence_narrower s plain.1)

  sequence_narrower : {text : List ℕ} {e : Expression} → IsSequence two_way text e → IsPlainExpression e → IsSequence one_way text e
  sequence_narrower (OneElement l) plain = OneElement (element_narrower l plain)
  sequence_narrower (Then left right s l) plain = Then left right (sequence_narrower s plain.0) (element_narrower l plain.1)

  element_narrower : {text : List ℕ} {e : Expression} → IsElement two_way text e → IsPlainExpression e → IsElement one_way text e
  element_narrower (Once p) plain = Once (primary_narrower p plain)
  element_narrower (Starred text after p a) plain = Starred text after (primary_narrower p plain) a
  element_narrower (Plussed text after p a) plain = Plussed text after (primary_narrower p plain) a
  element_narrower (Optional text after p a) plain = Optional text after (primary_narrower p plain) a

  primary_narrower : {text : List ℕ} {e : Expression} → IsPrimary two_way text e → IsPlainExpression e → IsPrimary one_way text e
  primary_narrower (Named before text after b l a) plain = Named before text after b l a
  primary_narrower (Inverse before between text after taken b w l a) plain = absurd cc
  primary_narrower (InParentheses before inside after b i a) plain = InParentheses before inside after b (alternative_narrower i plain) a

-- what begins a text without inverses begins one with them
goes_on_wider : (front : List ℕ) → CanGoOn one_way front → CanGoOn two_way front
goes_on_wider front c = record { rest = c.rest; whole = c.whole; text = alternative_wider c.text }

long_wider : (bytes : List ℕ) (at : ℕ) → HasLongName one_way bytes at → HasLongName two_way bytes at
long_wider bytes at h = record {
  before = h.before;
  label = h.label;
  after = h.after;
  name = h.name;
  split = h.split;
  place = h.place;
  stands = λ text name label. goes_on_wider (h.before ++ text) (h.stands text name label);
  begins = h.begins;
  long = h.long;
}

limits_narrower : (bytes : List ℕ) → IsWithinLimits two_way bytes → IsWithinLimits one_way bytes
limits_narrower bytes limits = record { few = limits.few; short = λ at h. limits.short at (long_wider bytes at h) }

-- each step of the reader without inverses is one with them
operand_wider : (outer : List FrameValue) (frame : FrameValue) (back : Bool) (kind : ByteKind) (byte : ℕ) (after : StateValue) →
    in_operand one_way outer frame back kind byte ≡ Some after → in_operand two_way outer frame back kind byte ≡ Some after
operand_wider outer frame back kinds.Blank byte after e = e
operand_wider outer frame back kinds.Open byte after e = e
operand_wider outer frame back kinds.Caret byte after e = absurd cc
operand_wider outer frame back kinds.Quote byte after e = e
operand_wider outer frame back kinds.Bare byte after e = e
operand_wider outer frame back _ byte after e = absurd cc

by_wider : (outer : List FrameValue) (frame : FrameValue) (mode : ModeValue) (kind : ByteKind) (byte : ℕ) (after : StateValue) →
    step_by one_way outer frame mode kind byte ≡ Some after → step_by two_way outer frame mode kind byte ≡ Some after
by_wider outer frame (Operand back) kind byte after e = operand_wider outer frame back kind byte after e
by_wider outer frame (BareLabel name back) kind byte after e = e
by_wider outer frame (QuotedLabel name back) kind byte after e = e
by_wider outer frame (Escape name back) kind byte after e = e
by_wider outer frame (Primary f) kind byte after e = e
by_wider outer frame (Element f) kind byte after e = e

run_wider : (bytes : List ℕ) (state after : StateValue) → run one_way bytes state ≡ Some after → run two_way bytes state ≡ Some after
run_wider [] state after e = e
run_wider (byte ∷ bytes) state after e =
    option_and_then_some {P = run two_way (byte ∷ bytes) state ≡ Some after} (run one_way bytes) (step one_way state byte) after e (λ middle first rest.
    rw (by_wider state.outer state.frame state.mode (kind_of byte) byte middle first) (run_wider bytes middle after rest))

-- where a label may stand with inverses, it may in a text without them
takes_narrower : (before more : List ℕ) (e : Expression) → IsText (before ++ more) e → TakesOperand two_way before → TakesOperand one_way before
takes_narrower before more e text t =
    let r = complete one_way (before ++ more) e text in
    let s = run_by one_way before more initial r.state r.ran in
    let there : run two_way before initial ≡ Some s.middle = run_wider before initial s.middle s.front in
    let both : Some s.middle ≡ Some (state_with t.outer t.frame (Operand t.back)) = sym there ∙ t.ran in
    record { back = t.back; outer = t.outer; frame = t.frame; ran = s.front ∙ both }

long_narrower : (bytes : List ℕ) (e : Expression) → IsText bytes e → (at : ℕ) → HasLongName two_way bytes at → HasLongName one_way bytes at
long_narrower bytes e text at h =
    let part : bytes ≡ h.before ++ (h.label ++ h.after) = h.split ∙ append_assoc h.before h.label h.after in
    let t = takes_narrower h.before (h.label ++ h.after) e (subst (λ t. IsText t e) part text) (takes_operand_there two_way h.before h.stands) in
    record {
      before = h.before;
      label = h.label;
      after = h.after;
      name = h.name;
      split = h.split;
      place = h.place;
      stands = takes_label one_way h.before t;
      begins = h.begins;
      long = h.long;
    }

limits_wider : (bytes : List ℕ) (e : Expression) → IsText bytes e → IsWithinLimits one_way bytes → IsWithinLimits two_way bytes
limits_wider bytes e text limits = record { few = limits.few; short = λ at h. limits.short at (long_narrower bytes e text at h) }

outcome_wider : (bytes : List ℕ) (e : Expression) → IsOutcome bytes (Ok e) → IsTwoWayOutcome bytes (Ok e) × IsPlainExpression e
outcome_wider bytes e (Whole f text limits) = (Whole e (alternative_wider text) (limits_wider bytes e text limits), plain_text bytes e text)

outcome_narrower : (bytes : List ℕ) (e : Expression) → IsTwoWayOutcome bytes (Ok e) → IsPlainExpression e → IsOutcome bytes (Ok e)
outcome_narrower bytes e (Whole f text limits) plain = Whole e (alternative_narrower text plain) (limits_narrower bytes limits)

pub one_way_is_plain : (bytes : List ℕ) (e : Expression) → OneWayIsPlain bytes e
one_way_is_plain bytes e = record {
  texts = (λ text. (alternative_wider text, plain_text bytes e text), λ both. alternative_narrower both.0 both.1);
  outcomes = (outcome_wider bytes e, λ both. outcome_narrower bytes e both.0 both.1);
}
