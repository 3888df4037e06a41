-- What some text of an expression begins with is what the reader goes through.
use Rattle.std.proofs.Common.{◌≡◌, ℕ, Bool, List, [], ◌∷◌, ◌++◌, Some, option_map, refl, sym, ◌∙◌, ap, subst}
use Rattle.path_syntax.specs.Expression.{Expression, Atom}
use Rattle.path_syntax.specs.Grammar.{label_with, Bare, Quoted, CanGoOn}
use Rattle.path_syntax.specs.Faults.{TakesLabel}
use Rattle.path_syntax.specs.Reading.{kind_of, FrameValue, ModeValue, Operand, BareLabel, QuotedLabel, Escape, Primary, Element, StateValue, state_with, initial, whole_with, element_of, whole_of}
use Rattle.path_syntax.proofs.Steps.{run, run_from, run_by}
use Rattle.path_syntax.proofs.Soundness.{sound}
use Rattle.path_syntax.proofs.Completeness.{close_step, label_run, complete}

-- some bytes complete what stands before to an expression
record Completes (inverses : Bool) (state : StateValue) : Type 0 where
  rest : List ℕ
  whole : Expression
  last : StateValue
  ran : run inverses rest state ≡ Some last
  is : whole_of last ≡ Some whole

-- first some bytes, and then those that complete
after_bytes : (inverses : Bool) (bytes : List ℕ) (state middle : StateValue) → run inverses bytes state ≡ Some middle → Completes inverses middle → Completes inverses state
after_bytes inverses bytes state middle ran c = record {
  rest = bytes ++ c.rest;
  whole = c.whole;
  last = c.last;
  ran = run_from inverses bytes c.rest state middle ran ∙ c.ran;
  is = c.is;
}

closes : (inverses : Bool) (outer : List FrameValue) (frame : FrameValue) (mode : ModeValue) (e : Expression) → element_of mode ≡ Some e →
    Completes inverses (state_with outer frame mode)
closes inverses [] frame mode e ends = record {
  rest = [];
  whole = whole_with frame e;
  last = state_with [] frame mode;
  ran = refl;
  is = ap (λ o. option_map (whole_with frame) o) ends;
}
closes inverses (other ∷ outer) frame mode e ends =
    after_bytes inverses (41 ∷ []) (state_with (other ∷ outer) frame mode) (state_with outer other (Primary (whole_with frame e)))
    (close_step inverses other outer frame mode e ends) (closes inverses outer other (Primary (whole_with frame e)) (whole_with frame e) refl)

operand_step : (inverses : Bool) (back : Bool) (outer : List FrameValue) (frame : FrameValue) →
    run inverses (97 ∷ []) (state_with outer frame (Operand back)) ≡ Some (state_with outer frame (BareLabel (97 ∷ []) back))
unfolding kind_of
operand_step inverses back outer frame = refl

quoted_steps : (inverses : Bool) (name : List ℕ) (back : Bool) (outer : List FrameValue) (frame : FrameValue) →
    run inverses (97 ∷ 34 ∷ []) (state_with outer frame (QuotedLabel name back)) ≡ Some (state_with outer frame (Primary (Atom (label_with (name ++ 97 ∷ []) back))))
unfolding kind_of
quoted_steps inverses [] back outer frame = refl
quoted_steps inverses (byte ∷ name) back outer frame = refl

escape_steps : (inverses : Bool) (name : List ℕ) (back : Bool) (outer : List FrameValue) (frame : FrameValue) →
    run inverses (34 ∷ 34 ∷ []) (state_with outer frame (Escape name back)) ≡ Some (state_with outer frame (Primary (Atom (label_with (name ++ 34 ∷ []) back))))
unfolding kind_of
escape_steps inverses [] back outer frame = refl
escape_steps inverses (byte ∷ name) back outer frame = refl

completes : (inverses : Bool) (outer : List FrameValue) (frame : FrameValue) (mode : ModeValue) → Completes inverses (state_with outer frame mode)
completes inverses outer frame (Operand back) =
    after_bytes inverses (97 ∷ []) _ _ (operand_step inverses back outer frame) (closes inverses outer frame (BareLabel (97 ∷ []) back) (Atom (label_with (97 ∷ []) back)) refl)
completes inverses outer frame (BareLabel name back) = closes inverses outer frame (BareLabel name back) (Atom (label_with name back)) refl
completes inverses outer frame (QuotedLabel name back) =
    after_bytes inverses (97 ∷ 34 ∷ []) _ _ (quoted_steps inverses name back outer frame)
    (closes inverses outer frame (Primary (Atom (label_with (name ++ 97 ∷ []) back))) (Atom (label_with (name ++ 97 ∷ []) back)) refl)
completes inverses outer frame (Escape name back) =
    after_bytes inverses (34 ∷ 34 ∷ []) _ _ (escape_steps inverses name back outer frame)
    (closes inverses outer frame (Primary (Atom (label_with (name ++ 34 ∷ []) back))) (Atom (label_with (name ++ 34 ∷ []) back)) refl)
completes inverses outer frame (Primary e) = closes inverses outer frame (Primary e) e refl
completes inverses outer frame (Element e) = closes inverses outer frame (Element e) e refl

-- what the reader goes through can go on
pub goes_on : (inverses : Bool) (front : List ℕ) (state : StateValue) → run inverses front initial ≡ Some state → CanGoOn inverses front
goes_on inverses front state ran =
    let c = completes inverses state.outer state.frame state.mode in
    record { rest = c.rest; whole = c.whole; text = sound inverses (front ++ c.rest) c.last c.whole (run_from inverses front c.rest initial state ran ∙ c.ran) c.is }

-- the reader goes through what can go on
pub record GoesThrough (inverses : Bool) (front : List ℕ) : Type 0 where
  pub state : StateValue
  pub ran : run inverses front initial ≡ Some state

pub goes_through : (inverses : Bool) (front : List ℕ) → CanGoOn inverses front → GoesThrough inverses front
goes_through inverses front c =
    let r = complete inverses (front ++ c.rest) c.whole c.text in
    let s = run_by inverses front c.rest initial r.state r.ran in
    record { state = s.middle; ran = s.front }

-- and through a front of it
pub goes_through_front : (inverses : Bool) (front more : List ℕ) → CanGoOn inverses (front ++ more) → CanGoOn inverses front
goes_through_front inverses front more c =
    let g = goes_through inverses (front ++ more) c in
    let s = run_by inverses front more initial g.state g.ran in
    goes_on inverses front s.middle s.front

-- a label may stand where an operand is to come, and nowhere else
pub record TakesOperand (inverses : Bool) (before : List ℕ) : Type 0 where
  pub back : Bool
  pub outer : List FrameValue
  pub frame : FrameValue
  pub ran : run inverses before initial ≡ Some (state_with outer frame (Operand back))

pub takes_label : (inverses : Bool) (before : List ℕ) → TakesOperand inverses before → TakesLabel inverses before
takes_label inverses before t text name label =
    let r = label_run inverses label t.back t.outer t.frame in
    goes_on inverses (before ++ text) (state_with t.outer t.frame r.mode) (run_from inverses before text initial _ t.ran ∙ r.ran)

only_operand : (inverses : Bool) (before : List ℕ) (outer : List FrameValue) (frame : FrameValue) (mode : ModeValue) (bare quoted : StateValue) →
    run inverses before initial ≡ Some (state_with outer frame mode) → run inverses (97 ∷ []) (state_with outer frame mode) ≡ Some bare →
    run inverses (34 ∷ 97 ∷ 34 ∷ []) (state_with outer frame mode) ≡ Some quoted → TakesOperand inverses before
unfolding kind_of
only_operand inverses before outer frame (Operand back) bare quoted ran a q = record { back = back; outer = outer; frame = frame; ran = ran }
only_operand inverses before outer frame (BareLabel name back) bare quoted ran a q = absurd cc
only_operand inverses before outer frame (QuotedLabel [] back) bare quoted ran a q = absurd cc
only_operand inverses before outer frame (QuotedLabel (byte ∷ name) back) bare quoted ran a q = absurd cc
only_operand inverses before outer frame (Escape name back) bare quoted ran a q = absurd cc
only_operand inverses before outer frame (Primary e) bare quoted ran a q = absurd cc
only_operand inverses before outer frame (Element e) bare quoted ran a q = absurd cc

pub takes_operand_there : (inverses : Bool) (before : List ℕ) → TakesLabel inverses before → TakesOperand inverses before
takes_operand_there inverses before takes =
    let a = goes_through inverses (before ++ 97 ∷ []) (takes (97 ∷ []) (97 ∷ []) (Bare (97 ∷ []) (λ h. cc) refl)) in
    let q = goes_through inverses (before ++ 34 ∷ 97 ∷ 34 ∷ []) (takes (34 ∷ 97 ∷ 34 ∷ []) (97 ∷ []) (Quoted (97 ∷ []) (λ h. cc) refl)) in
    let s = run_by inverses before (97 ∷ []) initial a.state a.ran in
    let t = run_by inverses before (34 ∷ 97 ∷ 34 ∷ []) initial q.state q.ran in
    let both : Some s.middle ≡ Some t.middle = sym s.front ∙ t.front in
    let same : t.middle ≡ s.middle = cc in
    only_operand inverses before s.middle.outer s.middle.frame s.middle.mode a.state q.state s.front s.rest (subst (λ m. run inverses (34 ∷ 97 ∷ 34 ∷ []) m ≡ Some q.state) same t.rest)
