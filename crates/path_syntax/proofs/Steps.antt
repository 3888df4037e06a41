-- The steps of the reader, one constructor for each, and going through several bytes.
use Rattle.std.proofs.Common.{◌≡◌, ℕ, Bool, true, false, not, ◌&&◌, cond, List, [], ◌∷◌, ◌++◌, Option, Some, None, refl, sym, ◌∙◌, ap, subst}
use Rattle.std.specs.Option.{option_and_then}
use Rattle.std.proofs.lemmas.Bool.{eqb-false}
use Rattle.std.proofs.lemmas.Option.{option_and_then_some}
use Rattle.rpq_base.specs.Names.{is_name_byte}
use Rattle.path_syntax.specs.declared.byte_kind.ByteKind.{ByteKind}
use Rattle.path_syntax.specs.declared.byte_kind.ByteKind.TheVariants.{Blank, Bare, Quote, Backslash, Slash, Bar, Asterisk, PlusSign, QuestionMark, Open, Close, Caret, Reserved, Strange}
use Rattle.path_syntax.specs.Expression.{Expression, Atom, Star, Plus, Opt}
use Rattle.path_syntax.specs.Grammar.{is_blank, is_bare_byte, label_with}
use Rattle.path_syntax.specs.Reading.{kind_of, FrameValue, ModeValue, Operand, BareLabel, QuotedLabel, Escape, Primary, Element, StateValue, state_with, empty_frame, in_sequence, whole_with, after_element, after_primary, in_operand, in_quotes, in_escape, in_bare, ended_label, step_by, step, element_of}
use Rattle.path_syntax.proofs.Meaning.{Means, kind_means, bare_is_named}

-- the primary that ends here
abbrev pub primary_of : ModeValue → Option Expression
primary_of (BareLabel name back) = Some (Atom (label_with name back))
primary_of (Primary e) = Some e
primary_of _ = None

-- the frame behind an element and '/', and behind an element and '|'
abbrev pub behind_slash : FrameValue → Expression → FrameValue
behind_slash frame e = record frame { sequence = Some (in_sequence frame.sequence e) }

abbrev pub behind_bar : FrameValue → Expression → FrameValue
behind_bar frame e = record { alternatives = Some (whole_with frame e); sequence = None }

-- a byte leads from a state to another
pub data Leads (inverses : Bool) : List FrameValue → FrameValue → ModeValue → ℕ → StateValue → Type 0 where
  OperandBlank : (outer : List FrameValue) (frame : FrameValue) (back : Bool) (byte : ℕ) → is_blank byte ≡ true →
      Leads inverses outer frame (Operand back) byte (state_with outer frame (Operand back))
  OperandOpen : (outer : List FrameValue) (frame : FrameValue) → Leads inverses outer frame (Operand false) 40 (state_with (frame ∷ outer) empty_frame (Operand false))
  OperandCaret : (outer : List FrameValue) (frame : FrameValue) → inverses ≡ true → Leads inverses outer frame (Operand false) 94 (state_with outer frame (Operand true))
  OperandQuote : (outer : List FrameValue) (frame : FrameValue) (back : Bool) → Leads inverses outer frame (Operand back) 34 (state_with outer frame (QuotedLabel [] back))
  OperandBare : (outer : List FrameValue) (frame : FrameValue) (back : Bool) (byte : ℕ) → is_bare_byte byte ≡ true →
      Leads inverses outer frame (Operand back) byte (state_with outer frame (BareLabel (byte ∷ []) back))
  BareMore : (outer : List FrameValue) (frame : FrameValue) (name : List ℕ) (back : Bool) (byte : ℕ) → is_bare_byte byte ≡ true →
      Leads inverses outer frame (BareLabel name back) byte (state_with outer frame (BareLabel (name ++ byte ∷ []) back))
  QuotedMore : (outer : List FrameValue) (frame : FrameValue) (name : List ℕ) (back : Bool) (byte : ℕ) →
      is_name_byte byte ≡ true → (byte ≡ 34 → ⊥) → (byte ≡ 92 → ⊥) →
      Leads inverses outer frame (QuotedLabel name back) byte (state_with outer frame (QuotedLabel (name ++ byte ∷ []) back))
  QuotedBackslash : (outer : List FrameValue) (frame : FrameValue) (name : List ℕ) (back : Bool) →
      Leads inverses outer frame (QuotedLabel name back) 92 (state_with outer frame (Escape name back))
  QuotedEnd : (outer : List FrameValue) (frame : FrameValue) (byte : ℕ) (name : List ℕ) (back : Bool) →
      Leads inverses outer frame (QuotedLabel (byte ∷ name) back) 34 (state_with outer frame (Primary (Atom (label_with (byte ∷ name) back))))
  EscapeQuote : (outer : List FrameValue) (frame : FrameValue) (name : List ℕ) (back : Bool) →
      Leads inverses outer frame (Escape name back) 34 (state_with outer frame (QuotedLabel (name ++ 34 ∷ []) back))
  EscapeBackslash : (outer : List FrameValue) (frame : FrameValue) (name : List ℕ) (back : Bool) →
      Leads inverses outer frame (Escape name back) 92 (state_with outer frame (QuotedLabel (name ++ 92 ∷ []) back))
  PrimaryBlank : (outer : List FrameValue) (frame : FrameValue) (mode : ModeValue) (e : Expression) (byte : ℕ) →
      primary_of mode ≡ Some e → is_blank byte ≡ true → Leads inverses outer frame mode byte (state_with outer frame (Primary e))
  PrimaryStar : (outer : List FrameValue) (frame : FrameValue) (mode : ModeValue) (e : Expression) →
      primary_of mode ≡ Some e → Leads inverses outer frame mode 42 (state_with outer frame (Element (Star e)))
  PrimaryPlus : (outer : List FrameValue) (frame : FrameValue) (mode : ModeValue) (e : Expression) →
      primary_of mode ≡ Some e → Leads inverses outer frame mode 43 (state_with outer frame (Element (Plus e)))
  PrimaryOpt : (outer : List FrameValue) (frame : FrameValue) (mode : ModeValue) (e : Expression) →
      primary_of mode ≡ Some e → Leads inverses outer frame mode 63 (state_with outer frame (Element (Opt e)))
  ElementBlank : (outer : List FrameValue) (frame : FrameValue) (e : Expression) (byte : ℕ) → is_blank byte ≡ true →
      Leads inverses outer frame (Element e) byte (state_with outer frame (Element e))
  ElementSlash : (outer : List FrameValue) (frame : FrameValue) (mode : ModeValue) (e : Expression) →
      element_of mode ≡ Some e → Leads inverses outer frame mode 47 (state_with outer (behind_slash frame e) (Operand false))
  ElementBar : (outer : List FrameValue) (frame : FrameValue) (mode : ModeValue) (e : Expression) →
      element_of mode ≡ Some e → Leads inverses outer frame mode 124 (state_with outer (behind_bar frame e) (Operand false))
  ElementClose : (other : FrameValue) (outer : List FrameValue) (frame : FrameValue) (mode : ModeValue) (e : Expression) →
      element_of mode ≡ Some e → Leads inverses (other ∷ outer) frame mode 41 (state_with outer other (Primary (whole_with frame e)))

abbrev LeadsTo : Bool → List FrameValue → FrameValue → ModeValue → ℕ → Option StateValue → Type 0
LeadsTo inverses outer frame mode byte None = Unit {0}
LeadsTo inverses outer frame mode byte (Some after) = Leads inverses outer frame mode byte after

-- at a byte that a kind says what it is
at_byte : (inverses : Bool) (sign byte : ℕ) (outer : List FrameValue) (frame : FrameValue) (mode : ModeValue) (after : StateValue) → byte ≡ sign →
    Leads inverses outer frame mode sign after → Leads inverses outer frame mode byte after
at_byte inverses sign byte outer frame mode after e leads = subst (λ b. Leads inverses outer frame mode b after) (sym e) leads

leads_open : (inverses : Bool) (outer : List FrameValue) (frame : FrameValue) (back : Bool) (byte : ℕ) → byte ≡ 40 →
    LeadsTo inverses outer frame (Operand back) byte (cond back None (Some (state_with (frame ∷ outer) empty_frame (Operand false))))
leads_open inverses outer frame true byte m = tt
leads_open inverses outer frame false byte m = at_byte inverses 40 byte outer frame (Operand false) _ m (OperandOpen outer frame)

leads_caret : (inverses : Bool) (inverted back : Bool) (outer : List FrameValue) (frame : FrameValue) (byte : ℕ) → inverses ≡ inverted → byte ≡ 94 →
    LeadsTo inverses outer frame (Operand back) byte (cond (inverted && not back) (Some (state_with outer frame (Operand true))) None)
leads_caret inverses false back outer frame byte is m = tt
leads_caret inverses true true outer frame byte is m = tt
leads_caret inverses true false outer frame byte is m = at_byte inverses 94 byte outer frame (Operand false) _ m (OperandCaret outer frame is)

leads_operand : (inverses : Bool) (outer : List FrameValue) (frame : FrameValue) (back : Bool) (kind : ByteKind) (byte : ℕ) → Means kind byte →
    LeadsTo inverses outer frame (Operand back) byte (in_operand inverses outer frame back kind byte)
leads_operand inverses outer frame back Blank byte m = OperandBlank outer frame back byte m
leads_operand inverses outer frame back Open byte m = leads_open inverses outer frame back byte m
leads_operand inverses outer frame back Caret byte m = leads_caret inverses inverses back outer frame byte refl m
leads_operand inverses outer frame back Quote byte m = at_byte inverses 34 byte outer frame (Operand back) _ m (OperandQuote outer frame back)
leads_operand inverses outer frame back Bare byte m = OperandBare outer frame back byte m
leads_operand inverses outer frame back _ byte m = tt

leads_end : (inverses : Bool) (outer : List FrameValue) (frame : FrameValue) (name : List ℕ) (back : Bool) (byte : ℕ) → byte ≡ 34 →
    LeadsTo inverses outer frame (QuotedLabel name back) byte (ended_label outer frame name back)
leads_end inverses outer frame [] back byte m = tt
leads_end inverses outer frame (first ∷ name) back byte m = at_byte inverses 34 byte outer frame (QuotedLabel (first ∷ name) back) _ m (QuotedEnd outer frame first name back)

more_at : (inverses : Bool) (sign byte : ℕ) (outer : List FrameValue) (frame : FrameValue) (name : List ℕ) (back : Bool) →
    is_name_byte sign ≡ true → (sign ≡ 34 → ⊥) → (sign ≡ 92 → ⊥) → byte ≡ sign →
    Leads inverses outer frame (QuotedLabel name back) byte (state_with outer frame (QuotedLabel (name ++ byte ∷ []) back))
more_at inverses sign byte outer frame name back named no_quote no_backslash e =
    QuotedMore outer frame name back byte (ap is_name_byte e ∙ named) (λ h. no_quote (sym e ∙ h)) (λ h. no_backslash (sym e ∙ h))

pub bare_no_quote : (byte sign : ℕ) → is_bare_byte sign ≡ false → is_bare_byte byte ≡ true → byte ≡ sign → ⊥
bare_no_quote byte sign reserved bare e = let h : true ≡ false = sym bare ∙ ap is_bare_byte e ∙ reserved in cc

leads_quotes : (inverses : Bool) (outer : List FrameValue) (frame : FrameValue) (name : List ℕ) (back : Bool) (kind : ByteKind) (byte : ℕ) → Means kind byte →
    LeadsTo inverses outer frame (QuotedLabel name back) byte (in_quotes outer frame name back kind byte)
leads_quotes inverses outer frame name back Blank byte m = tt
leads_quotes inverses outer frame name back Strange byte m = tt
leads_quotes inverses outer frame name back Quote byte m = leads_end inverses outer frame name back byte m
leads_quotes inverses outer frame name back Backslash byte m = at_byte inverses 92 byte outer frame (QuotedLabel name back) _ m (QuotedBackslash outer frame name back)
leads_quotes inverses outer frame name back Bare byte m =
    QuotedMore outer frame name back byte (bare_is_named byte m) (bare_no_quote byte 34 refl m) (bare_no_quote byte 92 refl m)
leads_quotes inverses outer frame name back Caret byte m = more_at inverses 94 byte outer frame name back refl (eqb-false 94 34 refl) (eqb-false 94 92 refl) m
leads_quotes inverses outer frame name back Reserved byte m = QuotedMore outer frame name back byte m.0 m.1 m.2
leads_quotes inverses outer frame name back Slash byte m = more_at inverses 47 byte outer frame name back refl (eqb-false 47 34 refl) (eqb-false 47 92 refl) m
leads_quotes inverses outer frame name back Bar byte m = more_at inverses 124 byte outer frame name back refl (eqb-false 124 34 refl) (eqb-false 124 92 refl) m
leads_quotes inverses outer frame name back Asterisk byte m = more_at inverses 42 byte outer frame name back refl (eqb-false 42 34 refl) (eqb-false 42 92 refl) m
leads_quotes inverses outer frame name back PlusSign byte m = more_at inverses 43 byte outer frame name back refl (eqb-false 43 34 refl) (eqb-false 43 92 refl) m
leads_quotes inverses outer frame name back QuestionMark byte m = more_at inverses 63 byte outer frame name back refl (eqb-false 63 34 refl) (eqb-false 63 92 refl) m
leads_quotes inverses outer frame name back Open byte m = more_at inverses 40 byte outer frame name back refl (eqb-false 40 34 refl) (eqb-false 40 92 refl) m
leads_quotes inverses outer frame name back Close byte m = more_at inverses 41 byte outer frame name back refl (eqb-false 41 34 refl) (eqb-false 41 92 refl) m

leads_escape : (inverses : Bool) (outer : List FrameValue) (frame : FrameValue) (name : List ℕ) (back : Bool) (kind : ByteKind) (byte : ℕ) → Means kind byte →
    LeadsTo inverses outer frame (Escape name back) byte (in_escape outer frame name back kind byte)
leads_escape inverses outer frame name back Quote byte m =
    subst (λ b. Leads inverses outer frame (Escape name back) b (state_with outer frame (QuotedLabel (name ++ b ∷ []) back))) (sym m) (EscapeQuote outer frame name back)
leads_escape inverses outer frame name back Backslash byte m =
    subst (λ b. Leads inverses outer frame (Escape name back) b (state_with outer frame (QuotedLabel (name ++ b ∷ []) back))) (sym m) (EscapeBackslash outer frame name back)
leads_escape inverses outer frame name back _ byte m = tt

leads_close : (inverses : Bool) (outer : List FrameValue) (frame : FrameValue) (mode : ModeValue) (e : Expression) (byte : ℕ) → element_of mode ≡ Some e → byte ≡ 41 →
    LeadsTo inverses outer frame mode byte (after_element outer frame e Close)
leads_close inverses [] frame mode e byte ends m = tt
leads_close inverses (other ∷ outer) frame mode e byte ends m = at_byte inverses 41 byte (other ∷ outer) frame mode _ m (ElementClose other outer frame mode e ends)

-- what an element and a primary go on with alike
leads_behind : (inverses : Bool) (outer : List FrameValue) (frame : FrameValue) (mode : ModeValue) (e : Expression) (kind : ByteKind) (byte : ℕ) →
    element_of mode ≡ Some e → Means kind byte → (kind ≡ Blank → ⊥) → LeadsTo inverses outer frame mode byte (after_element outer frame e kind)
leads_behind inverses outer frame mode e Blank byte ends m other = absurd (other refl)
leads_behind inverses outer frame mode e Slash byte ends m other = at_byte inverses 47 byte outer frame mode _ m (ElementSlash outer frame mode e ends)
leads_behind inverses outer frame mode e Bar byte ends m other = at_byte inverses 124 byte outer frame mode _ m (ElementBar outer frame mode e ends)
leads_behind inverses outer frame mode e Close byte ends m other = leads_close inverses outer frame mode e byte ends m
leads_behind inverses outer frame mode e _ byte ends m other = tt

leads_primary : (inverses : Bool) (outer : List FrameValue) (frame : FrameValue) (mode : ModeValue) (e : Expression) (kind : ByteKind) (byte : ℕ) →
    primary_of mode ≡ Some e → element_of mode ≡ Some e → Means kind byte → LeadsTo inverses outer frame mode byte (after_primary outer frame e kind)
leads_primary inverses outer frame mode e Blank byte is ends m = PrimaryBlank outer frame mode e byte is m
leads_primary inverses outer frame mode e Asterisk byte is ends m = at_byte inverses 42 byte outer frame mode _ m (PrimaryStar outer frame mode e is)
leads_primary inverses outer frame mode e PlusSign byte is ends m = at_byte inverses 43 byte outer frame mode _ m (PrimaryPlus outer frame mode e is)
leads_primary inverses outer frame mode e QuestionMark byte is ends m = at_byte inverses 63 byte outer frame mode _ m (PrimaryOpt outer frame mode e is)
leads_primary inverses outer frame mode e Slash byte is ends m = leads_behind inverses outer frame mode e Slash byte ends m (λ h. cc)
leads_primary inverses outer frame mode e Bar byte is ends m = leads_behind inverses outer frame mode e Bar byte ends m (λ h. cc)
leads_primary inverses outer frame mode e Close byte is ends m = leads_behind inverses outer frame mode e Close byte ends m (λ h. cc)
leads_primary inverses outer frame mode e _ byte is ends m = tt

leads_element : (inverses : Bool) (outer : List FrameValue) (frame : FrameValue) (e : Expression) (kind : ByteKind) (byte : ℕ) → Means kind byte →
    LeadsTo inverses outer frame (Element e) byte (after_element outer frame e kind)
leads_element inverses outer frame e Blank byte m = ElementBlank outer frame e byte m
leads_element inverses outer frame e Slash byte m = leads_behind inverses outer frame (Element e) e Slash byte refl m (λ h. cc)
leads_element inverses outer frame e Bar byte m = leads_behind inverses outer frame (Element e) e Bar byte refl m (λ h. cc)
leads_element inverses outer frame e Close byte m = leads_behind inverses outer frame (Element e) e Close byte refl m (λ h. cc)
leads_element inverses outer frame e _ byte m = tt

leads_bare : (inverses : Bool) (outer : List FrameValue) (frame : FrameValue) (name : List ℕ) (back : Bool) (kind : ByteKind) (byte : ℕ) → Means kind byte →
    LeadsTo inverses outer frame (BareLabel name back) byte (in_bare outer frame name back kind byte)
leads_bare inverses outer frame name back Bare byte m = BareMore outer frame name back byte m
leads_bare inverses outer frame name back kind byte m = leads_primary inverses outer frame (BareLabel name back) (Atom (label_with name back)) kind byte refl refl m

leads_by : (inverses : Bool) (outer : List FrameValue) (frame : FrameValue) (mode : ModeValue) (kind : ByteKind) (byte : ℕ) → Means kind byte →
    LeadsTo inverses outer frame mode byte (step_by inverses outer frame mode kind byte)
leads_by inverses outer frame (Operand back) kind byte m = leads_operand inverses outer frame back kind byte m
leads_by inverses outer frame (BareLabel name back) kind byte m = leads_bare inverses outer frame name back kind byte m
leads_by inverses outer frame (QuotedLabel name back) kind byte m = leads_quotes inverses outer frame name back kind byte m
leads_by inverses outer frame (Escape name back) kind byte m = leads_escape inverses outer frame name back kind byte m
leads_by inverses outer frame (Primary e) kind byte m = leads_primary inverses outer frame (Primary e) e kind byte refl refl m
leads_by inverses outer frame (Element e) kind byte m = leads_element inverses outer frame e kind byte m

-- every step is one of these
pub step_leads : (inverses : Bool) (state : StateValue) (byte : ℕ) (after : StateValue) → step inverses state byte ≡ Some after →
    Leads inverses state.outer state.frame state.mode byte after
step_leads inverses state byte after e =
    subst (LeadsTo inverses state.outer state.frame state.mode byte) e
    (leads_by inverses state.outer state.frame state.mode (kind_of byte) byte (kind_means byte))

-- the state after all the bytes, if they go on
abbrev pub run : Bool → List ℕ → StateValue → Option StateValue
run inverses [] state = Some state
run inverses (byte ∷ bytes) state = option_and_then (run inverses bytes) (step inverses state byte)

and_then_assoc : {A B C : Type 0} (f : A → Option B) (g : B → Option C) (o : Option A) →
    option_and_then g (option_and_then f o) ≡ option_and_then (λ x. option_and_then g (f x)) o
and_then_assoc f g None = refl
and_then_assoc f g (Some x) = refl

and_then_same : {A B : Type 0} (f g : A → Option B) (o : Option A) → ((x : A) → f x ≡ g x) → option_and_then f o ≡ option_and_then g o
and_then_same f g None same = refl
and_then_same f g (Some x) same = same x

pub run_append : (inverses : Bool) (first second : List ℕ) (state : StateValue) →
    run inverses (first ++ second) state ≡ option_and_then (run inverses second) (run inverses first state)
run_append inverses [] second state = refl
run_append inverses (byte ∷ first) second state =
    and_then_same (run inverses (first ++ second)) (λ s. option_and_then (run inverses second) (run inverses first s)) (step inverses state byte) (run_append inverses first second) ∙
    sym (and_then_assoc (run inverses first) (run inverses second) (step inverses state byte))

-- what goes on from a state that is reached
pub run_from : (inverses : Bool) (first second : List ℕ) (state middle : StateValue) → run inverses first state ≡ Some middle →
    run inverses (first ++ second) state ≡ run inverses second middle
run_from inverses first second state middle e = run_append inverses first second state ∙ ap (option_and_then (run inverses second)) e

pub run_one : (inverses : Bool) (byte : ℕ) (state after : StateValue) → step inverses state byte ≡ Some after → run inverses (byte ∷ []) state ≡ Some after
run_one inverses byte state after e = ap (option_and_then (run inverses [])) e

-- the state between two parts
pub record RunsBy (inverses : Bool) (first second : List ℕ) (state after : StateValue) : Type 0 where
  pub middle : StateValue
  pub front : run inverses first state ≡ Some middle
  pub rest : run inverses second middle ≡ Some after

pub run_by : (inverses : Bool) (first second : List ℕ) (state after : StateValue) → run inverses (first ++ second) state ≡ Some after → RunsBy inverses first second state after
run_by inverses first second state after e =
    option_and_then_some {P = RunsBy inverses first second state after} (run inverses second) (run inverses first state) after (sym (run_append inverses first second state) ∙ e)
    (λ middle front rest. record { middle = middle; front = front; rest = rest })
