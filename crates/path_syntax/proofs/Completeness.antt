-- The reader goes through every text of an expression, and ends with that expression.
use Rattle.std.proofs.Common.{◌≡◌, ℕ, Bool, true, false, List, [], ◌∷◌, ◌++◌, Option, Some, None, option_map, codes, refl, sym, ◌∙◌, ap, subst, append_assoc, ⊎_elim}
use Rattle.std.proofs.lemmas.List.{append-nil}
use Rattle.std.proofs.lemmas.Bool.{and_parts, ne_eqb, cases_eq}
use Rattle.std.specs.Option.{option_and_then}
use Rattle.rpq_base.specs.Names.{is_name_byte}
use Rattle.path_syntax.specs.declared.byte_kind.ByteKind.{ByteKind}
use Rattle.path_syntax.specs.declared.byte_kind.ByteKind.TheVariants as kinds
use Rattle.path_syntax.specs.Expression.{Expression, Atom, Seq, Alt, Star, Plus, Opt}
use Rattle.path_syntax.specs.Grammar.{is_blank, AreBlanks, is_bare_byte, IsBare, AreNameBytes, escaped, quoted, label_with, label_named, inverse_named, IsLabel, Bare, Quoted, IsAlternative, OneSequence, Either, IsSequence, OneElement, Then, IsElement, Once, Starred, Plussed, Optional, IsPrimary, Named, Inverse, InParentheses}
use Rattle.path_syntax.specs.Reading.{kind_of, FrameValue, ModeValue, Operand, BareLabel, QuotedLabel, Escape, Primary, Element, StateValue, state_with, empty_frame, initial, in_sequence, whole_with, after_element, after_primary, in_bare, in_quotes, step_by, step, element_of, whole_of}
use Rattle.path_syntax.proofs.Meaning.{Means, kind_means, kind_of_bare, kind_of_blank, blank_is_strange}
use Rattle.path_syntax.proofs.Steps.{primary_of, behind_slash, behind_bar, run, run_from, run_one}

pub primary_ends : (mode : ModeValue) (e : Expression) → primary_of mode ≡ Some e → element_of mode ≡ Some e
primary_ends (Operand back) e is = absurd cc
primary_ends (BareLabel name back) e is = is
primary_ends (QuotedLabel name back) e is = absurd cc
primary_ends (Escape name back) e is = absurd cc
primary_ends (Primary f) e is = is
primary_ends (Element f) e is = absurd cc

-- the signs that join elements, and the closing parenthesis
abbrev IsJoint : ByteKind → Type 0
IsJoint kinds.Slash = Unit {0}
IsJoint kinds.Bar = Unit {0}
IsJoint kinds.Close = Unit {0}
IsJoint _ = ⊥

primary_joint : (outer : List FrameValue) (frame : FrameValue) (e : Expression) (kind : ByteKind) → IsJoint kind →
    after_primary outer frame e kind ≡ after_element outer frame e kind
primary_joint outer frame e kinds.Slash j = refl
primary_joint outer frame e kinds.Bar j = refl
primary_joint outer frame e kinds.Close j = refl
primary_joint outer frame e _ j = absurd j

bare_joint : (outer : List FrameValue) (frame : FrameValue) (name : List ℕ) (back : Bool) (kind : ByteKind) (byte : ℕ) → IsJoint kind →
    in_bare outer frame name back kind byte ≡ after_primary outer frame (Atom (label_with name back)) kind
bare_joint outer frame name back kinds.Slash byte j = refl
bare_joint outer frame name back kinds.Bar byte j = refl
bare_joint outer frame name back kinds.Close byte j = refl
bare_joint outer frame name back _ byte j = absurd j

joint_step : (inverses : Bool) (outer : List FrameValue) (frame : FrameValue) (mode : ModeValue) (e : Expression) (kind : ByteKind) (byte : ℕ) →
    element_of mode ≡ Some e → IsJoint kind → step_by inverses outer frame mode kind byte ≡ after_element outer frame e kind
joint_step inverses outer frame (Operand back) e kind byte ends j = absurd cc
joint_step inverses outer frame (BareLabel name back) e kind byte ends j =
    let same : Atom (label_with name back) ≡ e = cc in
    bare_joint outer frame name back kind byte j ∙ primary_joint outer frame (Atom (label_with name back)) kind j ∙ ap (λ f. after_element outer frame f kind) same
joint_step inverses outer frame (QuotedLabel name back) e kind byte ends j = absurd cc
joint_step inverses outer frame (Escape name back) e kind byte ends j = absurd cc
joint_step inverses outer frame (Primary f) e kind byte ends j =
    let same : f ≡ e = cc in primary_joint outer frame f kind j ∙ ap (λ f. after_element outer frame f kind) same
joint_step inverses outer frame (Element f) e kind byte ends j =
    let same : f ≡ e = cc in ap (λ f. after_element outer frame f kind) same

pub slash_step : (inverses : Bool) (outer : List FrameValue) (frame : FrameValue) (mode : ModeValue) (e : Expression) → element_of mode ≡ Some e →
    run inverses (47 ∷ []) (state_with outer frame mode) ≡ Some (state_with outer (behind_slash frame e) (Operand false))
unfolding kind_of
slash_step inverses outer frame mode e ends = run_one inverses 47 (state_with outer frame mode) _ (joint_step inverses outer frame mode e kinds.Slash 47 ends tt)

pub bar_step : (inverses : Bool) (outer : List FrameValue) (frame : FrameValue) (mode : ModeValue) (e : Expression) → element_of mode ≡ Some e →
    run inverses (124 ∷ []) (state_with outer frame mode) ≡ Some (state_with outer (behind_bar frame e) (Operand false))
unfolding kind_of
bar_step inverses outer frame mode e ends = run_one inverses 124 (state_with outer frame mode) _ (joint_step inverses outer frame mode e kinds.Bar 124 ends tt)

pub close_step : (inverses : Bool) (other : FrameValue) (outer : List FrameValue) (frame : FrameValue) (mode : ModeValue) (e : Expression) → element_of mode ≡ Some e →
    run inverses (41 ∷ []) (state_with (other ∷ outer) frame mode) ≡ Some (state_with outer other (Primary (whole_with frame e)))
unfolding kind_of
close_step inverses other outer frame mode e ends =
    run_one inverses 41 (state_with (other ∷ outer) frame mode) _ (joint_step inverses (other ∷ outer) frame mode e kinds.Close 41 ends tt)

-- the three signs of repetition
star_step : (inverses : Bool) (outer : List FrameValue) (frame : FrameValue) (mode : ModeValue) (e : Expression) → primary_of mode ≡ Some e →
    run inverses (42 ∷ []) (state_with outer frame mode) ≡ Some (state_with outer frame (Element (Star e)))
unfolding kind_of
star_step inverses outer frame (Operand back) e is = absurd cc
star_step inverses outer frame (BareLabel name back) e is = let same : Atom (label_with name back) ≡ e = cc in ap (λ f. Some (state_with outer frame (Element (Star f)))) same
star_step inverses outer frame (QuotedLabel name back) e is = absurd cc
star_step inverses outer frame (Escape name back) e is = absurd cc
star_step inverses outer frame (Primary f) e is = let same : f ≡ e = cc in ap (λ f. Some (state_with outer frame (Element (Star f)))) same
star_step inverses outer frame (Element f) e is = absurd cc

plus_step : (inverses : Bool) (outer : List FrameValue) (frame : FrameValue) (mode : ModeValue) (e : Expression) → primary_of mode ≡ Some e →
    run inverses (43 ∷ []) (state_with outer frame mode) ≡ Some (state_with outer frame (Element (Plus e)))
unfolding kind_of
plus_step inverses outer frame (Operand back) e is = absurd cc
plus_step inverses outer frame (BareLabel name back) e is = let same : Atom (label_with name back) ≡ e = cc in ap (λ f. Some (state_with outer frame (Element (Plus f)))) same
plus_step inverses outer frame (QuotedLabel name back) e is = absurd cc
plus_step inverses outer frame (Escape name back) e is = absurd cc
plus_step inverses outer frame (Primary f) e is = let same : f ≡ e = cc in ap (λ f. Some (state_with outer frame (Element (Plus f)))) same
plus_step inverses outer frame (Element f) e is = absurd cc

opt_step : (inverses : Bool) (outer : List FrameValue) (frame : FrameValue) (mode : ModeValue) (e : Expression) → primary_of mode ≡ Some e →
    run inverses (63 ∷ []) (state_with outer frame mode) ≡ Some (state_with outer frame (Element (Opt e)))
unfolding kind_of
opt_step inverses outer frame (Operand back) e is = absurd cc
opt_step inverses outer frame (BareLabel name back) e is = let same : Atom (label_with name back) ≡ e = cc in ap (λ f. Some (state_with outer frame (Element (Opt f)))) same
opt_step inverses outer frame (QuotedLabel name back) e is = absurd cc
opt_step inverses outer frame (Escape name back) e is = absurd cc
opt_step inverses outer frame (Primary f) e is = let same : f ≡ e = cc in ap (λ f. Some (state_with outer frame (Element (Opt f)))) same
opt_step inverses outer frame (Element f) e is = absurd cc

-- blanks leave an operand to come, a primary and an element as they are
operand_blanks : (inverses : Bool) (blanks : List ℕ) (back : Bool) (outer : List FrameValue) (frame : FrameValue) → AreBlanks blanks →
    run inverses blanks (state_with outer frame (Operand back)) ≡ Some (state_with outer frame (Operand back))
operand_blanks inverses [] back outer frame blank = refl
operand_blanks inverses (byte ∷ blanks) back outer frame blank =
    let both : (is_blank byte ≡ true) × (AreBlanks blanks) = and_parts _ _ blank in
    rw (kind_of_blank byte both.0) (operand_blanks inverses blanks back outer frame both.1)

element_blanks : (inverses : Bool) (blanks : List ℕ) (outer : List FrameValue) (frame : FrameValue) (e : Expression) → AreBlanks blanks →
    run inverses blanks (state_with outer frame (Element e)) ≡ Some (state_with outer frame (Element e))
element_blanks inverses [] outer frame e blank = refl
element_blanks inverses (byte ∷ blanks) outer frame e blank =
    let both : (is_blank byte ≡ true) × (AreBlanks blanks) = and_parts _ _ blank in
    rw (kind_of_blank byte both.0) (element_blanks inverses blanks outer frame e both.1)

primary_blanks : (inverses : Bool) (blanks : List ℕ) (outer : List FrameValue) (frame : FrameValue) (e : Expression) → AreBlanks blanks →
    run inverses blanks (state_with outer frame (Primary e)) ≡ Some (state_with outer frame (Primary e))
primary_blanks inverses [] outer frame e blank = refl
primary_blanks inverses (byte ∷ blanks) outer frame e blank =
    let both : (is_blank byte ≡ true) × (AreBlanks blanks) = and_parts _ _ blank in
    rw (kind_of_blank byte both.0) (primary_blanks inverses blanks outer frame e both.1)

pub record PrimaryRun (inverses back : Bool) (outer : List FrameValue) (frame : FrameValue) (text : List ℕ) (e : Expression) : Type 0 where
  pub mode : ModeValue
  pub is : primary_of mode ≡ Some e
  pub ran : run inverses text (state_with outer frame (Operand back)) ≡ Some (state_with outer frame mode)

pub record ElementRun (inverses : Bool) (outer : List FrameValue) (frame : FrameValue) (text : List ℕ) (e : Expression) : Type 0 where
  pub mode : ModeValue
  pub ends : element_of mode ≡ Some e
  pub ran : run inverses text (state_with outer frame (Operand false)) ≡ Some (state_with outer frame mode)

abbrev frame_with : Option Expression → Option Expression → FrameValue
frame_with alternatives sequence = record { alternatives = alternatives; sequence = sequence }

pub record SequenceRun (inverses : Bool) (outer : List FrameValue) (alternatives : Option Expression) (text : List ℕ) (e : Expression) : Type 0 where
  pub sequence : Option Expression
  pub mode : ModeValue
  pub last : Expression
  pub ends : element_of mode ≡ Some last
  pub joined : in_sequence sequence last ≡ e
  pub ran : run inverses text (state_with outer (frame_with alternatives None) (Operand false)) ≡ Some (state_with outer (frame_with alternatives sequence) mode)

pub record AlternativeRun (inverses : Bool) (outer : List FrameValue) (text : List ℕ) (e : Expression) : Type 0 where
  pub frame : FrameValue
  pub mode : ModeValue
  pub last : Expression
  pub ends : element_of mode ≡ Some last
  pub whole : whole_with frame last ≡ e
  pub ran : run inverses text (state_with outer empty_frame (Operand false)) ≡ Some (state_with outer frame mode)

-- a primary, and blanks behind it
record BlanksRun (inverses : Bool) (blanks : List ℕ) (outer : List FrameValue) (frame : FrameValue) (mode : ModeValue) (e : Expression) : Type 0 where
  mode' : ModeValue
  is : primary_of mode' ≡ Some e
  ran : run inverses blanks (state_with outer frame mode) ≡ Some (state_with outer frame mode')

blank_behind : (inverses : Bool) (byte : ℕ) (outer : List FrameValue) (frame : FrameValue) (mode : ModeValue) (e : Expression) → primary_of mode ≡ Some e →
    is_blank byte ≡ true → step inverses (state_with outer frame mode) byte ≡ Some (state_with outer frame (Primary e))
blank_behind inverses byte outer frame (Operand back) e is blank = absurd cc
blank_behind inverses byte outer frame (BareLabel name back) e is blank =
    let same : Atom (label_with name back) ≡ e = cc in rw (kind_of_blank byte blank) (ap (λ f. Some (state_with outer frame (Primary f))) same)
blank_behind inverses byte outer frame (QuotedLabel name back) e is blank = absurd cc
blank_behind inverses byte outer frame (Escape name back) e is blank = absurd cc
blank_behind inverses byte outer frame (Primary f) e is blank =
    let same : f ≡ e = cc in rw (kind_of_blank byte blank) (ap (λ f. Some (state_with outer frame (Primary f))) same)
blank_behind inverses byte outer frame (Element f) e is blank = absurd cc

blanks_behind : (inverses : Bool) (blanks : List ℕ) (outer : List FrameValue) (frame : FrameValue) (mode : ModeValue) (e : Expression) → primary_of mode ≡ Some e →
    AreBlanks blanks → BlanksRun inverses blanks outer frame mode e
blanks_behind inverses [] outer frame mode e is blank = record { mode' = mode; is = is; ran = refl }
blanks_behind inverses (byte ∷ blanks) outer frame mode e is blank =
    let both : (is_blank byte ≡ true) × (AreBlanks blanks) = and_parts _ _ blank in
    record {
      mode' = Primary e;
      is = refl;
      ran = ap (option_and_then (run inverses blanks)) (blank_behind inverses byte outer frame mode e is both.0) ∙ primary_blanks inverses blanks outer frame e both.1;
    }

-- labels
pub bare_run : (inverses : Bool) (bytes name : List ℕ) (back : Bool) (outer : List FrameValue) (frame : FrameValue) → IsBare bytes →
    run inverses bytes (state_with outer frame (BareLabel name back)) ≡ Some (state_with outer frame (BareLabel (name ++ bytes) back))
bare_run inverses [] name back outer frame bare = ap (λ t. Some (state_with outer frame (BareLabel t back))) (sym (append-nil name))
bare_run inverses (byte ∷ bytes) name back outer frame bare =
    let both : (is_bare_byte byte ≡ true) × (IsBare bytes) = and_parts _ _ bare in
    rw (kind_of_bare byte both.0)
    (bare_run inverses bytes (name ++ byte ∷ []) back outer frame both.1 ∙ ap (λ t. Some (state_with outer frame (BareLabel t back))) (append_assoc name (byte ∷ []) bytes))

plain_in_quotes : (outer : List FrameValue) (frame : FrameValue) (name : List ℕ) (back : Bool) (kind : ByteKind) (byte : ℕ) → Means kind byte →
    is_name_byte byte ≡ true → (byte ≡ 34 → ⊥) → (byte ≡ 92 → ⊥) →
    in_quotes outer frame name back kind byte ≡ Some (state_with outer frame (QuotedLabel (name ++ byte ∷ []) back))
plain_in_quotes outer frame name back kinds.Blank byte m named quote backslash = absurd (let h : false ≡ true = sym (blank_is_strange byte m) ∙ named in cc)
plain_in_quotes outer frame name back kinds.Strange byte m named quote backslash = absurd (let h : false ≡ true = sym m ∙ named in cc)
plain_in_quotes outer frame name back kinds.Quote byte m named quote backslash = absurd (quote m)
plain_in_quotes outer frame name back kinds.Backslash byte m named quote backslash = absurd (backslash m)
plain_in_quotes outer frame name back _ byte m named quote backslash = refl

escaped_quote : (inverses : Bool) (name : List ℕ) (back : Bool) (outer : List FrameValue) (frame : FrameValue) →
    run inverses (escaped 34) (state_with outer frame (QuotedLabel name back)) ≡ Some (state_with outer frame (QuotedLabel (name ++ 34 ∷ []) back))
unfolding kind_of
escaped_quote inverses name back outer frame = refl

escaped_backslash : (inverses : Bool) (name : List ℕ) (back : Bool) (outer : List FrameValue) (frame : FrameValue) →
    run inverses (escaped 92) (state_with outer frame (QuotedLabel name back)) ≡ Some (state_with outer frame (QuotedLabel (name ++ 92 ∷ []) back))
unfolding kind_of
escaped_backslash inverses name back outer frame = refl

escaped_other : (inverses : Bool) (byte : ℕ) (name : List ℕ) (back : Bool) (outer : List FrameValue) (frame : FrameValue) → is_name_byte byte ≡ true → (byte ≡ 34 → ⊥) → (byte ≡ 92 → ⊥) →
    run inverses (escaped byte) (state_with outer frame (QuotedLabel name back)) ≡ Some (state_with outer frame (QuotedLabel (name ++ byte ∷ []) back))
escaped_other inverses byte name back outer frame named quote backslash =
    rw (ne_eqb byte 34 quote, ne_eqb byte 92 backslash)
    (run_one inverses byte (state_with outer frame (QuotedLabel name back)) _
    (plain_in_quotes outer frame name back (kind_of byte) byte (kind_means byte) named quote backslash))

pub escaped_run : (inverses : Bool) (byte : ℕ) (name : List ℕ) (back : Bool) (outer : List FrameValue) (frame : FrameValue) → is_name_byte byte ≡ true →
    run inverses (escaped byte) (state_with outer frame (QuotedLabel name back)) ≡ Some (state_with outer frame (QuotedLabel (name ++ byte ∷ []) back))
escaped_run inverses byte name back outer frame named =
    let P : ℕ → Type 0 = λ b. run inverses (escaped b) (state_with outer frame (QuotedLabel name back)) ≡ Some (state_with outer frame (QuotedLabel (name ++ b ∷ []) back)) in
    ⊎_elim (λ quote. subst P (sym quote) (escaped_quote inverses name back outer frame)) (λ no_quote.
    ⊎_elim (λ backslash. subst P (sym backslash) (escaped_backslash inverses name back outer frame)) (λ no_backslash.
    escaped_other inverses byte name back outer frame named no_quote no_backslash)
    (cases_eq byte 92)) (cases_eq byte 34)

pub quoted_run : (inverses : Bool) (bytes name : List ℕ) (back : Bool) (outer : List FrameValue) (frame : FrameValue) → AreNameBytes bytes →
    run inverses (quoted bytes) (state_with outer frame (QuotedLabel name back)) ≡ Some (state_with outer frame (QuotedLabel (name ++ bytes) back))
quoted_run inverses [] name back outer frame named = ap (λ t. Some (state_with outer frame (QuotedLabel t back))) (sym (append-nil name))
quoted_run inverses (byte ∷ bytes) name back outer frame named =
    let both : (is_name_byte byte ≡ true) × (AreNameBytes bytes) = and_parts _ _ named in
    run_from inverses (escaped byte) (quoted bytes) (state_with outer frame (QuotedLabel name back)) _ (escaped_run inverses byte name back outer frame both.0) ∙
    quoted_run inverses bytes (name ++ byte ∷ []) back outer frame both.1 ∙
    ap (λ t. Some (state_with outer frame (QuotedLabel t back))) (append_assoc name (byte ∷ []) bytes)

pub begin_bare : (inverses : Bool) (byte : ℕ) (back : Bool) (outer : List FrameValue) (frame : FrameValue) → is_bare_byte byte ≡ true →
    step inverses (state_with outer frame (Operand back)) byte ≡ Some (state_with outer frame (BareLabel (byte ∷ []) back))
begin_bare inverses byte back outer frame bare = rw (kind_of_bare byte bare) refl

pub begin_quoted : (inverses : Bool) (back : Bool) (outer : List FrameValue) (frame : FrameValue) →
    step inverses (state_with outer frame (Operand back)) 34 ≡ Some (state_with outer frame (QuotedLabel [] back))
unfolding kind_of
begin_quoted inverses back outer frame = refl

end_quoted : (inverses : Bool) (byte : ℕ) (name : List ℕ) (back : Bool) (outer : List FrameValue) (frame : FrameValue) →
    run inverses (34 ∷ []) (state_with outer frame (QuotedLabel (byte ∷ name) back)) ≡ Some (state_with outer frame (Primary (Atom (label_with (byte ∷ name) back))))
unfolding kind_of
end_quoted inverses byte name back outer frame = refl

pub label_run : (inverses : Bool) {text name : List ℕ} → IsLabel text name → (back : Bool) (outer : List FrameValue) (frame : FrameValue) →
    PrimaryRun inverses back outer frame text (Atom (label_with name back))
label_run inverses (Bare [] some bare) back outer frame = absurd (some refl)
label_run inverses (Bare (byte ∷ name) some bare) back outer frame =
    let both : (is_bare_byte byte ≡ true) × (IsBare name) = and_parts _ _ bare in
    record {
      mode = BareLabel (byte ∷ name) back;
      is = refl;
      ran = ap (option_and_then (run inverses name)) (begin_bare inverses byte back outer frame both.0) ∙ bare_run inverses name (byte ∷ []) back outer frame both.1;
    }
label_run inverses (Quoted [] some named) back outer frame = absurd (some refl)
label_run inverses (Quoted (byte ∷ name) some named) back outer frame = record {
  mode = Primary (Atom (label_with (byte ∷ name) back));
  is = refl;
  ran = ap (option_and_then (run inverses (quoted (byte ∷ name) ++ 34 ∷ []))) (begin_quoted inverses back outer frame) ∙
      run_from inverses (quoted (byte ∷ name)) (34 ∷ []) (state_with outer frame (QuotedLabel [] back)) _ (quoted_run inverses (byte ∷ name) [] back outer frame named) ∙
      end_quoted inverses byte name back outer frame;
}

open_step : (inverses : Bool) (outer : List FrameValue) (frame : FrameValue) →
    run inverses (40 ∷ []) (state_with outer frame (Operand false)) ≡ Some (state_with (frame ∷ outer) empty_frame (Operand false))
unfolding kind_of
open_step inverses outer frame = refl

caret_step : (inverses : Bool) (outer : List FrameValue) (frame : FrameValue) → inverses ≡ true →
    run inverses (94 ∷ []) (state_with outer frame (Operand false)) ≡ Some (state_with outer frame (Operand true))
unfolding kind_of
caret_step inverses outer frame taken = rw taken refl

mutual
  run_alternative : (inverses : Bool) {text : List ℕ} {e : Expression} → IsAlternative inverses text e → (outer : List FrameValue) → AlternativeRun inverses outer text e
  run_alternative inverses (OneSequence s) outer =
      let r = run_sequence inverses s outer None in
      record { frame = frame_with None r.sequence; mode = r.mode; last = r.last; ends = r.ends; whole = r.joined; ran = r.ran }
  run_alternative inverses (Either left right {e} {f} a s) outer =
      let l = run_alternative inverses a outer in
      let r = run_sequence inverses s outer (Some (whole_with l.frame l.last)) in
      record {
        frame = frame_with (Some (whole_with l.frame l.last)) r.sequence;
        mode = r.mode;
        last = r.last;
        ends = r.ends;
        whole = ap (λ x. Alt x (in_sequence r.sequence r.last)) l.whole ∙ ap (λ x. Alt e x) r.joined;
        ran = run_from inverses (left ++ codes "|") right _ _
            (run_from inverses left (codes "|") _ _ l.ran ∙ bar_step inverses outer l.frame l.mode l.last l.ends) ∙ r.ran;
      }

  run_sequence : (inverses : Bool) {text : List ℕ} {e : Expression} → IsSequence inverses text e → (outer : List FrameValue) (alternatives : Option Expression) →
      SequenceRun inverses outer alternatives text e
  run_sequence inverses (OneElement {text} {e} l) outer alternatives =
      let r = run_element inverses l outer (frame_with alternatives None) in
      record { sequence = None; mode = r.mode; last = e; ends = r.ends; joined = refl; ran = r.ran }
  run_sequence inverses (Then left right {e} {f} s l) outer alternatives =
      let q = run_sequence inverses s outer alternatives in
      let r = run_element inverses l outer (frame_with alternatives (Some (in_sequence q.sequence q.last))) in
      record {
        sequence = Some (in_sequence q.sequence q.last);
        mode = r.mode;
        last = f;
        ends = r.ends;
        joined = ap (λ x. Seq x f) q.joined;
        ran = run_from inverses (left ++ codes "/") right _ _
            (run_from inverses left (codes "/") _ _ q.ran ∙ slash_step inverses outer (frame_with alternatives q.sequence) q.mode q.last q.ends) ∙ r.ran;
      }

  run_element : (inverses : Bool) {text : List ℕ} {e : Expression} → IsElement inverses text e → (outer : List FrameValue) (frame : FrameValue) → ElementRun inverses outer frame text e
  run_element inverses (Once {text} {e} p) outer frame =
      let r = run_primary inverses p outer frame in
      record { mode = r.mode; ends = primary_ends r.mode e r.is; ran = r.ran }
  run_element inverses (Starred text after {e} p a) outer frame =
      let r = run_primary inverses p outer frame in
      record {
        mode = Element (Star e);
        ends = refl;
        ran = run_from inverses (text ++ codes "*") after _ _ (run_from inverses text (codes "*") _ _ r.ran ∙ star_step inverses outer frame r.mode e r.is) ∙
            element_blanks inverses after outer frame (Star e) a;
      }
  run_element inverses (Plussed text after {e} p a) outer frame =
      let r = run_primary inverses p outer frame in
      record {
        mode = Element (Plus e);
        ends = refl;
        ran = run_from inverses (text ++ codes "+") after _ _ (run_from inverses text (codes "+") _ _ r.ran ∙ plus_step inverses outer frame r.mode e r.is) ∙
            element_blanks inverses after outer frame (Plus e) a;
      }
  run_element inverses (Optional text after {e} p a) outer frame =
      let r = run_primary inverses p outer frame in
      record {
        mode = Element (Opt e);
        ends = refl;
        ran = run_from inverses (text ++ codes "?") after _ _ (run_from inverses text (codes "?") _ _ r.ran ∙ opt_step inverses outer frame r.mode e r.is) ∙
            element_blanks inverses after outer frame (Opt e) a;
      }

  run_primary : (inverses : Bool) {text : List ℕ} {e : Expression} → IsPrimary inverses text e → (outer : List FrameValue) (frame : FrameValue) → PrimaryRun inverses false outer frame text e
  run_primary inverses (Named before text after {name} b l a) outer frame =
      let r = label_run inverses l false outer frame in
      let k = blanks_behind inverses after outer frame r.mode (Atom (label_named name)) r.is a in
      record {
        mode = k.mode';
        is = k.is;
        ran = run_from inverses (before ++ text) after _ _ (run_from inverses before text _ _ (operand_blanks inverses before false outer frame b) ∙ r.ran) ∙ k.ran;
      }
  run_primary inverses (Inverse before between text after {name} taken b w l a) outer frame =
      let r = label_run inverses l true outer frame in
      let k = blanks_behind inverses after outer frame r.mode (Atom (inverse_named name)) r.is a in
      record {
        mode = k.mode';
        is = k.is;
        ran = run_from inverses (before ++ codes "^" ++ between ++ text) after _ _
            (run_from inverses (before ++ codes "^" ++ between) text _ _
            (run_from inverses (before ++ codes "^") between _ _
            (run_from inverses before (codes "^") _ _ (operand_blanks inverses before false outer frame b) ∙ caret_step inverses outer frame taken) ∙
            operand_blanks inverses between true outer frame w) ∙ r.ran) ∙ k.ran;
      }
  run_primary inverses (InParentheses before inside after {e} b i a) outer frame =
      let r = run_alternative inverses i (frame ∷ outer) in
      let k = blanks_behind inverses after outer frame (Primary (whole_with r.frame r.last)) e (ap (λ x. Some x) r.whole) a in
      record {
        mode = k.mode';
        is = k.is;
        ran = run_from inverses (before ++ codes "(" ++ inside ++ codes ")") after _ _
            (run_from inverses (before ++ codes "(" ++ inside) (codes ")") _ _
            (run_from inverses (before ++ codes "(") inside _ _
            (run_from inverses before (codes "(") _ _ (operand_blanks inverses before false outer frame b) ∙ open_step inverses outer frame) ∙ r.ran) ∙
            close_step inverses frame outer r.frame r.mode r.last r.ends) ∙ k.ran;
      }

-- the reader's state at the end of a text
pub record IsRead (inverses : Bool) (bytes : List ℕ) (e : Expression) : Type 0 where
  pub state : StateValue
  pub ran : run inverses bytes initial ≡ Some state
  pub whole : whole_of state ≡ Some e

pub complete : (inverses : Bool) (bytes : List ℕ) (e : Expression) → IsAlternative inverses bytes e → IsRead inverses bytes e
complete inverses bytes e text =
    let r = run_alternative inverses text [] in
    record {
      state = state_with [] r.frame r.mode;
      ran = r.ran;
      whole = ap (λ o. option_map (whole_with r.frame) o) r.ends ∙ ap (λ x. Some x) r.whole;
    }

pub one_expression : (inverses : Bool) (bytes : List ℕ) (first second : Expression) → IsAlternative inverses bytes first → IsAlternative inverses bytes second → first ≡ second
one_expression inverses bytes first second a b =
    let r = complete inverses bytes first a in
    let s = complete inverses bytes second b in
    let same : Some r.state ≡ Some s.state = sym r.ran ∙ s.ran in
    let states : r.state ≡ s.state = cc in
    let wholes : Some first ≡ Some second = sym r.whole ∙ ap whole_of states ∙ s.whole in
    cc
