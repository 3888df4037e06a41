-- The written form of an expression is a text of it in the grammar.
use Rattle.std.proofs.Common.{◌≡◌, ◌≢◌, ℕ, Bool, true, false, not, ◌||◌, List, [], ◌∷◌, ◌++◌, cond, refl, subst, codes}
use Rattle.std.specs.List.{list_all}
use Rattle.std.proofs.lemmas.Bool.{false≢true, and_parts}
use Rattle.std.proofs.lemmas.List.{append-nil}
use Rattle.rpq_base.specs.Names.{is_name_byte, has_name_length, is_name, IsName}
use Rattle.rpq_base.specs.declared.data.Label.{Label}
use Rattle.path_syntax.specs.Expression.{Expression, Atom, Seq, Alt, Star, Plus, Opt}
use Rattle.path_syntax.specs.Plain.{IsPlainExpression}
use Rattle.path_syntax.specs.Grammar.{is_bare_byte, AreNameBytes, quoted, label_with, label_named, inverse_named, IsLabel, Bare, Quoted, IsAlternative, OneSequence, Either, IsSequence, OneElement, Then, IsElement, Once, Starred, Plussed, Optional, IsPrimary, Named, Inverse, InParentheses}
use Rattle.path_syntax.specs.Written.{written_name, written_label, is_atom, is_seq, is_alt, grouped, written_expression, IsNamed}

-- a name has a byte, and each may stand in one
name_bytes : (name : List ℕ) → IsName name → (name ≢ []) × AreNameBytes name
unfolding is_name
name_bytes [] valid = absurd (false≢true (and_parts false true (and_parts (has_name_length []) true valid).0).0)
name_bytes (byte ∷ name) valid = ((λ none. cc), (and_parts (has_name_length (byte ∷ name)) (list_all is_name_byte (byte ∷ name)) valid).1)

named_by : (bare : Bool) (name : List ℕ) → list_all is_bare_byte name ≡ bare → name ≢ [] → AreNameBytes name → IsLabel (cond bare name (codes "\"" ++ quoted name ++ codes "\"")) name
named_by true name is some bytes = Bare name some is
named_by false name is some bytes = Quoted name some bytes

-- the name of a label
label_text : (label : Label) → IsName label.name → IsLabel (written_name label.name) label.name
label_text label valid =
    let parts = name_bytes label.name valid in
    named_by (list_all is_bare_byte label.name) label.name refl parts.0 parts.1

-- the written form wherever it may stand
pub record Spelled (inverses : Bool) (e : Expression) : Type 0 where
  pub alternative : IsAlternative inverses (written_expression e) e
  pub sequence : IsSequence inverses (grouped (is_alt e) (written_expression e)) e
  pub element : IsElement inverses (grouped (is_alt e || is_seq e) (written_expression e)) e
  pub primary : IsPrimary inverses (grouped (not (is_atom e)) (written_expression e)) e

-- without blanks
bare_primary : (inverses : Bool) (text name : List ℕ) → IsLabel text name → IsPrimary inverses text (Atom (label_named name))
bare_primary inverses text name is = subst (λ (t : List ℕ). IsPrimary inverses t (Atom (label_named name))) (append-nil text) (Named [] text [] refl is refl)

-- behind a '^'
inverse_primary : (inverses : Bool) (text name : List ℕ) → IsLabel text name → inverses ≡ true → IsPrimary inverses (codes "^" ++ text) (Atom (inverse_named name))
inverse_primary inverses text name is taken =
    subst (λ (t : List ℕ). IsPrimary inverses t (Atom (inverse_named name))) (append-nil (codes "^" ++ text)) (Inverse [] [] text [] taken refl refl is refl)

in_parentheses : (inverses : Bool) (text : List ℕ) (e : Expression) → IsAlternative inverses text e → IsPrimary inverses (codes "(" ++ text ++ codes ")") e
in_parentheses inverses text e is = subst (λ (t : List ℕ). IsPrimary inverses t e) (append-nil (codes "(" ++ text ++ codes ")")) (InParentheses [] text [] refl is refl)

atom : (inverses : Bool) (label : Label) → IsPrimary inverses (written_label label) (Atom label) → Spelled inverses (Atom label)
atom inverses label primary = record {
  alternative = OneSequence (OneElement (Once primary));
  sequence = OneElement (Once primary);
  element = Once primary;
  primary = primary;
}

repeated : (inverses : Bool) (text : List ℕ) (e : Expression) → IsElement inverses (text ++ []) e → IsElement inverses text e
repeated inverses text e element = subst (λ (t : List ℕ). IsElement inverses t e) (append-nil text) element

-- an element that is neither a label nor a sequence nor an alternative
repeated_all : (inverses : Bool) (e : Expression) → IsElement inverses (written_expression e) e → is_alt e ≡ false → is_seq e ≡ false → is_atom e ≡ false → Spelled inverses e
repeated_all inverses e element alt seq atom = record {
  alternative = OneSequence (OneElement element);
  sequence = rw alt (OneElement element);
  element = rw (alt, seq) element;
  primary = rw atom (in_parentheses inverses (written_expression e) e (OneSequence (OneElement element)));
}

-- the labels of the expression are read: they point forwards, or inverses are read
abbrev pub AreRead : Bool → Expression → Type 0
AreRead true e = Unit {0}
AreRead false e = IsPlainExpression e

-- so are those of its parts
read_parts : (inverses : Bool) (left right : Expression) → AreRead inverses (Seq left right) → AreRead inverses left × AreRead inverses right
read_parts true left right read = (tt, tt)
read_parts false left right read = read

read_sides : (inverses : Bool) (left right : Expression) → AreRead inverses (Alt left right) → AreRead inverses left × AreRead inverses right
read_sides true left right read = (tt, tt)
read_sides false left right read = read

read_star : (inverses : Bool) (body : Expression) → AreRead inverses (Star body) → AreRead inverses body
read_star true body read = tt
read_star false body read = read

read_plus : (inverses : Bool) (body : Expression) → AreRead inverses (Plus body) → AreRead inverses body
read_plus true body read = tt
read_plus false body read = read

read_opt : (inverses : Bool) (body : Expression) → AreRead inverses (Opt body) → AreRead inverses body
read_opt true body read = tt
read_opt false body read = read

-- a label, by which way it points
label_primary : (inverses back : Bool) (name : List ℕ) → AreRead inverses (Atom (label_with name back)) → IsName name →
    IsPrimary inverses (written_label (label_with name back)) (Atom (label_with name back))
label_primary inverses false name read valid = bare_primary inverses (written_name name) name (label_text (label_named name) valid)
label_primary true true name read valid = inverse_primary true (written_name name) name (label_text (label_named name) valid) refl
label_primary false true name read valid = absurd cc

pub spelled : (inverses : Bool) (e : Expression) → AreRead inverses e → IsNamed e → Spelled inverses e
spelled inverses (Atom label) read named = atom inverses label (label_primary inverses label.back label.name read named)
spelled inverses (Seq left right) read named =
    let parts = read_parts inverses left right read in
    let sequence = Then (grouped (is_alt left) (written_expression left)) (grouped (is_alt right || is_seq right) (written_expression right)) (spelled inverses left parts.0 named.0).sequence (spelled inverses right parts.1 named.1).element in
    record {
      alternative = OneSequence sequence;
      sequence = sequence;
      element = Once (in_parentheses inverses (written_expression (Seq left right)) (Seq left right) (OneSequence sequence));
      primary = in_parentheses inverses (written_expression (Seq left right)) (Seq left right) (OneSequence sequence);
    }
spelled inverses (Alt left right) read named =
    let sides = read_sides inverses left right read in
    let alternative = Either (written_expression left) (grouped (is_alt right) (written_expression right)) (spelled inverses left sides.0 named.0).alternative (spelled inverses right sides.1 named.1).sequence in
    let primary = in_parentheses inverses (written_expression (Alt left right)) (Alt left right) alternative in
    record {
      alternative = alternative;
      sequence = OneElement (Once primary);
      element = Once primary;
      primary = primary;
    }
spelled inverses (Star body) read named = repeated_all inverses (Star body)
    (repeated inverses (written_expression (Star body)) (Star body) (Starred (grouped (not (is_atom body)) (written_expression body)) [] (spelled inverses body (read_star inverses body read) named).primary refl)) refl refl refl
spelled inverses (Plus body) read named = repeated_all inverses (Plus body)
    (repeated inverses (written_expression (Plus body)) (Plus body) (Plussed (grouped (not (is_atom body)) (written_expression body)) [] (spelled inverses body (read_plus inverses body read) named).primary refl)) refl refl refl
spelled inverses (Opt body) read named = repeated_all inverses (Opt body)
    (repeated inverses (written_expression (Opt body)) (Opt body) (Optional (grouped (not (is_atom body)) (written_expression body)) [] (spelled inverses body (read_opt inverses body read) named).primary refl)) refl refl refl
