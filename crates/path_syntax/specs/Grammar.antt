-- The grammar of expressions: which bytes are the text of which expression.
use Rattle.std.specs.Prelude.{◌≢◌, ℕ, Bool, true, false, not, ◌&&◌, ◌||◌, ◌==◌, List, [], ◌∷◌, ◌++◌}
use Rattle.std.specs.Prelude.{IsTrue, codes, if◌then◌else◌}
use Rattle.std.specs.List.{flat_map, list_all, list_any}
use Rattle.rpq_base.specs.Names.{is_name_byte}
use Rattle.rpq_base.specs.declared.data.Label.{Label}
use Rattle.path_syntax.specs.Expression.{Expression, Atom, Seq, Alt, Star, Plus, Opt}

-- a space or a tab
abbrev pub is_blank : ℕ → Bool
is_blank byte = byte == 0x20 || byte == 0x09

-- any number of blanks
abbrev pub AreBlanks : List ℕ → Type 0
AreBlanks bytes = IsTrue (list_all is_blank bytes)

-- a byte that may stand in a label without quotes: one of a name that has no meaning of its own
abbrev pub is_bare_byte : ℕ → Bool
is_bare_byte byte =
    is_name_byte byte && not (list_any (λ sign. byte == sign) (codes "/|*+?()^!\"\\"))

-- bytes that may stand in a label without quotes
abbrev pub IsBare : List ℕ → Type 0
IsBare bytes = IsTrue (list_all is_bare_byte bytes)

-- bytes that may stand in a name
abbrev pub AreNameBytes : List ℕ → Type 0
AreNameBytes bytes = IsTrue (list_all is_name_byte bytes)

-- a byte of a name within quotes: a quote and a backslash have a backslash before them
abbrev pub escaped : ℕ → List ℕ
escaped byte = if byte == 34 || byte == 92 then 92 ∷ byte ∷ [] else byte ∷ []

-- what stands within the quotes of a quoted label of this name
abbrev pub quoted : List ℕ → List ℕ
quoted name = flat_map escaped name

-- the label with this name, backwards or not
abbrev pub label_with : List ℕ → Bool → Label
label_with name back = record { name = name; back = back }

-- the label with this name that points forwards
abbrev pub label_named : List ℕ → Label
label_named name = label_with name false

-- the label with this name that points backwards
abbrev pub inverse_named : List ℕ → Label
inverse_named name = label_with name true

-- the text of a label of this name, which may have any length but 0: bare, or in quotes
pub data IsLabel : List ℕ → List ℕ → Type 0 where
  Bare : (name : List ℕ) → name ≢ [] → IsBare name → IsLabel name name
  Quoted : (name : List ℕ) → name ≢ [] → AreNameBytes name →
      IsLabel (codes "\"" ++ quoted name ++ codes "\"") name

-- In what follows `inverses` says whether a '^' before a label takes it backwards.
mutual
  -- alternatives are sequences joined by '|', grouped to the left
  pub data IsAlternative (inverses : Bool) : List ℕ → Expression → Type 0 where
    OneSequence : {text : List ℕ} {e : Expression} → IsSequence inverses text e →
        IsAlternative inverses text e
    Either : (left right : List ℕ) {e f : Expression} →
        IsAlternative inverses left e → IsSequence inverses right f →
        IsAlternative inverses (left ++ codes "|" ++ right) (Alt e f)

  -- a sequence is elements joined by '/', grouped to the left
  pub data IsSequence (inverses : Bool) : List ℕ → Expression → Type 0 where
    OneElement : {text : List ℕ} {e : Expression} → IsElement inverses text e →
        IsSequence inverses text e
    Then : (left right : List ℕ) {e f : Expression} →
        IsSequence inverses left e → IsElement inverses right f →
        IsSequence inverses (left ++ codes "/" ++ right) (Seq e f)

  -- an element is a primary with at most one sign of repetition, behind which blanks may stand
  pub data IsElement (inverses : Bool) : List ℕ → Expression → Type 0 where
    Once : {text : List ℕ} {e : Expression} → IsPrimary inverses text e → IsElement inverses text e
    Starred : (text after : List ℕ) {e : Expression} → IsPrimary inverses text e → AreBlanks after →
        IsElement inverses (text ++ codes "*" ++ after) (Star e)
    Plussed : (text after : List ℕ) {e : Expression} → IsPrimary inverses text e → AreBlanks after →
        IsElement inverses (text ++ codes "+" ++ after) (Plus e)
    Optional : (text after : List ℕ) {e : Expression} → IsPrimary inverses text e →
        AreBlanks after → IsElement inverses (text ++ codes "?" ++ after) (Opt e)

  -- a primary is a label, one that a '^' takes backwards, or an alternative in parentheses, and
  -- blanks may stand before and behind each part of it
  pub data IsPrimary (inverses : Bool) : List ℕ → Expression → Type 0 where
    Named : (before text after : List ℕ) {name : List ℕ} →
        AreBlanks before → IsLabel text name → AreBlanks after →
        IsPrimary inverses (before ++ text ++ after) (Atom (label_named name))
    Inverse : (before between text after : List ℕ) {name : List ℕ} → IsTrue inverses →
        AreBlanks before → AreBlanks between → IsLabel text name → AreBlanks after →
        IsPrimary inverses (before ++ codes "^" ++ between ++ text ++ after)
        (Atom (inverse_named name))
    InParentheses : (before inside after : List ℕ) {e : Expression} →
        AreBlanks before → IsAlternative inverses inside e → AreBlanks after →
        IsPrimary inverses (before ++ codes "(" ++ inside ++ codes ")" ++ after) e

-- no label is taken backwards
abbrev pub one_way : Bool
one_way = false

-- a '^' before a label takes it backwards
abbrev pub two_way : Bool
two_way = true

-- the bytes are the text of the expression, whose labels point forwards
abbrev pub IsText : List ℕ → Expression → Type 0
IsText = IsAlternative one_way

-- the bytes are the text of the expression, whose labels may be taken backwards
abbrev pub IsTwoWayText : List ℕ → Expression → Type 0
IsTwoWayText = IsAlternative two_way

-- some text of an expression begins with these bytes
pub record CanGoOn (inverses : Bool) (front : List ℕ) : Type 0 where
  pub rest : List ℕ
  pub whole : Expression
  pub text : IsAlternative inverses (front ++ rest) whole
