-- What the grammar of expressions and its faults are meant to be, as laws. Where they speak of
-- `inverses`, they hold whether or not a '^' before a label takes it backwards.
use Rattle.std.specs.Prelude.{◌≡◌, ◌↔◌, ℕ, Bool, ◌≤◌, List, ◌++◌, length, codes, replicate, Result}
use Rattle.std.specs.Prelude.{Ok}
use Rattle.path_syntax.specs.declared.read.BadExpr.{BadExpr}
use Rattle.path_syntax.specs.Expression.{Expression, Atom, Seq, Alt, Star, Plus, Opt}
use Rattle.path_syntax.specs.Plain.{IsPlainExpression}
use Rattle.path_syntax.specs.Grammar.{one_way, two_way, label_named, inverse_named, IsAlternative}
use Rattle.path_syntax.specs.Grammar.{IsText, IsTwoWayText}
use Rattle.path_syntax.specs.Faults.{HasLongName, IsUnexpected, IsLongName, IsTooLarge, IsEnded}
use Rattle.path_syntax.specs.Faults.{IsOutcomeOf, IsOutcome, IsTwoWayOutcome}

-- bytes are the text of at most one expression
abbrev pub OneExpression : Type 0
OneExpression =
    (inverses : Bool) (bytes : List ℕ) (first second : Expression) →
    IsAlternative inverses bytes first → IsAlternative inverses bytes second → first ≡ second

-- bytes have exactly one outcome: one expression within the limits, or one fault
pub record OneOutcome (inverses : Bool) (bytes : List ℕ) : Type 0 where
  pub some : (outcome : Result Expression BadExpr) × IsOutcomeOf inverses bytes outcome
  pub one : (first second : Result Expression BadExpr) → IsOutcomeOf inverses bytes first →
      IsOutcomeOf inverses bytes second → first ≡ second

-- The texts without inverses are those with inverses whose expression has none; and what is read
-- without inverses is read with them, as the same expression.
pub record OneWayIsPlain (bytes : List ℕ) (e : Expression) : Type 0 where
  pub texts : IsText bytes e ↔ (IsTwoWayText bytes e × IsPlainExpression e)
  pub outcomes : IsOutcome bytes (Ok e) ↔ (IsTwoWayOutcome bytes (Ok e) × IsPlainExpression e)

-- each label of the expression has a name of at most 255 bytes
abbrev pub HasShortNames : Expression → Type 0
HasShortNames (Atom label) = length label.name ≤ 255
HasShortNames (Seq left right) = HasShortNames left × HasShortNames right
HasShortNames (Alt left right) = HasShortNames left × HasShortNames right
HasShortNames (Star body) = HasShortNames body
HasShortNames (Plus body) = HasShortNames body
HasShortNames (Opt body) = HasShortNames body

-- no text of such an expression has a long name
abbrev pub ShortNamesAreShort : Type 0
ShortNamesAreShort =
    (inverses : Bool) (bytes : List ℕ) (e : Expression) → IsAlternative inverses bytes e →
    HasShortNames e → (at : ℕ) → HasLongName inverses bytes at → ⊥

-- the expression of one label
abbrev pub named : List ℕ → Expression
named name = Atom (label_named name)

-- the expression of one label that is taken backwards
abbrev pub inverse : List ℕ → Expression
inverse name = Atom (inverse_named name)

-- some texts with their expressions, and one that is no text
pub record GrammarExamples : Type 0 where
  pub grouped : IsText (codes "a/b/c|d|e")
      (Alt (Alt (Seq (Seq (named (codes "a")) (named (codes "b"))) (named (codes "c")))
      (named (codes "d"))) (named (codes "e")))
  pub spaced : IsText (codes " ( a | b ) */c")
      (Seq (Star (Alt (named (codes "a")) (named (codes "b")))) (named (codes "c")))
  pub quoted : IsText (codes "\"x/y\" ?") (Opt (named (codes "x/y")))
  pub escaped : IsText (codes "\"\\\"\"+") (Plus (named (codes "\"")))
  pub twice : (e : Expression) → IsText (codes "a**") e → ⊥

-- some bytes with their faults
pub record FaultExamples : Type 0 where
  pub two_stars : IsUnexpected one_way (codes "a**") 3
  pub empty_quotes : IsUnexpected one_way (codes "\"\"") 2
  pub wrong_escape : IsUnexpected one_way (codes "\"a\\b\"") 4
  pub no_operand : IsEnded one_way (codes "a/")
  pub long_name : IsLongName one_way (codes "a/" ++ replicate 256 97) 3
  pub many_signs : IsTooLarge one_way (replicate 513 40)

-- some texts with inverses and their expressions; a group has none, and without inverses '^' stands
-- nowhere
pub record TwoWayExamples : Type 0 where
  pub one : IsTwoWayText (codes "^a") (inverse (codes "a"))
  pub spaced : IsTwoWayText (codes " ^ a ") (inverse (codes "a"))
  pub quoted : IsTwoWayText (codes "^\"x/y\"") (inverse (codes "x/y"))
  pub starred : IsTwoWayText (codes "a/^b*") (Seq (named (codes "a")) (Star (inverse (codes "b"))))
  pub group : IsUnexpected two_way (codes "^(a)") 2
  pub twice : IsUnexpected two_way (codes "^^a") 2
  pub alone : IsEnded two_way (codes "^")
  pub last : IsEnded two_way (codes "a/^")
  pub long_name : IsLongName two_way (codes "^ " ++ replicate 256 97) 3
  pub without : IsUnexpected one_way (codes "^a") 1
