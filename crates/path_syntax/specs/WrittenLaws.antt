-- What the written forms are meant to be, as laws: worked values, and that what is written is read
-- again.
use Rattle.std.specs.Prelude.{◌≡◌, ℕ, ◌+◌, ◌≤◌, ◌^◌, not, ◌||◌, Bool, [], ◌∷◌, length, codes}
use Rattle.std.specs.Prelude.{if◌then◌else◌}
use Rattle.path_syntax.specs.Expression.{Expression, Atom, Seq, Alt, Star, Plus, Opt}
use Rattle.path_syntax.specs.Plain.{IsPlainExpression}
use Rattle.path_syntax.specs.Grammar.{one_way, two_way, label_named, inverse_named, IsText}
use Rattle.path_syntax.specs.Grammar.{IsTwoWayText}
use Rattle.path_syntax.specs.Faults.{signs, IsWithinLimits}
use Rattle.path_syntax.specs.Written.{is_atom, is_seq, is_alt, written_expression, written_word}
use Rattle.path_syntax.specs.Written.{IsNamed}

-- the expressions of the labels a, b and c
abbrev pub a : Expression
a = Atom (label_named (codes "a"))

abbrev pub b : Expression
b = Atom (label_named (codes "b"))

abbrev pub c : Expression
c = Atom (label_named (codes "c"))

-- some expressions and a word, with their written forms
pub record WrittenExamples : Type 0 where
  pub alternative_in_sequence : written_expression (Seq (Star (Alt a b)) c) ≡ codes "(a|b)*/c"
  pub to_the_left : written_expression (Alt (Alt a (Seq (Seq a b) c)) c) ≡ codes "a|a/b/c|c"
  pub to_the_right : written_expression (Alt a (Alt b (Seq a (Seq b c)))) ≡ codes "a|(b|a/(b/c))"
  pub repeated_twice : written_expression (Opt (Plus a)) ≡ codes "(a+)?"
  pub in_quotes : written_expression (Atom (label_named (codes "\"^\\"))) ≡ codes "\"\\\"^\\\\\""
  pub of_a_word : written_word (label_named (codes "a") ∷ label_named (codes "x/y") ∷ []) ≡
      codes "a/\"x/y\""
  pub backwards : written_expression (Star (Atom (inverse_named (codes "a")))) ≡ codes "^a*"

-- the written form of an expression whose labels are named is a text of it: with inverses, and
-- also without them where all labels point forwards
pub record WrittenIsSpelled : Type 0 where
  pub with_inverses : (e : Expression) → IsNamed e → IsTwoWayText (written_expression e) e
  pub without : (e : Expression) → IsPlainExpression e → IsNamed e →
      IsText (written_expression e) e

-- one more for a parenthesis that is wanted
abbrev pub grouped_signs : Bool → ℕ → ℕ
grouped_signs wanted count = if wanted then count + 1 else count

-- how many of the signs '/', '|', '*', '+', '?' and '(' stand outside quoted labels in the written
-- form of an expression
abbrev pub written_signs : Expression → ℕ
written_signs (Atom label) = 0
written_signs (Seq left right) =
    grouped_signs (is_alt left) (written_signs left) + 1 +
    grouped_signs (is_alt right || is_seq right) (written_signs right)
written_signs (Alt left right) =
    written_signs left + 1 + grouped_signs (is_alt right) (written_signs right)
written_signs (Star body) = grouped_signs (not (is_atom body)) (written_signs body) + 1
written_signs (Plus body) = grouped_signs (not (is_atom body)) (written_signs body) + 1
written_signs (Opt body) = grouped_signs (not (is_atom body)) (written_signs body) + 1

-- the text has as many
abbrev pub WrittenHasSigns : Type 0
WrittenHasSigns = (e : Expression) → signs (written_expression e) ≡ written_signs e

-- a written form that is short enough to be handed to the reader, and in which no limit is passed
pub record IsReadable (inverses : Bool) (e : Expression) : Type 0 where
  pub short : length (written_expression e) ≤ 2 ^ 24
  pub limits : IsWithinLimits inverses (written_expression e)

-- with at most 512 signs it is so: with inverses, and also without them where all labels point
-- forwards
pub record WrittenIsReadable : Type 0 where
  pub with_inverses : (e : Expression) → IsNamed e → written_signs e ≤ 512 → IsReadable two_way e
  pub without : (e : Expression) → IsNamed e → IsPlainExpression e → written_signs e ≤ 512 →
      IsReadable one_way e
