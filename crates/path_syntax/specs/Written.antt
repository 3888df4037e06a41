-- Expressions, labels and words as they are written: without blanks, and with quotes and
-- parentheses only where they are needed.
use Rattle.std.specs.Prelude.{ℕ, Bool, true, false, not, ◌||◌, List, [], ◌∷◌, ◌++◌, map, codes}
use Rattle.std.specs.Prelude.{if◌then◌else◌}
use Rattle.std.specs.List.{list_all, join_with_byte}
use Rattle.rpq_base.specs.Names.{IsName}
use Rattle.rpq_base.specs.declared.data.Label.{Label}
use Rattle.path_syntax.specs.Expression.{Expression, Atom, Seq, Alt, Star, Plus, Opt}
use Rattle.path_syntax.specs.Grammar.{is_bare_byte, quoted}

-- a name: as it is where all its bytes may stand without quotes, else in quotes
abbrev pub written_name : List ℕ → List ℕ
written_name name =
    if list_all is_bare_byte name then name else codes "\"" ++ quoted name ++ codes "\""

-- what stands before a label that is taken backwards, or isn't
abbrev pub caret : Bool → List ℕ
caret true = codes "^"
caret false = []

-- a label
abbrev pub written_label : Label → List ℕ
written_label label = caret label.back ++ written_name label.name

-- the expression is one label
abbrev pub is_atom : Expression → Bool
is_atom (Atom label) = true
is_atom _ = false

-- it is one side and then the other
abbrev pub is_seq : Expression → Bool
is_seq (Seq left right) = true
is_seq _ = false

-- it is one of two sides
abbrev pub is_alt : Expression → Bool
is_alt (Alt left right) = true
is_alt _ = false

-- a text in parentheses where they are wanted
abbrev pub grouped : Bool → List ℕ → List ℕ
grouped wanted text = if wanted then codes "(" ++ text ++ codes ")" else text

-- an expression: in parentheses stand an alternative that is a side of a sequence or the right side
-- of an alternative, a sequence that is the right side of a sequence, and what is repeated and is
-- no label
abbrev pub written_expression : Expression → List ℕ
written_expression (Atom label) = written_label label
written_expression (Seq left right) =
    grouped (is_alt left) (written_expression left) ++ codes "/" ++
    grouped (is_alt right || is_seq right) (written_expression right)
written_expression (Alt left right) =
    written_expression left ++ codes "|" ++ grouped (is_alt right) (written_expression right)
written_expression (Star body) = grouped (not (is_atom body)) (written_expression body) ++ codes "*"
written_expression (Plus body) = grouped (not (is_atom body)) (written_expression body) ++ codes "+"
written_expression (Opt body) = grouped (not (is_atom body)) (written_expression body) ++ codes "?"

-- a word: its labels, joined by '/', and "()" for the empty word
abbrev pub written_word : List Label → List ℕ
written_word [] = codes "()"
written_word (first ∷ rest) = join_with_byte 47 (map written_label (first ∷ rest))

-- the name of each label of the expression is a valid one
abbrev pub IsNamed : Expression → Type 0
IsNamed (Atom label) = IsName label.name
IsNamed (Seq left right) = IsNamed left × IsNamed right
IsNamed (Alt left right) = IsNamed left × IsNamed right
IsNamed (Star body) = IsNamed body
IsNamed (Plus body) = IsNamed body
IsNamed (Opt body) = IsNamed body
