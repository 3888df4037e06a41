-- The language of an expression: the textbook's definition, by cases on the expression.
use Rattle.std.specs.Prelude.{◌≡◌, ◌≢◌, List, [], ◌∷◌, ◌++◌, ◌⊎◌, All}
use Rattle.std.specs.List.{flat_map}
use Rattle.rpq_base.specs.declared.data.Label.{Label}
use Rattle.path_syntax.specs.Expression.{Expression, Atom, Seq, Alt, Star, Plus, Opt}

-- a set of words
abbrev pub Language : Type 1
Language = List Label → Type 0

-- the words that are a word of the first language followed by one of the second
pub record IsJoined (first second : Language) (word : List Label) : Type 0 where
  pub front : List Label
  pub rest : List Label
  pub split : word ≡ front ++ rest
  pub left : first front
  pub right : second rest

-- the words that are any number of nonempty words of the language, one after another
pub record IsRepeated (language : Language) (word : List Label) : Type 0 where
  pub parts : List (List Label)
  pub joined : word ≡ flat_map (λ part. part) parts
  pub nonempty : All (λ part. part ≢ []) parts
  pub within : All language parts

-- the word is in the language of the expression
abbrev pub In : Expression → List Label → Type 0
In (Atom label) word = word ≡ label ∷ []
In (Seq left right) word = IsJoined (In left) (In right) word
In (Alt left right) word = In left word ⊎ In right word
In (Star body) word = IsRepeated (In body) word
In (Plus body) word = IsJoined (In body) (IsRepeated (In body)) word
In (Opt body) word = (word ≡ []) ⊎ In body word
