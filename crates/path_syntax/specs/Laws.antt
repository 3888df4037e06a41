-- What the definitions are meant to say, as laws.
use Rattle.std.specs.Prelude.{◌≡◌, ◌≢◌, ◌↔◌, ◌⊎◌, Bool, true, false, ◌&&◌, ◌||◌, IsTrue, List, []}
use Rattle.rpq_base.specs.declared.data.Label.{Label}
use Rattle.path_syntax.specs.Expression.{Expression, Atom, Seq, Alt, Star, Plus, Opt}
use Rattle.path_syntax.specs.Language.{Language, IsJoined, In}

-- the words of a language but the empty one
abbrev pub nonempty : Language → Language
nonempty language = λ word. (word ≢ []) × language word

-- the words of a star, a plus and an optional: none, or a nonempty word of the body and then a word
-- of the star; a word of the body and then a word of the star; none, or a word of the body
pub record RepetitionsByCases (body : Expression) (word : List Label) : Type 0 where
  pub star : In (Star body) word ↔
      ((word ≡ []) ⊎ IsJoined (nonempty (In body)) (In (Star body)) word)
  pub plus : In (Plus body) word ↔ In (Seq body (Star body)) word
  pub opt : In (Opt body) word ↔ ((word ≡ []) ⊎ In body word)

-- whether the expression has the empty word
abbrev pub is_nullable : Expression → Bool
is_nullable (Atom label) = false
is_nullable (Seq left right) = is_nullable left && is_nullable right
is_nullable (Alt left right) = is_nullable left || is_nullable right
is_nullable (Star body) = true
is_nullable (Plus body) = is_nullable body
is_nullable (Opt body) = true

-- the test tells which expressions have the empty word
abbrev pub NullableHasEmptyWord : Type 0
NullableHasEmptyWord = (e : Expression) → IsTrue (is_nullable e) ↔ In e []

-- each expression has a nonempty word
abbrev pub EachHasAWord : Type 0
EachHasAWord = (e : Expression) → (word : List Label) × nonempty (In e) word
