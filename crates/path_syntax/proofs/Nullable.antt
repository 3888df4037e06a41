-- The expressions that have the empty word.
use Rattle.std.proofs.Common.{◌≡◌, IsTrue, ◌↔◌, List, [], ◌∷◌, ◌++◌, inl, inr, refl, sym, subst}
use Rattle.std.proofs.lemmas.Bool.{false≢true, and_parts, and_from, or_cases, or_left, or_right}
use Rattle.rpq_base.specs.declared.data.Label.{Label}
use Rattle.path_syntax.specs.Expression.{Expression, Atom, Seq, Alt, Star, Plus, Opt}
use Rattle.path_syntax.specs.Language.{Language, IsJoined, IsRepeated, In}
use Rattle.path_syntax.specs.Laws.{is_nullable}
use Rattle.path_syntax.proofs.Stars.{repeated_none}

empty_parts : (front rest : List Label) → [] ≡ front ++ rest → (front ≡ []) × (rest ≡ [])
empty_parts [] rest e = (refl, sym e)
empty_parts (label ∷ front) rest e = cc

-- the empty word is joined of two empty words alone
pub empty_joined : (first second : Language) → first [] → second [] → IsJoined first second []
empty_joined first second left right = record { front = []; rest = []; split = refl; left = left; right = right }

pub empty_sides : (first second : Language) → IsJoined first second [] → first [] × second []
empty_sides first second joined =
    let parts = empty_parts joined.front joined.rest joined.split in
    (subst first parts.0 joined.left, subst second parts.1 joined.right)

pub nullable_is : (e : Expression) → IsTrue (is_nullable e) ↔ In e []
nullable_is (Atom label) = (λ yes. absurd (false≢true yes), λ word. cc)
nullable_is (Seq left right) = (
  λ yes. let sides = and_parts (is_nullable left) (is_nullable right) yes in
      empty_joined (In left) (In right) ((nullable_is left).0 sides.0) ((nullable_is right).0 sides.1),
  λ word. let sides = empty_sides (In left) (In right) word in
      and_from (is_nullable left) (is_nullable right) ((nullable_is left).1 sides.0) ((nullable_is right).1 sides.1),
)
nullable_is (Alt left right) = (
  λ yes. elim (or_cases (is_nullable left) (is_nullable right) yes) [ inl a ↦ inl ((nullable_is left).0 a) | inr b ↦ inr ((nullable_is right).0 b) ],
  λ word. elim word [
    | inl a ↦ or_left (is_nullable left) (is_nullable right) ((nullable_is left).1 a)
    | inr b ↦ or_right (is_nullable left) (is_nullable right) ((nullable_is right).1 b)
  ],
)
nullable_is (Star body) = (λ yes. repeated_none (In body), λ word. refl)
nullable_is (Plus body) = (
  λ yes. empty_joined (In body) (IsRepeated (In body)) ((nullable_is body).0 yes) (repeated_none (In body)),
  λ word. (nullable_is body).1 (empty_sides (In body) (IsRepeated (In body)) word).0,
)
nullable_is (Opt body) = (λ yes. inl refl, λ word. refl)
