-- What an expression joins, by its cases.
use Rattle.std.proofs.Common.{◌≡◌, Bool, true, List, [], ◌∷◌, sym, subst, ◌⊎◌, inl, inr}
use Rattle.std.proofs.Common.{⊎_elim}
use Rattle.std.specs.Prelude.{◌↔◌, IsTrue, Contains}
use Rattle.rpq_base.specs.declared.data.Label.{Label}
use Rattle.rpq_base.specs.declared.data.Edge.{Edge}
use Rattle.rpq_base.specs.declared.data.Pair.{Pair}
use Rattle.path_syntax.specs.Expression.{Expression, Atom, Seq, Alt, Star, Plus, Opt}
use Rattle.path_syntax.specs.Language.{IsRepeated, In}
use Rattle.rpq_model.specs.declared.mode.Mode.TheVariants.{Arbitrary}
use Rattle.rpq_model.specs.Answers.{IsJoinedBy}
use Rattle.rpq_model.specs.Relations.{between, AreExactly, IsComposed, IsReached}
use Rattle.rpq_model.proofs.Composing.{exactly_same}
use Rattle.rpq_model.proofs.Sequences.{sequence_joins, star_joins}
use Rattle.rpq_model.proofs.Sequences.{plus_joins, optional_joins, alternative_joins}

-- the pairs are those that the expression joins
abbrev pub AreJoined : List Edge → Expression → List Pair → Type 0
AreJoined edges expr pairs = AreExactly (IsJoinedBy edges (In expr) Arbitrary) pairs

-- the test says whether the empty word is in the language
abbrev pub TellsEmpty : Bool → Expression → Type 0
TellsEmpty empty expr = IsTrue empty ↔ In expr []

-- ---- the pairs

pub atom_joined : (edges : List Edge) (expr : Expression) (label : Label) (pairs : List Pair) →
    expr ≡ Atom label →
    AreExactly (IsJoinedBy edges (λ word. word ≡ label ∷ []) Arbitrary) pairs → AreJoined edges expr pairs
atom_joined edges expr label pairs is are = subst (λ (each : Expression). AreJoined edges each pairs) (sym is) are

-- composed pairs, with those of one side where the other may be left out
abbrev pub InSequence : List Pair → List Pair → Bool → Bool → Pair → Type 0
InSequence firsts seconds no_first no_second pair =
    (IsComposed firsts seconds pair ⊎ ((no_second ≡ true) × Contains firsts pair)) ⊎ ((no_first ≡ true) × Contains seconds pair)

pub sequence_joined : (edges : List Edge) (expr left right : Expression)
    (firsts seconds all : List Pair) (no_first no_second : Bool) →
    expr ≡ Seq left right →
    AreJoined edges left firsts → AreJoined edges right seconds → TellsEmpty no_first left → TellsEmpty no_second right →
    AreExactly (InSequence firsts seconds no_first no_second) all → AreJoined edges expr all
sequence_joined edges expr left right firsts seconds all no_first no_second is firsts_are seconds_are first_tells second_tells are =
    subst (λ (each : Expression). AreJoined edges each all) (sym is)
    (exactly_same (InSequence firsts seconds no_first no_second) (IsJoinedBy edges (In (Seq left right)) Arbitrary) all
    (λ pair. (
      (λ either. (sequence_joins edges (In left) (In right) pair).1 (⊎_elim
          (λ here. ⊎_elim
          (λ both. inl (inl (both.0, (firsts_are.exact (between pair.from both.0)).0 both.1, (seconds_are.exact (between both.0 pair.to)).0 both.2)))
          (λ alone. inl (inr (second_tells.0 alone.0, (firsts_are.exact pair).0 alone.1)))
          here)
          (λ alone. inr (first_tells.0 alone.0, (seconds_are.exact pair).0 alone.1))
          either)),
      (λ joined. ⊎_elim
          (λ here. ⊎_elim
          (λ both. inl (inl (both.0, (firsts_are.exact (between pair.from both.0)).1 both.1, (seconds_are.exact (between both.0 pair.to)).1 both.2)))
          (λ alone. inl (inr (second_tells.1 alone.0, (firsts_are.exact pair).1 alone.1)))
          here)
          (λ alone. inr (first_tells.1 alone.0, (seconds_are.exact pair).1 alone.1))
          ((sequence_joins edges (In left) (In right) pair).0 joined)),
    ))
    are)

pub alternative_joined : (edges : List Edge) (expr left right : Expression)
    (pairs others all : List Pair) →
    expr ≡ Alt left right →
    AreJoined edges left pairs → AreJoined edges right others → AreExactly
    (λ pair. Contains pairs pair ⊎ Contains others pair) all → AreJoined edges expr all
alternative_joined edges expr left right pairs others all is pairs_are others_are are =
    subst (λ (each : Expression). AreJoined edges each all) (sym is)
    (exactly_same (λ pair. Contains pairs pair ⊎ Contains others pair) (IsJoinedBy edges (In (Alt left right)) Arbitrary) all
    (λ pair. (
      (λ either. (alternative_joins edges (In left) (In right) pair).0 (⊎_elim
          (λ here. inl ((pairs_are.exact pair).0 here))
          (λ there. inr ((others_are.exact pair).0 there))
          either)),
      (λ joined. ⊎_elim
          (λ here. inl ((pairs_are.exact pair).1 here))
          (λ there. inr ((others_are.exact pair).1 there))
          ((alternative_joins edges (In left) (In right) pair).1 joined)),
    ))
    are)

pub star_joined : (edges : List Edge) (expr body : Expression) (pairs all : List Pair) →
    expr ≡ Star body →
    AreJoined edges body pairs → AreExactly (IsReached pairs) all → AreJoined edges expr all
star_joined edges expr body pairs all is pairs_are are =
    subst (λ (each : Expression). AreJoined edges each all) (sym is)
    (exactly_same (IsReached pairs) (IsJoinedBy edges (In (Star body)) Arbitrary) all (star_joins edges (In body) pairs pairs_are.exact) are)

pub plus_joined : (edges : List Edge) (expr body : Expression) (pairs all : List Pair) →
    expr ≡ Plus body →
    AreJoined edges body pairs → AreExactly (IsReached pairs) all → AreJoined edges expr all
plus_joined edges expr body pairs all is pairs_are are =
    subst (λ (each : Expression). AreJoined edges each all) (sym is)
    (exactly_same (IsJoinedBy edges (IsRepeated (In body)) Arbitrary) (IsJoinedBy edges (In (Plus body)) Arbitrary) all (plus_joins edges (In body))
    (exactly_same (IsReached pairs) (IsJoinedBy edges (IsRepeated (In body)) Arbitrary) all (star_joins edges (In body) pairs pairs_are.exact) are))

pub optional_joined : (edges : List Edge) (expr body : Expression) (pairs : List Pair) →
    expr ≡ Opt body → AreJoined edges body pairs → AreJoined edges expr pairs
optional_joined edges expr body pairs is pairs_are =
    subst (λ (each : Expression). AreJoined edges each pairs) (sym is)
    (exactly_same (IsJoinedBy edges (In body) Arbitrary)
    (IsJoinedBy edges (In (Opt body)) Arbitrary) pairs
    (optional_joins edges (In body)) pairs_are)
