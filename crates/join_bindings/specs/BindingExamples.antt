-- Some bindings of a join, and how they change.
use Rattle.std.specs.Prelude.{ℕ, false, true, List, [], ◌∷◌, codes}
use Rattle.rpq_base.specs.declared.data.Pair.{Pair}
use Rattle.join_file.specs.declared.data.Term.TheVariants.{Variable}
use Rattle.join_file.specs.Joins.{JoinValue}
use Rattle.join_bindings.specs.Bindings.{Family, AreBindings}
use Rattle.join_bindings.specs.Events.{AreJoinEvents}
use Rattle.join_file.specs.Examples.{atom, join_of}
use Rattle.join_bindings.specs.TextExamples.{event}
use Rattle.join_bindings.specs.Pairs.{pair}

-- `join s q ?x ?y q ?y ?x`: a pair and the same pair turned round
abbrev pub symmetric : JoinValue
symmetric = join_of (codes "s") 2
    (atom 0 (Variable 0) (Variable 1) ∷ atom 0 (Variable 1) (Variable 0) ∷ [])

-- each query has these pairs
abbrev pub alone : List Pair → Family
alone pairs query = pairs

-- three pairs
abbrev pub xx : Pair
xx = pair (codes "x") (codes "x")

abbrev pub xy : Pair
xy = pair (codes "x") (codes "y")

abbrev pub yx : Pair
yx = pair (codes "y") (codes "x")

-- two names
abbrev pub both : List ℕ → List ℕ → List (List ℕ)
both first second = first ∷ second ∷ []

pub record BindingExamples : Type 0 where
  -- a pair alone gives none, with the turned one it gives two
  pub none : AreBindings symmetric (alone (xy ∷ [])) []
  pub two : AreBindings symmetric (alone (xy ∷ yx ∷ []))
      (both (codes "x") (codes "y") ∷ both (codes "y") (codes "x") ∷ [])
  -- one pair meets both atoms, and its binding is told once
  pub once : AreJoinEvents (symmetric ∷ []) (alone []) (alone (xx ∷ []))
      (event true (both (codes "x") (codes "x")) ∷ [])
  -- one pair more brings two bindings, and takes them away
  pub gained : AreJoinEvents (symmetric ∷ []) (alone (xy ∷ [])) (alone (xy ∷ yx ∷ []))
      (event true (both (codes "x") (codes "y")) ∷ event true (both (codes "y") (codes "x")) ∷ [])
  pub lost : AreJoinEvents (symmetric ∷ []) (alone (xy ∷ yx ∷ [])) (alone (xy ∷ []))
      (event false (both (codes "x") (codes "y")) ∷ event false (both (codes "y") (codes "x")) ∷ [])
