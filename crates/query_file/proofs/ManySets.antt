-- How many sets of positions words reach is the same for each position automaton of an expression.
use Rattle.std.proofs.Common.{ℕ, List, [], ◌∷◌, sym, ap, ◌∙◌}
use Rattle.std.proofs.lemmas.List.Elements.{All-weaker}
use Rattle.rpq_base.specs.declared.data.Label.{Label}
use Rattle.path_syntax.specs.Expression.{Expression}
use Rattle.dfa_build.specs.Marked.{ArePositionsOf}
use Rattle.dfa_build.specs.Positions.{PositionsValue, GoesOn, spelled}
use Rattle.dfa_build.specs.Subset.{Reaches, ReachesSome, ReachSame, HasManySets}
use Rattle.query_file.specs.QueryLine.{NeedsManyStates}

module _ (e : Expression) (one other : PositionsValue) (are : ArePositionsOf e one) (also : ArePositionsOf e other) where
  goes_on : (position : ℕ) (trace : List ℕ) → GoesOn one position trace → GoesOn other position trace
  goes_on position [] goes = tt
  goes_on position (next ∷ trace) goes = ((also.follow position next).1 ((are.follow position next).0 goes.0), goes_on next trace goes.1)

  reaches : (word : List Label) (position : ℕ) → Reaches one word position → Reaches other word position
  reaches word position has = record {
    first = has.first;
    rest = has.rest;
    front = ((also.first has.first).1 ((are.first has.first).0 has.front.0), goes_on has.first has.rest has.front.1);
    ends = has.ends;
    spelled = has.spelled ∙ ap (λ (labels : List Label). spelled labels (has.first ∷ has.rest)) (are.labels ∙ sym also.labels);
  }

module _ (e : Expression) (one other : PositionsValue) (are : ArePositionsOf e one) (also : ArePositionsOf e other) where
  same_back : (first second : List Label) → ReachSame other first second → ReachSame one first second
  same_back first second same = λ position. (
    λ has. reaches e other one also are second position ((same position).0 (reaches e one other are also first position has)),
    λ has. reaches e other one also are first position ((same position).1 (reaches e one other are also second position has)),
  )

  -- many sets by one are many by the other
  pub many_sets : HasManySets one → HasManySets other
  many_sets (words, apart, many) = (
    words,
    record {
      some = All-weaker (ReachesSome one) (ReachesSome other)
          (λ word has. (has.0, reaches e one other are also word has.0 has.1)) words apart.some;
      apart = λ i j d below within same. apart.apart i j d below within (same_back _ _ same);
    },
    many,
  )

-- an expression needs many states only where its automaton has many sets
pub needs_many : (e : Expression) (positions : PositionsValue) → ArePositionsOf e positions → (HasManySets positions → ⊥) → NeedsManyStates e → ⊥
needs_many e positions are few (others, also, many) = few (many_sets e others positions also are many)
