use Rattle.std.proofs.Common.{◌≡◌, List, Vec, Bor, Global, sym, subst}
use Rattle.std.specs.Prelude.{◌↔◌, Contains}
use Rattle.std.proofs.lemmas.Result.{IfOk-weaker}
use Rattle.rpq_base.specs.declared.data.Label.{Label}
use Rattle.rpq_base.specs.declared.data.Edge.{Edge}
use Rattle.rpq_base.specs.declared.data.Pair.{Pair}
use Rattle.path_syntax.specs.Expression.{expression}
use Rattle.path_syntax.specs.Language.{In}
use Rattle.rpq_model.specs.declared.mode.Mode.TheVariants.{Simple}
use Rattle.rpq_model.specs.Answers.{IsJoinedBy}
use Rattle.rpq_model.specs.Relations.{values, AreExactly}
use Rattle.rpq_model.proofs.Composing.{exactly_same}
use Rattle.rpq_model.proofs.Paths.{more_edges}
use Rattle.plain_evaluator.proofs.plain.joined_simply_once.Goals as goal

-- the pairs that distinct edges join are those that the given ones join
once : (given distinct slice : List (Bor Edge)) (language : List Label → Type 0)
    (pairs : List Pair) → slice ≡ distinct →
    ((edge : Edge) → Contains (values distinct) edge ↔ Contains (values given) edge) →
    AreExactly (IsJoinedBy (values slice) language Simple) pairs →
    AreExactly (IsJoinedBy (values given) language Simple) pairs
once given distinct slice language pairs slice_is same are =
    let edges_are : (edge : Edge) → Contains (values slice) edge ↔ Contains (values given) edge =
    λ edge. subst
    (λ (all : List (Bor Edge)). Contains (values all) edge ↔ Contains (values given) edge)
    (sym slice_is) (same edge) in
    exactly_same (IsJoinedBy (values slice) language Simple)
    (IsJoinedBy (values given) language Simple) pairs
    (λ pair. (
      more_edges (values slice) (values given) language Simple pair
          (λ edge member. (edges_are edge).0 member),
      more_edges (values given) (values slice) language Simple pair
          (λ edge member. (edges_are edge).1 member),
    )) are

pub returns : goal.returns
returns c =
    let expr = expression c.args.expr.now in
    let edges = values c.deref.result.now in
    IfOk-weaker c.joined_simply.result
    (λ (pairs : Vec Pair Global). AreExactly (IsJoinedBy edges (In expr) Simple) pairs.items)
    (λ (pairs : Vec Pair Global).
    AreExactly (IsJoinedBy (values c.args.edges.now) (In expr) Simple) pairs.items)
    (λ pairs are. once c.args.edges.now c.in_ok-distinct.distinct.items c.deref.result.now
    (In expr) pairs.items c.deref.ensures.value c.in_ok-distinct.ensures are)
    c.joined_simply.ensures
