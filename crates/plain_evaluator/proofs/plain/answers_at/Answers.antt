use Rattle.std.proofs.Common.{◌≡◌, List, Vec, Bor, Global, sym, ap, subst, ◌∙◌}
use Rattle.std.specs.Prelude.{◌↔◌, Contains}
use Rattle.std.proofs.lemmas.Result.{IfOk-weaker}
use Rattle.rpq_base.specs.declared.data.Edge.{Edge}
use Rattle.rpq_base.specs.declared.data.Pair.{Pair}
use Rattle.path_syntax.specs.Expression.{expression}
use Rattle.path_syntax.specs.Language.{In}
use Rattle.rpq_model.specs.declared.mode.Mode.TheVariants.{Arbitrary, Simple}
use Rattle.rpq_model.specs.Window.{edges_at}
use Rattle.rpq_model.specs.Answers.{IsJoinedBy, AreAnswersAt}
use Rattle.rpq_model.specs.Relations.{values, AreExactly}
use Rattle.rpq_model.specs.Query.{path_query}
use Rattle.rpq_model.proofs.Answered.{answered}
use Rattle.plain_evaluator.proofs.plain.answers_at.Goals as goal

-- the edges given are those of the window
seen : (live slice : List (Bor Edge)) (window : List Edge) → values live ≡ window → slice ≡ live →
    (edge : Edge) → Contains (values slice) edge ↔ Contains window edge
seen live slice window is slice_is edge =
    subst (λ (all : List Edge). Contains all edge ↔ Contains window edge)
    (sym (ap values slice_is ∙ is)) (λ member. member, λ member. member)

pub returns-in-Arbitrary : goal.returns-in-Arbitrary
returns-in-Arbitrary c =
    let query = c.query.inside in
    let entries = c.args.entries.now in
    let edges = values c.deref.result.now in
    let expr = expression query.expr in
    let edges_are = seen c.in_ok-edges.edges.items c.deref.result.now
    (edges_at query.window c.args.now entries) c.in_ok-edges.ensures c.deref.ensures.value in
    IfOk-weaker c.joined_pairs.result
    (λ (pairs : Vec Pair Global). AreExactly (IsJoinedBy edges (In expr) Arbitrary) pairs.items)
    (λ (pairs : Vec Pair Global). AreAnswersAt (path_query c.args.query.now) c.args.now entries
    pairs.items)
    (λ pairs are. answered c.args.query.now query.name query.window query.mode expr c.args.now
    entries
    edges Arbitrary pairs.items c.query.view_is c.in-Arbitrary.is edges_are are)
    c.joined_pairs.ensures

pub returns : goal.returns
returns c =
    let query = c.query.inside in
    let entries = c.args.entries.now in
    let edges = values c.deref-in-Simple.result.now in
    let expr = expression query.expr in
    let edges_are = seen c.in_ok-edges.edges.items c.deref-in-Simple.result.now
    (edges_at query.window c.args.now entries) c.in_ok-edges.ensures c.deref-in-Simple.ensures.value
    in
    IfOk-weaker c.joined_simply_once.result
    (λ (pairs : Vec Pair Global). AreExactly (IsJoinedBy edges (In expr) Simple) pairs.items)
    (λ (pairs : Vec Pair Global). AreAnswersAt (path_query c.args.query.now) c.args.now entries
    pairs.items)
    (λ pairs are. answered c.args.query.now query.name query.window query.mode expr c.args.now
    entries
    edges Simple pairs.items c.query.view_is c.in-Simple.is edges_are are)
    c.joined_simply_once.ensures
