use Rattle.std.proofs.Common.{◌≡◌, ◌≢◌, ℕ, List, [], ◌∷◌, ◌++◌, Bor, sym, ap, subst, ◌∙◌}
use Rattle.std.specs.Prelude.{Contains}
use Rattle.std.proofs.lemmas.Bool.{both_ways}
use Rattle.std.proofs.lemmas.Result.{on_ok_weaker}
use Rattle.rpq_base.specs.Same.{same_name}
use Rattle.rpq_base.specs.declared.data.Label.{Label}
use Rattle.rpq_base.specs.declared.data.Edge.{Edge}
use Rattle.rpq_base.proofs.Equality.{names}
use Rattle.path_syntax.specs.Expression.{expression}
use Rattle.path_syntax.specs.Language.{In}
use Rattle.rpq_model.specs.Relations.{values, Adds}
use Rattle.plain_evaluator.specs.Onwards.{vertices_of, leading_elsewhere, unvisited, IsAlong}
use Rattle.plain_evaluator.proofs.Onwards.{elsewhere_members, visited_more, simply_along}
use Rattle.plain_evaluator.proofs.simple.add_simply_along.Goals as goal

-- the source alone is visited
source_alone : (edges : List Edge) (source : List ℕ) (visited after : List (Bor (List ℕ))) →
    visited ≡ [] → vertices_of after ≡ vertices_of visited ++ source ∷ [] →
    unvisited edges (vertices_of after) ≡ leading_elsewhere edges source
source_alone edges source visited after empty is =
    ap (unvisited edges) (is ∙ ap (λ (none : List (Bor (List ℕ))). vertices_of none ++ source ∷ []) empty)

pub add_along-requires : goal.add_along-requires
add_along-requires c =
    let edges = values c.args.edges.now in
    let edge = c.args.edge.now in
    let is = source_alone edges edge.from c.new-visited.result.items c.push.new.self.items c.new-visited.ensures.items
    (visited_more c.new-visited.result.items c.push.new.self.items _ c.in_ok-push.ensures.items) in
    let differs : edge.to ≢ edge.from = λ back. both_ways (same_name edge.to edge.from)
    (sym c.eq.ensures ∙ c.if-eq.false) ((names edge.to edge.from).1 back) in
    subst (λ (others : List Edge). Contains others edge) (sym is) ((elsewhere_members edges edge.from edge).1 (c.requires, differs))

pub returns : goal.returns
returns c =
    let edges = values c.args.edges.now in
    let language = In (expression c.args.expr.now) in
    let edge = c.args.edge.now in
    let before = c.args.found.now.keys in
    let found = c.add_along.new.found.keys in
    let others = unvisited edges (vertices_of c.push.new.self.items) in
    let is = source_alone edges edge.from c.new-visited.result.items c.push.new.self.items c.new-visited.ensures.items
    (visited_more c.new-visited.result.items c.push.new.self.items _ c.in_ok-push.ensures.items) in
    let differs : edge.to ≢ edge.from = λ back. both_ways (same_name edge.to edge.from)
    (sym c.eq.ensures ∙ c.if-eq.false) ((names edge.to edge.from).1 back) in
    on_ok_weaker c.add_along.result
    (λ along. simply_along edges language edge others before found differs is
    (subst (λ (labels : List Label). Adds before found (IsAlong others language edge.from labels edge)) c.new-word.ensures.items along))
    c.add_along.ensures.added
