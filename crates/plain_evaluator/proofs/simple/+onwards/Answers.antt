use Rattle.std.proofs.Common.{◌≡◌, ◌+◌, ◌*◌, ◌<◌, ℕ, List, [], ◌∷◌, ◌++◌, length, take, Bor}
use Rattle.std.proofs.Common.{BTreeSet, refl, sym, ap, subst, ◌∙◌, arith}
use Rattle.std.specs.Prelude.{Contains}
use Rattle.std.proofs.lemmas.List.{take_all}
use Rattle.rpq_base.specs.declared.data.Label.{Label}
use Rattle.rpq_base.specs.declared.data.Edge.{Edge}
use Rattle.rpq_base.specs.declared.data.Pair.{Pair}
use Rattle.rpq_base.proofs.Members.{next_given}
use Rattle.path_syntax.specs.Expression.{expression}
use Rattle.path_syntax.specs.Language.{In}
use Rattle.rpq_model.specs.Relations.{values, between, Adds}
use Rattle.plain_evaluator.specs.Onwards.{vertices_of, leading_elsewhere, unvisited, IsSameTrail}
use Rattle.plain_evaluator.specs.Onwards.{IsOnwards, IsAlong}
use Rattle.plain_evaluator.proofs.EachOnce.{pointed_to}
use Rattle.plain_evaluator.proofs.Onwards.{unvisited_members, unvisited_more, visited_more, popped}
use Rattle.plain_evaluator.proofs.Onwards.{leads_on, stays_away, fewer_elsewhere, along_added, IsAlongOne}
use Rattle.plain_evaluator.proofs.Onwards.{along_none, along_more, along_same, along_all}
use Rattle.plain_evaluator.proofs.simple.+onwards.Goals as goal
use Rattle.plain_evaluator.proofs.simple.+onwards.Goals.{add_onwards-then-leads_on+in_ok-add_along}
use Rattle.plain_evaluator.proofs.simple.+onwards.Goals.{add_onwards-else-leads_on}

pub add_along-add_onwards-requires : goal.add_along-add_onwards-requires
add_along-add_onwards-requires t c =
    let edges = values c.args.edges.now in
    let edge = c.args.edge.now in
    let visited = c.args.trail.now.visited.items in
    let after = c.push-2.new.self.items in
    let others = unvisited edges (vertices_of visited) in
    let visits : vertices_of after ≡ vertices_of visited ++ edge.to ∷ [] = visited_more visited after _ c.in_ok-push-2.ensures.items in
    let is : unvisited edges (vertices_of after) ≡ leading_elsewhere others edge.to = ap
    (unvisited edges) visits ∙ unvisited_more edges (vertices_of visited) edge.to in
    let fewer = fewer_elsewhere others edge c.requires in
    let same = ap length is in
    let fact : 2 * length (unvisited edges (vertices_of after)) + 1 < 2 * length others = omega arith in
    omega (arith, fact)

pub add_along-returns : goal.add_along-returns
add_along-returns t c =
    let edges = values c.args.edges.now in
    let language = In (expression c.args.expr.now) in
    let edge = c.args.edge.now in
    let from = c.args.from.now in
    let word = c.args.trail.now.word.items in
    let longer = word ++ edge.label ∷ [] in
    let visited = c.args.trail.now.visited.items in
    let after = c.push-2.new.self.items in
    let others = unvisited edges (vertices_of visited) in
    let left = unvisited edges (vertices_of after) in
    let visits : vertices_of after ≡ vertices_of visited ++ edge.to ∷ [] = visited_more visited after _ c.in_ok-push-2.ensures.items in
    let is : left ≡ leading_elsewhere others edge.to = ap (unvisited edges) visits ∙ unvisited_more edges (vertices_of visited) edge.to in
    let before = c.args.found.now.keys in
    let middle = c.add_if_accepted.new.found.keys in
    let found = c.add_onwards.new.found.keys in
    let word_is : c.push.new.self.items ≡ longer = c.in_ok-push.ensures.items ∙ ap (λ (label : Label). word ++ label ∷ []) c.in_ok-copy.ensures in
    let here = subst (λ (labels : List Label). Adds before middle
    (λ pair. language labels × (between from edge.to ≡ pair)))
    (c.deref.ensures.value ∙ word_is) c.in_ok-add_if_accepted.ensures in
    let there = subst (λ (labels : List Label). Adds middle found
    (IsOnwards left language from labels edge.to)) word_is c.in_ok-add_onwards.ensures.added in
    let trail = c.add_onwards.new.trail in
    record {
      added = along_added others language word edge left from before middle found c.requires is here there;
      same = record {
        visited = popped visited trail.visited.items c.pop.new.self.items _ trail.visited.len c.pop.ensures.rest trail.visited.ok.0
            (c.in_ok-add_onwards.ensures.same.visited ∙ c.in_ok-push-2.ensures.items);
        word = popped word trail.word.items c.pop-2.new.self.items edge.label trail.word.len c.pop-2.ensures.rest trail.word.ok.0
            (c.in_ok-add_onwards.ensures.same.word ∙ word_is);
      };
    }

pub add_onwards-loop-edge-init : goal.add_onwards-loop-edge-init
add_onwards-loop-edge-init t c = record {
  added = along_none (unvisited (values c.args.edges.now)
      (vertices_of c.args.trail.now.visited.items))
      (In (expression c.args.expr.now)) c.args.from.now
      c.args.trail.now.word.items c.args.at.now c.args.found.now.keys;
  same = record { visited = refl; word = refl };
}

pub add_onwards-loop-edge-preserved : goal.add_onwards-loop-edge-preserved
add_onwards-loop-edge-preserved t c =
    let edges = values c.args.edges.now in
    let language = In (expression c.args.expr.now) in
    let from = c.args.from.now in
    let at = c.args.at.now in
    let word = c.args.trail.now.word.items in
    let visited = c.args.trail.now.visited.items in
    let others = unvisited edges (vertices_of visited) in
    let old = c.args.found.now.keys in
    let found = c.loop-edge.found.keys in
    let index = c.loop-edge.edge-index in
    let edge = c.edge-item.result.now in
    let before = values (take index c.args.edges.now) in
    let after = values (take (index + 1) c.args.edges.now) in
    let so_far = c.loop-edge.invariant in
    let seen_is : c.deref.result.now ≡ visited = c.deref.ensures.value ∙ so_far.same.visited in
    let one_more = next_given (λ (each : Bor Edge). each.now) c.args.edges.now index c.edge-item.result c.loop-edge-test.true c.edge-item.is in
    elim c.if-leads_on.branch [
      | add_onwards-then-leads_on+in_ok-add_along w ↦
          let more = w.add_along.new.found.keys in
          let begins = leads_on edge at c.deref.result.now (sym c.leads_on.ensures ∙ w.if-leads_on.true) in
          let along = subst (λ (labels : List Label). Adds found more (IsAlong others language from labels edge)) so_far.same.word
          (subst (λ (seen : List (Bor (List ℕ))). Adds found more
          (IsAlong (unvisited edges
          (vertices_of seen)) language from c.loop-edge.trail.word.items edge)) so_far.same.visited
          w.in_ok-add_along.ensures.added) in
          let gone = w.in_ok-add_along.ensures.same in
          record {
            added = subst (λ (set : BTreeSet Pair). Adds old set.keys (IsAlongOne after others language from word at)) (sym w.found-is)
                (along_more others language from word at before edge after old found more one_more begins.0 so_far.added along);
            same = subst (IsSameTrail c.args.trail.now) (sym w.trail-is)
                (record { visited = gone.visited ∙ so_far.same.visited; word = gone.word ∙ so_far.same.word });
          }
      | add_onwards-else-leads_on w ↦
          let stays = stays_away edge at c.deref.result.now (sym c.leads_on.ensures ∙ w.if-leads_on.false) in
          record {
            added = subst (λ (set : BTreeSet Pair). Adds old set.keys (IsAlongOne after others language from word at)) (sym w.found-is)
                (along_same others language from word at before edge after old found one_more
                (λ begins member. ((unvisited_members (vertices_of visited) edges edge).0 member).1
                (subst (λ (seen : List (Bor (List ℕ))). Contains (vertices_of seen) edge.to) seen_is (stays begins)))
                so_far.added);
            same = subst (IsSameTrail c.args.trail.now) (sym w.trail-is) so_far.same;
          }
    ]

pub add_onwards-add_along-requires : goal.add_onwards-add_along-requires
add_onwards-add_along-requires t c =
    let edges = values c.args.edges.now in
    let edge = c.edge-item.result.now in
    let visited = c.loop-edge.trail.visited.items in
    let leads = leads_on edge c.args.at.now c.deref.result.now (sym c.leads_on.ensures ∙ c.if-leads_on.true) in
    let member = pointed_to c.args.edges.now c.edge-item.result (c.loop-edge.edge-index, c.loop-edge-test.true, sym c.edge-item.is) in
    let same = ap (λ (seen : List (Bor (List ℕ))). length (unvisited edges (vertices_of seen))) c.loop-edge.invariant.same.visited in
    let fact : 2 * length (unvisited edges (vertices_of visited)) < 2 * length
    (unvisited edges (vertices_of c.args.trail.now.visited.items)) + 1 = omega (arith, same) in (
      omega (arith, fact),
      (unvisited_members (vertices_of visited) edges edge).1
          (member, subst (λ (seen : List (Bor (List ℕ))). Contains (vertices_of seen) edge.to → ⊥) c.deref.ensures.value leads.1),
    )

pub add_onwards-returns : goal.add_onwards-returns
add_onwards-returns t c =
    let edges = values c.args.edges.now in
    let language = In (expression c.args.expr.now) in
    let from = c.args.from.now in
    let at = c.args.at.now in
    let word = c.args.trail.now.word.items in
    let visited = vertices_of c.args.trail.now.visited.items in
    let others = unvisited edges visited in
    let old = c.args.found.now.keys in
    let found = c.loop-edge.found.keys in
    record {
      added = along_all others language from word at edges (λ edge member. ((unvisited_members visited edges edge).0 member).0) old found
          (subst (λ (firsts : List (Bor Edge)). Adds old found (IsAlongOne (values firsts) others language from word at))
          (take_all c.loop-edge.edge-index c.args.edges.now c.loop-edge-test.false) c.loop-edge.invariant.added);
      same = c.loop-edge.invariant.same;
    }
