use Rattle.std.proofs.Common.{◌≡◌, ℕ, ◌+◌, ◌<◌, List, Some, Contains, ap, subst, sym, arith, ◌∙◌}
use Rattle.std.specs.Prelude.{◌↔◌}
use Rattle.state_pairs.specs.Goals.{level_at}
use Rattle.state_pairs.proofs.Rounds.{level_within}
use Rattle.state_pairs.proofs.Zeros.{zero_added, zero_passed}
use Rattle.state_pairs.proofs.search.nodes_at_goals.Goals as goal
use Rattle.state_pairs.proofs.search.nodes_at_goals.Goals.{then-eq+in_ok-push, else-eq}

pub loop-node-preserved : goal.loop-node-preserved
loop-node-preserved c =
    let levels = c.args.levels.now in
    let index = c.loop-node.node in
    let before = c.loop-node.nodes.items in
    let Are : List ℕ → Type 0 = λ nodes. (node : ℕ) → Contains nodes node ↔ ((node < index + 1) × (level_at levels node ≡ Some 0)) in
    elim c.if-eq.branch [
      | then-eq+in_ok-push w ↦
          subst Are (ap (λ v. v.items) (sym w.nodes-is))
          (zero_added levels before w.push.new.self.items index c.loop-node.invariant w.in_ok-push.ensures.items (sym c.eq.ensures ∙ w.if-eq.true))
      | else-eq w ↦
          subst Are (ap (λ v. v.items) (sym w.nodes-is))
          (zero_passed levels before index c.loop-node.invariant (sym c.eq.ensures ∙ w.if-eq.false))
    ]

pub returns : goal.returns
returns c node = (
  (λ has. ((c.loop-node.invariant node).0 has).1),
  (λ is. let below = level_within c.args.levels.now node 0 is in (c.loop-node.invariant node).1 (omega (arith, below, c.loop-node-test.false), is)),
)
