use Rattle.std.proofs.Common.{ℕ, ◌∷◌, [], false, length, get_or, ap, subst, ◌∙◌, arith}
use Rattle.std.specs.Prelude.{◌↔◌, IsTrue}
use Rattle.std.proofs.lemmas.List.{get_or_append_left, length_push}
use Rattle.dfa_build.specs.PositionSet.{has}
use Rattle.dfa_table.specs.Discovery.{node_at}
use Rattle.dfa_build.specs.StateSets.{set_of}
use Rattle.dfa_build.proofs.Filling.{finals_more}
use Rattle.dfa_build.proofs.state_sets.finals_of.Goals as goal

pub loop-node-preserved : goal.loop-node-preserved
loop-node-preserved c =
    let finals = c.loop-node.finals.items in
    let final = c.meets.result in
    let pushed = c.in_ok-push-2.ensures.items in
    record {
      as_many = omega (arith, ap length pushed, length_push finals final, c.loop-node.invariant.as_many);
      start = ap (λ all. get_or all 0 false) pushed ∙ (get_or_append_left finals (final ∷ []) false 0 (omega (arith, c.loop-node.invariant.as_many)) ∙ c.loop-node.invariant.start);
      sets = finals_more (λ (place : ℕ). (position : ℕ) × IsTrue (has (set_of (node_at c.args.nodes.now place)) position) × IsTrue (has c.args.last position))
          finals c.push-in-loop-node.new.self.items final c.loop-node.node-index c.loop-node.invariant.as_many pushed c.loop-node.invariant.sets
          (subst (λ (node : ℕ). IsTrue final ↔ ((position : ℕ) × IsTrue (has (set_of node) position) × IsTrue (has c.args.last position))) c.from_bits.ensures c.meets.ensures);
    }
