use Rattle.std.proofs.Common.{◌≡◌, List, ℕ, ◌+◌, subst, sym, arith, length}
use Rattle.state_pairs.specs.Sources.{AddsSteps, AreSources}
use Rattle.state_pairs.proofs.Rounds.{written_back}
use Rattle.state_pairs.proofs.Stepped.{sources_more}
use Rattle.state_pairs.proofs.sources.find_sources.Goals as goal

pub loop-node-preserved : goal.loop-node-preserved
loop-node-preserved g c =
    let graph = g.G.Graph.graph c.args.graph.now in
    let node = c.loop-node.node in
    let before = c.loop-node.lists.items in
    let after = c.add_steps.new.lists in
    let steps : AddsSteps graph node graph.label_count before after =
    subst (λ (lists : List (List ℕ)). AddsSteps graph node graph.label_count lists after) c.deref_mut.ensures.value c.in_ok-add_steps.ensures in
    let size : length before ≡ c.loop-node.lists.len = sym c.loop-node.lists.ok.0 in
    subst (AreSources graph (node + 1)) (sym (written_back after before c.loop-node.lists.len steps.as_many size))
    (sources_more graph node before after c.loop-node.invariant steps)

pub returns : goal.returns
returns g c =
    let graph = g.G.Graph.graph c.args.graph.now in
    let all : c.loop-node.node ≡ graph.node_count = omega (arith, c.loop-node-test.false, c.loop-node.auto.node-end, c.node_count-count.ensures) in
    subst (λ (count : ℕ). AreSources graph count c.loop-node.lists.items) all c.loop-node.invariant
