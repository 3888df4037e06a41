use Rattle.std.proofs.Common.{◌≡◌, ℕ, ◌<◌, ◌∙◌, List, [], length, get_or, subst, arith, Contains}
use Rattle.std.proofs.lemmas.List.{get_or_default}
use Rattle.std.proofs.lemmas.List.Elements.{All-contains_itself, All-get_or, All-weaker}
use Rattle.state_pairs.specs.Rounds.{Marks}
use Rattle.state_pairs.specs.Sources.{sources_at}
use Rattle.state_pairs.proofs.Marks.{sources_marked}
use Rattle.state_pairs.proofs.search.next_round.Goals as goal

pub mark_all-requires : goal.mark_all-requires
mark_all-requires c =
    let sources = c.args.sources.now in
    let target = get_or c.args.last.now c.loop-node.node-index 0 in
    let nodes = c.nodes.result.now in
    let below : target < length sources = All-get_or (λ node. node < length sources) c.args.last.now c.loop-node.node-index 0 (omega (arith, c.loop-node-test.true)) c.requires.last in
    let same : nodes ≡ sources_at sources target =
    c.nodes.ensures ∙ (c.index-sources-node.is ∙ get_or_default sources target c.index-sources-node.result [] below) in
    All-weaker (Contains nodes) (λ node. node < length c.loop-node.levels)
    (λ node has.
    let within = c.requires.within target node (subst (λ (list : List ℕ). Contains list node) same has) in
    omega (arith, within, c.loop-node.invariant.as_many))
    nodes (All-contains_itself nodes)

pub loop-node-preserved : goal.loop-node-preserved
loop-node-preserved c =
    let sources = c.args.sources.now in
    let last = c.args.last.now in
    let index = c.loop-node.node-index in
    let target = get_or last index 0 in
    let more : index < length last = omega (arith, c.loop-node-test.true) in
    let below : target < length sources = All-get_or (λ node. node < length sources) last index 0 more c.requires.last in
    let same : c.nodes.result.now ≡ sources_at sources target =
    c.nodes.ensures ∙ (c.index-sources-node.is ∙ get_or_default sources target c.index-sources-node.result [] below) in
    sources_marked sources last index 0 c.args.level c.args.levels.now c.loop-node.levels c.mark_all.new.levels
    [] c.loop-node.found.items c.mark_all.new.found.items more c.loop-node.invariant
    (subst (λ (list : List ℕ). Marks (Contains list) c.args.level c.loop-node.levels c.mark_all.new.levels c.loop-node.found.items c.mark_all.new.found.items) same c.in_ok-mark_all.ensures)
