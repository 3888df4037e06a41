use Rattle.std.proofs.Common.{sym, ◌∙◌}
use Rattle.std.proofs.lemmas.Result.{on_ok_weaker}
use Rattle.dfa_table.specs.DfaValue.{step_of}
use Rattle.delta_tree.specs.Nodes.{node_id}
use Rattle.source_index.specs.Holders.{Holds}
use Rattle.delta_forest.specs.Candidates.{IsHungAt}
use Rattle.delta_forest.proofs.Removals.{adds_next, adds_no_next}
use Rattle.delta_forest.proofs.hanging.add_hung_over.Goals as goal

pub returns-in-Some : goal.returns-in-Some
returns-in-Some c =
    let edge = c.args.edge in
    on_ok_weaker c.add_hung.result
    (adds_next c.args.roots.now.items c.add_hung.new.roots.items
    (step_of c.args.dfa.now c.args.state edge.label) c.in-Some.next
    (λ root. Holds c.args.holders.now (node_id edge.from c.args.state) root)
    (λ state root. IsHungAt c.args.sources.now edge (node_id edge.to state) root)
    (sym c.step_from.ensures ∙ c.in-Some.is))
    c.add_hung.ensures

pub returns-in-None : goal.returns-in-None
returns-in-None c =
    let edge = c.args.edge in
    adds_no_next c.args.roots.now.items (step_of c.args.dfa.now c.args.state edge.label)
    (λ root. Holds c.args.holders.now (node_id edge.from c.args.state) root)
    (λ state root. IsHungAt c.args.sources.now edge (node_id edge.to state) root)
    (sym c.step_from.ensures ∙ c.in-None.is)
