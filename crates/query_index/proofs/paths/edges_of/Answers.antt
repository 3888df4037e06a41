use Rattle.std.proofs.Common.{List, subst}
use Rattle.std.proofs.lemmas.List.{take_all}
use Rattle.edge_store.specs.declared.edge.EdgeId.{EdgeId}
use Rattle.index_laws.specs.LawsOfPaths.{HaveNumbers}
use Rattle.query_index.proofs.BestPaths.{named_more}
use Rattle.query_index.proofs.paths.edges_of.Goals as goal

pub loop-id-preserved : goal.loop-id-preserved
loop-id-preserved c =
    named_more c.args.names.now c.args.dfa.now c.args.ids.now c.loop-id.id-index _
    c.loop-id.path.items c.add_edge.new.path.items c.loop-id-test.true c.loop-id.invariant
    c.in_ok-add_edge.ensures

pub returns : goal.returns
returns c =
    subst (λ (ids : List EdgeId).
    HaveNumbers c.args.names.now c.args.dfa.now c.loop-id.path.items ids)
    (take_all c.loop-id.id-index c.args.ids.now c.loop-id-test.false) c.loop-id.invariant
