use Rattle.std.proofs.Common.{subst}
use Rattle.source_tree.specs.Ends.{AreReached, SourceValue}
use Rattle.source_tree.proofs.source.SourceTree.reached.Goals as goal

pub returns : goal.returns
returns c =
    let finals = c.args.finals.now in
    let reached = c.keep_greatest.new.reached.items in
    subst (λ (source : SourceValue). AreReached finals source.tree reached) c.self.view_is
    (c.keep_greatest.ensures finals c.self.inside.tree c.in_ok-reached.ensures)
