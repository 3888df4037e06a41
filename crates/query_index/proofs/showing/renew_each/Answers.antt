use Rattle.std.proofs.Common.{drop}
use Rattle.std.proofs.lemmas.List.{drop_all}
use Rattle.query_index.proofs.Shown.{none_left, renewed_at, skipped_at}
use Rattle.query_index.proofs.showing.renew_each.Goals as goal

pub loop-root-preserved-then-root-named : goal.loop-root-preserved-then-root-named
loop-root-preserved-then-root-named c =
    skipped_at c.args.mode c.args.names.now c.args.forest.now c.args.roots.now
    c.loop-root.root-index _ c.args.named c.loop-root.rows c.loop-root-test.true
    c.requires.named c.if-root-named.true c.loop-root.invariant

pub loop-root-preserved : goal.loop-root-preserved
loop-root-preserved c =
    renewed_at c.args.mode c.args.names.now c.args.forest.now c.args.roots.now
    c.loop-root.root-index _ c.loop-root.rows c.renew.new.rows c.loop-root-test.true
    c.loop-root.invariant c.in_ok-renew.ensures

pub returns : goal.returns
returns c =
    none_left c.args.mode c.args.names.now c.args.forest.now
    (drop c.loop-root.root-index c.args.roots.now) c.loop-root.rows
    (drop_all c.loop-root.root-index c.args.roots.now c.loop-root-test.false)
    c.loop-root.invariant
