use Rattle.std.proofs.Common.{sym, subst}
use Rattle.std.proofs.lemmas.Result.{on_ok_weaker}
use Rattle.source_tree.specs.Taking.{AreMoved}
use Rattle.source_tree.proofs.Moves.{are_moved, tells_touched}
use Rattle.source_tree.proofs.report.fill.Goals as goal

pub returns : goal.returns
returns c =
    let tree = c.args.tree.now in
    let shifts = c.args.shifts.now in
    on_ok_weaker c.log_ends.result
    (λ logs change old touches held order. record {
      touched = tells_touched change old tree shifts c.is_empty.result c.is_empty.ensures touches;
      moved = subst (AreMoved change old tree)
          (sym (c.in_ok-list_moved.ensures c.empty_for.ensures))
          (are_moved change old tree shifts touches);
      log = logs old touches.values held order c.empty_for-2.ensures;
    })
    c.log_ends.ensures
