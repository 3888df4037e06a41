use Rattle.std.proofs.Common.{List, sym, subst}
use Rattle.std.proofs.lemmas.Result.{on_ok_weaker}
use Rattle.end_log.specs.declared.moved.Moved.{Moved}
use Rattle.end_log.specs.Moves.{AreFinalMoves, IsInOrder}
use Rattle.end_log.proofs.Logged.{final_permuted}
use Rattle.end_log.proofs.runs.log_moved.Goals as goal

pub returns : goal.returns
returns c =
    let table = c.args.table.now in
    let outcome = c.args.outcome in
    let sorted = c.put_in_order.new.moved.items in
    on_ok_weaker c.log_by_runs.result
    (λ logs finals old known are empty. logs finals old known
    (subst (AreFinalMoves finals outcome old table) (sym c.deref.ensures.value)
    (final_permuted finals outcome old table c.args.moved.now.items sorted
    c.put_in_order.ensures.same are))
    (subst (λ (each : List Moved). IsInOrder each) (sym c.deref.ensures.value)
    c.put_in_order.ensures.order) empty)
    c.log_by_runs.ensures
