use Rattle.answer_rows.proofs.Edited.{one_in_order}
use Rattle.answer_rows.proofs.rows.Rows.put_first.Goals as goal

pub set-requires : goal.set-requires
set-requires c = rw (c.in_ok-push.ensures.items, c.new-targets.ensures.items) (one_in_order (record { to = c.in_ok-to.to; until = c.args.until }))
