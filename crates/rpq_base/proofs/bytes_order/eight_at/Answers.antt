use Rattle.rpq_base.proofs.Leading.{eight_more}
use Rattle.rpq_base.proofs.bytes_order.eight_at.Goals as goal

pub returns : goal.returns
returns c = eight_more c.args.bytes.now c.args.place c.from_be_bytes.result c.from_be_bytes.ensures
