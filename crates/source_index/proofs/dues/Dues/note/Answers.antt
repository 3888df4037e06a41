use Rattle.std.proofs.Common.{subst}
use Rattle.due_queue.specs.Queue.{due, Notes}
use Rattle.source_index.proofs.Noted.{noted_with}
use Rattle.source_index.proofs.dues.Dues.note.Goals as goal

pub forget_former-requires : goal.forget_former-requires
forget_former-requires c =
    noted_with c.self.inside.numbers.entries c.lower.new.numbers.entries
    c.self.inside.queue.items c.note_reserved.new.self.items c.args.root c.args.number
    c.self.invariant (c.in_ok-lower.ensures.changed c.if-branch.true)
    (subst (λ queue. Notes queue c.note_reserved.new.self.items (due c.args.root c.args.number))
    c.reserve.ensures.same c.note_reserved.ensures)
