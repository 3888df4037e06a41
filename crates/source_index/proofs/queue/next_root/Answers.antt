use Rattle.std.proofs.Common.{sym, ◌∙◌, true≢false}
use Rattle.due_queue.specs.Queue.{due}
use Rattle.source_index.proofs.Noted.{noted_but, noted_left, present}
use Rattle.source_index.proofs.queue.next_root.Goals as goal

pub returns-then-eq-clause-others : goal.returns-then-eq-clause-others
returns-then-eq-clause-others c =
    noted_but c.args.numbers.now.entries c.loop-next.queue.items c.next_due.new.self.items
    c.in-Some.next c.loop-next.invariant c.in-Some.ensures.next.taken

pub loop-next-preserved : goal.loop-next-preserved
loop-next-preserved c =
    noted_left c.args.numbers.now.entries c.loop-next.queue.items c.next_due.new.self.items
    c.in-Some.next c.loop-next.invariant c.in-Some.ensures.next.taken
    (λ is. true≢false
    (sym (present c.number_of.result c.in-Some.next.number (c.number_of.ensures ∙ is))
    ∙ sym c.eq.ensures ∙ c.if-eq.false))

pub returns-clause-later : goal.returns-clause-later
returns-clause-later c root number is =
    c.in_default.ensures.later (due root number) (c.loop-next.invariant root number is)
