use Rattle.std.proofs.Common.{Contains, subst, ◌∙◌}
use Rattle.small_map.proofs.Entries.{some_is_one}
use Rattle.due_queue.specs.Queue.{due}
use Rattle.due_queue.proofs.Items.{now_noted, still_noted}
use Rattle.place_table.specs.declared.place.Kept.{Kept}
use Rattle.place_table.proofs.Leaving.{pending_later}
use Rattle.place_table.proofs.noted.drop_or_note.Goals as goal

pub returns-in-Some-clause-pending : goal.returns-in-Some-clause-pending
returns-in-Some-clause-pending c =
    pending_later c.args.now c.args.dues.now.items c.note_reserved.new.self.items c.args.spot
    c.in-Some.kept.value c.if-kept-now.true c.note_reserved.ensures

pub returns-in-Some-clause-kept : goal.returns-in-Some-clause-kept
returns-in-Some-clause-kept c each there =
    still_noted c.args.dues.now.items c.note_reserved.new.self.items
    (due c.args.spot c.in-Some.kept.value) each c.note_reserved.ensures there

pub returns-in-Some-clause-noted : goal.returns-in-Some-clause-noted
returns-in-Some-clause-noted c kept is =
    subst (λ (k : Kept). Contains c.note_reserved.new.self.items (due c.args.spot k.value))
    (some_is_one c.in-Some.kept kept (c.in-Some.ensures ∙ is))
    (now_noted c.args.dues.now.items c.note_reserved.new.self.items
    (due c.args.spot c.in-Some.kept.value) c.note_reserved.ensures)
