use Rattle.std.proofs.Common.{ℕ, length, sym, ap, subst, arith}
use Rattle.std.proofs.lemmas.List.Sorted.{length_permutation}
use Rattle.due_queue.specs.Queue.{due, Notes}
use Rattle.delta_tree.proofs.Queue.{first_noted_none, first_noted_more, all_noted}
use Rattle.delta_tree.proofs.cut.note_anew.Goals as goal

pub loop-place-init : goal.loop-place-init
loop-place-init c = record {
  noted = first_noted_none c.args.nodes.now c.forget_all.new.self.items;
  count = ap length c.forget_all.ensures.forgotten;
  room = omega (arith, c.requires, c.forget_all.ensures.room);
}

pub loop-place-preserved : goal.loop-place-preserved
loop-place-preserved c = record {
  noted =
      let (node, stands, is) = c.at-value.ensures in
      first_noted_more c.args.nodes.now c.loop-place.dues.items c.note_in_room.new.self.items
      c.loop-place.place (c.at-value.result.0, node) c.loop-place.invariant.noted stands
      (subst (λ (value : ℕ). Notes c.loop-place.dues.items c.note_in_room.new.self.items
      (due c.at-value.result.0 value)) (sym is) c.note_in_room.ensures.noted);
  count = omega (
    arith,
    length_permutation _ c.note_in_room.new.self.items c.note_in_room.ensures.noted,
    c.loop-place.invariant.count,
  );
  room = omega (arith, c.note_in_room.ensures.room, c.loop-place.invariant.room);
}

pub returns-clause-noted : goal.returns-clause-noted
returns-clause-noted c = all_noted c.args.nodes.now c.loop-place.dues.items c.loop-place.place
    (omega (arith, c.loop-place-test.false, c.len-place-end.ensures.count))
    c.loop-place.invariant.noted
