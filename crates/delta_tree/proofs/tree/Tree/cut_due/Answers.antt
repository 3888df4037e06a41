use Rattle.std.proofs.Common.{◌≡◌, refl, sym, ap, subst, ◌∙◌, arith}
use Rattle.delta_tree.specs.Nodes.{TreeValue, node_of}
use Rattle.delta_tree.specs.Changes.{living, AreDue, AreShifts, Expires, shift_ids}
use Rattle.delta_tree.specs.Losses.{with_loss}
use Rattle.delta_tree.proofs.Expiry.{AreTold, expiring_after, all_alive, kept_after, none_told, told_after, both_ok, told_ok, are_due, due_shifts}
use Rattle.delta_tree.proofs.Queue.{pending_taken}
use Rattle.delta_tree.proofs.tree.Tree.cut_due.Goals as goal

pub loop-next-init : goal.loop-next-init
loop-next-init c = record {
  expiring = record {
    alive = λ id. refl;
    noted = c.self.invariant.noted;
  };
  root = refl;
  puts = refl;
  told = subst (AreTold c.args.now c.self.inside.nodes c.self.inside.nodes)
      (sym c.clear.ensures.items) (none_told c.args.now c.self.inside.nodes);
}

pub loop-next-smaller : goal.loop-next-smaller
loop-next-smaller c =
    omega (
      arith,
      c.drop_or_note-lost.ensures.pending,
      pending_taken c.args.now c.loop-next.self-inside.dues.items
          c.next_due.new.self.items c.in-Some.next c.in-Some.ensures.next,
    )

pub loop-next-preserved : goal.loop-next-preserved
loop-next-preserved c =
    let first = c.self.inside.nodes in
    let old = c.loop-next.self-inside.nodes in
    let new = c.drop_or_note-lost.new.nodes in
    record {
      expiring =
          expiring_after c.args.now c.loop-next.self-inside.nodes
          c.drop_or_note-lost.new.nodes c.in-Some.next.item c.drop_or_note-lost.ensures.nodes
          c.self.inside.nodes c.loop-next.self-inside.dues.items
          c.next_due.new.self.items c.drop_or_note-lost.new.dues.items c.in-Some.next refl
          c.loop-next.invariant.expiring c.in-Some.ensures.next c.drop_or_note-lost.ensures.kept
          c.drop_or_note-lost.ensures.noted;
      root = c.loop-next.invariant.root;
      puts = c.loop-next.invariant.puts;
      told = both_ok c.loop-next.outcome c.add_loss-outcome.result c.loop-next.invariant.told
          c.add_loss-outcome.ensures.before c.add_loss-outcome.ensures.added
          (λ (told : AreTold c.args.now first old c.loop-next.shifts.items)
          (is : c.add_loss-outcome.new.shifts.items
          ≡ with_loss c.loop-next.shifts.items c.in-Some.next.item c.drop_or_note-lost.result).
          subst (AreTold c.args.now first new) (sym is)
          (told_after c.args.now first old new c.in-Some.next.item c.drop_or_note-lost.ensures.nodes
          c.loop-next.shifts.items told c.drop_or_note-lost.result
          c.drop_or_note-lost.ensures.dropped));
    }

pub invariant_of-self : goal.invariant_of-self
invariant_of-self c =
    let old : TreeValue = record {
      root = c.self.inside.root;
      nodes = c.self.inside.nodes;
      puts = c.self.inside.puts;
    } in
    let new : TreeValue = record {
      root = c.loop-next.self-inside.root;
      nodes = c.loop-next.self-inside.nodes;
      puts = c.loop-next.self-inside.puts;
    } in
    kept_after c.args.now old new c.loop-next.self-inside.dues.items
    c.next_due.new.self.items c.self.invariant.is_tree c.loop-next.invariant.expiring
    c.in_default.ensures.later
    (record { root = c.loop-next.invariant.root; puts = c.loop-next.invariant.puts })
    c.in_default.ensures.same

pub returns-clause-due : goal.returns-clause-due
returns-clause-due c =
    let old : TreeValue = record {
      root = c.self.inside.root;
      nodes = c.self.inside.nodes;
      puts = c.self.inside.puts;
    } in
    told_ok c.loop-next.outcome c.loop-next.invariant.told (λ told.
    subst (λ (tree : TreeValue). AreDue tree c.args.now (shift_ids c.loop-next.shifts.items))
    c.self.view_is
    (are_due c.args.now old c.loop-next.self-inside.nodes (shift_ids c.loop-next.shifts.items)
    told.gone
    (all_alive c.args.now c.self.inside.nodes c.loop-next.self-inside.nodes
    c.loop-next.self-inside.dues.items c.loop-next.invariant.expiring
    c.in_default.ensures.later)))

pub returns-clause-shifts : goal.returns-clause-shifts
returns-clause-shifts c =
    let old : TreeValue = record {
      root = c.self.inside.root;
      nodes = c.self.inside.nodes;
      puts = c.self.inside.puts;
    } in
    let new : TreeValue = record {
      root = c.loop-next.self-inside.root;
      nodes = c.loop-next.self-inside.nodes;
      puts = c.loop-next.self-inside.puts;
    } in
    let alive : Expires old new c.args.now = all_alive c.args.now c.self.inside.nodes
    c.loop-next.self-inside.nodes c.loop-next.self-inside.dues.items
    c.loop-next.invariant.expiring c.in_default.ensures.later in
    told_ok c.loop-next.outcome c.loop-next.invariant.told (λ told.
    subst (λ (tree : TreeValue). AreShifts tree new c.loop-next.shifts.items) c.self.view_is
    (due_shifts old new c.args.now c.loop-next.shifts.items
    (are_due c.args.now old c.loop-next.self-inside.nodes (shift_ids c.loop-next.shifts.items)
    told.gone alive) told.losses alive))

pub returns-clause-gone : goal.returns-clause-gone
returns-clause-gone c id =
    all_alive c.args.now c.self.inside.nodes c.loop-next.self-inside.nodes
    c.loop-next.self-inside.dues.items
    c.loop-next.invariant.expiring c.in_default.ensures.later id
    ∙ ap (λ (tree : TreeValue). living c.args.now (node_of tree id)) c.self.view_is
