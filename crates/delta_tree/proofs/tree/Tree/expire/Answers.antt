use Rattle.std.proofs.Common.{refl, ap, ◌∙◌, arith}
use Rattle.delta_tree.specs.Nodes.{TreeValue, node_of}
use Rattle.delta_tree.specs.Changes.{living}
use Rattle.delta_tree.proofs.Expiry.{expiring_after, all_alive, kept_after}
use Rattle.delta_tree.proofs.Queue.{pending_taken}
use Rattle.delta_tree.proofs.tree.Tree.expire.Goals as goal

pub loop-next-smaller : goal.loop-next-smaller
loop-next-smaller c =
    omega (
      arith,
      c.drop_or_note.ensures.pending,
      pending_taken c.args.now c.loop-next.self-inside.dues.items
          c.next_due.new.self.items c.in-Some.next c.in-Some.ensures.next,
    )

pub loop-next-preserved : goal.loop-next-preserved
loop-next-preserved c =
    record {
      expiring =
          expiring_after c.args.now c.loop-next.self-inside.nodes
          c.drop_or_note.new.nodes c.in-Some.next.item c.drop_or_note.ensures.nodes
          c.self.inside.nodes c.loop-next.self-inside.dues.items
          c.next_due.new.self.items c.drop_or_note.new.dues.items c.in-Some.next refl
          c.loop-next.invariant.expiring c.in-Some.ensures.next c.drop_or_note.ensures.kept
          c.drop_or_note.ensures.noted;
      root = c.loop-next.invariant.root;
      puts = c.loop-next.invariant.puts;
    }

pub invariant_of-self : goal.invariant_of-self
invariant_of-self c =
    let old : TreeValue = record {
      root = c.self.inside.root;
      nodes = c.self.inside.nodes;
      puts = c.self.inside.puts;
    } in
    let new : TreeValue = record {
      root = c.loop-next.self-inside.root;
      nodes = c.loop-next.self-inside.nodes;
      puts = c.loop-next.self-inside.puts;
    } in
    kept_after c.args.now old new c.loop-next.self-inside.dues.items
    c.next_due.new.self.items c.self.invariant.is_tree c.loop-next.invariant.expiring
    c.in_default.ensures.later
    (record { root = c.loop-next.invariant.root; puts = c.loop-next.invariant.puts })
    c.in_default.ensures.same

pub returns-clause-gone : goal.returns-clause-gone
returns-clause-gone c id =
    all_alive c.args.now c.self.inside.nodes c.loop-next.self-inside.nodes
    c.loop-next.self-inside.dues.items
    c.loop-next.invariant.expiring c.in_default.ensures.later id
    ∙ ap (λ (tree : TreeValue). living c.args.now (node_of tree id)) c.self.view_is
