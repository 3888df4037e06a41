use Rattle.source_tree.specs.declared.change.Outcome.TheVariants.{Lost, Gained}
use Rattle.end_events.proofs.Adding.{are_given, none_numbered}
use Rattle.end_events.proofs.pairs.given_pairs.Goals as goal

pub put_in_order-requires : goal.put_in_order-requires
put_in_order-requires c =
    c.in_ok-add_given-2.ensures.lost.numbered (c.in_ok-add_given.ensures.lost.numbered (none_numbered c.args.names.now _ c.in_ok-lost.ensures))

pub put_in_order-requires-2 : goal.put_in_order-requires-2
put_in_order-requires-2 c =
    c.in_ok-add_given-2.ensures.gained.numbered (c.in_ok-add_given.ensures.gained.numbered (none_numbered c.args.names.now _ c.in_ok-gained.ensures))

pub returns-clause-lost : goal.returns-clause-lost
returns-clause-lost c =
    are_given c.args.mode Lost c.args.names.now c.args.first.now c.args.second.now
    c.in_ok-lost.lost.items c.add_given.new.lost.items c.add_given-2.new.lost.items c.put_in_order.new.pairs.items
    c.in_ok-lost.ensures c.in_ok-add_given.ensures.lost c.in_ok-add_given-2.ensures.lost
    c.put_in_order.ensures.numbered c.put_in_order.ensures.sorted c.put_in_order.ensures.same

pub returns-clause-gained : goal.returns-clause-gained
returns-clause-gained c =
    are_given c.args.mode Gained c.args.names.now c.args.first.now c.args.second.now
    c.in_ok-gained.gained.items c.add_given.new.gained.items c.add_given-2.new.gained.items c.put_in_order-2.new.pairs.items
    c.in_ok-gained.ensures c.in_ok-add_given.ensures.gained c.in_ok-add_given-2.ensures.gained
    c.put_in_order-2.ensures.numbered c.put_in_order-2.ensures.sorted c.put_in_order-2.ensures.same
