use Rattle.std.proofs.Common.{List, subst}
use Rattle.rpq_base.specs.declared.data.Event.{Event}
use Rattle.two_way.proofs.Staying.{HasStaying, net_from_staying}
use Rattle.two_way.proofs.netting.net.Goals as goal

pub returns : goal.returns
returns c =
    let first = c.args.first.now in
    let second = c.args.second.now in
    let one = c.add_staying.new.events.items in
    net_from_staying first second one c.add_staying-2.new.events.items c.put_in_order.new.events.items
    (subst (λ (old : List Event). HasStaying old first second one) c.new-events.ensures.items c.in_ok-add_staying.ensures)
    c.in_ok-add_staying-2.ensures c.put_in_order.ensures.sorted c.put_in_order.ensures.same
