use Rattle.std.proofs.Common.{arith}
use Rattle.place_table.proofs.Linked.{ids_more, ids_all}
use Rattle.place_table.proofs.places.list_ids.Goals as goal

pub loop-k-preserved : goal.loop-k-preserved
loop-k-preserved c =
    ids_more c.args.places.now c.args.ids.now.items c.loop-k.ids.items c.add_id.new.ids.items
    c.loop-k.k c.index-places-k.result c.args.root c.loop-k.invariant
    (omega (arith, c.loop-k-test.true)) c.index-places-k.is
    c.in_ok-add_id.ensures

pub returns : goal.returns
returns c =
    ids_all c.args.places.now c.args.ids.now.items c.loop-k.ids.items c.loop-k.k c.args.root
    c.loop-k.invariant
    (omega (arith, c.loop-k-test.false, c.loop-k.auto.k-end))
