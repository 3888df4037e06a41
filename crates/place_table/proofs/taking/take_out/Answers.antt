use Rattle.std.proofs.Common.{None, refl}
use Rattle.place_table.proofs.Taken.{out_more, others_more}
use Rattle.place_table.proofs.taking.take_out.Goals as goal

pub loop-id-init : goal.loop-id-init
loop-id-init c = record { own = λ id. refl; others = λ other apart id. refl }

pub loop-id-preserved : goal.loop-id-preserved
loop-id-preserved c = record {
  own = out_more c.args.places.now c.loop-id.places c.take.new.self c.args.root c.args.ids.now
      c.loop-id.id-index _ c.loop-id.invariant.own c.take.ensures.taken c.loop-id-test.true;
  others = others_more c.args.places.now c.loop-id.places c.take.new.self c.args.root _ None
      c.loop-id.invariant.others c.take.ensures.taken;
}
