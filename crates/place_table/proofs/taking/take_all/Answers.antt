use Rattle.std.proofs.Common.{◌<◌, length, refl, ◌∙◌, arith}
use Rattle.place_table.proofs.Taken.{stand_from_first, stand_from_next, none_stands, same_length, others_here}
use Rattle.place_table.proofs.taking.take_all.Goals as goal

pub loop-number-init : goal.loop-number-init
loop-number-init c = record {
  stand = stand_from_first c.args.places.now c.args.root;
  ids = refl;
  others = λ other apart id. refl;
}

pub take_here-requires : goal.take_here-requires
take_here-requires c = omega (
  arith,
  c.loop-number-test.true,
  c.len-number-end.ensures,
  same_length c.args.places.now c.loop-number.places c.loop-number.invariant.ids,
)

pub loop-number-preserved : goal.loop-number-preserved
loop-number-preserved c =
    let below : c.loop-number.number < length c.loop-number.places = omega (
      arith,
      c.loop-number-test.true,
      c.len-number-end.ensures,
      same_length c.args.places.now c.loop-number.places c.loop-number.invariant.ids,
    ) in
    record {
      stand = stand_from_next c.loop-number.places c.take_here.new.places c.args.root
          c.loop-number.number c.loop-number.invariant.stand below c.take_here.ensures.taken
          c.take_here.ensures.ids;
      ids = c.take_here.ensures.ids ∙ c.loop-number.invariant.ids;
      others = others_here c.args.places.now c.loop-number.places c.take_here.new.places
          c.args.root c.loop-number.number c.loop-number.invariant.others below
          c.take_here.ensures.taken;
    }

pub returns-clause-own : goal.returns-clause-own
returns-clause-own c =
    none_stands c.args.places.now c.loop-number.places c.args.root c.loop-number.number
    c.loop-number.invariant.stand c.loop-number.invariant.ids
    (omega (arith, c.loop-number-test.false, c.len-number-end.ensures))
