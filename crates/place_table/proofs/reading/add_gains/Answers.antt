use Rattle.std.proofs.Common.{◌++◌, [], ap, ◌∙◌, arith}
use Rattle.std.specs.List.{cons_option}
use Rattle.place_table.specs.Reading.{gain_of}
use Rattle.place_table.proofs.Listed.{filter_more, filter_all}
use Rattle.place_table.proofs.reading.add_gains.Goals as goal

pub loop-k-preserved : goal.loop-k-preserved
loop-k-preserved c =
    filter_more (gain_of c.args.above c.args.most) c.args.place.now.nodes c.args.gains.now.items
    c.loop-k.gains.items c.push_some.new.items.items c.loop-k.k c.at.result
    c.loop-k.invariant c.at.ensures
    (c.in_ok-push_some.ensures ∙ ap (λ o. c.loop-k.gains.items ++ cons_option o []) c.gain_of.ensures)

pub returns-clause-added : goal.returns-clause-added
returns-clause-added c =
    filter_all (gain_of c.args.above c.args.most) c.args.place.now.nodes c.args.gains.now.items
    c.loop-k.gains.items c.loop-k.k c.loop-k.invariant
    (omega (arith, c.loop-k-test.false, c.loop-k.auto.k-end, c.len-k-end.ensures.count))
