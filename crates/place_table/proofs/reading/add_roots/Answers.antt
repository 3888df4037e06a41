use Rattle.std.proofs.Common.{◌++◌, [], ap, ◌∙◌, arith}
use Rattle.std.specs.List.{cons_option}
use Rattle.place_table.specs.Reading.{root_by}
use Rattle.place_table.proofs.Listed.{filter_more, filter_all}
use Rattle.place_table.proofs.reading.add_roots.Goals as goal

pub loop-k-preserved : goal.loop-k-preserved
loop-k-preserved c =
    filter_more (root_by c.args.edge c.args.place.now.id) c.args.place.now.nodes
    c.args.roots.now.items c.loop-k.roots.items c.push_some.new.items.items c.loop-k.k c.at.result
    c.loop-k.invariant c.at.ensures
    (c.in_ok-push_some.ensures ∙ ap (λ o. c.loop-k.roots.items ++ cons_option o [])
    (c.root_by.ensures ∙ ap (λ id. root_by c.args.edge id c.at.result) c.id.ensures))

pub returns-clause-added : goal.returns-clause-added
returns-clause-added c =
    filter_all (root_by c.args.edge c.args.place.now.id) c.args.place.now.nodes c.args.roots.now.items
    c.loop-k.roots.items c.loop-k.k c.loop-k.invariant
    (omega (arith, c.loop-k-test.false, c.loop-k.auto.k-end, c.len-k-end.ensures.count))
