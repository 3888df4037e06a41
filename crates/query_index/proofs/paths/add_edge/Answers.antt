use Rattle.std.proofs.Common.{ap, ◌∙◌}
use Rattle.name_table.specs.Names.{number_of}
use Rattle.query_index.proofs.BestPaths.{label_placed}
use Rattle.query_index.proofs.paths.add_edge.Goals as goal

pub returns : goal.returns
returns c =
    let names = c.args.names.now in (
      record {
        from = c.in_ok-copy.field-0;
        label = c.in_ok-copy-2.field-0;
        to = c.in_ok-copy-3.field-0;
      },
      c.in_ok-push.ensures.items,
      record {
        from = ap (number_of names) c.in_ok-copy.ensures ∙ c.name_of.ensures.number;
        label = label_placed c.args.dfa.now c.labels.result.now c.args.id.now.label
            c.index-labels-id.result c.in_ok-copy-2.field-0 c.labels.ensures.valid
            c.labels.ensures.labels c.requires.label c.index-labels-id.is c.in_ok-copy-2.ensures;
        to = ap (number_of names) c.in_ok-copy-3.ensures ∙ c.name_of-2.ensures.number;
      },
    )
