use Rattle.std.proofs.Common.{sym, ◌∙◌}
use Rattle.delta_forest.proofs.Gathering.{none_unless_some, source_added}
use Rattle.delta_forest.proofs.candidates.add_source.Goals as goal

pub returns : goal.returns
returns c =
    source_added c.args.sources.now c.add.new.self c.args.root c.in_ok-source.source
    c.get.ensures.apart
    (none_unless_some (λ source. source.now) c.get.result _
    (sym c.is_some.ensures ∙ c.if-is_some.false) c.get.ensures.source)
    c.in_ok-add.ensures.added
    (record {
      root_is = c.in_ok-source.ensures.root;
      bare = c.in_ok-source.ensures.bare;
      puts = c.in_ok-source.ensures.puts;
    })
