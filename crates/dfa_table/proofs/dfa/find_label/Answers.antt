use Rattle.std.proofs.Common.{◌∙◌}
use Rattle.dfa_table.proofs.Places.{found_by_search}
use Rattle.dfa_table.proofs.dfa.find_label.Goals as goal

pub returns-clause-place : goal.returns-clause-place
returns-clause-place c =
    c.ok.ensures.value
    ∙ found_by_search c.binary_search.result c.args.labels.now c.args.label.now c.requires
    c.binary_search.ensures.position c.binary_search.ensures.bound
