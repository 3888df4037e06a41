use Rattle.std.proofs.Common.{rules}
use Rattle.std.specs.Ordering.{is_lt}
use Rattle.std.proofs.lemmas.Cmp.{nat_list_cmp_total}
use Rattle.std.proofs.lemmas.Fn.{always_returns_same}
use Rattle.std.proofs.lemmas.List.Sorted.{ranks_by}
use Rattle.name_table.specs.Names.{name_at}
use Rattle.source_tree.specs.declared.change.Reached.{Reached}
use Rattle.query_index.specs.Showing.{reached_cmp}
use Rattle.query_index.proofs.targets.sort_by_names.Goals as goal

pub returns-clause-sorted : goal.returns-clause-sorted
returns-clause-sorted c =
    let names = c.args.names.now in
    c.sort_unstable_by.ensures.sorted (λ first second. is_lt (reached_cmp names first second))
    (ranks_by nat_list_cmp_total (λ (each : Reached). name_at names each.vertex))
    (always_returns_same _ _ _ (λ a r f' k. search rules))
