use Rattle.std.proofs.Common.{◌≡◌, rules}
use Rattle.std.proofs.lemmas.Fn.{always_returns_same}
use Rattle.delta_tree.specs.declared.node.Shift.{Shift}
use Rattle.tree_insert.proofs.Shifts.{sorted_ids}
use Rattle.tree_insert.proofs.search.Search.sort_shifts.Goals as goal

pub returns-clause-sorted : goal.returns-clause-sorted
returns-clause-sorted c =
    sorted_ids c.sort_unstable_by_key.new.self.items
    (c.sort_unstable_by_key.ensures.sorted (λ (each : Shift). each.id)
    (always_returns_same _ (λ a r. r ≡ a.0.now.id) _ (λ a r q k. search rules)))
