use Rattle.std.proofs.Common.{◌≡◌, ℕ, List, [], subst, ◌⊎◌}
use Rattle.std.specs.Prelude.{◌↔◌, Contains}
use Rattle.rpq_base.specs.declared.data.Pair.{Pair}
use Rattle.join_bindings.proofs.Rowing.{of_source}
use Rattle.join_bindings.proofs.pairs.PairSet.with_source.Goals as goal

pub returns : goal.returns
returns c = λ one.
    let name = c.args.from.now in
    let found : List Pair = c.add_targets.new.found.items in
    of_source c.args.self.now c.self.inside.sources c.self.inside.targets name found c.self.invariant c.self.view_is one
    (subst (λ (row : List (List ℕ)). Contains found one ↔ (Contains {X = Pair} [] one ⊎ ((name ≡ one.from) × Contains row one.to))) c.row.ensures
    (subst (λ (list : List Pair). Contains found one ↔ (Contains list one ⊎ ((name ≡ one.from) × Contains c.row.result.now one.to))) c.new-found.ensures.items
    (c.in_ok-add_targets.ensures one)))
