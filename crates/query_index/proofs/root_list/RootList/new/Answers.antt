use Rattle.std.proofs.Common.{Bool, ℕ, List, [], sym, subst}
use Rattle.query_index.specs.RootList.{AreFlagged}
use Rattle.query_index.proofs.Flagged.{none_flagged}
use Rattle.query_index.proofs.root_list.RootList.new.Goals as goal

pub invariant_of-result : goal.invariant_of-result
invariant_of-result c =
    subst (λ (roots : List ℕ). AreFlagged roots c.new-2.result.items)
    (sym {A = List ℕ} c.new.ensures.items)
    (subst (AreFlagged []) (sym {A = List Bool} c.new-2.ensures.items) none_flagged)
