use Rattle.std.proofs.Common.{◌≡◌, ℕ, true, subst}
use Rattle.delta_forest.specs.Keeping.{IsDueFor}
use Rattle.delta_forest.specs.Settling.{is_sooner}
use Rattle.delta_forest.proofs.settling.follow.Goals as goal

pub returns-clause-due : goal.returns-clause-due
returns-clause-due c =
    subst (λ (at : ℕ). is_sooner c.args.change c.args.source.now ≡ true →
    IsDueFor c.note.new.dues at c.args.source.now.tree) c.root-root.ensures.root
    c.in_ok-note.ensures.due
