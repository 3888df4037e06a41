use Rattle.std.proofs.Common.{[], ◌∷◌, sym, subst}
use Rattle.source_tree.specs.declared.change.Change.{Change}
use Rattle.source_tree.specs.Taking.{is_raise}
use Rattle.delta_forest.specs.Settling.{HoldsAnew}
use Rattle.delta_forest.proofs.Holding.{held_added, held_dropped}
use Rattle.delta_forest.proofs.settling.hold_at.Goals as goal

pub returns-in_ok-add-in-Raise : goal.returns-in_ok-add-in-Raise
returns-in_ok-add-in-Raise c =
    subst (λ (change : Change). HoldsAnew c.args.holders.now c.add.new.self c.args.root
    (is_raise change) (c.args.id ∷ [])) (sym c.in-Raise.is)
    (held_added c.args.holders.now c.add.new.self c.args.id c.args.root
    c.in_ok-add-in-Raise.ensures.added)

pub returns-in-Remove : goal.returns-in-Remove
returns-in-Remove c =
    subst (λ (change : Change). HoldsAnew c.args.holders.now c.drop.new.self c.args.root
    (is_raise change) (c.args.id ∷ [])) (sym c.in-Remove.is)
    (held_dropped c.args.holders.now c.drop.new.self c.args.id c.args.root c.drop.ensures)

pub returns-in-Expire : goal.returns-in-Expire
returns-in-Expire c =
    subst (λ (change : Change). HoldsAnew c.args.holders.now c.drop-in-Expire.new.self c.args.root
    (is_raise change) (c.args.id ∷ [])) (sym c.in-Expire.is)
    (held_dropped c.args.holders.now c.drop-in-Expire.new.self c.args.id c.args.root
    c.drop-in-Expire.ensures)
