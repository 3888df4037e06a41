use Rattle.std.proofs.Common.{rules, ◌∷◌, ◌++◌, [], Some, sym, ap, ◌∙◌}
use Rattle.turn_lock.proofs.Deals.{begins_as}
use Rattle.turn_lock.proofs.turns.Turns.new.Goals as goal

pub new-requires : goal.new-requires
new-requires g c =
    let items = c.push_reserved.ensures.items ∙ ap (λ xs. xs ++ Some c.args.value ∷ [])
    c.in-Ok-with_capacity.ensures.items in
    begins_as _ _ _ _ _ c.args.value _ items c.requires.lines (ap g.V.Kept.fixed (sym c.of.ensures))
    c.requires.passes (search rules)
