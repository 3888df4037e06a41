use Rattle.std.proofs.Common.{rules, ap, ◌∙◌}
use Rattle.turn_lock.proofs.Moves.{looks}
use Rattle.turn_lock.proofs.turns.Turns.wait.Goals as goal

pub load-served-requires : goal.load-served-requires
load-served-requires g c =
    let drawn = c.requires.ticket in (
      search rules,
      search rules,
      looks _ _ _ _ _ _ _ _ drawn.0
          (ap (λ m. m.0.stage) c.loop.invariant.1 ∙ drawn.2),
    )
