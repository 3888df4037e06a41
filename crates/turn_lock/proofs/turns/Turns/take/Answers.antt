use Rattle.std.proofs.Common.{rules, ◌∷◌, Some, sym, ap, ◌∙◌}
use Rattle.atomic_table.specs.Table.{rest}
use Rattle.turn_lock.proofs.Moves.{draws}
use Rattle.turn_lock.proofs.Seats.{at_rest}
use Rattle.turn_lock.proofs.turns.Turns.take.Goals as goal

pub fetch_add-ticket-requires : goal.fetch_add-ticket-requires
fetch_add-ticket-requires g c =
    let seat = at_rest _ _ (ap (λ p. p.found) c.pass.view_is ∙ c.requires.1) c.pass.invariant.0 in
    (search rules, search rules, draws _ _ _ _ _ _ _ _ seat.0)

pub exchange-requires : goal.exchange-requires
exchange-requires g c =
    let out = c.wait.ensures.slot.1 in (
      search rules,
      (Some out.0, ap (λ m. m.1) out.1 ∙ sym (ap (λ m. (0, Some out.0) ∷ rest m.1) out.1)),
    )
