use Rattle.std.proofs.Common.{rules, ◌∷◌, Some, sym, ap, ◌∙◌, subst}
use Rattle.atomic_table.specs.Table.{rest}
use Rattle.turn_lock.specs.Lines.{Adds}
use Rattle.turn_lock.proofs.Moves.{gives_back_as}
use Rattle.turn_lock.proofs.Seats.{in_turn}
use Rattle.turn_lock.proofs.turns.Turns.give.Goals as goal

pub fetch_add-ended-requires : goal.fetch_add-ended-requires
fetch_add-ended-requires g c =
    let adds = c.requires.lines in
    let is = c.pass.view_is in
    let seat = in_turn _ _ adds.0 (ap (λ p. p.found) is ∙ adds.1) c.pass.invariant.0 in
    let v = c.pass.inside.seat.me.0 in
    let put =
    c.exchange.ensures.3 ∙ ap (λ held. (v, (0, Some c.args.value) ∷ rest held)) seat.2 in (
      search rules,
      search rules,
      gives_back_as _ _ _ _ _ _ _ _ v c.args.value seat.0 adds.0 put c.self.invariant.1 seat.1
          (c.requires.fixed ∙ sym (ap (λ p. p.fixed) is))
          (subst (λ n. Adds g.V.Kept.author n adds.0 (g.V.Kept.lines c.args.value))
          (sym (ap (λ p. p.number) is)) adds.2),
    )
