use Rattle.std.proofs.Common.{false, sym, arith}
use Rattle.std.proofs.lemmas.List.{get_or_past}
use Rattle.end_log.proofs.listing.is_final.Goals as goal

pub returns-then-state-states : goal.returns-then-state-states
returns-then-state-states c =
    sym (get_or_past c.args.dfa.now.finals c.args.state false
    (omega (
      arith,
      c.states.ensures.valid.finals,
      c.states.ensures.number,
      c.if-state-states.true,
    )))
