use Rattle.std.proofs.Common.{Ok, ap, sym, ◌∙◌}
use Rattle.ask_text.proofs.ByParts.{whole, sessions_are_few}
use Rattle.ask_text.proofs.read.read_asks.Goals as goal

pub returns-in-Ok-clause-sessions : goal.returns-in-Ok-clause-sessions
returns-in-Ok-clause-sessions c =
    whole c.args.queries.now c.args.bytes.now c.none_yet.result _ c.none_yet.ensures c.in_ok-progress.ensures.ok
    ∙ ap (λ found. Ok found) (sym c.in-Ok.ensures)

pub returns-in-Ok-clause-few : goal.returns-in-Ok-clause-few
returns-in-Ok-clause-few c =
    (sessions_are_few c.args.queries.now c.args.bytes.now _ (returns-in-Ok-clause-sessions c)).0

pub returns-in-Ok-clause-each : goal.returns-in-Ok-clause-each
returns-in-Ok-clause-each c =
    (sessions_are_few c.args.queries.now c.args.bytes.now _ (returns-in-Ok-clause-sessions c)).1
