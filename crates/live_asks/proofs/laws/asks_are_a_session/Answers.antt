use Rattle.live_asks.proofs.Sessions.{asks_are_a_session}
use Rattle.live_asks.proofs.laws.asks_are_a_session.Goals as goal

pub returns : goal.returns
returns c = asks_are_a_session
