use Rattle.std.proofs.Common.{rules}
use Rattle.run_start.proofs.Modes.{capped_bytes, endless_bytes}
use Rattle.run_start.proofs.streams.byte_limit.Goals as goal

pub returns-then-is_endless-clause-limit : goal.returns-then-is_endless-clause-limit
returns-then-is_endless-clause-limit c = endless_bytes c.args.chosen.now (search rules)

pub returns-else-is_endless-clause-limit : goal.returns-else-is_endless-clause-limit
returns-else-is_endless-clause-limit c = capped_bytes c.args.chosen.now c.requires (search rules)
