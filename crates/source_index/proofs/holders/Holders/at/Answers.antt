use Rattle.std.specs.List.{IsDistinct}
use Rattle.source_index.proofs.holders.Holders.at.Goals as goal

pub returns-in-None-clause-once : goal.returns-in-None-clause-once
unfolding IsDistinct
returns-in-None-clause-once c = tt
