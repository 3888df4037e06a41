use Rattle.std.proofs.Common.{arith}
use Rattle.std.proofs.lemmas.Grind.{common_steps}
use Rattle.std.proofs.lemmas.List.Elements.{filter_map-append}
use Rattle.source_table.proofs.part.choose.Goals as goal

pub loop-root-preserved : goal.loop-root-preserved
loop-root-preserved c = grind (arith, common_steps, filter_map-append)
