use Rattle.std.proofs.Common.{take}
use Rattle.path_engine.specs.Labels.{AddsRows}
use Rattle.path_engine.proofs.labels.add_labels.Given as goal

-- the rows of the labels so far were added
abbrev pub invariant-loop-label : goal.invariant-loop-label
invariant-loop-label l = AddsRows l.queries (take l.label-index l.labels) l.fn.table l.table
