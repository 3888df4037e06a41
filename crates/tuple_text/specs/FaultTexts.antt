-- The faults of a line as they are told.
use Rattle.std.specs.Prelude.{ℕ, List, ◌++◌, codes, decimal}
use Rattle.tuple_text.specs.declared.read.BadLine.{BadLine}
use Rattle.tuple_text.specs.declared.read.BadLine.TheVariants.{Fields, Time, TimeRange}
use Rattle.tuple_text.specs.declared.read.BadLine.TheVariants.{BadName, Op, Until, Memory}

-- a fault as it is told
abbrev pub fault_text : BadLine → List ℕ
fault_text (Fields count) = codes "fields " ++ decimal count
fault_text Time = codes "time"
fault_text TimeRange = codes "time range"
fault_text (BadName place) = codes "name " ++ decimal place
fault_text Op = codes "operation"
fault_text Until = codes "until"
fault_text Memory = codes "memory"
