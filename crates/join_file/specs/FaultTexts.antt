-- Faults as they are told.
use Rattle.std.specs.Prelude.{ℕ, List, ◌++◌, codes, decimal}
use Rattle.join_file.specs.declared.fault.JoinFileFault.{JoinFileFault}
use Rattle.join_file.specs.declared.fault.JoinFileFaultKind.{JoinFileFaultKind}
use Rattle.join_file.specs.declared.fault.JoinFileFaultKind.TheVariants.{Shape, Twice, TooMany}
use Rattle.join_file.specs.declared.fault.JoinFileFaultKind.TheVariants.{UnknownQuery, BadName}
use Rattle.join_file.specs.declared.fault.JoinFileFaultKind.TheVariants.{Memory}

-- what is wrong with a line, as it is told
abbrev pub joins_kind_text : JoinFileFaultKind → List ℕ
joins_kind_text Shape = codes "shape"
joins_kind_text (Twice name) = codes "name twice"
joins_kind_text TooMany = codes "too many"
joins_kind_text UnknownQuery = codes "unknown query"
joins_kind_text BadName = codes "bad name"
joins_kind_text Memory = codes "out of memory"

-- a fault, as it is told
abbrev pub joins_fault_text : JoinFileFault → List ℕ
joins_fault_text fault =
    codes "line " ++ decimal fault.line ++ codes ": " ++ joins_kind_text fault.kind
