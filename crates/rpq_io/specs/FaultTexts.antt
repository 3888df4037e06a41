-- Faults as they are told.
use Rattle.std.specs.Prelude.{ℕ, List, codes}
use Rattle.rpq_io.specs.declared.fault.OpenFault.{OpenFault}
use Rattle.rpq_io.specs.declared.fault.OpenFault.TheVariants as open_fault
use Rattle.rpq_io.specs.declared.fault.AllFault.{AllFault}
use Rattle.rpq_io.specs.declared.fault.AllFault.TheVariants as all_fault
use Rattle.rpq_io.specs.declared.fault.LineFault.{LineFault}
use Rattle.rpq_io.specs.declared.fault.LineFault.TheVariants as line_fault

-- a failed read or write
abbrev pub failed_text : List ℕ
failed_text = codes "a read or a write failed"

-- why a file was not opened
abbrev pub open_fault_text : OpenFault → List ℕ
open_fault_text open_fault.Failed = codes "a file could not be opened"
open_fault_text open_fault.Memory = codes "out of memory"

-- why the bytes of a source were not all read
abbrev pub all_fault_text : AllFault → List ℕ
all_fault_text all_fault.Read = codes "a read failed"
all_fault_text all_fault.Long = codes "there are too many bytes"
all_fault_text all_fault.Memory = codes "out of memory"

-- why no line was given
abbrev pub line_fault_text : LineFault → List ℕ
line_fault_text line_fault.Read = codes "a read failed"
line_fault_text line_fault.LongLine = codes "a line is too long"
line_fault_text line_fault.LongStream = codes "there are too many bytes"
line_fault_text line_fault.Memory = codes "out of memory"
