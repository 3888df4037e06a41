-- Faults as they are told.
use Rattle.std.specs.Prelude.{ℕ, List, codes}
use Rattle.join_bindings.specs.declared.fault.ApplyFault.{ApplyFault}
use Rattle.join_bindings.specs.declared.fault.ApplyFault.TheVariants.{Memory, Spent}

-- why events aren't taken, as it is told
abbrev pub apply_fault_text : ApplyFault → List ℕ
apply_fault_text (Memory memory) = codes "out of memory"
apply_fault_text Spent = codes "the joins are spent since memory ran out"
