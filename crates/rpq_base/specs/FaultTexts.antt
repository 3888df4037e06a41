-- Faults as they are told.
use Rattle.std.specs.Prelude.{ℕ, List, ◌++◌, codes, decimal}
use Rattle.rpq_base.specs.declared.name.NameFault.{NameFault}
use Rattle.rpq_base.specs.declared.name.NameFault.TheVariants.{Length, Byte, Memory}

-- out of memory as it is told
abbrev pub memory_text : List ℕ
memory_text = codes "out of memory"

-- why bytes are no name, as it is told
abbrev pub name_fault_text : NameFault → List ℕ
name_fault_text (Length n) = codes "a name has 1 to 255 bytes, and not " ++ decimal n
name_fault_text (Byte at) = codes "byte " ++ decimal at ++ codes " may not stand in a name"
name_fault_text Memory = memory_text
