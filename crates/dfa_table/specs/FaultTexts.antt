-- Faults as they are told.
use Rattle.std.specs.Prelude.{ℕ, List, codes}
use Rattle.dfa_table.specs.declared.discovery.DiscoveryFault.{DiscoveryFault}
use Rattle.dfa_table.specs.declared.discovery.DiscoveryFault.TheVariants.{Full, Memory}
use Rattle.rpq_base.specs.FaultTexts.{memory_text}

-- why a walk ended before its end, as it is told
abbrev pub discovery_fault_text : DiscoveryFault → List ℕ
discovery_fault_text Full = codes "too many nodes"
discovery_fault_text (Memory memory) = memory_text
