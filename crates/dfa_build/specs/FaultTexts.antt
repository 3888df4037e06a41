-- Faults as they are told, and those of a walk as those of a construction.
use Rattle.std.specs.Prelude.{List, ℕ, ◌++◌, codes, decimal}
use Rattle.dfa_build.specs.declared.fault.BuildFault.{BuildFault}
use Rattle.dfa_build.specs.declared.fault.BuildFault.TheVariants.{TooManyLabels, TooManyStates, Memory}
use Rattle.dfa_table.specs.declared.discovery.DiscoveryFault.{DiscoveryFault}
use Rattle.dfa_table.specs.declared.discovery.DiscoveryFault.TheVariants as discovery
use Rattle.rpq_base.specs.FaultTexts.{memory_text}

-- why no automaton is built, as it is told
abbrev pub build_fault_text : BuildFault → List ℕ
build_fault_text (TooManyLabels count) = decimal count ++ codes " labels, more than 64"
build_fault_text TooManyStates = codes "more than 513 states"
build_fault_text Memory = memory_text

-- why no automaton is built where the walk through the sets ends before its end
abbrev pub build_fault_of : DiscoveryFault → BuildFault
build_fault_of discovery.Full = TooManyStates
build_fault_of (discovery.Memory memory) = Memory
