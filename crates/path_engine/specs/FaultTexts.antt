-- Faults as they are told.
use Rattle.std.specs.Prelude.{ℕ, List, codes}
use Rattle.path_engine.specs.declared.fault.FeedFault.{FeedFault}
use Rattle.path_engine.specs.declared.fault.FeedFault.TheVariants.{Memory, Spent}

-- why an entry isn't answered, as it is told
abbrev pub feed_fault_text : FeedFault → List ℕ
feed_fault_text (Memory memory) = codes "out of memory"
feed_fault_text Spent = codes "the engine is spent since memory ran out"
