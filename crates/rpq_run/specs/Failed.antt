-- Which writes failed, and what memory ran out for. Only private contracts cite this file.
use Rattle.std.specs.Prelude.{Bool, true, false, if◌then◌else◌, List, [], ◌∷◌, ◌++◌, Option, Some}
use Rattle.std.specs.Prelude.{None, Result, Ok, Err}
use Rattle.history_model.specs.declared.line.Why.{Why}
use Rattle.history_model.specs.declared.line.Why.TheVariants.{Write, Memory}
use Rattle.rpq_run.specs.declared.fault.TextFault.{TextFault}
use Rattle.rpq_run.specs.declared.fault.TextFault.TheVariants.{Write as WriteOfText}
use Rattle.rpq_run.specs.declared.fault.TextFault.TheVariants.{Memory as MemoryForText}
use Rattle.rpq_text.specs.declared.ends.SinkName.{SinkName}
use Rattle.rpq_text.specs.declared.ends.SinkName.TheVariants.{Events, Replies, Save}

-- the sinks of which a write failed, among the events, the replies and the saved window
abbrev pub failed_sinks : Bool → Bool → Bool → List SinkName
failed_sinks events replies save =
    (if events then Events ∷ [] else []) ++ ((if replies then Replies ∷ [] else [])
    ++ (if save then Save ∷ [] else []))

-- whether a write of the events was why the engine shut
abbrev pub is_write : Option Why → Bool
is_write None = false
is_write (Some Write) = true
is_write (Some Memory) = false

-- whether memory ran out for the engine
abbrev pub is_memory : Option Why → Bool
is_memory None = false
is_memory (Some Write) = false
is_memory (Some Memory) = true

-- whether a write of a text failed
abbrev pub is_failed : Result (Unit {0}) TextFault → Bool
is_failed (Ok done) = false
is_failed (Err WriteOfText) = true
is_failed (Err MemoryForText) = false

-- whether memory ran out for a text
abbrev pub lacks_memory : Result (Unit {0}) TextFault → Bool
lacks_memory (Ok done) = false
lacks_memory (Err WriteOfText) = false
lacks_memory (Err MemoryForText) = true
