-- Lines that are kept as their calls and their entries.
use Rattle.std.specs.Prelude.{List, [], ◌∷◌, Option, Some, None}
use Rattle.rpq_base.specs.declared.data.Tuple.{Tuple}
use Rattle.rpq_base.specs.declared.data.Entry.{Entry}
use Rattle.history_model.specs.declared.line.CallAct.{CallAct}
use Rattle.history_model.specs.declared.line.CallAct.TheVariants.{Append, EndStream, Publish, Shut}
use Rattle.history_model.specs.declared.line.Call.{Call}
use Rattle.history_model.specs.declared.line.Line.{Line}

-- the tuple of a call, where these entries are still to be told: an append has that of the first
abbrev pub next_tuple : CallAct → List Entry → Option Tuple
next_tuple Append [] = None
next_tuple Append (entry ∷ later) = Some entry.tuple
next_tuple EndStream entries = None
next_tuple (Publish number) entries = None
next_tuple (Shut why) entries = None

-- the entries that are to be told after a call
abbrev pub entries_after : CallAct → List Entry → List Entry
entries_after Append [] = []
entries_after Append (entry ∷ later) = later
entries_after EndStream entries = entries
entries_after (Publish number) entries = entries
entries_after (Shut why) entries = entries

-- the lines with these calls, whose appends have the tuples of these entries, in order
abbrev pub lines_of : List Call → List Entry → List Line
lines_of [] entries = []
lines_of (call ∷ calls) entries =
    record { call = call; tuple = next_tuple call.act entries }
    ∷ lines_of calls (entries_after call.act entries)
