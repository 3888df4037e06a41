-- The lines of a history, and what they say.
use Rattle.std.specs.Prelude.{ℕ, ◌≤◌, ◌==◌, List, Option, Some, None, map, filter, fold, Contains}
use Rattle.std.specs.Prelude.{unwrap_or, option_map}
use Rattle.std.specs.List.{filter_map}
use Rattle.rpq_base.specs.declared.data.Tuple.{Tuple}
use Rattle.rpq_base.specs.declared.data.Entry.{Entry}
use Rattle.history_model.specs.declared.line.Why.{Why}
use Rattle.history_model.specs.declared.line.CallAct.{CallAct}
use Rattle.history_model.specs.declared.line.CallAct.TheVariants.{Append, EndStream, Publish, Shut}
use Rattle.history_model.specs.declared.line.Call.{Call}
use Rattle.history_model.specs.declared.line.Line.{Line}

-- a stream appends a tuple
abbrev pub append_line : ℕ → Tuple → Line
append_line stream tuple =
    record { call = record { by = stream; act = Append }; tuple = Some tuple }

-- a stream ends
abbrev pub end_line : ℕ → Line
end_line stream = record { call = record { by = stream; act = EndStream }; tuple = None }

-- the engine publishes the answers over so many entries
abbrev pub publish_line : ℕ → Line
publish_line number = record { call = record { by = 0; act = Publish number }; tuple = None }

-- the engine shuts the history
abbrev pub shut_line : Why → Line
shut_line why = record { call = record { by = 0; act = Shut why }; tuple = None }

-- the calls of the lines
abbrev pub calls : List Line → List Call
calls lines = map (λ line. line.call) lines

-- the lines of the caller with this number
abbrev pub lines_by : ℕ → List Line → List Line
lines_by number lines = filter (λ line. line.call.by == number) lines

-- the entry that a line adds: its tuple, with the number of its stream
abbrev pub entry_of : Line → Option Entry
entry_of line = option_map (λ tuple. record { stream = line.call.by; tuple = tuple }) line.tuple

-- the entries that the lines add, in order
abbrev pub entries : List Line → List Entry
entries lines = filter_map entry_of lines

-- the number that a call publishes
abbrev pub number_of : CallAct → Option ℕ
number_of Append = None
number_of EndStream = None
number_of (Publish number) = Some number
number_of (Shut why) = None

-- the number in the last line that publishes, and 0 where none does
abbrev pub published : List Line → ℕ
published lines = fold (λ before line. unwrap_or (number_of line.call.act) before) 0 lines

-- the number is that of one of so many streams
abbrev pub IsStream : ℕ → ℕ → Type 0
IsStream streams number = (1 ≤ number) × (number ≤ streams)

-- the stream with this number has ended
abbrev pub HasEnded : List Line → ℕ → Type 0
HasEnded lines stream = Contains (calls lines) (record { by = stream; act = EndStream })

-- all of so many streams have ended
abbrev pub AllEnded : ℕ → List Line → Type 0
AllEnded streams lines = (stream : ℕ) → IsStream streams stream → HasEnded lines stream

-- the engine has shut the history, for this reason
abbrev pub IsShutFor : List Line → Why → Type 0
IsShutFor lines why = Contains (calls lines) (record { by = 0; act = Shut why })

-- the engine has shut the history
abbrev pub IsShut : List Line → Type 0
IsShut lines = (why : Why) × IsShutFor lines why
