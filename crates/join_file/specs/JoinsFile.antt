-- The joins of a joins file, or the first fault of it, line by line.
use Rattle.std.specs.Prelude.{ℕ, ◌||◌, List, [], ◌∷◌, ◌++◌, Result, Ok, if◌then◌else◌}
use Rattle.text_parts.specs.Lines.{lines, is_blank_line, is_comment}
use Rattle.text_parts.specs.Fields.{fields}
use Rattle.text_parts.specs.Reading.{◌>>=◌, reached, with_number}
use Rattle.rpq_model.specs.Query.{Query}
use Rattle.join_file.specs.declared.fault.JoinFileFault.{JoinFileFault}
use Rattle.join_file.specs.declared.fault.JoinFileFaultKind.{JoinFileFaultKind}
use Rattle.join_file.specs.Joins.{JoinValue}
use Rattle.join_file.specs.JoinLine.{join_of_fields}

-- the joins after a line: a blank line or a comment gives nothing
unfoldable pub after_line : List Query → List JoinValue → List ℕ →
    Result (List JoinValue) JoinFileFaultKind
after_line queries before line =
    if is_blank_line line || is_comment line then Ok before
    else join_of_fields queries before (fields line) >>= λ join. Ok (before ++ join ∷ [])

-- this kind of fault in the line with this number, from 1
abbrev pub fault_at : ℕ → JoinFileFaultKind → JoinFileFault
fault_at number kind = record { line = number; kind = kind }

-- the step of the line with this number
abbrev pub line_step : List Query → ℕ → List JoinValue → List ℕ →
    Result (List JoinValue) JoinFileFault
line_step queries = with_number fault_at (after_line queries)

-- what the bytes of a joins file give: its joins, or its first fault
unfoldable pub joins : List Query → List ℕ → Result (List JoinValue) JoinFileFault
joins queries bytes = reached (line_step queries) 0 [] (lines bytes)
