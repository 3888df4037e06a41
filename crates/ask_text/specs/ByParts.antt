-- What an asks file gives, by its parts: without going through it line by line.
use Rattle.std.specs.Prelude.{◌≡◌, ℕ, ◌+◌, ◌≤◌, ◌↔◌, None, Bool, true, not, ◌||◌, List, [], ◌∷◌}
use Rattle.std.specs.Prelude.{◌++◌, length, map}
use Rattle.std.specs.Prelude.{filter, flat_map, All, Ok, Err}
use Rattle.std.specs.List.{AllZip}
use Rattle.text_parts.specs.Lines.{lines, is_blank_line, is_comment}
use Rattle.text_parts.specs.Fields.{fields}
use Rattle.rpq_model.specs.Query.{Query}
use Rattle.ask_text.specs.declared.ask.Ask.{Ask}
use Rattle.ask_text.specs.declared.fault.AskFault.{AskFault}
use Rattle.ask_text.specs.Asks.{Sessions, all, asks}
use Rattle.ask_text.specs.Parts.{IsAskOf, session_fields, IsFirstFault}
use Rattle.ask_text.specs.Ranges.{IsSession}

-- whether a line is neither blank nor a comment
abbrev pub is_ask_line : List ℕ → Bool
is_ask_line line = not (is_blank_line line || is_comment line)

-- what such a line is: the beginning of a session, or an ask
pub data Item : Type 0 where
  Begin : Item
  One : Ask → Item

-- the lines of sessions: for each its beginning and its asks
abbrev pub items : List (List Ask) → List Item
items sessions = flat_map (λ asks. Begin ∷ map (λ ask. One ask) asks) sessions

-- the line is this
abbrev pub IsItemOf : List Query → List ℕ → Item → Type 0
IsItemOf queries line Begin = fields line ≡ session_fields
IsItemOf queries line (One ask) = IsAskOf queries ask (fields line)

-- the sessions of these lines: those that are neither blank nor comments are the beginnings of the
-- sessions and their asks, in their order; there are at most 64, of at most 1,024 asks
pub record AreSessionsOf (queries : List Query) (all_lines : List (List ℕ))
    (sessions : List (List Ask)) : Type 0 where
  pub few : length sessions ≤ 64
  pub each_few : All (IsSession (length queries)) sessions
  pub each : AllZip (IsItemOf queries) (filter is_ask_line all_lines) (items sessions)

-- the fault is that of a line; the lines in front of it have none, and give these sessions
pub record HasFirstFault (queries : List Query) (all_lines : List (List ℕ)) (fault : AskFault)
    : Type 0 where
  pub front : List (List ℕ)
  pub line : List ℕ
  pub rest : List (List ℕ)
  pub sessions : Sessions
  pub split : all_lines ≡ front ++ line ∷ rest
  pub reached : sessions.current ≡ None → sessions.over ≡ []
  pub good : AreSessionsOf queries front (all sessions)
  pub is_one : is_ask_line line ≡ true
  pub number : fault.line ≡ length front + 1
  pub first : IsFirstFault queries sessions (fields line) fault.kind

-- a file gives the sessions of its lines, or the first fault of a line
pub record AsksByParts : Type 0 where
  pub ok : (queries : List Query) (bytes : List ℕ) (sessions : List (List Ask)) →
      (asks queries bytes ≡ Ok sessions) ↔ AreSessionsOf queries (lines bytes) sessions
  pub err : (queries : List Query) (bytes : List ℕ) (fault : AskFault) →
      (asks queries bytes ≡ Err fault) ↔ HasFirstFault queries (lines bytes) fault
