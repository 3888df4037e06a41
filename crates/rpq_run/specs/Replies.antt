-- The replies of all sessions. Only private contracts cite this file.
use Rattle.std.specs.Prelude.{ℕ, List, map}
use Rattle.ask_text.specs.Answered.{AnsweredValue}

-- the most sessions of a run
abbrev pub session_limit : ℕ
session_limit = 64

-- the replies of each session
abbrev pub texts_of : List (List AnsweredValue) → List (List (List ℕ))
texts_of sessions = map (λ own. map (λ one. one.text) own) sessions
