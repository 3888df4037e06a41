-- Which asks can be answered.
use Rattle.std.specs.Prelude.{ℕ, ◌<◌, ◌≤◌, nat_lt, Bool, false, List, length, All}
use Rattle.ask_text.specs.declared.ask.Ask.{Ask}
use Rattle.ask_text.specs.declared.ask.Ask.TheVariants.{Answers, From, Pair, Count, Wait, Until}
use Rattle.ask_text.specs.declared.ask.Ask.TheVariants.{Stats, Clock, Ends, To}

-- the query of the ask, if it is of one, is among so many
abbrev pub IsInRange : ℕ → Ask → Type 0
IsInRange queries (Answers query) = query < queries
IsInRange queries (From query from) = query < queries
IsInRange queries (Pair query from to) = query < queries
IsInRange queries (Count query) = query < queries
IsInRange queries (Wait number) = Unit {0}
IsInRange queries (Until query from to) = query < queries
IsInRange queries Stats = Unit {0}
IsInRange queries Clock = Unit {0}
IsInRange queries (Ends query from) = query < queries
IsInRange queries (To query to) = query < queries

-- a session about so many queries: at most 1,024 asks, whose queries are among these
pub record IsSession (queries : ℕ) (asks : List Ask) : Type 0 where
  pub few : length asks ≤ 1024
  pub ranges : All (IsInRange queries) asks

-- whether an ask is answered as ended at this position: a wait for a later one is, and no other ask
abbrev pub ended_at : Ask → ℕ → Bool
ended_at (Wait number) position = nat_lt position number
ended_at (Answers query) position = false
ended_at (From query from) position = false
ended_at (Pair query from to) position = false
ended_at (Count query) position = false
ended_at (Until query from to) position = false
ended_at Stats position = false
ended_at Clock position = false
ended_at (Ends query from) position = false
ended_at (To query to) position = false
