-- An answered ask, as contracts see it.
use Rattle.std.specs.Prelude.{ℕ, List}
use Rattle.ask_text.specs.declared.ask.Ask.{Ask}

-- an ask, the position at which it was answered, and its reply
pub record AnsweredValue : Type 0 where
  pub ask : Ask
  pub position : ℕ
  pub text : List ℕ
