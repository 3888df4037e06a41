-- Writing bytes on a sink.
use Rattle.std.specs.Prelude.{◌≡◌, ◌≢◌, ℕ, List, [], ◌++◌, Option}
use Rattle.std.specs.Io.KnownBytes.{append_known}

-- of these bytes a part at their front was written, and not all of them
pub record WritesProperPrefix (bytes : List ℕ) (before after : Option (List ℕ)) : Type 0 where
  pub front : List ℕ
  pub rest : List ℕ
  pub cut : bytes ≡ front ++ rest
  pub proper : rest ≢ []
  pub written : after ≡ append_known before front
