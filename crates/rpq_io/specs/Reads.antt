-- What a read of a source answers.
use Rattle.std.specs.Prelude.{ℕ, ◌==◌, Bool, false, Result, Ok, Err}

-- whether a read told the end of its source: it answered that there are 0 bytes
abbrev pub tells_end : {E : Type 0} → Result ℕ E → Bool
tells_end (Ok count) = count == 0
tells_end (Err _) = false
