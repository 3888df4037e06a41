-- Inserts that say until when they hold.
use Rattle.std.specs.Prelude.{ℕ, min, Bool, true, nat_lt, Option, Some, None}
use Rattle.rpq_base.specs.declared.data.Act.{Act}
use Rattle.rpq_base.specs.declared.data.Act.TheVariants.{Insert, Delete, Tick}

-- the end of its own that an act gives the edge which it inserts, if it gives one
abbrev pub own_end : Act → Option ℕ
own_end (Insert edge until) = until
own_end (Delete edge) = None
own_end Tick = None

-- whether a clock is below an end, if there is one
abbrev pub is_before_end : ℕ → Option ℕ → Bool
is_before_end now None = true
is_before_end now (Some end) = nat_lt now end

-- a number, or an end where there is one that is less
abbrev pub at_most_end : ℕ → Option ℕ → ℕ
at_most_end number None = number
at_most_end number (Some end) = min number end
