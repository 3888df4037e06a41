-- What an answer tells, as one fact follows from another.
use Rattle.std.proofs.Common.{Result, Ok, Err, OnErr}

-- a fact that holds whatever was answered
pub on_err : {A E P : Type 0} (result : Result A E) → P → OnErr result P
on_err (Ok x) fact = tt
on_err (Err e) fact = fact
