-- What follows from a success.
use Rattle.std.specs.Prelude.{IfOk, Result, Ok, Err}

pub if_ok_map : {T E : Type 0} (P Q : T → Type 0) → ((x : T) → P x → Q x) →
    (result : Result T E) → IfOk result P → IfOk result Q
if_ok_map P Q gives (Ok x) given = gives x given
if_ok_map P Q gives (Err e) given = tt
