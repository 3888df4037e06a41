-- Facts of a call's outcome.
use Rattle.std.proofs.Common.{◌≡◌, Result, Ok, Err, sym, ◌∙◌}
use Rattle.std.specs.Prelude.{IfOk, OnOk, OnErr}
use Rattle.std.specs.Result.{IsErrAnd}
use Rattle.std.proofs.lemmas.Result.{err_from_is_err_and}

-- a fact of a value from two others
pub ok_from_both : {X Y : Type 0} (result : Result X Y) (P Q G : X → Type 0) → ((x : X) → P x → Q x → G x) →
    IfOk result P → IfOk result Q → IfOk result G
ok_from_both (Ok x) P Q G gives p q = gives x p q
ok_from_both (Err e) P Q G gives p q = tt

-- what holds, holds where the call answers a value
pub on_ok : {T E P : Type 0} (result : Result T E) → P → OnOk result P
on_ok (Ok x) p = p
on_ok (Err e) p = tt

-- what holds, holds where the call answers an error
pub on_err : {T E P : Type 0} (result : Result T E) → P → OnErr result P
on_err (Ok x) p = tt
on_err (Err e) p = p

-- an error that is handed on is the one of the call
pub handed_on : {T E : Type 0} (result : Result T E) (fault other : E) →
    IsErrAnd result (λ handed. handed ≡ fault) → result ≡ Err other → fault ≡ other
handed_on result fault other hands is =
    let found = err_from_is_err_and result hands in
    let both = sym found.1 ∙ is in
    let same : found.0 ≡ other = cc in
    sym found.2 ∙ same
