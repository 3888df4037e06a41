-- What outcomes say.
use Rattle.std.proofs.Common.{Result, Ok, Err, IsOk, OnOk, sym, true≢false}

-- what holds on success holds of a success
pub from_ok : {T E P : Type 0} (r : Result T E) → IsOk r → OnOk r P → P
from_ok (Ok x) is p = p
from_ok (Err d) is p = absurd (true≢false (sym is))
