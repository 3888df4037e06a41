-- What a list was collected from, for any list that is told by its items.
use Rattle.std.proofs.Common.{◌≡◌, List, Option, map, ap, ◌∙◌, Ok, Err, Result}
use Rattle.std.specs.Iterator.{DrainsIf}
use Rattle.std.specs.Prelude.{IfOk}
use Rattle.std.proofs.lemmas.Iterator.{YieldsList, items_from_drains}

pub collected : {S A B W E : Type 0} {steps : S → Option A → S → Type 0} {v : A → B} {s : S} {all : List B} (items : W → List A) (r : Result W E) →
    IfOk r (λ found. (xs : List A) × DrainsIf steps (Unit {0}) s xs × (items found ≡ xs)) → YieldsList steps v s all → IfOk r (λ found. map v (items found) ≡ all)
collected {S} {A} {B} {W} {E} {steps} {v} items (Ok found) from yields = ap (map v) from.2 ∙ items_from_drains from.0 from.1 yields
collected items (Err fault) from yields = tt
