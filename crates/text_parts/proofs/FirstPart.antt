-- A byte onto the first of some parts.
use Rattle.std.proofs.Common.{ℕ, List, [], ◌∷◌}
use Rattle.std.specs.List.{onto_first, All}
use Rattle.std.proofs.lemmas.List.Elements.{All-nil, All-cons, All-head, All-tail}

-- what holds of the byte and of each byte of the parts holds of each byte of the parts with it
pub all_onto_first : (P : ℕ → Type 0) (byte : ℕ) (parts : List (List ℕ)) → P byte → All (All P) parts → All (All P) (onto_first byte parts)
all_onto_first P byte [] p h = All-cons (All P) (byte ∷ []) [] (All-cons P byte [] p (All-nil P)) (All-nil (All P))
all_onto_first P byte (part ∷ parts) p h =
    All-cons (All P) (byte ∷ part) parts (All-cons P byte part p (All-head (All P) part parts h)) (All-tail (All P) part parts h)
