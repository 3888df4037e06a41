-- A line that is put together of pieces.
use Rattle.std.proofs.Common.{◌≡◌, ℕ, ◌+◌, ◌<◌, ◌≤◌, List, ◌++◌, length, length-append, take, drop}
use Rattle.std.proofs.Common.{get_or, ap, sym, ◌∙◌, arith}
use Rattle.std.specs.List.{flat_map}
use Rattle.std.proofs.lemmas.List.{take-append-drop, drop_more}
use Rattle.std.proofs.lemmas.List.Concat.{flat_map-append}

-- a piece more fits
pub piece_fits : {X : Type 0} (f : X → List ℕ) (xs : List X) (i : ℕ) (d : X) (line : List ℕ)
    → i < length xs → line ≡ flat_map f (take i xs) → length (flat_map f xs) ≤ 256
    → length line + length (f (get_or xs i d)) ≤ 256
piece_fits {X} f xs i d line inside so_far fits =
    let done = flat_map f (take i xs) in
    let next = f (get_or xs i d) in
    let later = flat_map f (drop (i + 1) xs) in
    let all : flat_map f xs ≡ done ++ (next ++ later) =
    ap (flat_map f) (sym (take-append-drop i xs))
    ∙ (flat_map-append f (take i xs) (drop i xs)
    ∙ ap (λ t. done ++ flat_map f t) (drop_more xs i d inside)) in
    omega (
      arith,
      fits,
      ap (λ (t : List ℕ). length t) all,
      length-append done (next ++ later),
      length-append next later,
      ap (λ (t : List ℕ). length t) so_far,
    )
