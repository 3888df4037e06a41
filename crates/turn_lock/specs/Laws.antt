-- What follows for lists of lines.
use Rattle.std.specs.Prelude.{◌≡◌, ◌⊎◌, ℕ, ◌<◌, List, map, length, sum}
use Rattle.std.specs.List.{All, range_with_len}
use Rattle.turn_lock.specs.Lines.{StartsWith, own}

-- of two beginnings of the same lines, one begins the other
abbrev pub SeenIsInOrder : Type 0 → Type 0
SeenIsInOrder L =
    (lines seen other : List L) → StartsWith lines seen → StartsWith lines other
    → StartsWith seen other ⊎ StartsWith other seen

-- where each line is by a pass below the count, the passes' own lines are as many as all lines
abbrev pub OwnLinesAreAll : {L : Type 0} → (L → ℕ) → Type 0
OwnLinesAreAll {L} author =
    (count : ℕ) (lines : List L) → All (λ line. author line < count) lines
    → sum (map (λ number. length (own author number lines)) (range_with_len 0 count)) ≡ length lines
