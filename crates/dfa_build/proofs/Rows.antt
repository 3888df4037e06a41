-- The rows of follow positions, as lists.
use Rattle.std.proofs.Common.{◌≡◌, ℕ, ◌<◌, ◌≤◌, Bool, false, List, [], length, map, take, get_or, replicate, sym, ap, ◌∙◌, arith}
use Rattle.std.specs.List.{range_with_len}
use Rattle.std.proofs.lemmas.List.{length-map, length-take-le, get_or-map, get_or-take, get_or-replicate}
use Rattle.std.proofs.lemmas.List.Elements.{filter_agree}
use Rattle.std.proofs.lemmas.List.FromFn.{fill_by_all}
use Rattle.path_syntax.specs.Expression.{Expression}
use Rattle.dfa_build.specs.declared.position_set.PositionSet.{PositionSet}
use Rattle.dfa_build.specs.PositionSet.{has, row_has, numbers}
use Rattle.dfa_build.specs.Construction.{is_next}
use Rattle.dfa_build.proofs.Sets.{row_has-read}

pub row_has-empty : (n p q : ℕ) (set : PositionSet) → ((r : ℕ) → has set r ≡ false) → p < n → row_has (replicate n set) p q ≡ false
row_has-empty n p q set none h = row_has-read (replicate n set) p q ∙ ap (λ s. has s q) (get_or-replicate n p set (record { bits = 0 }) h) ∙ none q

pub numbers_agree : (f g : ℕ → Bool) → ((q : ℕ) → f q ≡ g q) → numbers f ≡ numbers g
unfolding numbers
numbers_agree f g same = filter_agree f g same (range_with_len 0 64)

-- the members of a set
abbrev list : PositionSet → List ℕ
list set' = numbers (has set')

row_is : (e : Expression) (rows : List PositionSet) (n : ℕ) → n ≤ length rows → ((p q : ℕ) → p < n → row_has rows p q ≡ is_next e 0 p q) →
    (k : ℕ) → k < n → get_or (map list (take n rows)) k [] ≡ numbers (is_next e 0 k)
row_is e rows n within each k h =
    let none : PositionSet = record { bits = 0 } in
    let front = length-take-le n rows within in
    get_or-map list (take n rows) k none [] (omega arith)
    ∙ ap list (get_or-take n rows k none h)
    ∙ numbers_agree (has (get_or rows k none)) (is_next e 0 k) (λ q. sym (row_has-read rows k q) ∙ each k q h)

pub rows_are : (e : Expression) (rows : List PositionSet) (n : ℕ) → n ≤ length rows →
    ((p q : ℕ) → p < n → row_has rows p q ≡ is_next e 0 p q) →
    map (λ set. numbers (has set)) (take n rows) ≡ map (λ p. numbers (is_next e 0 p)) (range_with_len 0 n)
rows_are e rows n within each =
    fill_by_all (λ p. numbers (is_next e 0 p)) (map list (take n rows)) n [] (length-map (take n rows) list ∙ length-take-le n rows within) (row_is e rows n within each)
