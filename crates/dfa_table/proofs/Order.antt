-- The order in which new states come, in one list of steps and another after it, and row by row.
use Rattle.std.proofs.Common.{◌≡◌, ℕ, zero, suc, ◌+◌, ◌<◌, ◌≤◌, max, List, [], ◌∷◌, ◌++◌, length, get_or, take, drop, Option, Some, None, refl, sym, ap, ◌∙◌, subst, arith}
use Rattle.std.proofs.lemmas.List.{append-nil, take_more, take-append-drop}
use Rattle.std.proofs.lemmas.List.Concat.{flat_map-append}
use Rattle.std.proofs.lemmas.Option.{none-some, same_Some}
use Rattle.dfa_table.specs.Order.{IsInOrder, greatest_of, all_steps}

pub order_joined : (first second : List (Option ℕ)) (greatest : ℕ) → IsInOrder greatest first →
    IsInOrder (greatest_of greatest first) second → IsInOrder greatest (first ++ second)
order_joined [] second greatest ordered further = further
order_joined (None ∷ first) second greatest ordered further = order_joined first second greatest ordered further
order_joined (Some state ∷ first) second greatest ordered further =
    (ordered.0, order_joined first second (max greatest state) ordered.1 further)

pub greatest_joined : (first second : List (Option ℕ)) (greatest : ℕ) →
    greatest_of greatest (first ++ second) ≡ greatest_of (greatest_of greatest first) second
greatest_joined [] second greatest = refl
greatest_joined (None ∷ first) second greatest = greatest_joined first second greatest
greatest_joined (Some state ∷ first) second greatest = greatest_joined first second (max greatest state)

-- and the other way round
pub order_parts : (first second : List (Option ℕ)) (greatest : ℕ) → IsInOrder greatest (first ++ second) →
    IsInOrder greatest first × IsInOrder (greatest_of greatest first) second
order_parts [] second greatest ordered = (tt, ordered)
order_parts (None ∷ first) second greatest ordered = order_parts first second greatest ordered
order_parts (Some state ∷ first) second greatest ordered =
    let rest = order_parts first second (max greatest state) ordered.1 in
    ((ordered.0, rest.0), rest.1)

-- the greatest never falls
pub greatest_rises : (steps : List (Option ℕ)) (greatest : ℕ) → greatest ≤ greatest_of greatest steps
greatest_rises [] greatest = omega arith
greatest_rises (None ∷ steps) greatest = greatest_rises steps greatest
greatest_rises (Some state ∷ steps) greatest =
    let further = greatest_rises steps (max greatest state) in
    omega arith

-- a step leads to a state up to the greatest
pub step_below_greatest : (steps : List (Option ℕ)) (greatest place state : ℕ) → get_or steps place None ≡ Some state → state ≤ greatest_of greatest steps
step_below_greatest [] greatest place state is = absurd (none-some state is)
step_below_greatest (None ∷ steps) greatest zero state is = absurd (none-some state is)
step_below_greatest (None ∷ steps) greatest (suc place) state is = step_below_greatest steps greatest place state is
step_below_greatest (Some first ∷ steps) greatest zero state is =
    let same = same_Some first state is in
    let further = greatest_rises steps (max greatest first) in
    omega arith
step_below_greatest (Some first ∷ steps) greatest (suc place) state is = step_below_greatest steps (max greatest first) place state is

-- ---- rows

-- a step of a row leads to a state up to the greatest of all rows
pub row_below_greatest : (rows : List (List (Option ℕ))) (greatest row place state : ℕ) → get_or (get_or rows row []) place None ≡ Some state →
    state ≤ greatest_of greatest (all_steps rows)
row_below_greatest [] greatest row place state is = absurd (none-some state is)
row_below_greatest (first ∷ rows) greatest zero place state is =
    let here = step_below_greatest first greatest place state is in
    let further = greatest_rises (all_steps rows) (greatest_of greatest first) in
    omega (arith, greatest_joined first (all_steps rows) greatest)
row_below_greatest (first ∷ rows) greatest (suc row) place state is =
    let further = row_below_greatest rows (greatest_of greatest first) row place state is in
    omega (arith, greatest_joined first (all_steps rows) greatest)

-- the steps of one row more
pub steps_more : (rows : List (List (Option ℕ))) (row : ℕ) → row < length rows →
    all_steps (take (row + 1) rows) ≡ all_steps (take row rows) ++ get_or rows row []
steps_more rows row below =
    ap all_steps (take_more rows row [] below)
    ∙ (flat_map-append (λ (each : List (Option ℕ)). each) (take row rows) (get_or rows row [] ∷ [])
    ∙ ap (λ (last : List (Option ℕ)). all_steps (take row rows) ++ last) (append-nil (get_or rows row [])))

-- the first rows are in order where all are
pub order_of_first : (rows : List (List (Option ℕ))) (count : ℕ) → IsInOrder 0 (all_steps rows) → IsInOrder 0 (all_steps (take count rows))
order_of_first rows count ordered =
    let split : all_steps rows ≡ all_steps (take count rows) ++ all_steps (drop count rows) =
    ap all_steps (sym (take-append-drop count rows)) ∙ flat_map-append (λ (each : List (Option ℕ)). each) (take count rows) (drop count rows) in
    (order_parts (all_steps (take count rows)) (all_steps (drop count rows)) 0 (subst (IsInOrder 0) split ordered)).0

-- and a row is in order after those before it
pub order_of_row : (rows : List (List (Option ℕ))) (row : ℕ) → row < length rows → IsInOrder 0 (all_steps rows) →
    IsInOrder (greatest_of 0 (all_steps (take row rows))) (get_or rows row [])
order_of_row rows row below ordered =
    (order_parts (all_steps (take row rows)) (get_or rows row []) 0
    (subst (IsInOrder 0) (steps_more rows row below) (order_of_first rows (row + 1) ordered))).1
