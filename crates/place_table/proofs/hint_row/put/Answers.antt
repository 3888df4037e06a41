use Rattle.std.proofs.Common.{◌≡◌, ◌<◌, ℕ, List, length, nat_eq, ap, sym, subst, ◌∙◌, true≢false}
use Rattle.std.specs.Map.{lookup}
use Rattle.place_table.specs.Rows.{AreRising, IsSplit, state_in}
use Rattle.place_table.proofs.Ordered.{lookup_set, lookup_more, rising_more}
use Rattle.place_table.proofs.hint_row.put.Goals as goal

-- the state stands at the place
abbrev Stands : List (ℕ × ℕ) → ℕ → ℕ → Type 0
Stands row place state = (place < length row) × (state_in row place ≡ state)

pub returns-then-stands_at-clause-set : goal.returns-then-stands_at-clause-set
returns-then-stands_at-clause-set c each =
    let row = c.args.hints.now.items in
    let place = c.count_below-place.result in
    let split = subst (λ (l : List (ℕ × ℕ)). IsSplit l c.args.state place) c.as_slice.ensures
    c.count_below-place.ensures in
    let (within, is) = subst (λ (l : List (ℕ × ℕ)). Stands l place c.args.state)
    c.as_slice-2.ensures (c.stands_at.ensures.0 c.if-stands_at.true) in
    ap (lookup (nat_eq each)) c.set_at.ensures
    ∙ lookup_set row place c.args.state c.args.number split.below within is each

pub returns-clause-rising : goal.returns-clause-rising
returns-clause-rising c =
    let row = c.args.hints.now.items in
    let place = c.count_below-place.result in
    let split = subst (λ (l : List (ℕ × ℕ)). IsSplit l c.args.state place) c.as_slice.ensures
    c.count_below-place.ensures in
    subst AreRising (sym c.in_ok-insert.ensures.ok)
    (rising_more row c.args.state place c.requires split
    (λ there. true≢false (sym (c.stands_at.ensures.1
    (subst (λ (l : List (ℕ × ℕ)). Stands l place c.args.state) (sym c.as_slice-2.ensures) there))
    ∙ c.if-stands_at.false)) c.args.number)

pub returns-clause-set : goal.returns-clause-set
returns-clause-set c each =
    let row = c.args.hints.now.items in
    let place = c.count_below-place.result in
    let split = subst (λ (l : List (ℕ × ℕ)). IsSplit l c.args.state place) c.as_slice.ensures
    c.count_below-place.ensures in
    ap (lookup (nat_eq each)) c.in_ok-insert.ensures.ok
    ∙ lookup_more row c.args.state place c.requires split
    (λ there. true≢false (sym (c.stands_at.ensures.1
    (subst (λ (l : List (ℕ × ℕ)). Stands l place c.args.state) (sym c.as_slice-2.ensures) there))
    ∙ c.if-stands_at.false)) c.args.number each
