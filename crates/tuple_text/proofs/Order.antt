-- The first fault of some fields.
use Rattle.std.proofs.Common.{◌≡◌, ℕ, ◌+◌, ◌-◌, ◌≤◌, cond, eqb, ne_eqb, List, length, refl, sym, ap}
use Rattle.std.proofs.Common.{◌∙◌, subst, arith, inl, inr}
use Rattle.std.proofs.lemmas.Bool.{cases_lt}
use Rattle.text_parts.specs.Numbers.{IsDigitText, number_of}
use Rattle.rpq_base.specs.declared.data.TheConstants.{MAX_TIME}
use Rattle.rpq_base.specs.Names.{IsName}
use Rattle.tuple_text.specs.declared.read.BadLine.{BadLine}
use Rattle.tuple_text.specs.declared.read.BadLine.TheVariants.{Fields, Time, TimeRange, BadName, Op}
use Rattle.tuple_text.specs.declared.read.BadLine.TheVariants.{Until, Memory}
use Rattle.tuple_text.specs.Parts.{field_at, HasFault, IsFirstFault, rank}

-- no fault that the fields have is tested before this rank
abbrev pub Passes : ℕ → List (List ℕ) → Type 0
Passes k list = (other : BadLine) → HasFault other list → k ≤ rank other

-- none at this rank either
step : (k : ℕ) (list : List (List ℕ)) → Passes k list
    → ((other : BadLine) → rank other ≡ k → HasFault other list → ⊥) → Passes (k + 1) list
step k list p none other f =
    elim (cases_lt k (rank other)) [
      | inl l ↦ omega arith
      | inr g ↦ absurd (none other (omega (arith, p other f)) f)
    ]

-- a number of fields that is right
pub data IsCount (n : ℕ) : Type 0 where
  of_one : n ≡ 1 → IsCount n
  of_four : n ≡ 4 → IsCount n
  of_five : n ≡ 5 → IsCount n
  of_six : n ≡ 6 → IsCount n
  of_seven : n ≡ 7 → IsCount n

-- the number of fields is right
pub counted : (list : List (List ℕ)) → IsCount (length list) → Passes 2 list
counted list right (Fields n) f =
    elim right [
      | of_one e ↦ absurd (f.1 (f.0 ∙ e))
      | of_four e ↦ absurd (f.2 (f.0 ∙ e))
      | of_five e ↦ absurd (f.3 (f.0 ∙ e))
      | of_six e ↦ absurd (f.4 (f.0 ∙ e))
      | of_seven e ↦ absurd (f.5 (f.0 ∙ e))
    ]
counted list right Time f = omega arith
counted list right TimeRange f = omega arith
counted list right (BadName place) f = omega (arith, f.0)
counted list right Op f = omega arith
counted list right Until f = omega arith
counted list right Memory f = absurd f

-- the time is in digits
pub timed : (list : List (List ℕ)) → Passes 2 list → IsDigitText (field_at list 1) → Passes 3 list
timed list p digits = step 2 list p none
  where
    none : (other : BadLine) → rank other ≡ 2 → HasFault other list → ⊥
    none (Fields n) e f = omega (arith, e)
    none Time e f = f digits
    none TimeRange e f = omega (arith, e)
    none (BadName place) e f = omega (arith, e, f.0)
    none Op e f = omega (arith, e)
    none Until e f = omega (arith, e)
    none Memory e f = f

-- the time is in its range
pub ranged : (list : List (List ℕ)) → Passes 3 list → number_of (field_at list 1) ≤ MAX_TIME
    → Passes 4 list
ranged list p small = step 3 list p none
  where
    none : (other : BadLine) → rank other ≡ 3 → HasFault other list → ⊥
    none (Fields n) e f = omega (arith, e)
    none Time e f = omega (arith, e)
    none TimeRange e f = omega (arith, small, f.1)
    none (BadName place) e f = omega (arith, e, f.0)
    none Op e f = omega (arith, e)
    none Until e f = omega (arith, e)
    none Memory e f = f

-- the field at this place is a name
pub named : (k : ℕ) (list : List (List ℕ)) → 2 ≤ k → k ≤ 4 → Passes (2 + k) list
    → IsName (field_at list k) → Passes (2 + k + 1) list
named k list low high p name = step (2 + k) list p none
  where
    none : (other : BadLine) → rank other ≡ 2 + k → HasFault other list → ⊥
    none (Fields n) e f = omega (arith, e, low)
    none Time e f = omega (arith, e, low)
    none TimeRange e f = omega (arith, e, low)
    none (BadName place) e f =
        let same : k ≡ place = omega (arith, e) in
        f.3 (subst (λ (at : ℕ). IsName (field_at list at)) same name)
    none Op e f = omega (arith, e, high)
    none Until e f = omega (arith, e, high)
    none Memory e f = f

-- the sign is right, or there is none
pub signed : (list : List (List ℕ)) → Passes 7 list → (HasFault Op list → ⊥) → Passes 8 list
signed list p right = step 7 list p none
  where
    none : (other : BadLine) → rank other ≡ 7 → HasFault other list → ⊥
    none (Fields n) e f = omega (arith, e)
    none Time e f = omega (arith, e)
    none TimeRange e f = omega (arith, e)
    none (BadName place) e f = omega (arith, e, f.1)
    none Op e f = right f
    none Until e f = omega (arith, e)
    none Memory e f = f

-- the end is right, or there is none
pub ended : (list : List (List ℕ)) → Passes 8 list → (HasFault Until list → ⊥) → Passes 9 list
ended list p right = step 8 list p none
  where
    none : (other : BadLine) → rank other ≡ 8 → HasFault other list → ⊥
    none (Fields n) e f = omega (arith, e)
    none Time e f = omega (arith, e)
    none TimeRange e f = omega (arith, e)
    none (BadName place) e f = omega (arith, e, f.1)
    none Op e f = omega (arith, e)
    none Until e f = right f
    none Memory e f = f

-- fields that pass every test have no fault
pub faultless : (list : List (List ℕ)) → Passes 9 list → (fault : BadLine) → HasFault fault list → ⊥
faultless list p (Fields n) f = omega (arith, p (Fields n) f)
faultless list p Time f = omega (arith, p Time f)
faultless list p TimeRange f = omega (arith, p TimeRange f)
faultless list p (BadName place) f = omega (arith, p (BadName place) f, f.1)
faultless list p Op f = omega (arith, p Op f)
faultless list p Until f = omega (arith, p Until f)
faultless list p Memory f = f

-- the fault that is tested at this rank
tested_at : ℕ → ℕ → BadLine
tested_at k n = cond (eqb k 1) (Fields n) (cond (eqb k 2) Time (cond (eqb k 3) TimeRange (cond (eqb k 7) Op (cond (eqb k 8) Until (BadName (k - 2))))))

-- what fault the fields have at a rank is known by the rank
found_by_rank : (list : List (List ℕ)) (fault : BadLine) → HasFault fault list
    → fault ≡ tested_at (rank fault) (length list)
unfolding tested_at
found_by_rank list (Fields n) f = ap (λ count. Fields count) f.0
found_by_rank list Time f = refl
found_by_rank list TimeRange f = refl
found_by_rank list (BadName place) f =
    let one = ne_eqb (2 + place) 1 (λ e. omega (arith, e)) in
    let two = ne_eqb (2 + place) 2 (λ e. omega (arith, e, f.0)) in
    let three = ne_eqb (2 + place) 3 (λ e. omega (arith, e, f.0)) in
    let seven = ne_eqb (2 + place) 7 (λ e. omega (arith, e, f.1)) in
    let eight = ne_eqb (2 + place) 8 (λ e. omega (arith, e, f.1)) in
    let back : place ≡ 2 + place - 2 = omega arith in
    ap (λ at. BadName at) back ∙ sym (rw (one, two, three, seven, eight) refl)
found_by_rank list Op f = refl
found_by_rank list Until f = refl
found_by_rank list Memory f = absurd f

-- there is one first fault
pub same_fault : (list : List (List ℕ)) (fault other : BadLine) → IsFirstFault fault list
    → IsFirstFault other list → fault ≡ other
same_fault list fault other one two =
    let ranks : rank fault ≡ rank other = omega (arith, one.first other two.has, two.first fault one.has) in
    found_by_rank list fault one.has ∙ ap (λ k. tested_at k (length list)) ranks ∙ sym (found_by_rank list other two.has)
