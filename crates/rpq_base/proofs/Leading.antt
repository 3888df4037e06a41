-- The beginnings of names as numbers: how great they are, and that they are in the order of names.
use Rattle.std.proofs.Common.{◌≡◌, ◌≢◌, ◌<◌, ◌≤◌, ◌+◌, ◌*◌, ◌^◌, ℕ, zero, suc, List, [], ◌∷◌, slice_index, length, min, drop, refl, sym, ap, subst, ◌∙◌, arith}
use Rattle.std.specs.declared.cmp.Ordering.TheVariants.{Less, Equal, Greater}
use Rattle.std.specs.Int.{w64, from_be_bytes}
use Rattle.std.specs.Ordering.{nat_cmp, ordering_reverse, ordering_then}
use Rattle.std.proofs.Math.Nat.{mul_assoc, pow-suc}
use Rattle.std.proofs.lemmas.Cmp.{ranked, by_ranked, nat_list_cmp_total}
use Rattle.std.proofs.lemmas.List.{length-drop}
use Rattle.std.proofs.lemmas.Nat.{mul-le}
use Rattle.rpq_base.specs.Leading.{leading, AreBytes}
use Rattle.rpq_base.specs.Order.{name_cmp}

-- ---- their size

-- so many digits give less than this
pub leading_below : (places : ℕ) (name : List ℕ) → AreBytes name → leading places name < 256 ^ places
leading_below zero name bytes = omega arith
leading_below (suc places) name bytes =
    omega (arith, leading_below places name bytes, bytes places, pow-suc 256 places)

-- ---- their order

-- no bytes give 0
pub none_leading : (places : ℕ) → leading places [] ≡ 0
none_leading zero = refl
none_leading (suc places) = omega (arith, none_leading places)

-- the first digit is the most significant
leading_first : (places byte : ℕ) (name : List ℕ) →
    leading (suc places) (byte ∷ name) ≡ byte * 256 ^ places + leading places name
leading_first zero byte name = omega arith
leading_first (suc places) byte name =
    omega (
      arith,
      leading_first places byte name,
      mul_assoc byte (256 ^ places) 256,
      ap (λ weight. byte * weight) (pow-suc 256 places),
    )

-- digits that are less are those of an earlier name
leading_less : (places : ℕ) (first second : List ℕ) → AreBytes first → AreBytes second →
    leading places first < leading places second → name_cmp first second ≡ Less
leading_less zero first second bytes others less = absurd (omega (arith, less))
leading_less (suc places) [] [] bytes others less = absurd (omega (arith, less))
leading_less (suc places) [] (y ∷ ys) bytes others less = refl
leading_less (suc places) (x ∷ xs) [] bytes others less = absurd (omega (arith, less, none_leading (suc places)))
leading_less (suc places) (x ∷ xs) (y ∷ ys) bytes others less =
    let left = leading_first places x xs in
    let right = leading_first places y ys in
    let rest = name_cmp xs ys in
    by_ranked (x < y) (x ≡ y) (y < x) (nat_cmp x y) (ranked x y (nat_cmp x y) refl)
    (λ is before. ap (λ order. ordering_then order rest) is)
    (λ is same. ap (λ order. ordering_then order rest) is
    ∙ leading_less places xs ys (λ place. bytes (suc place)) (λ place. others (suc place))
    (omega (arith, less, left, right, ap (λ digit. digit * 256 ^ places) same)))
    (λ is after. absurd (omega (
      arith,
      less,
      left,
      right,
      mul-le (suc y) (256 ^ places) x (256 ^ places) (omega (arith, after)) (omega arith),
      leading_below places ys (λ place. others (suc place)),
    )))

-- names whose first digits, so many, differ are in the order of these
pub leading_decides : (places : ℕ) (first second : List ℕ) (key other : ℕ) → AreBytes first → AreBytes second →
    key ≡ leading places first → other ≡ leading places second → key ≢ other → nat_cmp key other ≡ name_cmp first second
leading_decides places first second key other bytes others is also differ =
    by_ranked (key < other) (key ≡ other) (other < key) (nat_cmp key other) (ranked key other (nat_cmp key other) refl)
    (λ order before. order ∙ sym (leading_less places first second bytes others (omega (arith, is, also, before))))
    (λ order equal. absurd (differ equal))
    (λ order after. order
    ∙ sym (nat_list_cmp_total.antisymm first second
    ∙ ap ordering_reverse (leading_less places second first others bytes (omega (arith, is, also, after)))))

-- names with the same digits at first are in the order of what follows
same_front : (place : ℕ) (first second : List ℕ) → AreBytes first → AreBytes second →
    place ≤ length first → place ≤ length second → leading place first ≡ leading place second →
    name_cmp first second ≡ name_cmp (drop place first) (drop place second)
same_front zero first second bytes others enough also same = refl
same_front (suc place) [] second bytes others enough also same = absurd (omega (arith, enough))
same_front (suc place) (x ∷ xs) [] bytes others enough also same = absurd (omega (arith, also))
same_front (suc place) (x ∷ xs) (y ∷ ys) bytes others enough also same =
    let left = leading_first place x xs in
    let right = leading_first place y ys in
    let rest = name_cmp xs ys in
    by_ranked (x < y) (x ≡ y) (y < x) (nat_cmp x y) (ranked x y (nat_cmp x y) refl)
    (λ is before. absurd (omega (
      arith,
      same,
      left,
      right,
      mul-le (suc x) (256 ^ place) y (256 ^ place) (omega (arith, before)) (omega arith),
      leading_below place xs (λ next. bytes (suc next)),
    )))
    (λ is equal. ap (λ order. ordering_then order rest) is
    ∙ same_front place xs ys (λ next. bytes (suc next)) (λ next. others (suc next)) (omega (arith, enough)) (omega (arith, also))
    (omega (arith, same, left, right, ap (λ digit. digit * 256 ^ place) equal)))
    (λ is after. absurd (omega (
      arith,
      same,
      left,
      right,
      mul-le (suc y) (256 ^ place) x (256 ^ place) (omega (arith, after)) (omega arith),
      leading_below place ys (λ next. others (suc next)),
    )))

-- with the same digits, the first of them are the same
pub same_before : (more place : ℕ) (first second : List ℕ) → AreBytes first → AreBytes second →
    leading (place + more) first ≡ leading (place + more) second → leading place first ≡ leading place second
same_before zero place first second bytes others same =
    subst (λ places. leading places first ≡ leading places second) (omega arith) same
same_before (suc more) place first second bytes others same =
    let next : place + suc more ≡ suc (place + more) = omega arith in
    let all : leading (suc (place + more)) first ≡ leading (suc (place + more)) second =
    subst (λ places. leading places first ≡ leading places second) next same in
    same_before more place first second bytes others (omega (arith, all, bytes (place + more), others (place + more)))

-- ---- where one name ends

none_before : (first second : List ℕ) → length first ≡ 0 → 0 < length second → name_cmp first second ≡ Less
none_before [] [] none some = absurd (omega (arith, some))
none_before [] (y ∷ ys) none some = refl
none_before (x ∷ xs) second none some = absurd (omega (arith, none))

none_behind : (first second : List ℕ) → 0 < length first → length second ≡ 0 → name_cmp first second ≡ Greater
none_behind [] second some none = absurd (omega (arith, some))
none_behind (x ∷ xs) [] some none = refl
none_behind (x ∷ xs) (y ∷ ys) some none = absurd (omega (arith, none))

none_beside : (first second : List ℕ) → length first ≡ 0 → length second ≡ 0 → name_cmp first second ≡ Equal
none_beside [] [] none also = refl
none_beside [] (y ∷ ys) none also = absurd (omega (arith, also))
none_beside (x ∷ xs) second none also = absurd (omega (arith, none))

-- names with the same digits as far as both go are in the order of their lengths
pub lengths_decide : (both : ℕ) (first second : List ℕ) → AreBytes first → AreBytes second →
    both ≡ min (length first) (length second) → leading both first ≡ leading both second →
    nat_cmp (length first) (length second) ≡ name_cmp first second
lengths_decide both first second bytes others least same =
    let front = same_front both first second bytes others (omega (arith, least)) (omega (arith, least)) same in
    let left = length-drop both first in
    let right = length-drop both second in
    by_ranked (length first < length second) (length first ≡ length second) (length second < length first)
    (nat_cmp (length first) (length second)) (ranked (length first) (length second) (nat_cmp (length first) (length second)) refl)
    (λ is before. is ∙ sym (front
    ∙ none_before (drop both first) (drop both second) (omega (arith, left, least, before)) (omega (arith, right, least, before))))
    (λ is equal. is ∙ sym (front
    ∙ none_beside (drop both first) (drop both second) (omega (arith, left, least, equal)) (omega (arith, right, least, equal))))
    (λ is after. is ∙ sym (front
    ∙ none_behind (drop both first) (drop both second) (omega (arith, left, least, after)) (omega (arith, right, least, after))))

-- ---- by many bytes at once

-- where the digits before a place are the same and those up to another one differ, what is between
-- decides
pub chunk_decides : (place next weight : ℕ) (first second : List ℕ) (here there : ℕ) → AreBytes first → AreBytes second →
    leading place first ≡ leading place second →
    leading next first ≡ leading place first * weight + here → leading next second ≡ leading place second * weight + there →
    here ≢ there → nat_cmp here there ≡ name_cmp first second
chunk_decides place next weight first second here there bytes others same left right differ =
    let before = ap (λ digits. digits * weight) same in
    by_ranked (here < there) (here ≡ there) (there < here) (nat_cmp here there) (ranked here there (nat_cmp here there) refl)
    (λ is less. is ∙ sym (leading_less next first second bytes others (omega (arith, before, left, right, less))))
    (λ is equal. absurd (differ equal))
    (λ is after. is
    ∙ sym (nat_list_cmp_total.antisymm first second
    ∙ ap ordering_reverse (leading_less next second first others bytes (omega (arith, before, left, right, after)))))

-- where what is between doesn't differ, the digits up to there are the same
pub chunk_same : (place next weight : ℕ) (first second : List ℕ) (here there : ℕ) →
    leading place first ≡ leading place second →
    leading next first ≡ leading place first * weight + here → leading next second ≡ leading place second * weight + there →
    here ≡ there → leading next first ≡ leading next second
chunk_same place next weight first second here there same left right equal =
    let before = ap (λ digits. digits * weight) same in
    omega (arith, before, left, right, equal)

-- the last digits that both have decide, and then the lengths
pub last_decides : (place both weight : ℕ) (first second : List ℕ) (here there : ℕ) → AreBytes first → AreBytes second →
    both ≡ min (length first) (length second) → leading place first ≡ leading place second →
    leading both first ≡ leading place first * weight + here → leading both second ≡ leading place second * weight + there →
    ordering_then (nat_cmp here there) (nat_cmp (length first) (length second)) ≡ name_cmp first second
last_decides place both weight first second here there bytes others least same left right =
    let lengths = nat_cmp (length first) (length second) in
    by_ranked (here < there) (here ≡ there) (there < here) (nat_cmp here there) (ranked here there (nat_cmp here there) refl)
    (λ is less. ap (λ order. ordering_then order lengths) is ∙ (sym is
    ∙ chunk_decides place both weight first second here there bytes others same left right (λ equal. absurd (omega (arith, less, equal)))))
    (λ is equal. ap (λ order. ordering_then order lengths) is
    ∙ lengths_decide both first second bytes others least
    (chunk_same place both weight first second here there same left right equal))
    (λ is after. ap (λ order. ordering_then order lengths) is ∙ (sym is
    ∙ chunk_decides place both weight first second here there bytes others same left right (λ equal. absurd (omega (arith, after, equal)))))

-- ---- bytes as one number

-- a digit more
pub digit_more : (name : List ℕ) (place next : ℕ) → next ≡ suc place → leading next name ≡ leading place name * 256 + slice_index name place
digit_more name place next is = ap (λ places. leading places name) is

-- eight digits more
pub eight_more : (name : List ℕ) (place chunk : ℕ) →
    chunk ≡ from_be_bytes w64 (slice_index name place ∷ slice_index name (place + 1) ∷ slice_index name (place + 2) ∷ slice_index name (place + 3) ∷ slice_index name (place + 4) ∷ slice_index name (place + 5) ∷ slice_index name (place + 6) ∷ slice_index name (place + 7) ∷ []) →
    leading (place + 8) name ≡ leading place name * 2 ^ 64 + chunk
eight_more name place chunk is =
    let more = digit_more name in
    omega (
      arith,
      is,
      more place (place + 1) (omega arith),
      more (place + 1) (place + 2) (omega arith),
      more (place + 2) (place + 3) (omega arith),
      more (place + 3) (place + 4) (omega arith),
      more (place + 4) (place + 5) (omega arith),
      more (place + 5) (place + 6) (omega arith),
      more (place + 6) (place + 7) (omega arith),
      more (place + 7) (place + 8) (omega arith),
    )
