-- Lists that stand one after another.
use Rattle.std.proofs.Common.{◌≡◌, ℕ, ◌+◌, ◌-◌, ◌<◌, ◌≤◌, List, [], ◌∷◌, ◌++◌, length, get_or, take, drop, slice_range, sym, ap, ap₂, subst, ◌∙◌, refl, ⊎_elim, arith}
use Rattle.std.proofs.lemmas.Bool.{cases_eq}
use Rattle.std.proofs.lemmas.List.{take_all, get_or_read, drop_at, drop-append-le, take-append-le, get_or_past, get_or_push, get_or_append_left, length_push, length-append, length-drop}
use Rattle.std.proofs.lemmas.List.FromFn.{fill_by_all, length-map-range_with_len, get_or-map-range_with_len}
use Rattle.dfa_table.specs.Befores.{list_at, part_at, parts_of, AreStarts, AreJoined}

-- a part stays where more comes behind
part_stays : (states list : List ℕ) (from to : ℕ) → from ≤ to → to ≤ length states →
    slice_range (states ++ list) from to ≡ slice_range states from to
part_stays states list from to rises within =
    ap (take (to - from)) (drop-append-le from states list (omega arith))
    ∙ take-append-le (to - from) (drop from states) list (omega (arith, length-drop from states))

-- what came behind is a part
part_behind : (states list : List ℕ) (to : ℕ) → to ≡ length states + length list →
    slice_range (states ++ list) (length states) to ≡ list
part_behind states list to is =
    ap (take (to - length states)) (drop_at states list (length states) refl)
    ∙ take_all (to - length states) list (omega (arith, is))

-- at first there is no list
pub joined_first : (lists : List (List ℕ)) (starts states : List ℕ) → starts ≡ 0 ∷ [] →
    states ≡ [] → AreJoined lists 0 starts states
joined_first lists starts states first none =
    let size : length starts ≡ 1 = ap length first in record {
      as_many = omega (arith, size);
      last = ap (λ (list : List ℕ). get_or list 0 0) first ∙ sym (ap length none);
      within = λ place low. absurd (omega (arith, low, size));
      each = λ place low. absurd (omega (arith, low));
    }

-- one list more
module _ (lists : List (List ℕ)) (count : ℕ) (starts states longer all : List ℕ)
    (are : AreJoined lists count starts states) (joined : all ≡ states ++ list_at lists count)
    (pushed : longer ≡ starts ++ length all ∷ []) where
  old : (place : ℕ) → place ≤ count → get_or longer place 0 ≡ get_or starts place 0
  old place low =
      ap (λ (list : List ℕ). get_or list place 0) pushed
      ∙ get_or_append_left starts (length all ∷ []) 0 place (omega (arith, low, are.as_many))

  new : get_or longer (count + 1) 0 ≡ length all
  new =
      ap (λ (list : List ℕ). get_or list (count + 1) 0) pushed
      ∙ get_or_push starts (length all) 0 (count + 1) are.as_many

  size : length all ≡ length states + length (list_at lists count)
  size = ap length joined ∙ length-append states (list_at lists count)

  rising : AreStarts longer all
  rising place low = ⊎_elim
      (λ (same : place ≡ count).
      subst (λ (n : ℕ). (get_or longer n 0 ≤ get_or longer (n + 1) 0)
      × (get_or longer (n + 1) 0 ≤ length all)) (sym same)
      (omega (arith, old count (omega arith), new, size, are.last), omega (arith, new)))
      (λ (apart : place ≡ count → ⊥).
      let more : length longer ≡ length starts + 1 =
      ap length pushed ∙ length_push starts (length all) in
      let below : place < count = omega (arith, low, apart, more, are.as_many) in
      let was = are.within place (omega (arith, below, are.as_many)) in
      let here = old place (omega (arith, below)) in
      let next = old (place + 1) (omega (arith, below)) in
      (omega (arith, was.0, here, next), omega (arith, was.1, next, size)))
      (cases_eq place count)

  last_part : part_at longer all count ≡ list_at lists count
  last_part =
      ap₂ (λ (from to : ℕ). slice_range all from to) (old count (omega arith) ∙ are.last) new
      ∙ (ap (λ (list : List ℕ). slice_range list (length states) (length all)) joined
      ∙ part_behind states (list_at lists count) (length all) size)

  old_part : (place : ℕ) → place < count → part_at longer all place ≡ list_at lists place
  old_part place below =
      let was = are.within place (omega (arith, below, are.as_many)) in
      ap₂ (λ (from to : ℕ). slice_range all from to) (old place (omega (arith, below)))
      (old (place + 1) (omega (arith, below)))
      ∙ (ap (λ (list : List ℕ). slice_range list (get_or starts place 0)
      (get_or starts (place + 1) 0)) joined
      ∙ (part_stays states (list_at lists count) (get_or starts place 0)
      (get_or starts (place + 1) 0) was.0 was.1
      ∙ are.each place below))

  pub joined_more : AreJoined lists (count + 1) longer all
  joined_more = record {
    as_many = omega (arith, ap length pushed, length_push starts (length all), are.as_many);
    last = new;
    within = rising;
    each = λ place low. ⊎_elim
        (λ (same : place ≡ count).
        subst (λ (n : ℕ). part_at longer all n ≡ list_at lists n) (sym same) last_part)
        (λ (apart : place ≡ count → ⊥). old_part place (omega (arith, low, apart)))
        (cases_eq place count);
  }

-- all lists
pub joined_all : (lists : List (List ℕ)) (count : ℕ) (starts states : List ℕ) →
    AreJoined lists count starts states → count ≤ length lists → length lists ≤ count →
    parts_of starts states ≡ lists
joined_all lists count starts states are few many =
    sym (fill_by_all (part_at starts states) lists (length starts - 1) []
    (omega (arith, few, many, are.as_many))
    (λ place low. sym (are.each place (omega (arith, low, are.as_many)))))

-- the part of one list
pub part_found : (starts states : List ℕ) (place : ℕ) → place + 1 < length starts →
    part_at starts states place ≡ list_at (parts_of starts states) place
part_found starts states place low =
    sym (get_or-map-range_with_len (part_at starts states) 0 (length starts - 1) place place []
    (omega (arith, low)) (omega arith))

pub part_missing : (starts states : List ℕ) (place : ℕ) → length starts ≤ place + 1 →
    [] ≡ list_at (parts_of starts states) place
part_missing starts states place high =
    sym (get_or_past (parts_of starts states) place []
    (omega (
      arith,
      high,
      length-map-range_with_len (part_at starts states) 0
          (length starts - 1),
    )))

-- where it starts and ends, as it was read
pub record AreEnds (starts states : List ℕ) (place from to : ℕ) : Type 0 where
  pub from_is : from ≡ get_or starts place 0
  pub to_is : to ≡ get_or starts (place + 1) 0
  pub rises : from ≤ to
  pub within : to ≤ length states

pub ends_are : (starts states : List ℕ) (place from to : ℕ) → place + 1 < length starts →
    AreStarts starts states → from ≡ get_or starts place from →
    to ≡ get_or starts (place + 1) to → AreEnds starts states place from to
ends_are starts states place from to low are first second =
    let from_is : from ≡ get_or starts place 0 =
    get_or_read starts place from (omega (arith, low)) first 0 in
    let to_is : to ≡ get_or starts (place + 1) 0 =
    get_or_read starts (place + 1) to low second 0 in
    let within = are place low in
    record {
      from_is = from_is;
      to_is = to_is;
      rises = omega (arith, from_is, to_is, within.0);
      within = omega (arith, to_is, within.1);
    }
