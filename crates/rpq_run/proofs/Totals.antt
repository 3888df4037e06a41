-- How many entries a history has, by the tuples of each stream.
use Rattle.std.proofs.Common.{◌≡◌, ◌≢◌, ℕ, zero, suc, ◌+◌, ◌<◌, ◌≤◌, Bool, true, false, ◌==◌, cond, List}
use Rattle.std.proofs.Common.{[], ◌∷◌, length, Option, Some, refl, ap, sym, ◌∙◌, arith, inl, inr}
use Rattle.std.specs.Prelude.{map, slice_get, sum}
use Rattle.std.specs.List.{All, filter}
use Rattle.std.proofs.lemmas.Bool.{cases_eq, ne_eqb}
use Rattle.std.proofs.lemmas.Bool.Decides.{eqb_tells}
use Rattle.std.proofs.lemmas.List.Elements.{All-head, All-tail}
use Rattle.std.proofs.lemmas.List.Sums.{sum_by-cons}
use Rattle.rpq_base.specs.declared.data.Entry.{Entry}
use Rattle.stream_tuples.specs.declared.faults.FaultPolicy.{FaultPolicy}
use Rattle.stream_tuples.specs.History.{IsNumberOf, own_tuples}
use Rattle.rpq_run.specs.Done.{tuple_count}

-- the tuples of a history with one entry more in front, by whether it is the stream's own
own_front : (number : ℕ) (entry : Entry) (later : List Entry) (own : Bool)
    → (entry.stream == number) ≡ own
    → length (own_tuples number (entry ∷ later))
    ≡ cond own (length (own_tuples number later) + 1) (length (own_tuples number later))
own_front number entry later true is =
    ap (λ (b : Bool). length (map (λ (e : Entry). e.tuple)
    (cond b (entry ∷ filter (λ (e : Entry). e.stream == number) later)
    (filter (λ (e : Entry). e.stream == number) later)))) is ∙ omega arith
own_front number entry later false is =
    ap (λ (b : Bool). length (map (λ (e : Entry). e.tuple)
    (cond b (entry ∷ filter (λ (e : Entry). e.stream == number) later)
    (filter (λ (e : Entry). e.stream == number) later)))) is

own_one : (number : ℕ) (entry : Entry) (later : List Entry) → entry.stream ≡ number
    → length (own_tuples number (entry ∷ later)) ≡ length (own_tuples number later) + 1
own_one number entry later is = elim (eqb_tells entry.stream number) [
  | inl same ↦ own_front number entry later true same.0
  | inr other ↦ absurd (other.1 is)
]

own_other : (number : ℕ) (entry : Entry) (later : List Entry) → entry.stream ≢ number
    → length (own_tuples number (entry ∷ later)) ≡ length (own_tuples number later)
own_other number entry later is_not =
    own_front number entry later false (ne_eqb entry.stream number is_not)

-- how many entries are of so many streams, the first of which has this number
abbrev pub own_total : ℕ → ℕ → List Entry → ℕ
own_total number zero history = 0
own_total number (suc count) history =
    length (own_tuples number history) + own_total (number + 1) count history

-- an entry of a stream before these isn't counted
total_before : (number count : ℕ) (entry : Entry) (later : List Entry) → entry.stream < number
    → own_total number count (entry ∷ later) ≡ own_total number count later
total_before number zero entry later before = refl
total_before number (suc count) entry later before = omega (
  arith,
  own_other number entry later (λ is. omega (arith, is, before)),
  total_before (number + 1) count entry later (omega (arith, before)),
)

-- an entry of one of them is counted once
total_one : (number count : ℕ) (entry : Entry) (later : List Entry) → number ≤ entry.stream
    → entry.stream < number + count
    → own_total number count (entry ∷ later) ≡ own_total number count later + 1
total_one number zero entry later from below = absurd (omega (arith, from, below))
total_one number (suc count) entry later from below = elim (cases_eq entry.stream number) [
  | inl is ↦ omega (
    arith,
    own_one number entry later is,
    total_before (number + 1) count entry later (omega (arith, is)),
  )
  | inr is_not ↦ omega (
    arith,
    own_other number entry later is_not,
    total_one (number + 1) count entry later (omega (arith, from, is_not)) (omega (arith, below)),
  )
]

total_none : (number count : ℕ) → own_total number count [] ≡ 0
total_none number zero = refl
total_none number (suc count) = omega (arith, total_none (number + 1) count)

-- a history of so many streams has as many entries
pub all_counted : (count : ℕ) (history : List Entry)
    → All (λ (e : Entry). IsNumberOf count e.stream) history → length history ≡ own_total 1 count history
all_counted count [] all = sym (total_none 1 count)
all_counted count (entry ∷ later) all =
    let first = All-head (λ (e : Entry). IsNumberOf count e.stream) entry later all in
    let rest = all_counted count later (All-tail (λ (e : Entry). IsNumberOf count e.stream) entry later all) in
    omega (arith, rest, total_one 1 count entry later first.first (omega (arith, first.last)))

-- no stream has more entries than its file has tuples, in a history that may have so many
abbrev pub AreFew : FaultPolicy → ℕ → ℕ → List (Option (List ℕ)) → List Entry → Type 0
AreFew policy cap number files history = (place : ℕ) (file : Option (List ℕ)) → slice_get files place ≡ Some file
    → length (own_tuples (number + place) history) ≤ tuple_count policy cap file

later_few : (policy : FaultPolicy) (cap number : ℕ) (file : Option (List ℕ)) (files : List (Option (List ℕ))) (history : List Entry)
    → AreFew policy cap number (file ∷ files) history → AreFew policy cap (number + 1) files history
later_few policy cap number file files history few place other is =
    let same : number + (suc place) ≡ (number + 1) + place = omega arith in
    let at = few (suc place) other is in
    omega (arith, at, ap (λ n. length (own_tuples n history)) same)

pub sum_front : (n : ℕ) (ns : List ℕ) → sum (n ∷ ns) ≡ n + sum ns
sum_front n ns = sum_by-cons (λ m. m) n ns

zero_more : (n : ℕ) → n + 0 ≡ n
zero_more n = omega arith

-- so all together have no more
pub few_in_all : (policy : FaultPolicy) (cap number : ℕ) (files : List (Option (List ℕ))) (history : List Entry)
    → AreFew policy cap number files history → own_total number (length files) history ≤ sum (map (tuple_count policy cap) files)
few_in_all policy cap number [] history few = omega arith
few_in_all policy cap number (file ∷ files) history few =
    let first = few 0 file refl in
    omega (
      arith,
      first,
      ap (λ n. length (own_tuples n history)) (zero_more number),
      few_in_all policy cap (number + 1) files history (later_few policy cap number file files history few),
      sum_front (tuple_count policy cap file) (map (tuple_count policy cap) files),
    )

-- and fewer, where one has fewer
pub fewer_in_all : (policy : FaultPolicy) (cap number : ℕ) (files : List (Option (List ℕ))) (history : List Entry) (place : ℕ)
    (file : Option (List ℕ)) → AreFew policy cap number files history → slice_get files place ≡ Some file
    → length (own_tuples (number + place) history) < tuple_count policy cap file
    → own_total number (length files) history < sum (map (tuple_count policy cap) files)
fewer_in_all policy cap number [] history place file few is fewer = absurd (cc is)
fewer_in_all policy cap number (first ∷ files) history zero file few is fewer =
    let same : first ≡ file = cc is in
    omega (
      arith,
      fewer,
      ap (tuple_count policy cap) same,
      ap (λ n. length (own_tuples n history)) (zero_more number),
      few_in_all policy cap (number + 1) files history (later_few policy cap number first files history few),
      sum_front (tuple_count policy cap first) (map (tuple_count policy cap) files),
    )
fewer_in_all policy cap number (first ∷ files) history (suc place) file few is fewer =
    let same : number + (suc place) ≡ (number + 1) + place = omega arith in
    omega (
      arith,
      few 0 first refl,
      ap (λ n. length (own_tuples n history)) (zero_more number),
      fewer_in_all policy cap (number + 1) files history place file (later_few policy cap number first files history few) is
          (omega (arith, fewer, ap (λ n. length (own_tuples n history)) same)),
      sum_front (tuple_count policy cap first) (map (tuple_count policy cap) files),
    )
