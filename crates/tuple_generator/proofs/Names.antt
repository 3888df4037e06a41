-- The names and the acts that numbers choose.
use Rattle.std.proofs.Common.{◌≡◌, ℕ, ◌+◌, ◌/◌, ◌%◌, ◌<◌, ◌≤◌, ◌==◌, Bool, true, false, cond, [], ◌∷◌, ◌++◌, None, refl, sym, ap, ap₂, ◌∙◌, subst, arith, ◌⊎◌, ⊎_elim, codes}
use Rattle.std.specs.Fmt.{decimal}
use Rattle.std.proofs.lemmas.Fmt.{decimal_digit, decimal_step}
use Rattle.std.proofs.lemmas.Bool.Decides.{nat_tests}
use Rattle.rpq_base.specs.Names.{is_name_byte, is_name, IsName}
use Rattle.rpq_base.specs.Plain.{IsPlainAct}
use Rattle.rpq_base.specs.declared.data.Edge.{Edge}
use Rattle.rpq_base.specs.declared.data.Act.TheVariants.{Insert, Delete}
use Rattle.tuple_generator.specs.Seeds.{next_seed, number_of}
use Rattle.tuple_generator.specs.Generator.{vertex_of, label_of, edge_of, tuple_of, generated_tuple}
use Rattle.tuple_generator.specs.Laws.{HasNames, IsDrawnAct, IsDrawn, GeneratedTuplesArePlain}

-- ---- vertices

-- a number whose last two digits begin with a zero
pub vertex_short : (number : ℕ) → number / 10 % 10 ≡ 0 → vertex_of number ≡ 118 ∷ (48 + number % 10) ∷ []
vertex_short number none =
    let digit : number % 100 ≡ number % 10 = omega (arith, none) in
    ap (λ n. 118 ∷ decimal n) digit ∙ ap (λ text. 118 ∷ text) (decimal_digit (number % 10) (omega arith))

-- a number whose last two digits begin with another digit
pub vertex_long : (number : ℕ) → 1 ≤ number / 10 % 10 →
    vertex_of number ≡ 118 ∷ (48 + number / 10 % 10) ∷ (48 + number % 10) ∷ []
vertex_long number some =
    let tens : number % 100 / 10 ≡ number / 10 % 10 = omega arith in
    let ones : number % 100 % 10 ≡ number % 10 = omega arith in
    ap (λ text. 118 ∷ text) (decimal_step (number % 100) (omega (arith, some)) (omega arith)
    ∙ ap (λ text. text ++ (48 + number % 100 % 10) ∷ []) (decimal_digit (number % 100 / 10) (omega (arith, tens)))
    ∙ ap₂ (λ first second. (48 + first) ∷ (48 + second) ∷ []) tens ones)

-- a digit may stand in a name
digit_allowed : (digit : ℕ) → digit < 10 → is_name_byte (48 + digit) ≡ true
digit_allowed digit small = grind (arith, nat_tests)

-- `v` and one digit are a name, and so are `v` and two
pub short_name : (digit : ℕ) → digit < 10 → IsName (118 ∷ (48 + digit) ∷ [])
unfolding is_name
short_name digit small = rw (digit_allowed digit small) refl

pub long_name : (tens ones : ℕ) → tens < 10 → ones < 10 → IsName (118 ∷ (48 + tens) ∷ (48 + ones) ∷ [])
unfolding is_name
long_name tens ones tens_small ones_small = rw (digit_allowed tens tens_small, digit_allowed ones ones_small) refl

-- the vertex that a number chooses is a name
pub vertex_is_name : (number : ℕ) → IsName (vertex_of number)
vertex_is_name number = ⊎_elim
    (λ none. subst IsName (sym (vertex_short number none)) (short_name (number % 10) (omega arith)))
    (λ some. subst IsName (sym (vertex_long number some)) (long_name (number / 10 % 10) (number % 10) (omega arith) (omega arith)))
    (zero_or_more (number / 10 % 10))
  where
    zero_or_more : (n : ℕ) → (n ≡ 0) ⊎ (1 ≤ n)
    zero_or_more n = grind arith

-- ---- labels

one_of_three : (first second : Bool) → IsName (cond first (codes "a") (cond second (codes "b") (codes "c")))
unfolding is_name
one_of_three true second = refl
one_of_three false true = refl
one_of_three false false = refl

-- the label that a number chooses has a name
pub label_is_name : (choice : ℕ) → IsName (label_of choice)
label_is_name choice = one_of_three (choice % 3 == 0) (choice % 3 == 1)

-- ---- acts

has_names : (source target choice : ℕ) → HasNames (edge_of source target choice)
has_names source target choice = record {
  from = vertex_is_name source;
  label = label_is_name choice;
  to = vertex_is_name target;
}

drawn_act : (deletes : Bool) (edge : Edge) → HasNames edge → IsDrawnAct (cond deletes (Delete edge) (Insert edge None))
drawn_act true edge names = names
drawn_act false edge names = (names, refl)

plain_act : (deletes : Bool) (edge : Edge) → edge.label.back ≡ false → IsPlainAct (cond deletes (Delete edge) (Insert edge None))
plain_act true edge plain = plain
plain_act false edge plain = plain

-- the tuple that three numbers choose
tuple_drawn : (position source target choice : ℕ) → IsDrawn position (tuple_of position source target choice)
tuple_drawn position source target choice =
    let deletes = choice % 16 == 15 in
    let edge = edge_of source target choice in
    record { time = refl; plain = plain_act deletes edge refl; names = drawn_act deletes edge (has_names source target choice) }

pub generated_tuples_are_plain : GeneratedTuplesArePlain
unfolding generated_tuple
generated_tuples_are_plain position before =
    let first = next_seed before in
    let second = next_seed first in
    tuple_drawn position (number_of first) (number_of second) (number_of (next_seed second))
