-- Of automata that are alike, one alone has its states in the order of discovery.
use Rattle.std.proofs.Common.{◌≡◌, ℕ, zero, suc, ◌+◌, ◌<◌, ◌≤◌, max, false, List, [], ◌∷◌, ◌++◌, length, get_or, take, Option, Some, None, refl, sym, ap, ◌∙◌, subst, ⊎_elim, arith}
use Rattle.std.specs.Prelude.{IsSome, IsTrue, ◌↔◌}
use Rattle.std.specs.Option.{option_and_then}
use Rattle.std.specs.Cmp.{both_ways}
use Rattle.std.proofs.lemmas.Bool.{false≢true, cases_lt}
use Rattle.std.proofs.lemmas.List.{ext_get_or, get_or-take, take_all, take_more}
use Rattle.std.proofs.lemmas.List.Elements.{All-get_or}
use Rattle.std.proofs.lemmas.Option.{option_and_then_some, same_Some}
use Rattle.rpq_base.specs.declared.data.Label.{Label}
use Rattle.dfa_table.specs.DfaValue.{DfaValue, IsDfa, step_of, place_of, label_at, is_final}
use Rattle.dfa_table.specs.Order.{IsInOrder, greatest_of, all_steps}
use Rattle.dfa_table.specs.Runs.{step_with, run_from, LeadsTo}
use Rattle.dfa_table.specs.Laws.{AreAlike, IsNumberedByDiscovery}
use Rattle.dfa_table.proofs.Order.{greatest_joined, row_below_greatest, order_of_row, steps_more}
use Rattle.dfa_table.proofs.Runs.{runs_join, runs_stay_within, step_with_label_at}

-- ---- each state is led to by an earlier row

-- the word leads from a state below the count to one below it, where the first rows lead no further
stays_below : (word : List Label) (dfa : DfaValue) (count state target : ℕ) → greatest_of 0 (all_steps (take count dfa.rows)) < count →
    state < count → run_from dfa state word ≡ Some target → target < count
stays_below [] dfa count state target closed below leads = let same = same_Some state target leads in omega arith
stays_below (label ∷ word) dfa count state target closed below leads =
    option_and_then_some (λ next. run_from dfa next word) (step_with dfa state label) target leads
    (λ next steps further. option_and_then_some (λ place. step_of dfa state place) (place_of dfa label) next steps
    (λ place found step.
    let here : get_or (get_or (take count dfa.rows) state []) place None ≡ Some next =
    ap (λ (row : List (Option ℕ)). get_or row place None) (get_or-take count dfa.rows state [] below) ∙ step in
    let most = row_below_greatest (take count dfa.rows) 0 state place next here in
    stays_below word dfa count next target closed (omega arith) further))

-- a state is at most the greatest that the rows before its own lead to
pub found_before : (dfa : DfaValue) (state : ℕ) → IsNumberedByDiscovery dfa → state < length dfa.rows →
    state ≤ greatest_of 0 (all_steps (take state dfa.rows))
found_before dfa state numbered below = ⊎_elim
    (λ closed.
    let word = numbered.reached state below in
    let within = stays_below word.0 dfa state 0 state closed (omega arith) word.1 in
    absurd (omega arith))
    (λ most. most)
    (cases_lt (greatest_of 0 (all_steps (take state dfa.rows))) state)

-- ---- states that one word leads to

-- one word leads to the one state in the first automaton, and to the other in the second
abbrev pub LeadToBoth : DfaValue → DfaValue → ℕ → ℕ → Type 0
LeadToBoth first second one other = (word : List Label) × LeadsTo first one word × LeadsTo second other word

only_one : (first second : DfaValue) (state one other : ℕ) → AreAlike first second →
    LeadToBoth first second state one → LeadToBoth first second state other → one ≡ other
only_one first second state one other alike a b =
    same_Some one other (sym a.2 ∙ ((alike.same a.0 b.0).0 (a.1 ∙ sym b.1) ∙ b.2))

only_from_one : (first second : DfaValue) (state one other : ℕ) → AreAlike first second →
    LeadToBoth first second one state → LeadToBoth first second other state → one ≡ other
only_from_one first second state one other alike a b =
    same_Some one other (sym a.1 ∙ ((alike.same a.0 b.0).1 (a.2 ∙ sym b.2) ∙ b.1))

-- the two steps lead to such states, or both nowhere
abbrev Agree : DfaValue → DfaValue → Option ℕ → Option ℕ → Type 0
Agree first second None None = Unit {0}
Agree first second None (Some other) = ⊥
Agree first second (Some one) None = ⊥
Agree first second (Some one) (Some other) = LeadToBoth first second one other

agree : (one other : Option ℕ) (first second : DfaValue) (word : List Label) → run_from first 0 word ≡ one → run_from second 0 word ≡ other →
    IsSome one ↔ IsSome other → Agree first second one other
agree None None first second word here there both = tt
agree None (Some other) first second word here there both = absurd (false≢true (both.1 refl))
agree (Some one) None first second word here there both = absurd (false≢true (both.0 refl))
agree (Some one) (Some other) first second word here there both = (word, here, there)

-- a step after a word is the end of a longer word
led_on : (o : Option ℕ) → option_and_then (λ (next : ℕ). Some next) o ≡ o
led_on None = refl
led_on (Some next) = refl

step_after : (dfa : DfaValue) (state place : ℕ) (word : List Label) → IsDfa dfa → place < length dfa.labels → LeadsTo dfa state word →
    run_from dfa 0 (word ++ label_at dfa place ∷ []) ≡ step_of dfa state place
step_after dfa state place word valid below leads =
    runs_join dfa 0 word (label_at dfa place ∷ [])
    ∙ (ap (option_and_then (λ (next : ℕ). run_from dfa next (label_at dfa place ∷ []))) leads
    ∙ (led_on (step_with dfa state (label_at dfa place)) ∙ step_with_label_at dfa state place valid below))

steps_agree : (first second : DfaValue) (one other place : ℕ) → IsDfa first → IsDfa second → AreAlike first second → LeadToBoth first second one other →
    place < length first.labels → Agree first second (step_of first one place) (step_of second other place)
steps_agree first second one other place valid valid2 alike both below =
    let label = label_at first place in
    let word = both.0 ++ label ∷ [] in
    let here = step_after first one place both.0 valid below both.1 in
    let below2 : place < length second.labels = subst (λ (labels : List Label). place < length labels) alike.labels below in
    let same : label_at first place ≡ label_at second place =
    ap (λ (labels : List Label). get_or labels place (record { name = []; back = false })) alike.labels in
    let there : run_from second 0 word ≡ step_of second other place =
    ap (λ (l : Label). run_from second 0 (both.0 ++ l ∷ [])) same ∙ step_after second other place both.0 valid2 below2 both.2 in
    let leads = alike.leads word in
    agree (step_of first one place) (step_of second other place) first second word here there (
      (λ some. subst (λ (o : Option ℕ). IsSome o) there (leads.0 (subst (λ (o : Option ℕ). IsSome o) (sym here) some))),
      (λ some. subst (λ (o : Option ℕ). IsSome o) here (leads.1 (subst (λ (o : Option ℕ). IsSome o) (sym there) some))),
    )

-- ---- rows that agree are equal

abbrev AllAgree : DfaValue → DfaValue → List (Option ℕ) → List (Option ℕ) → Type 0
AllAgree first second [] [] = Unit {0}
AllAgree first second [] (other ∷ others) = ⊥
AllAgree first second (one ∷ ones) [] = ⊥
AllAgree first second (one ∷ ones) (other ∷ others) = Agree first second one other × AllAgree first second ones others

all_agree : (ones others : List (Option ℕ)) (first second : DfaValue) → length ones ≡ length others →
    ((place : ℕ) → place < length ones → Agree first second (get_or ones place None) (get_or others place None)) → AllAgree first second ones others
all_agree [] [] first second same each = tt
all_agree [] (other ∷ others) first second same each = absurd (omega arith)
all_agree (one ∷ ones) [] first second same each = absurd (omega arith)
all_agree (one ∷ ones) (other ∷ others) first second same each =
    (each 0 (omega arith), all_agree ones others first second (omega arith) (λ place below. each (suc place) (omega arith)))

-- up to the greatest, each state is that of the same number in the other automaton
abbrev AreKnown : DfaValue → DfaValue → ℕ → Type 0
AreKnown first second greatest = (state : ℕ) → state ≤ greatest → LeadToBoth first second state state

same_state : (first second : DfaValue) (greatest one other : ℕ) → AreAlike first second → AreKnown first second greatest →
    one ≤ greatest + 1 → other ≤ greatest + 1 → LeadToBoth first second one other → one ≡ other
same_state first second greatest one other alike known low high both = ⊎_elim
    (λ below. only_one first second one one other alike (known one (omega arith)) both)
    (λ above. ⊎_elim
    (λ below. sym (only_from_one first second other other one alike (known other (omega arith)) both))
    (λ above2. omega arith)
    (cases_lt other (greatest + 1)))
    (cases_lt one (greatest + 1))

known_more : (first second : DfaValue) (greatest state : ℕ) → AreKnown first second greatest → state ≤ greatest + 1 →
    LeadToBoth first second state state → AreKnown first second (max greatest state)
known_more first second greatest state known next both = λ each below. ⊎_elim
    (λ earlier. known each (omega arith))
    (λ later.
    let is : state ≡ each = omega arith in
    subst (λ (n : ℕ). LeadToBoth first second n n) is both)
    (cases_lt each (greatest + 1))

-- the rows are equal, and the states that they lead to are known
record AreSameRows (first second : DfaValue) (greatest : ℕ) (ones others : List (Option ℕ)) : Type 0 where
  same : ones ≡ others
  known : AreKnown first second (greatest_of greatest ones)

same_rows : (ones others : List (Option ℕ)) (first second : DfaValue) (greatest : ℕ) → AreAlike first second →
    IsInOrder greatest ones → IsInOrder greatest others → AreKnown first second greatest →
    AllAgree first second ones others → AreSameRows first second greatest ones others
same_rows [] [] first second greatest alike ordered ordered2 known all = record { same = refl; known = known }
same_rows [] (other ∷ others) first second greatest alike ordered ordered2 known all = absurd all
same_rows (one ∷ ones) [] first second greatest alike ordered ordered2 known all = absurd all
same_rows (None ∷ ones) (None ∷ others) first second greatest alike ordered ordered2 known all =
    let rest = same_rows ones others first second greatest alike ordered ordered2 known all.1 in
    record { same = ap (λ (steps : List (Option ℕ)). None ∷ steps) rest.same; known = rest.known }
same_rows (None ∷ ones) (Some other ∷ others) first second greatest alike ordered ordered2 known all = absurd all.0
same_rows (Some one ∷ ones) (None ∷ others) first second greatest alike ordered ordered2 known all = absurd all.0
same_rows (Some one ∷ ones) (Some other ∷ others) first second greatest alike ordered ordered2 known all =
    let is : one ≡ other = same_state first second greatest one other alike known ordered.0 ordered2.0 all.0 in
    let both : LeadToBoth first second one one = subst (λ (n : ℕ). LeadToBoth first second one n) (sym is) all.0 in
    let more = known_more first second greatest one known ordered.0 both in
    let further : IsInOrder (max greatest one) others = subst (λ (n : ℕ). IsInOrder (max greatest n) others) (sym is) ordered2.1 in
    let rest = same_rows ones others first second (max greatest one) alike ordered.1 further more all.1 in
    record {
      same = ap (λ (n : ℕ). Some n ∷ ones) is ∙ ap (λ (steps : List (Option ℕ)). Some other ∷ steps) rest.same;
      known = rest.known;
    }

-- ---- one row after another

record AreSameUpTo (first second : DfaValue) (count : ℕ) : Type 0 where
  same : take count first.rows ≡ take count second.rows
  known : AreKnown first second (greatest_of 0 (all_steps (take count first.rows)))

row_width : (dfa : DfaValue) (state : ℕ) → IsDfa dfa → state < length dfa.rows → length (get_or dfa.rows state []) ≡ length dfa.labels
row_width dfa state valid below = All-get_or (λ (row : List (Option ℕ)). length row ≡ length dfa.labels) dfa.rows state [] below valid.even

same_up_to : (count : ℕ) (first second : DfaValue) → IsNumberedByDiscovery first → IsNumberedByDiscovery second → AreAlike first second →
    count ≤ length first.rows → count ≤ length second.rows → AreSameUpTo first second count
same_up_to zero first second numbered numbered2 alike within within2 = record {
  same = refl;
  known = λ state below.
      let start : 0 ≡ state = omega arith in
      subst (λ (n : ℕ). LeadToBoth first second n n) start ([], refl, refl);
}
same_up_to (suc row) first second numbered numbered2 alike within within2 =
    let before = same_up_to row first second numbered numbered2 alike (omega arith) (omega arith) in
    let below : row < length first.rows = omega arith in
    let below2 : row < length second.rows = omega arith in
    let ones = get_or first.rows row [] in
    let others = get_or second.rows row [] in
    let greatest = greatest_of 0 (all_steps (take row first.rows)) in
    let here = before.known row (found_before first row numbered below) in
    let width = row_width first row numbered.valid below in
    let width2 = row_width second row numbered2.valid below2 in
    let even : length ones ≡ length others = width ∙ (ap length alike.labels ∙ sym width2) in
    let all = all_agree ones others first second even
    (λ place short. steps_agree first second row row place numbered.valid numbered2.valid alike here (omega (arith, short, width))) in
    let ordered = order_of_row first.rows row below numbered.order in
    let ordered2 = subst (λ (rows : List (List (Option ℕ))). IsInOrder (greatest_of 0 (all_steps rows)) others) (sym before.same)
    (order_of_row second.rows row below2 numbered2.order) in
    let rows = same_rows ones others first second greatest alike ordered ordered2 before.known all in
    let next : row + 1 ≡ suc row = omega arith in
    subst (AreSameUpTo first second) next (record {
      same = take_more first.rows row [] below
          ∙ (ap (λ (front : List (List (Option ℕ))). front ++ ones ∷ []) before.same
          ∙ (ap (λ (last : List (Option ℕ)). take row second.rows ++ last ∷ []) rows.same ∙ sym (take_more second.rows row [] below2)));
      known = subst (λ (n : ℕ). AreKnown first second n)
          (sym (ap (greatest_of 0) (steps_more first.rows row below) ∙ greatest_joined (all_steps (take row first.rows)) ones 0)) rows.known;
    })

-- a state of both automata is that of the same number
same_number : (first second : DfaValue) (state : ℕ) → IsNumberedByDiscovery first → IsNumberedByDiscovery second → AreAlike first second →
    state < length first.rows → state ≤ length second.rows → LeadToBoth first second state state
same_number first second state numbered numbered2 alike below below2 =
    (same_up_to state first second numbered numbered2 alike (omega arith) below2).known state (found_before first state numbered below)

mirrored : (first second : DfaValue) → AreAlike first second → AreAlike second first
mirrored first second alike = record {
  labels = sym alike.labels;
  leads = λ word. ((alike.leads word).1, (alike.leads word).0);
  same = λ one other. ((alike.same one other).1, (alike.same one other).0);
  accepts = λ word. ((alike.accepts word).1, (alike.accepts word).0);
}

no_fewer : (first second : DfaValue) → IsNumberedByDiscovery first → IsNumberedByDiscovery second → AreAlike first second →
    length first.rows ≤ length second.rows
no_fewer first second numbered numbered2 alike = ⊎_elim
    (λ fewer.
    let both = same_number first second (length second.rows) numbered numbered2 alike fewer (omega arith) in
    let within = runs_stay_within second 0 (length second.rows) both.0 numbered2.valid (omega (arith, numbered2.valid.some)) both.2 in
    absurd (omega arith))
    (λ most. most)
    (cases_lt (length second.rows) (length first.rows))

as_many : (first second : DfaValue) → IsNumberedByDiscovery first → IsNumberedByDiscovery second → AreAlike first second →
    length first.rows ≡ length second.rows
as_many first second numbered numbered2 alike =
    let one = no_fewer first second numbered numbered2 alike in
    let other = no_fewer second first numbered2 numbered (mirrored first second alike) in
    omega arith

-- ---- final states

final_too : (first second : DfaValue) (state : ℕ) → AreAlike first second → LeadToBoth first second state state →
    IsTrue (is_final first state) → IsTrue (is_final second state)
final_too first second state alike both final =
    let accepted = (alike.accepts both.0).0 (state, both.1, final) in
    let same : accepted.0 ≡ state = same_Some accepted.0 state (sym accepted.1 ∙ both.2) in
    subst (λ (n : ℕ). IsTrue (is_final second n)) same accepted.2

same_finals : (first second : DfaValue) → IsNumberedByDiscovery first → IsNumberedByDiscovery second → AreAlike first second →
    first.finals ≡ second.finals
same_finals first second numbered numbered2 alike =
    let many = as_many first second numbered numbered2 alike in
    ext_get_or false first.finals second.finals (numbered.valid.finals ∙ (many ∙ sym numbered2.valid.finals))
    (λ state below.
    let within : state < length first.rows = omega (arith, numbered.valid.finals) in
    let both = same_number first second state numbered numbered2 alike within (omega arith) in
    both_ways (is_final first state) (is_final second state)
    (final_too first second state alike both)
    (final_too second first state (mirrored first second alike) (both.0, both.2, both.1)))

same_rows_all : (first second : DfaValue) → IsNumberedByDiscovery first → IsNumberedByDiscovery second → AreAlike first second → first.rows ≡ second.rows
same_rows_all first second numbered numbered2 alike =
    let many = as_many first second numbered numbered2 alike in
    let all = same_up_to (length first.rows) first second numbered numbered2 alike (omega arith) (omega arith) in
    sym (take_all (length first.rows) first.rows (omega arith)) ∙ (all.same ∙ take_all (length first.rows) second.rows (omega arith))

pub one_numbering : (first second : DfaValue) → IsNumberedByDiscovery first → IsNumberedByDiscovery second → AreAlike first second → first ≡ second
one_numbering first second numbered numbered2 alike =
    let rows = same_rows_all first second numbered numbered2 alike in
    let finals = same_finals first second numbered numbered2 alike in
    λ i. record { labels = alike.labels i; rows = rows i; finals = finals i }
