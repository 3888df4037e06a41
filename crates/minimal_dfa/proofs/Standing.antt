-- Classes: a walk over them finds each once, and never too many.
use Rattle.std.proofs.Common.{◌≡◌, ◌≢◌, ℕ, zero, suc, ◌<◌, ◌≤◌, true, false, List, ◌∷◌, length, get_or, Option, Some, None, eqb, refl, sym, ap, ◌∙◌, ⊎_elim, arith}
use Rattle.std.specs.Prelude.{All}
use Rattle.std.specs.List.{AllPairs, IsDistinct}
use Rattle.std.proofs.lemmas.Bool.{false≢true, cases_order, ne_eqb, eqb-true}
use Rattle.std.proofs.lemmas.List.Elements.{All-cons, All-contains, All-get_or}
use Rattle.std.proofs.lemmas.Map.Keys.{IsDistinct-from_apart}
use Rattle.std.proofs.lemmas.Map.Steps.{length-le_from_distinct_below}
use Rattle.std.proofs.lemmas.Map.Views.{Contains-from_any}
use Rattle.dfa_table.specs.DfaValue.{DfaValue, IsDfa}
use Rattle.dfa_table.specs.Discovery.{IsDeterminate, IsReached, FromFirst, FromNode, HasTooMany}
use Rattle.dfa_table.specs.Runs.{ReachesFinal}
use Rattle.minimal_dfa.specs.Classes.{AreTold, StandsFor, LeadsToClass, class_graph}

-- ---- one class for each step

one_class : (class other : Option ℕ) (dfa : DfaValue) (step : Option ℕ) → LeadsToClass dfa step class → LeadsToClass dfa step other → class ≡ other
one_class None None dfa step leads leads2 = refl
one_class None (Some other) dfa step leads leads2 =
    absurd (false≢true (sym (leads leads2.1.0) ∙ (sym (leads2.0.same leads2.1.0) ∙ leads2.1.1)))
one_class (Some class) None dfa step leads leads2 =
    absurd (false≢true (sym (leads2 leads.1.0) ∙ (sym (leads.0.same leads.1.0) ∙ leads.1.1)))
one_class (Some class) (Some other) dfa step leads leads2 = ⊎_elim
    (λ same. ap (λ (n : ℕ). Some n) same)
    (λ different. ⊎_elim
    (λ before. let told = leads2.0.least class leads.0.above before in absurd (told.1 (leads.0.same told.0)))
    (λ after. let told = leads.0.least other leads2.0.above after in absurd (told.1 (leads2.0.same told.0)))
    different)
    (cases_order class other)

pub determinate : (dfa : DfaValue) → IsDeterminate (class_graph dfa)
determinate dfa = record {
  one_front = λ node front other is is2. is ∙ sym is2;
  one_way = λ front label class other leads leads2. one_class class other dfa _ leads leads2;
}

-- ---- the states that stand for a class

-- the state stands for the class of a step, and accepts some word
abbrev pub IsClass : DfaValue → ℕ → Type 0
IsClass dfa state = (step : Option ℕ) × StandsFor dfa step state × ReachesFinal dfa state

pub reached_is_class : (dfa : DfaValue) (first node : ℕ) → IsReached (class_graph dfa) first node → IsClass dfa node
reached_is_class dfa first _ (FromFirst node next) = (_, next.leads.0, next.leads.1)
reached_is_class dfa first _ (FromNode before front node reached opens next) = (_, next.leads.0, next.leads.1)

-- two of them are told apart
pub classes_told : (dfa : DfaValue) (first second : ℕ) → IsClass dfa first → IsClass dfa second → first ≢ second → AreTold dfa first (Some second)
classes_told dfa first second one two other = ⊎_elim
    (λ same. absurd (other same))
    (λ different. ⊎_elim
    (λ before. let told = two.1.least first one.1.above before in (told.0, λ same. told.1 (same ∙ two.1.same told.0)))
    (λ after. let told = one.1.least second two.1.above after in (told.0, λ same. told.1 (sym same ∙ one.1.same told.0)))
    different)
    (cases_order first second)

-- there are fewer classes than states
pub fewer : (dfa : DfaValue) (nodes : List ℕ) → All (IsReached (class_graph dfa) 0) nodes → AllPairs ◌≢◌ nodes → 1 ≤ length dfa.rows → length nodes < length dfa.rows
fewer dfa nodes reached apart some =
    let all = 0 ∷ nodes in
    let class : (place d : ℕ) → place < length nodes → IsClass dfa (get_or nodes place d) =
    λ place d within. reached_is_class dfa 0 (get_or nodes place d) (All-get_or (IsReached (class_graph dfa) 0) nodes place d within reached) in
    let distinct : IsDistinct eqb all = IsDistinct-from_apart eqb all (all_apart (λ place d within. (class place d within).1.above)) in
    let below : All (λ (n : ℕ). n < length dfa.rows) all =
    All-cons (λ (n : ℕ). n < length dfa.rows) 0 nodes (omega (arith, some)) (λ place d within. (class place d within).1.below) in
    let most = length-le_from_distinct_below all (length dfa.rows) distinct (λ q member.
    All-contains (λ (n : ℕ). n < length dfa.rows) all q below (Contains-from_any (λ x y e. eqb-true x y e) q all member)) in
    omega (arith, most)
  where
    all_apart : ((place d : ℕ) → place < length nodes → 0 < get_or nodes place d) → (i j : ℕ) (d : ℕ) → i < j → j < length (0 ∷ nodes) →
        eqb (get_or (0 ∷ nodes) i d) (get_or (0 ∷ nodes) j d) ≡ false
    all_apart above i zero d before within = absurd (omega (arith, before))
    all_apart above zero (suc j) d before within =
        let over = above j d (omega (arith, within)) in
        ne_eqb 0 (get_or nodes j d) (λ same. omega (arith, over, same))
    all_apart above (suc i) (suc j) d before within =
        ne_eqb (get_or nodes i d) (get_or nodes j d) (apart i j d (omega (arith, before)) (omega (arith, within)))

-- so a walk never finds too many
pub never_full : (dfa : DfaValue) → IsDfa dfa → HasTooMany (class_graph dfa) 512 0 → ⊥
never_full dfa valid many =
    let less = fewer dfa many.nodes many.reached many.apart valid.some in
    omega (arith, less, many.many, valid.few)
