-- The automaton of the classes: each of its states accepts the words of the state for which it stands, and is reached.
use Rattle.std.proofs.Common.{◌≡◌, ◌≢◌, ℕ, zero, suc, ◌<◌, List, [], ◌∷◌, ◌++◌, length, get_or, Option, Some, None, refl, sym, ap, ◌∙◌, subst, ⊎_elim, arith}
use Rattle.std.specs.List.{AllPairs, position}
use Rattle.std.specs.Option.{option_and_then}
use Rattle.std.proofs.lemmas.Bool.{cases_order}
use Rattle.std.proofs.lemmas.List.Elements.{All-get_or}
use Rattle.std.proofs.lemmas.Option.{none-some, same_Some}
use Rattle.rpq_base.proofs.Places.{label_at_place}
use Rattle.rpq_base.specs.Same.{same_label}
use Rattle.rpq_base.specs.declared.data.Label.{Label}
use Rattle.dfa_table.specs.DfaValue.{DfaValue, IsDfa, step_of, place_of, label_at, is_final}
use Rattle.dfa_table.specs.Discovery.{GraphValue, IsDeterminate, node_at, IsReached, FromFirst, FromNode, IsStep, IsRow, AreRows}
use Rattle.dfa_table.specs.Runs.{step_with, run_from, LeadsTo, accepts_from}
use Rattle.dfa_table.proofs.Runs.{runs_join, step_with_label_at}
use Rattle.state_pairs.specs.Pairs.{accepts_at}
use Rattle.minimal_dfa.specs.Classes.{class_graph, state_at}
use Rattle.minimal_dfa.proofs.Standing.{determinate}

pub record IsQuotient (dfa : DfaValue) (nodes : List ℕ) (least : DfaValue) : Type 0 where
  pub labels : least.labels ≡ dfa.labels
  pub are : AreRows (class_graph dfa) 512 0 nodes least.rows (length nodes)
  pub finals : (number : ℕ) → number < suc (length nodes) → is_final least number ≡ is_final dfa (state_at nodes number)

-- the row of each state
pub row_of : (number : ℕ) (dfa : DfaValue) (nodes : List ℕ) (rows : List (List (Option ℕ))) → AreRows (class_graph dfa) 512 0 nodes rows (length nodes) → number < suc (length nodes) →
    IsRow (class_graph dfa) nodes (state_at nodes number) (length dfa.labels) (get_or rows number [])
row_of zero dfa nodes rows are below = are.start
row_of (suc place) dfa nodes rows are below =
    let other = are.others place (omega (arith, below)) in
    subst (λ (front : ℕ). IsRow (class_graph dfa) nodes front (length dfa.labels) (get_or rows (suc place) [])) other.opens other.is

-- ---- words

step_accepts : (new : Option ℕ) (dfa least : DfaValue) (nodes : List ℕ) (front label : ℕ) (word : List Label) → IsStep (class_graph dfa) nodes front label new →
    ((place : ℕ) → place < length nodes → accepts_from least (suc place) word ≡ accepts_from dfa (node_at nodes place) word) →
    accepts_at least new word ≡ accepts_at dfa (step_of dfa front label) word
step_accepts None dfa least nodes front label word right rest = sym (right word)
step_accepts (Some zero) dfa least nodes front label word right rest = absurd right
step_accepts (Some (suc place)) dfa least nodes front label word right rest = rest place right.0 ∙ right.1.0.same word

by_place : (o : Option ℕ) (dfa least : DfaValue) (nodes : List ℕ) (number : ℕ) (label : Label) (word : List Label) → IsQuotient dfa nodes least → number < suc (length nodes) →
    ((place : ℕ) → place < length nodes → accepts_from least (suc place) word ≡ accepts_from dfa (node_at nodes place) word) → place_of dfa label ≡ o →
    accepts_at least (option_and_then (λ n. step_of least number n) o) word ≡ accepts_at dfa (option_and_then (λ n. step_of dfa (state_at nodes number) n) o) word
by_place None dfa least nodes number label word is below rest found = refl
by_place (Some at) dfa least nodes number label word is below rest found =
    let within = (label_at_place dfa.labels label at found).0 in
    step_accepts (step_of least number at) dfa least nodes (state_at nodes number) at word ((row_of number dfa nodes least.rows is.are below).steps at within) rest

pub number_accepts : (word : List Label) (dfa least : DfaValue) (nodes : List ℕ) (number : ℕ) → IsQuotient dfa nodes least → number < suc (length nodes) →
    accepts_from least number word ≡ accepts_from dfa (state_at nodes number) word
number_accepts [] dfa least nodes number is below = is.finals number below
number_accepts (label ∷ word) dfa least nodes number is below =
    let same : place_of least label ≡ place_of dfa label = ap (position (λ each. same_label each label)) is.labels in
    ap (λ (o : Option ℕ). accepts_at least (option_and_then (λ (n : ℕ). step_of least number n) o) word) same
    ∙ by_place (place_of dfa label) dfa least nodes number label word is below
    (λ place within. number_accepts word dfa least nodes (suc place) is (omega (arith, within))) refl

-- ---- each state is reached

-- a label leads to the number of the node to which it leads
step_found : (new : Option ℕ) (graph : GraphValue) (nodes : List ℕ) (front label node : ℕ) → IsDeterminate graph → IsStep graph nodes front label new → graph.leads front label (Some node) →
    (place : ℕ) × (new ≡ Some (suc place)) × (place < length nodes) × (node_at nodes place ≡ node)
step_found None graph nodes front label node one right leads = absurd (none-some node (one.one_way front label None (Some node) right leads))
step_found (Some zero) graph nodes front label node one right leads = absurd right
step_found (Some (suc place)) graph nodes front label node one right leads =
    (place, refl, right.0, same_Some (node_at nodes place) node (one.one_way front label (Some (node_at nodes place)) (Some node) right.1 leads))

led_on : (o : Option ℕ) → option_and_then (λ (next : ℕ). Some next) o ≡ o
led_on None = refl
led_on (Some next) = refl

-- a step after a word is the end of a longer word
step_after : (dfa : DfaValue) (state label : ℕ) (word : List Label) → IsDfa dfa → label < length dfa.labels → LeadsTo dfa state word →
    run_from dfa 0 (word ++ label_at dfa label ∷ []) ≡ step_of dfa state label
step_after dfa state label word valid below leads =
    runs_join dfa 0 word (label_at dfa label ∷ [])
    ∙ (ap (option_and_then (λ (next : ℕ). run_from dfa next (label_at dfa label ∷ []))) leads
    ∙ (led_on (step_with dfa state (label_at dfa label)) ∙ step_with_label_at dfa state label valid below))

-- a word leads to the number of the node
abbrev HasWordTo : DfaValue → List ℕ → ℕ → Type 0
HasWordTo least nodes node = (word : List Label) × (place : ℕ) × LeadsTo least (suc place) word × (place < length nodes) × (node_at nodes place ≡ node)

word_more : (dfa least : DfaValue) (nodes : List ℕ) (number label node : ℕ) (word : List Label) → IsQuotient dfa nodes least → IsDfa least → number < suc (length nodes) →
    LeadsTo least number word → label < length dfa.labels → (class_graph dfa).leads (state_at nodes number) label (Some node) → HasWordTo least nodes node
word_more dfa least nodes number label node word is valid below leads within next =
    let found = step_found (step_of least number label) (class_graph dfa) nodes (state_at nodes number) label node (determinate dfa)
    ((row_of number dfa nodes least.rows is.are below).steps label within) next in (
      word ++ label_at least label ∷ [],
      found.0,
      step_after least number label word valid (omega (arith, within, ap length is.labels)) leads ∙ found.1,
      found.2,
      found.3,
    )

word_to : (dfa least : DfaValue) (nodes : List ℕ) (node : ℕ) → IsQuotient dfa nodes least → IsDfa least → IsReached (class_graph dfa) 0 node → HasWordTo least nodes node
word_to dfa least nodes _ is valid (FromFirst node next) =
    word_more dfa least nodes 0 next.label node [] is valid (omega arith) refl next.within next.leads
word_to dfa least nodes _ is valid (FromNode before front node reached opens next) =
    let to = word_to dfa least nodes before is valid reached in
    let same : front ≡ node_at nodes to.1 = opens ∙ sym to.4 in
    word_more dfa least nodes (suc to.1) next.label node to.0 is valid (omega (arith, to.3)) to.2 next.within
    (subst (λ (from : ℕ). (class_graph dfa).leads from next.label (Some node)) same next.leads)

-- a node stands at one place
one_place : (nodes : List ℕ) (i j : ℕ) → AllPairs ◌≢◌ nodes → i < length nodes → j < length nodes → node_at nodes i ≡ node_at nodes j → i ≡ j
one_place nodes i j apart below within same = ⊎_elim
    (λ equal. equal)
    (λ other. ⊎_elim
    (λ before. absurd (apart i j 0 before within same))
    (λ after. absurd (apart j i 0 after below (sym same)))
    other)
    (cases_order i j)

pub reached : (number : ℕ) (dfa least : DfaValue) (nodes : List ℕ) → IsQuotient dfa nodes least → IsDfa least → number < suc (length nodes) →
    (word : List Label) × LeadsTo least number word
reached zero dfa least nodes is valid below = ([], refl)
reached (suc place) dfa least nodes is valid below =
    let within : place < length nodes = omega (arith, below) in
    let to = word_to dfa least nodes (node_at nodes place) is valid (All-get_or (IsReached (class_graph dfa) 0) nodes place 0 within is.are.reached) in
    let same = one_place nodes to.1 place is.are.apart to.3 within to.4 in
    (to.0, to.2 ∙ ap (λ (n : ℕ). Some (suc n)) same)
