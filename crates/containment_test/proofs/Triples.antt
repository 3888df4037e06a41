-- The least triple, and that there is none.
use Rattle.std.proofs.Common.{◌≡◌, ◌≢◌, ℕ, ◌<◌, Bool, true, false, List, [], ◌∷◌, ◌++◌, length, map, Option, Some, refl, sym, ap, ◌∙◌, subst, arith}
use Rattle.std.specs.Prelude.{All}
use Rattle.std.specs.declared.cmp.Ordering.{Ordering}
use Rattle.std.specs.declared.cmp.Ordering.TheVariants.{Less, Equal, Greater}
use Rattle.std.specs.Ordering.{nat_cmp, ordering_then}
use Rattle.std.specs.Cmp.Lexicographic.{slice_cmp}
use Rattle.std.proofs.lemmas.Bool.{false≢true}
use Rattle.std.proofs.lemmas.Cmp.{ranked}
use Rattle.std.proofs.lemmas.List.Elements.{All-cons, All-nil}
use Rattle.std.proofs.lemmas.Option.{same_Some}
use Rattle.rpq_base.specs.Order.{label_cmp, word_cmp}
use Rattle.rpq_base.specs.declared.data.Label.{Label}
use Rattle.dfa_table.specs.DfaValue.{DfaValue, IsDfa, label_at}
use Rattle.dfa_table.specs.Runs.{run_from, step_with, Accepts, accepts_from}
use Rattle.dfa_table.proofs.Runs.{accepted_words_pass, label_within, runs_go_by_numbers, step_with_label_at}
use Rattle.state_pairs.specs.Goals.{ReachesGoal}
use Rattle.state_pairs.specs.Pairs.{IsExtraWord, IsLeastExtra}
use Rattle.state_pairs.proofs.Extra.{word_cmp_at}
use Rattle.containment_test.specs.Containment.{Contained, Shows, IsLeastTriple}
use Rattle.containment_test.specs.Needed.{NeedsAtMost, needed_at, AreNeeded, state_graph, IsFront}
use Rattle.containment_test.specs.declared.needed.NeededLabel.{NeededLabel}
use Rattle.containment_test.proofs.Loops.{shows_of_extra, extra_of_shows, loop_of_shows, needed_of_shows, goal_of_walk}

-- the word of the labels of these numbers
abbrev pub spell : DfaValue → List ℕ → List Label
spell dfa numbers = map (label_at dfa) numbers

-- ---- none

-- the first word of a triple has numbers that lead to a goal
abbrev HasGoal : DfaValue → List (Option NeededLabel) → List Label → Type 0
HasGoal dfa list word =
    (numbers : List ℕ) × (spell dfa numbers ≡ word) × All (λ number. number < length dfa.labels) numbers × ReachesGoal (state_graph dfa list) 0 numbers

goal_of_shows : (dfa : DfaValue) (list : List (Option NeededLabel)) (p q w : List Label) → AreNeeded dfa list → Shows (Accepts dfa) p q w → HasGoal dfa list p
goal_of_shows dfa list p q w are shows =
    let to = needed_of_shows dfa list p q w are shows in
    let has = runs_go_by_numbers.numbered dfa 0 to.state p are.valid to.leads in (
      has.0,
      has.1,
      runs_go_by_numbers.within dfa 0 to.state has.0 are.valid has.2,
      goal_of_walk has.0 dfa list 0 to.state to.needed are.valid has.2 to.has,
    )

accepts_or_not : (b : Bool) (dfa : DfaValue) (word : List Label) → accepts_from dfa 0 word ≡ b → ((Accepts dfa word → ⊥) → ⊥) → Accepts dfa word
accepts_or_not true dfa word is not_not = (accepted_words_pass dfa word).1 is
accepts_or_not false dfa word is not_not = absurd (not_not (λ accepts. false≢true (sym is ∙ (accepted_words_pass dfa word).0 accepts)))

pub contained_of : (dfa : DfaValue) (list : List (Option NeededLabel)) → AreNeeded dfa list → ((word : List ℕ) → ReachesGoal (state_graph dfa list) 0 word → ⊥) →
    Contained (Accepts dfa)
contained_of dfa list are none p q w some inside =
    accepts_or_not (accepts_from dfa 0 (p ++ w)) dfa (p ++ w) refl (λ outside.
    let has = goal_of_shows dfa list p q w are (record { some = some; inside = inside; outside = outside }) in
    none has.0 has.3)

-- ---- the least one

-- what the search gives
pub record AreGiven (dfa : DfaValue) (list : List (Option NeededLabel)) (word : List ℕ) (state : ℕ) (needed : NeededLabel) (rest : List ℕ) : Type 0 where
  pub are : AreNeeded dfa list
  pub front : IsFront dfa list word state needed
  pub last : IsLeastExtra dfa (Some state) needed.next rest

pub front_within : (dfa : DfaValue) (list : List (Option NeededLabel)) (word : List ℕ) (state : ℕ) (needed : NeededLabel) → IsDfa dfa → IsFront dfa list word state needed →
    All (λ number. number < length dfa.labels) word
front_within dfa list word state needed valid front = runs_go_by_numbers.within dfa 0 state word valid front.leads

front_leads : (dfa : DfaValue) (list : List (Option NeededLabel)) (word : List ℕ) (state : ℕ) (needed : NeededLabel) → IsDfa dfa → IsFront dfa list word state needed →
    run_from dfa 0 (spell dfa word) ≡ Some state
front_leads dfa list word state needed valid front =
    runs_go_by_numbers.spelled dfa 0 word valid (front_within dfa list word state needed valid front) ∙ front.leads

-- the needed label of the state that the front leads to
front_needs : (o : Option NeededLabel) (dfa : DfaValue) (state : ℕ) (needed : NeededLabel) → NeedsAtMost dfa state o → o ≡ Some needed → NeedsAtMost dfa state (Some needed)
front_needs o dfa state needed most is = subst (NeedsAtMost dfa state) is most

-- the label after the front is one of the automaton
pub label_of_front : (dfa : DfaValue) (list : List (Option NeededLabel)) (word : List ℕ) (state : ℕ) (needed : NeededLabel) → AreNeeded dfa list → IsFront dfa list word state needed →
    All (λ number. number < length dfa.labels) (needed.label ∷ [])
label_of_front dfa list word state needed are front =
    let within : ℕ → Type 0 = λ n. n < length dfa.labels in
    let needs = front_needs (needed_at list state) dfa state needed (are.each state front.within) front.has in
    All-cons within needed.label [] (label_within dfa state needed.label needed.next are.valid needs.is.leads) (All-nil within)

not_above : (o : Ordering) (i j : ℕ) → o ≡ nat_cmp i j → (j < i → ⊥) → ordering_then o Equal ≡ Greater → ⊥
not_above Less i j is most greater = cc
not_above Equal i j is most greater = cc
not_above Greater i j is most greater = most (ranked i j Greater is)

-- words of one label compare as its numbers do
one_label : (dfa : DfaValue) (i j : ℕ) → IsDfa dfa → i < length dfa.labels → j < length dfa.labels → (j < i → ⊥) → word_cmp (spell dfa (i ∷ [])) (spell dfa (j ∷ [])) ≢ Greater
one_label dfa i j valid below within most greater =
    let P : ℕ → Type 0 = λ n. n < length dfa.labels in
    not_above (nat_cmp i j) i j refl most
    (sym (word_cmp_at dfa (i ∷ []) (j ∷ []) valid (All-cons P i [] below (All-nil P)) (All-cons P j [] within (All-nil P))) ∙ greater)

shorter_not_greater : (o : Ordering) (n m : ℕ) (rest : Ordering) → o ≡ nat_cmp n m → n < m → ordering_then o rest ≡ Greater → ⊥
shorter_not_greater Less n m rest is less greater = cc
shorter_not_greater Equal n m rest is less greater = let same = ranked n m Equal is in omega (arith, less, same)
shorter_not_greater Greater n m rest is less greater = let more = ranked n m Greater is in omega (arith, less, more)

second_least : (q : List Label) (dfa : DfaValue) (p w : List Label) (state : ℕ) (needed : NeededLabel) → IsDfa dfa → run_from dfa 0 p ≡ Some state → NeedsAtMost dfa state (Some needed) →
    Shows (Accepts dfa) p q w → word_cmp (spell dfa (needed.label ∷ [])) q ≢ Greater
second_least [] dfa p w state needed valid leads needs shows greater = shows.outside shows.inside
second_least (label ∷ []) dfa p w state needed valid leads needs shows greater =
    let loop = loop_of_shows dfa p w label state valid leads shows in
    one_label dfa needed.label loop.number valid (label_within dfa state needed.label needed.next valid needs.is.leads) loop.within
    (λ before. needs.least loop.number loop.next before (record { leads = loop.step; extra = (w, loop.extra) }))
    (ap (λ (other : Label). word_cmp (spell dfa (needed.label ∷ [])) (other ∷ [])) loop.spells ∙ greater)
second_least (label ∷ label2 ∷ q) dfa p w state needed valid leads needs shows greater =
    shorter_not_greater (nat_cmp 1 (length (label ∷ label2 ∷ q))) 1 (length (label ∷ label2 ∷ q)) (slice_cmp label_cmp (spell dfa (needed.label ∷ [])) (label ∷ label2 ∷ q)) refl
    (omega arith) greater

third_least : (dfa : DfaValue) (p w : List Label) (label : Label) (state next : ℕ) → IsDfa dfa → run_from dfa 0 p ≡ Some state → step_with dfa state label ≡ Some next →
    Shows (Accepts dfa) p (label ∷ []) w → IsExtraWord dfa (Some state) next w
third_least dfa p w label state next valid leads step shows =
    let found = extra_of_shows (Some next) dfa p w label state valid leads step shows in
    subst (λ (n : ℕ). IsExtraWord dfa (Some state) n w) (sym (same_Some next found.0 found.1)) found.2

pub least_triple : (dfa : DfaValue) (list : List (Option NeededLabel)) (word : List ℕ) (state : ℕ) (needed : NeededLabel) (rest : List ℕ) → AreGiven dfa list word state needed rest →
    IsLeastTriple (Accepts dfa) (spell dfa word) (spell dfa (needed.label ∷ [])) (spell dfa rest)
least_triple dfa list word state needed rest given =
    let p = spell dfa word in
    let leads = front_leads dfa list word state needed given.are.valid given.front in
    let needs = front_needs (needed_at list state) dfa state needed (given.are.each state given.front.within) given.front.has in
    let label = label_within dfa state needed.label needed.next given.are.valid needs.is.leads in
    let step : step_with dfa state (label_at dfa needed.label) ≡ Some needed.next = step_with_label_at dfa state needed.label given.are.valid label ∙ needs.is.leads in
    record {
      shows = shows_of_extra dfa p (spell dfa rest) (label_at dfa needed.label) state needed.next leads step given.last.extra;
      first = λ other second third shows greater.
          let has = goal_of_shows dfa list other second third given.are shows in
          given.front.least.least has.0 has.3
          (sym (word_cmp_at dfa word has.0 given.are.valid (front_within dfa list word state needed given.are.valid given.front) has.2)
          ∙ (ap (word_cmp p) has.1 ∙ greater));
      second = λ other third shows. second_least other dfa p third state needed given.are.valid leads needs shows;
      third = λ other shows. given.last.least other (third_least dfa p other (label_at dfa needed.label) state needed.next given.are.valid leads step shows);
    }
