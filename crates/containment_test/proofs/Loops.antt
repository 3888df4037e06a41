-- A word and one label after it show that the language isn't contained where the state that the label leads to accepts a word that the state before doesn't.
use Rattle.std.proofs.Common.{◌≡◌, ℕ, ◌<◌, Bool, true, false, List, [], ◌∷◌, ◌++◌, length, Option, Some, None, refl, sym, ap, ◌∙◌, arith}
use Rattle.std.specs.Prelude.{◌↔◌, IsTrue, is_some, unwrap_or, option_map}
use Rattle.std.specs.Option.{option_and_then}
use Rattle.std.proofs.lemmas.Bool.{false≢true}
use Rattle.std.proofs.lemmas.List.{get_or_default}
use Rattle.std.proofs.lemmas.Option.{option_and_then_some, same_Some}
use Rattle.rpq_base.proofs.Places.{label_at_place}
use Rattle.rpq_base.specs.declared.data.Label.{Label}
use Rattle.dfa_table.specs.DfaValue.{DfaValue, IsDfa, step_of, place_of, label_at, is_final}
use Rattle.dfa_table.specs.Runs.{run_from, step_with, walk, Accepts, accepts_from}
use Rattle.dfa_table.proofs.Runs.{accepted_words_pass, label_within, runs_join, runs_stay_within, start_is_apart}
use Rattle.state_pairs.specs.Goals.{ReachesGoal}
use Rattle.state_pairs.specs.Pairs.{accepts_at, IsExtraWord}
use Rattle.containment_test.specs.Containment.{Shows}
use Rattle.containment_test.specs.Needed.{NeedsAtMost, needed_at, AreNeeded, state_graph}
use Rattle.containment_test.specs.declared.needed.NeededLabel.{NeededLabel}
use Rattle.containment_test.proofs.Words.{none_inside}

-- a word after another is accepted where it is from the state that the other leads to
accepts_joined : (dfa : DfaValue) (o : Option ℕ) (front rest : List Label) → run_from dfa 0 front ≡ o → accepts_from dfa 0 (front ++ rest) ≡ accepts_at dfa o rest
accepts_joined dfa o front rest leads =
    ap (λ (end : Option ℕ). unwrap_or (option_map (is_final dfa) end) false) (runs_join dfa 0 front rest)
    ∙ ap (λ (from : Option ℕ). accepts_at dfa from rest) leads

accepts_after : (dfa : DfaValue) (o : Option ℕ) (front rest : List Label) → run_from dfa 0 front ≡ o → Accepts dfa (front ++ rest) ↔ (accepts_at dfa o rest ≡ true)
accepts_after dfa o front rest leads =
    let pass = accepted_words_pass dfa (front ++ rest) in
    let joined = accepts_joined dfa o front rest leads in (
      (λ accepts. sym joined ∙ pass.0 accepts),
      (λ is. pass.1 (joined ∙ is)),
    )

not_true : (b : Bool) → (b ≡ true → ⊥) → b ≡ false
not_true true no_more = absurd (no_more refl)
not_true false no_more = refl

-- a word that leads to the start is empty
is_empty : (word : List Label) (dfa : DfaValue) → IsDfa dfa → run_from dfa 0 word ≡ Some 0 → word ≡ []
is_empty [] dfa valid leads = refl
is_empty (label ∷ word) dfa valid leads = absurd (start_is_apart.back dfa 0 label word valid leads)

front_empty : (p w : List Label) → p ++ w ≡ [] → p ≡ []
front_empty [] w none = refl
front_empty (label ∷ p) w none = cc

rest_empty : (p w : List Label) → p ++ w ≡ [] → w ≡ []
rest_empty [] w none = none
rest_empty (label ∷ p) w none = cc

-- ---- one label

pub shows_of_extra : (dfa : DfaValue) (p w : List Label) (label : Label) (state next : ℕ) → run_from dfa 0 p ≡ Some state → step_with dfa state label ≡ Some next →
    IsExtraWord dfa (Some state) next w → Shows (Accepts dfa) p (label ∷ []) w
shows_of_extra dfa p w label state next leads step extra = record {
  some = λ none. extra.counts (sym leads ∙ ap (run_from dfa 0) (front_empty p w none)) (rest_empty p w none);
  inside = (accepts_after dfa (Some state) p (label ∷ w) leads).1 (ap (λ (o : Option ℕ). accepts_at dfa o w) step ∙ extra.inside);
  outside = λ inside. false≢true (sym extra.outside ∙ (accepts_after dfa (Some state) p w leads).0 inside);
}

-- the label leads from the state to one that accepts the word
abbrev pub LeadsToExtra : DfaValue → ℕ → Option ℕ → List Label → Type 0
LeadsToExtra dfa state step w = (next : ℕ) × (step ≡ Some next) × IsExtraWord dfa (Some state) next w

pub extra_of_shows : (step : Option ℕ) (dfa : DfaValue) (p w : List Label) (label : Label) (state : ℕ) → IsDfa dfa → run_from dfa 0 p ≡ Some state → step_with dfa state label ≡ step →
    Shows (Accepts dfa) p (label ∷ []) w → LeadsToExtra dfa state step w
extra_of_shows None dfa p w label state valid leads is shows =
    absurd (false≢true (ap (λ (o : Option ℕ). accepts_at dfa o w) (sym is) ∙ (accepts_after dfa (Some state) p (label ∷ w) leads).0 shows.inside))
extra_of_shows (Some next) dfa p w label state valid leads is shows = (
  next,
  refl,
  record {
    inside = ap (λ (o : Option ℕ). accepts_at dfa o w) (sym is) ∙ (accepts_after dfa (Some state) p (label ∷ w) leads).0 shows.inside;
    outside = not_true (accepts_at dfa (Some state) w) (λ is. shows.outside ((accepts_after dfa (Some state) p w leads).1 is));
    counts = λ start none. shows.some (ap (λ (front : List Label). front ++ w) (is_empty p dfa valid (leads ∙ start)) ∙ none);
  },
)

-- the label of a triple is one of the automaton, and its step leads to a state that accepts the word
pub record IsLoop (dfa : DfaValue) (state : ℕ) (label : Label) (w : List Label) : Type 0 where
  pub number : ℕ
  pub next : ℕ
  pub spells : label_at dfa number ≡ label
  pub within : number < length dfa.labels
  pub step : step_of dfa state number ≡ Some next
  pub extra : IsExtraWord dfa (Some state) next w

pub loop_of_shows : (dfa : DfaValue) (p w : List Label) (label : Label) (state : ℕ) → IsDfa dfa → run_from dfa 0 p ≡ Some state → Shows (Accepts dfa) p (label ∷ []) w → IsLoop dfa state label w
loop_of_shows dfa p w label state valid leads shows =
    let found = extra_of_shows (step_with dfa state label) dfa p w label state valid leads refl shows in
    option_and_then_some (λ number. step_of dfa state number) (place_of dfa label) found.0 found.1 (λ number place step.
    let here = label_at_place dfa.labels label number place in record {
      number = number;
      next = found.0;
      spells = get_or_default dfa.labels number (record { name = []; back = false }) label here.0 ∙ here.1;
      within = here.0;
      step = step;
      extra = found.2;
    })

-- ---- the state that the first word of a triple leads to

-- the word leads to a state after which a label can't be left out
pub record LeadsToNeeded (dfa : DfaValue) (list : List (Option NeededLabel)) (word : List Label) : Type 0 where
  pub state : ℕ
  pub needed : NeededLabel
  pub leads : run_from dfa 0 word ≡ Some state
  pub has : needed_at list state ≡ Some needed

state_of : (o : Option ℕ) (dfa : DfaValue) (p q w : List Label) → run_from dfa 0 p ≡ o → Shows (Accepts dfa) p q w → (state : ℕ) × (o ≡ Some state)
state_of None dfa p q w leads shows = absurd (false≢true ((accepts_after dfa None p (q ++ w) leads).0 shows.inside))
state_of (Some state) dfa p q w leads shows = (state, refl)

needed_of : (o : Option NeededLabel) (dfa : DfaValue) (p q w : List Label) (state : ℕ) → IsDfa dfa → run_from dfa 0 p ≡ Some state → NeedsAtMost dfa state o → Shows (Accepts dfa) p q w →
    (needed : NeededLabel) × (o ≡ Some needed)
needed_of None dfa p q w state valid leads none shows =
    let no_label : (label : Label) (rest : List Label) → Shows (Accepts dfa) p (label ∷ []) rest → ⊥ = λ label rest one.
    let loop = loop_of_shows dfa p rest label state valid leads one in
    none loop.number loop.next (record { leads = loop.step; extra = (rest, loop.extra) }) in
    absurd (none_inside q (Accepts dfa) p w no_label shows.some shows.outside shows.inside)
needed_of (Some needed) dfa p q w state valid leads none shows = (needed, refl)

pub needed_of_shows : (dfa : DfaValue) (list : List (Option NeededLabel)) (p q w : List Label) → AreNeeded dfa list → Shows (Accepts dfa) p q w → LeadsToNeeded dfa list p
needed_of_shows dfa list p q w are shows =
    let end = state_of (run_from dfa 0 p) dfa p q w refl shows in
    let below = runs_stay_within dfa 0 end.0 p are.valid (omega (arith, are.valid.some)) end.1 in
    let needed = needed_of (needed_at list end.0) dfa p q w end.0 are.valid end.1 (are.each end.0 below) shows in
    record { state = end.0; needed = needed.0; leads = end.1; has = needed.1 }

-- ---- words of numbers and goals

pub goal_of_walk : (word : List ℕ) (dfa : DfaValue) (list : List (Option NeededLabel)) (from state : ℕ) (needed : NeededLabel) → IsDfa dfa → walk dfa from word ≡ Some state →
    needed_at list state ≡ Some needed → ReachesGoal (state_graph dfa list) from word
goal_of_walk [] dfa list from state needed valid leads has =
    ap (λ (n : ℕ). is_some (needed_at list n)) (same_Some from state leads) ∙ ap is_some has
goal_of_walk (label ∷ word) dfa list from state needed valid leads has =
    option_and_then_some (λ next. walk dfa next word) (step_of dfa from label) state leads (λ next step further.
    (label_within dfa from label next valid step, (next, step, goal_of_walk word dfa list next state needed valid further has)))

is_there : (o : Option NeededLabel) → IsTrue (is_some o) →
    (needed : NeededLabel) × (o ≡ Some needed)
is_there None some = absurd (false≢true some)
is_there (Some needed) some = (needed, refl)

-- the word of numbers leads from the state to one after which a label can't be left out
abbrev pub WalksToNeeded : DfaValue → List (Option NeededLabel) → ℕ → List ℕ → Type 0
WalksToNeeded dfa list from word = (state : ℕ) × (walk dfa from word ≡ Some state) × ((needed : NeededLabel) × (needed_at list state ≡ Some needed))

pub walk_of_goal : (word : List ℕ) (dfa : DfaValue) (list : List (Option NeededLabel)) (from : ℕ) → ReachesGoal (state_graph dfa list) from word → WalksToNeeded dfa list from word
walk_of_goal [] dfa list from reaches = (from, refl, is_there (needed_at list from) reaches)
walk_of_goal (label ∷ word) dfa list from reaches =
    let next = reaches.1.0 in
    let step : step_of dfa from label ≡ Some next = reaches.1.1 in
    let rest = walk_of_goal word dfa list next reaches.1.2 in
    (rest.0, ap (option_and_then (λ (after : ℕ). walk dfa after word)) step ∙ rest.1, rest.2)
