-- The nodes that are left while those of one root at one vertex are gone through after the others.
use Rattle.std.proofs.Common.{◌≡◌, ◌==◌, inl, inr, ◌≤◌, ◌<◌, ◌+◌, ◌&&◌, ℕ, Bool, true, false, List, [], ◌∷◌, ◌++◌, map, drop, length, get_or, Option, None, Some, slice_get, refl, sym, ap, ap₂, subst, ◌∙◌, Contains, true≢false, eqb, eq-eqb, arith}
use Rattle.std.specs.Prelude.{All, AllPairs}
use Rattle.std.specs.List.{IsDistinct, cons_option}
use Rattle.std.proofs.lemmas.Bool.{cases_eq, eqb-true}
use Rattle.std.proofs.lemmas.List.{get_or-drop, get_or-map, get_or_append_left, get_or_default, length-append, length-drop, length-map}
use Rattle.std.proofs.lemmas.List.Elements.{All-contains, Contains-append_cases, Contains-append_left, Contains-append_right}
use Rattle.std.proofs.lemmas.Map.Keys.{IsDistinct-from_apart, apart_from_distinct}
use Rattle.std.proofs.lemmas.Option.{slice_get-get_or, slice_get_within}
use Rattle.delta_tree.proofs.Ids.{some_is_one}
use Rattle.tree_insert.proofs.Members.{contains_head, contains_tail, contains_cases, contains_none}
use Rattle.place_table.specs.Table.{TableValue, tree_in}
use Rattle.source_tree.specs.declared.change.EndChange.{EndChange}
use Rattle.source_tree.specs.declared.change.Outcome.{Outcome}
use Rattle.end_log.specs.declared.moved.Moved.{Moved}
use Rattle.end_log.specs.Log.{AreEndChangesIn}
use Rattle.end_log.specs.Moves.{AreFinalMoves, IsInOrder, IsMove, IsUpTo, MovesOneWay, end_of, same_moved}
use Rattle.end_log.specs.Runs.{is_beside}
use Rattle.end_log.proofs.Deciding.{Finds, IsRunOf}
use Rattle.end_log.proofs.Filtered.{pairs_tail}
use Rattle.end_log.proofs.Finals.{ends_one_way, moves_at}
use Rattle.end_log.proofs.Telling.{IsTelling, Moves, is_same_place, same_place, telling_ends, telling_starts, telling_step}

-- ---- of one root at one vertex

pub beside_is : (first second : Moved) → is_beside first second ≡ true →
    (first.root ≡ second.root) × (first.vertex ≡ second.vertex)
beside_is first second is =
    by (first.vertex == second.vertex) refl (first.root == second.root) refl is
  where
    by : (v : Bool) → (first.vertex == second.vertex) ≡ v → (r : Bool) →
        (first.root == second.root) ≡ r → (v && r) ≡ true →
        (first.root ≡ second.root) × (first.vertex ≡ second.vertex)
    by true v true r is =
        (eqb-true first.root second.root r, eqb-true first.vertex second.vertex v)
    by true v false r is = absurd (true≢false (sym is))
    by false v r' r is = absurd (true≢false (sym is))

is_beside_if : (first second : Moved) → first.root ≡ second.root →
    first.vertex ≡ second.vertex → is_beside first second ≡ true
is_beside_if first second roots vertices =
    is_same_place first.root first.vertex second.root second.vertex roots vertices

-- the node of a root at a vertex with a state
abbrev pub node_by : ℕ → ℕ → ℕ → Moved
node_by root vertex state = record { vertex = vertex; root = root; state = state }

-- what is beside it is the root's at the vertex with another state
beside_with : (first second : Moved) → is_beside first second ≡ true →
    second ≡ node_by first.root first.vertex second.state
beside_with first second is =
    let same = beside_is first second is in
    ap₂ (λ root vertex. node_by root vertex second.state) (sym same.0) (sym same.1)

-- ---- parts of lists

abbrev pub states_of : List Moved → List ℕ
states_of moves = map (λ (each : Moved). each.state) moves

state_listed : (moves : List Moved) (moved : Moved) → Contains moves moved →
    Contains (states_of moves) moved.state
state_listed [] moved there = absurd (contains_none moved there)
state_listed (first ∷ rest) moved there = elim (contains_cases first rest moved there) [
  | inl is ↦ subst (λ (each : Moved). Contains (states_of (first ∷ rest)) each.state) is
      (contains_head first.state (states_of rest))
  | inr more ↦ contains_tail first.state (states_of rest) moved.state
      (state_listed rest moved more)
]

-- a node with the state
record HasState (moves : List Moved) (state : ℕ) : Type 0 where
  pub moved : Moved
  pub there : Contains moves moved
  pub is : moved.state ≡ state

has_state : (moves : List Moved) (state : ℕ) → Contains (states_of moves) state →
    HasState moves state
has_state [] state there = absurd (contains_none state there)
has_state (first ∷ rest) state there =
    elim (contains_cases first.state (states_of rest) state there) [
      | inl is ↦ record { moved = first; there = contains_head first rest; is = is }
      | inr more ↦
          let found = has_state rest state more in
          record {
            moved = found.moved;
            there = contains_tail first rest found.moved found.there;
            is = found.is;
          }
    ]

pairs_right : {X : Type 0} (R : X → X → Type 0) (xs ys : List X) → AllPairs R (xs ++ ys) →
    AllPairs R ys
pairs_right R [] ys pairs = pairs
pairs_right R (x ∷ xs) ys pairs = pairs_right R xs ys (pairs_tail R x (xs ++ ys) pairs)

pairs_left : {X : Type 0} (R : X → X → Type 0) (xs ys : List X) → AllPairs R (xs ++ ys) →
    AllPairs R xs
pairs_left R xs ys pairs i j d before within =
    subst (λ one. R one (get_or xs j d)) (get_or_append_left xs ys d i (omega (arith, before, within)))
    (subst (λ one. R (get_or (xs ++ ys) i d) one) (get_or_append_left xs ys d j within)
    (pairs i j d before (omega (arith, within, length-append xs ys))))

-- ---- what is left

-- a node of the root at the vertex is left
abbrev pub IsLeft : List Moved → ℕ → ℕ → Type 0
IsLeft left root vertex = (state : ℕ) × Contains left (node_by root vertex state)

-- two nodes differ
abbrev AreTwo : Moved → Moved → Type 0
AreTwo first second = same_moved first second ≡ false

-- what is left of the nodes, with all those of its roots and vertices, and the log of those before
pub record TellsRuns (finals : List ℕ) (outcome : Outcome) (old new : TableValue)
    (left : List Moved) (log : List EndChange) : Type 0 where
  pub telling : IsTelling finals outcome old new (IsLeft left) log
  pub order : IsInOrder left
  pub once : AllPairs AreTwo left
  pub only : (moved : Moved) → Contains left moved →
      Contains finals moved.state × IsMove outcome old new moved
  pub whole : (moved : Moved) → IsLeft left moved.root moved.vertex →
      Contains finals moved.state → IsMove outcome old new moved → Contains left moved

module _ (finals : List ℕ) (outcome : Outcome) (old new : TableValue)
    (way : MovesOneWay outcome old new) where
  -- ends do what nodes do
  one_way : (each : Outcome) (root vertex : ℕ) → Moves finals outcome old new each root vertex →
      each ≡ outcome
  one_way each root vertex moves = ends_one_way finals (tree_in old root) (tree_in new root)
      vertex outcome (λ kind state at. way kind (node_by root vertex state) at) each moves

  pub runs_start : (moves : List Moved) → AreFinalMoves finals outcome old new moves →
      IsInOrder moves → TellsRuns finals outcome old new moves []
  runs_start moves are order = record {
    telling = telling_starts finals outcome old new (IsLeft moves)
        (λ each root vertex moved.
        let at = moves_at finals (tree_in old root) (tree_in new root) vertex each moved in
        let kind = one_way each root vertex moved in (
          at.state,
          (are.exact (node_by root vertex at.state)).1 (
            at.final,
            subst (λ one. IsMove one old new (node_by root vertex at.state)) kind
                at.moves,
          ),
        ));
    order = order;
    once = λ i j d before within. apart_from_distinct same_moved moves i j d are.once before within;
    only = λ moved there. (are.exact moved).0 there;
    whole = λ moved left final moves_so. (are.exact moved).1 (final, moves_so);
  }

  pub runs_end : (log : List EndChange) → TellsRuns finals outcome old new [] log →
      AreEndChangesIn finals old new log
  runs_end log tells = telling_ends finals outcome old new (IsLeft []) log
      (λ root vertex waits. contains_none (node_by root vertex waits.0) waits.1) tells.telling

  module _ (first : Moved) (run rest : List Moved) (log : List EndChange)
      (those : All (λ (each : Moved). is_beside first each ≡ true) run)
      (none : All (λ (each : Moved). is_beside first each ≡ false) rest)
      (there : Contains (run ++ rest) first)
      (tells : TellsRuns finals outcome old new (run ++ rest) log) where
    -- nothing of the root is left at the vertex behind the run
    gone : (state : ℕ) → Contains rest (node_by first.root first.vertex state) → ⊥
    gone state later =
        let one = node_by first.root first.vertex state in
        true≢false (sym (is_beside_if first one refl refl)
        ∙ All-contains (λ (each : Moved). is_beside first each ≡ false) rest one none later)

    -- the run is of it alone
    in_run : (moved : Moved) → Contains run moved → is_beside first moved ≡ true
    in_run moved here =
        All-contains (λ (each : Moved). is_beside first each ≡ true) run moved those here

    of_run : (state : ℕ) → Contains (run ++ rest) (node_by first.root first.vertex state) →
        Contains run (node_by first.root first.vertex state)
    of_run state one =
        elim (Contains-append_cases run rest (node_by first.root first.vertex state) one) [
          | inl here ↦ here
          | inr later ↦ absurd (gone state later)
        ]

    run_once : IsDistinct eqb (states_of run)
    run_once = IsDistinct-from_apart eqb (states_of run) (λ i j d before within.
        let many : length (states_of run) ≡ length run =
        length-map run (λ (each : Moved). each.state) in
        let below : j < length run = omega (arith, within, many) in
        let above : i < length run = omega (arith, before, below) in
        let a = get_or run i first in
        let b = get_or run j first in
        let a_is = get_or-map (λ (each : Moved). each.state) run i first d above in
        let b_is = get_or-map (λ (each : Moved). each.state) run j first d below in
        ap₂ (λ m n. eqb m n) a_is b_is
        ∙ differ a b (in_run a (i, above, get_or_default run i a first above))
        (in_run b (j, below, get_or_default run j b first below))
        (pairs_left AreTwo run rest tells.once i j first before below)
        (eqb a.state b.state) refl)
      where
        differ : (a b : Moved) → is_beside first a ≡ true → is_beside first b ≡ true →
            AreTwo a b → (t : Bool) → eqb a.state b.state ≡ t → t ≡ false
        differ a b first_a first_b two true same =
            let a_is = beside_is first a first_a in
            let b_is = beside_is first b first_b in
            absurd (true≢false (sym (ap₂ (λ x y. x && y)
            (eq-eqb a.vertex b.vertex (sym a_is.1 ∙ b_is.1))
            (ap₂ (λ x y. x && y) (eq-eqb a.root b.root (sym a_is.0 ∙ b_is.0)) same)) ∙ two))
        differ a b first_a first_b two false other = refl

    -- the run has all of it that came or went
    pub is_run : IsRunOf finals outcome old new first (states_of run)
    is_run = record {
      exact = λ state. (
        (λ listed.
            let found = has_state run state listed in
            let is : found.moved ≡ node_by first.root first.vertex state =
            beside_with first found.moved (in_run found.moved found.there)
            ∙ ap (node_by first.root first.vertex) found.is in
            tells.only (node_by first.root first.vertex state)
            (subst (Contains (run ++ rest)) is
            (Contains-append_left run rest found.moved found.there))),
        (λ moves. state_listed run (node_by first.root first.vertex state) (of_run state
            (tells.whole (node_by first.root first.vertex state) (first.state, there) moves.0
            moves.1))),
      );
      once = run_once;
      some = state_listed run first (of_run first.state there);
    }

    rest_of : (root vertex state : ℕ) → same_place first.root first.vertex root vertex ≡ false →
        Contains (run ++ rest) (node_by root vertex state) →
        Contains rest (node_by root vertex state)
    rest_of root vertex state other one =
        elim (Contains-append_cases run rest (node_by root vertex state) one) [
          | inl here ↦ absurd (true≢false
              (sym (in_run (node_by root vertex state) here) ∙ other))
          | inr more ↦ more
        ]

    -- what is left behind the run is of another root or vertex
    another : (root vertex : ℕ) → IsLeft rest root vertex → (b : Bool) →
        same_place first.root first.vertex root vertex ≡ b → b ≡ false
    another root vertex (state, later) true is =
        let same = beside_is first (node_by root vertex state) is in
        absurd (gone state (subst (λ one. Contains rest (node_by one first.vertex state))
        (sym same.0) (subst (λ one. Contains rest (node_by root one state)) (sym same.1) later)))
    another root vertex left false other = refl

    -- the root and the vertex are told, if their end comes or goes
    pub runs_more : (found : Option EndChange) →
        Finds (end_of outcome first) (Moves finals outcome old new outcome first.root
        first.vertex) found → TellsRuns finals outcome old new rest (log ++ cons_option found [])
    runs_more found finds = record {
      telling = telling_step finals outcome old new one_way (IsLeft (run ++ rest)) (IsLeft rest)
          first.root first.vertex log
          (λ root vertex other. (
            (λ (state, one). (state, rest_of root vertex state other one)),
            (λ (state, one).
                (state, Contains-append_right run rest (node_by root vertex state) one)),
          )) tells.telling (first.state, there) (λ (state, later). gone state later) found finds;
      order = pairs_right IsUpTo run rest tells.order;
      once = pairs_right AreTwo run rest tells.once;
      only = λ moved later. tells.only moved (Contains-append_right run rest moved later);
      whole = λ moved left final moves.
          rest_of moved.root moved.vertex moved.state
          (another moved.root moved.vertex left
          (same_place first.root first.vertex moved.root moved.vertex) refl)
          (tells.whole moved
          (left.0, Contains-append_right run rest (node_by moved.root moved.vertex left.0) left.1)
          final moves);
    }

-- ---- the run at the head

-- a list without a first element
pub none_first : (moves : List Moved) → None ≡ slice_get moves 0 → moves ≡ []
none_first [] is = refl
none_first (first ∷ rest) is = absurd (none_or_some is)
  where
    none_or_some : None ≡ Some first → ⊥
    none_or_some same = cc

-- the first element of a list
pub first_is : (moves : List Moved) (first : Moved) → Some first ≡ slice_get moves 0 →
    get_or moves 0 first ≡ first
first_is moves first is =
    let within = slice_get_within moves 0 first (sym is) in
    some_is_one (get_or moves 0 first) first
    (sym (slice_get-get_or moves 0 first within) ∙ sym is)

pub has_first : (moves : List Moved) (first : Moved) → Some first ≡ slice_get moves 0 →
    Contains moves first
has_first moves first is =
    (0, slice_get_within moves 0 first (sym is), first_is moves first is)

-- in order also where both are one
up_to : (moves : List Moved) → IsInOrder moves → (i j : ℕ) (d : Moved) → i ≤ j →
    j < length moves → IsUpTo (get_or moves i d) (get_or moves j d)
up_to moves order i j d low within = elim (cases_eq i j) [
  | inl same ↦ subst (λ k. IsUpTo (get_or moves i d) (get_or moves k d)) same
      (inr (refl, omega arith))
  | inr apart ↦ order i j d (omega (arith, low, apart)) within
]

-- between two of one root at one vertex there is no other
between : (first middle last : Moved) → IsUpTo first middle → IsUpTo middle last →
    is_beside first last ≡ true → is_beside first middle ≡ true
between first middle last low high is =
    let same = beside_is first last is in
    elim low [
      | inl less ↦ absurd (elim high [
        | inl more ↦ omega (arith, less, more, same.1)
        | inr as_high ↦ omega (arith, less, as_high.0, same.1)
      ])
      | inr as_low ↦ elim high [
        | inl more ↦ absurd (omega (arith, as_low.0, more, same.1))
        | inr as_high ↦
            let roots : first.root ≡ middle.root =
            omega (arith, as_low.1, as_high.1, same.0) in
            is_beside_if first middle roots as_low.0
      ]
    ]

-- behind the run of a root and a vertex none of them comes
pub none_behind : (moves : List Moved) (first : Moved) (len : ℕ) → IsInOrder moves →
    Some first ≡ slice_get moves 0 →
    ((d : Moved) → len < length moves → is_beside first (get_or moves len d) ≡ false) →
    All (λ (each : Moved). is_beside first each ≡ false) (drop len moves)
none_behind moves first len order is end k d within =
    let inside : len + k < length moves = omega (arith, within, length-drop len moves) in
    let low : IsUpTo first (get_or moves len d) =
    subst (λ one. IsUpTo one (get_or moves len d))
    (get_or_default moves 0 d first (omega (arith, inside)) ∙ first_is moves first is)
    (up_to moves order 0 len d (omega arith) (omega (arith, inside))) in
    let high = up_to moves order len (len + k) d (omega arith) inside in
    ap (is_beside first) (get_or-drop len moves k d)
    ∙ by low high (is_beside first (get_or moves (len + k) d)) refl
  where
    by : IsUpTo first (get_or moves len d) → IsUpTo (get_or moves len d) (get_or moves (len + k) d) →
        (b : Bool) → is_beside first (get_or moves (len + k) d) ≡ b → b ≡ false
    by low high true beside = absurd (true≢false
        (sym (between first (get_or moves len d) (get_or moves (len + k) d) low high beside)
        ∙ end d (omega (arith, within, length-drop len moves))))
    by low high false other = refl
