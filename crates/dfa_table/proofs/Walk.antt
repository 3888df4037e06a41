-- The list of nodes that grows while rows are made, and the rows, one after another.
use Rattle.std.proofs.Common.{◌≡◌, ◌≢◌, ℕ, zero, suc, ◌+◌, ◌<◌, ◌≤◌, List, [], ◌∷◌, ◌++◌, length, get_or, Option, Some, None, eqb, refl, sym, ap, ◌∙◌, subst, ◌⊎◌, inl, inr, ⊎_elim, arith}
use Rattle.std.specs.Prelude.{All, Contains}
use Rattle.std.specs.List.{AllPairs, flat_map, IsDistinct}
use Rattle.std.proofs.lemmas.Bool.{cases_eq, cases_lt, eqb-true, ne_eqb}
use Rattle.std.proofs.lemmas.Cmp.{nat_eq_equiv}
use Rattle.std.proofs.lemmas.List.{append-nil, get_or_append_left, get_or_push, get_or_default, get_or_read, length_push}
use Rattle.std.proofs.lemmas.List.Concat.{flat_map-append}
use Rattle.std.proofs.lemmas.List.Elements.{All-get_or, All-from_get_or, All-push, All-contains}
use Rattle.std.proofs.lemmas.List.Quantifiers.{all_pairs_push}
use Rattle.std.proofs.lemmas.Map.Keys.{IsDistinct-from_apart}
use Rattle.std.proofs.lemmas.Map.Made.{length-le_from_is_member}
use Rattle.std.proofs.lemmas.Map.Views.{Contains-from_any, list_any-from_Contains}
use Rattle.std.proofs.lemmas.Option.{none-some, same_Some}
use Rattle.dfa_table.specs.Order.{IsInOrder, greatest_of}
use Rattle.dfa_table.specs.Discovery.{GraphValue, IsDeterminate, node_at, IsNext, IsReached, FromFirst, FromNode, IsStep, IsRow, IsRowOf, Grows, IsFull, AreRows, HasTooMany}
use Rattle.dfa_table.proofs.Order.{order_joined, greatest_joined}

-- ---- growing

-- a list of distinct nodes with a new one at its end
apart_more : (nodes : List ℕ) (node : ℕ) → AllPairs ◌≢◌ nodes → (Contains nodes node → ⊥) → AllPairs ◌≢◌ (nodes ++ node ∷ [])
apart_more nodes node apart new =
    all_pairs_push ◌≢◌ nodes node apart (λ place d below same. new (place, below, get_or_default nodes place node d below ∙ same))

-- and again
pub grows_twice : (graph : GraphValue) (limit front : ℕ) (first second third : List ℕ) → Grows graph limit front first second →
    Grows graph limit front second third → Grows graph limit front first third
grows_twice graph limit front first second third before after = record {
  longer = omega (arith, before.longer, after.longer);
  few = after.few;
  same = λ place below. after.same place (omega (arith, before.longer)) ∙ before.same place below;
  next = λ place above below. ⊎_elim
      (λ earlier. subst (IsNext graph front) (sym (after.same place earlier)) (before.next place above earlier))
      (λ later. after.next place later below)
      (cases_lt place (length second));
  apart = after.apart;
}

-- ---- rows

-- a step stays right while nodes come at the end
step_kept : (step : Option ℕ) (graph : GraphValue) (front label : ℕ) (before after : List ℕ) → length before ≤ length after →
    ((place : ℕ) → place < length before → node_at after place ≡ node_at before place) → IsStep graph before front label step →
    IsStep graph after front label step
step_kept None graph front label before after longer kept right = right
step_kept (Some zero) graph front label before after longer kept right = right
step_kept (Some (suc place)) graph front label before after longer kept right =
    (omega (arith, right.0), subst (λ (node : ℕ). graph.leads front label (Some node)) (sym (kept place right.0)) right.1)

pub row_kept : (graph : GraphValue) (front width : ℕ) (row : List (Option ℕ)) (before after : List ℕ) → length before ≤ length after →
    ((place : ℕ) → place < length before → node_at after place ≡ node_at before place) → IsRow graph before front width row →
    IsRow graph after front width row
row_kept graph front width row before after longer kept right = record {
  even = right.even;
  steps = λ label below. step_kept (get_or row label None) graph front label before after longer kept (right.steps label below);
}

-- a row with one step more
pub row_more : (graph : GraphValue) (nodes : List ℕ) (front width : ℕ) (row after : List (Option ℕ)) (step : Option ℕ) →
    after ≡ row ++ step ∷ [] → IsRow graph nodes front width row → IsStep graph nodes front width step →
    IsRow graph nodes front (width + 1) after
row_more graph nodes front width row after step pushed right here =
    subst (IsRow graph nodes front (width + 1)) (sym pushed) (record {
      even = length_push row step ∙ omega (arith, right.even);
      steps = λ label within. elim (cases_eq label width) [
        | inl is ↦
            let last : get_or (row ++ step ∷ []) label None ≡ step = get_or_push row step None label (omega (arith, right.even)) in
            subst (IsStep graph nodes front label) (sym last)
            (subst (λ (n : ℕ). IsStep graph nodes front n step) (sym is) here)
        | inr other ↦
            let same : get_or (row ++ step ∷ []) label None ≡ get_or row label None =
            get_or_append_left row (step ∷ []) None label (omega (arith, right.even)) in
            subst (IsStep graph nodes front label) (sym same) (right.steps label (omega (arith, right.even)))
      ];
    })

-- one step more in the order of discovery
pub order_more : (row after : List (Option ℕ)) (step : Option ℕ) (start before end : ℕ) → after ≡ row ++ step ∷ [] → IsInOrder start row →
    greatest_of start row ≡ before → IsInOrder before (step ∷ []) → greatest_of before (step ∷ []) ≡ end →
    IsInOrder start after × (greatest_of start after ≡ end)
order_more row after step start before end pushed ordered greatest further last = (
  subst (IsInOrder start) (sym pushed) (order_joined row (step ∷ []) start ordered (subst (λ (n : ℕ). IsInOrder n (step ∷ [])) (sym greatest) further)),
  ap (greatest_of start) pushed ∙ (greatest_joined row (step ∷ []) start ∙ (ap (λ (n : ℕ). greatest_of n (step ∷ [])) greatest ∙ last)),
)

-- ---- the rows of the walk

-- what comes is reached where the next ones from the front are
pub reached_more : (graph : GraphValue) (limit first front : ℕ) (before after : List ℕ) → All (IsReached graph first) before →
    Grows graph limit front before after → ((node : ℕ) → IsNext graph front node → IsReached graph first node) →
    All (IsReached graph first) after
reached_more graph limit first front before after reached grows reaches =
    All-from_get_or (IsReached graph first) after 0 (λ place within. ⊎_elim
    (λ earlier. subst (IsReached graph first) (sym (grows.same place earlier)) (All-get_or (IsReached graph first) before place 0 earlier reached))
    (λ later. reaches (node_at after place) (grows.next place later within))
    (cases_lt place (length before)))

-- with as many nodes as the limit and one more there are too many
pub too_many : (graph : GraphValue) (limit first front : ℕ) (nodes : List ℕ) → All (IsReached graph first) nodes → AllPairs ◌≢◌ nodes →
    ((node : ℕ) → IsNext graph front node → IsReached graph first node) → IsFull graph limit front nodes → HasTooMany graph limit first
too_many graph limit first front nodes reached apart reaches full = record {
  nodes = nodes ++ full.further ∷ [];
  many = length_push nodes full.further ∙ omega (arith, full.full);
  apart = apart_more nodes full.further apart full.new;
  reached = All-push (IsReached graph first) nodes full.further reached (reaches full.further full.next);
}

one_row : (row : List (Option ℕ)) → flat_map (λ (each : List (Option ℕ)). each) (row ∷ []) ≡ row
one_row row = append-nil row

-- the next ones from the first front are reached
pub reached_first : (graph : GraphValue) (limit first : ℕ) (nodes : List ℕ) → Grows graph limit first [] nodes → All (IsReached graph first) nodes
reached_first graph limit first nodes grows =
    reached_more graph limit first first [] nodes (λ place d within. absurd (omega arith)) grows (λ node next. FromFirst node next)

-- the row of the start
pub first_row : (graph : GraphValue) (limit first : ℕ) (nodes : List ℕ) (row : List (Option ℕ)) → Grows graph limit first [] nodes →
    IsRow graph nodes first graph.label_count row → IsInOrder 0 row → greatest_of 0 row ≡ length nodes →
    AreRows graph limit first nodes (row ∷ []) 0
first_row graph limit first nodes row grows is ordered greatest = record {
  as_many = refl;
  within = omega arith;
  few = grows.few;
  apart = grows.apart;
  reached = reached_first graph limit first nodes grows;
  start = is;
  others = λ place below. absurd (omega arith);
  order = subst (IsInOrder 0) (sym (one_row row)) ordered;
  greatest = ap (greatest_of 0) (one_row row) ∙ greatest;
}

-- the next ones from the front of a reached node are reached
pub reaches_from : (graph : GraphValue) (first front : ℕ) (nodes : List ℕ) (place : ℕ) → All (IsReached graph first) nodes → place < length nodes →
    graph.opens (node_at nodes place) front → (node : ℕ) → IsNext graph front node → IsReached graph first node
reaches_from graph first front nodes place reached within opens node next =
    FromNode (node_at nodes place) front node (All-get_or (IsReached graph first) nodes place 0 within reached) opens next

-- a row stays that of its node
row_of_kept : (graph : GraphValue) (before after : List ℕ) (node other : ℕ) (row : List (Option ℕ)) → length before ≤ length after →
    ((place : ℕ) → place < length before → node_at after place ≡ node_at before place) → other ≡ node → IsRowOf graph before node row →
    IsRowOf graph after other row
row_of_kept graph before after node other row longer kept same is = record {
  front = is.front;
  opens = subst (λ (n : ℕ). graph.opens n is.front) (sym same) is.opens;
  is = row_kept graph is.front graph.label_count row before after longer kept is.is;
}

-- the row of one more node
pub next_row : (graph : GraphValue) (limit first front : ℕ) (before after : List ℕ) (rows : List (List (Option ℕ))) (row : List (Option ℕ)) (done : ℕ) →
    AreRows graph limit first before rows done → done < length before → graph.opens (node_at before done) front → Grows graph limit front before after →
    IsRow graph after front graph.label_count row → IsInOrder (length before) row → greatest_of (length before) row ≡ length after →
    AreRows graph limit first after (rows ++ row ∷ []) (suc done)
next_row graph limit first front before after rows row done are below opens grows is ordered greatest =
    let all = flat_map (λ (each : List (Option ℕ)). each) rows in
    let joined : flat_map (λ (each : List (Option ℕ)). each) (rows ++ row ∷ []) ≡ all ++ row =
    flat_map-append (λ (each : List (Option ℕ)). each) rows (row ∷ []) ∙ ap (λ (last : List (Option ℕ)). all ++ last) (one_row row) in
    let at_first : get_or (rows ++ row ∷ []) 0 [] ≡ get_or rows 0 [] = get_or_append_left rows (row ∷ []) [] 0 (omega (arith, are.as_many)) in
    record {
      as_many = length_push rows row ∙ omega (arith, are.as_many);
      within = omega (arith, grows.longer);
      few = grows.few;
      apart = grows.apart;
      reached = reached_more graph limit first front before after are.reached grows (reaches_from graph first front before done are.reached below opens);
      start = subst (IsRow graph after first graph.label_count) (sym at_first)
          (row_kept graph first graph.label_count (get_or rows 0 []) before after grows.longer grows.same are.start);
      others = λ place within. elim (cases_eq place done) [
        | inl same ↦
            let last : get_or (rows ++ row ∷ []) (suc place) [] ≡ row = get_or_push rows row [] (suc place) (omega (arith, are.as_many)) in
            let node : node_at after place ≡ node_at before done = grows.same place (omega arith) ∙ ap (node_at before) same in
            subst (IsRowOf graph after (node_at after place)) (sym last)
            (record { front = front; opens = subst (λ (n : ℕ). graph.opens n front) (sym node) opens; is = is })
        | inr other ↦
            let earlier : get_or (rows ++ row ∷ []) (suc place) [] ≡ get_or rows (suc place) [] =
            get_or_append_left rows (row ∷ []) [] (suc place) (omega (arith, are.as_many)) in
            subst (IsRowOf graph after (node_at after place)) (sym earlier)
            (row_of_kept graph before after (node_at before place) (node_at after place) (get_or rows (suc place) []) grows.longer grows.same
            (grows.same place (omega arith)) (are.others place (omega arith)))
      ];
      order = subst (IsInOrder 0) (sym joined) (order_joined all row 0 are.order (subst (λ (n : ℕ). IsInOrder n row) (sym are.greatest) ordered));
      greatest = ap (greatest_of 0) joined ∙ (greatest_joined all row 0 ∙ (ap (λ (n : ℕ). greatest_of n row) are.greatest ∙ greatest));
    }

-- a node that was read is that at the place
pub read_opens : (graph : GraphValue) (nodes : List ℕ) (front node place : ℕ) → place < length nodes → node ≡ get_or nodes place node →
    graph.opens node front → graph.opens (node_at nodes place) front
read_opens graph nodes front node place below read opens =
    subst (λ (n : ℕ). graph.opens n front) (get_or_read nodes place node below read 0) opens

-- ---- all that is reached

step_there : (step : Option ℕ) (graph : GraphValue) (nodes : List ℕ) (front label node : ℕ) → IsDeterminate graph →
    IsStep graph nodes front label step → graph.leads front label (Some node) → Contains nodes node
step_there None graph nodes front label node one is leads = absurd (none-some node (one.one_way front label None (Some node) is leads))
step_there (Some zero) graph nodes front label node one is leads = absurd is
step_there (Some (suc place)) graph nodes front label node one is leads =
    let same = same_Some (node_at nodes place) node (one.one_way front label (Some (node_at nodes place)) (Some node) is.1 leads) in
    (place, is.0, get_or_default nodes place node 0 is.0 ∙ same)

row_there : (graph : GraphValue) (nodes : List ℕ) (front node : ℕ) (row : List (Option ℕ)) → IsDeterminate graph →
    IsRow graph nodes front graph.label_count row → IsNext graph front node → Contains nodes node
row_there graph nodes front node row one is next =
    step_there (get_or row next.label None) graph nodes front next.label node one (is.steps next.label next.within) next.leads

-- a reached node is among those with rows
pub all_there : (graph : GraphValue) (limit first : ℕ) (nodes : List ℕ) (rows : List (List (Option ℕ))) → IsDeterminate graph →
    AreRows graph limit first nodes rows (length nodes) → (node : ℕ) → IsReached graph first node → Contains nodes node
all_there graph limit first nodes rows one are _ (FromFirst node next) =
    row_there graph nodes first node (get_or rows 0 []) one are.start next
all_there graph limit first nodes rows one are _ (FromNode before front node reached opens next) =
    let at = all_there graph limit first nodes rows one are before reached in
    let other = are.others at.0 at.1 in
    let is_before : node_at nodes at.0 ≡ before = get_or_default nodes at.0 0 before at.1 ∙ at.2 in
    let same : other.front ≡ front =
    one.one_front before other.front front (subst (λ (n : ℕ). graph.opens n other.front) is_before other.opens) opens in
    row_there graph nodes front node (get_or rows (suc at.0) []) one
    (subst (λ (f : ℕ). IsRow graph nodes f graph.label_count (get_or rows (suc at.0) [])) same other.is) next

-- so no more than the limit are reached
pub not_too_many : (graph : GraphValue) (limit first : ℕ) (nodes : List ℕ) (rows : List (List (Option ℕ))) → IsDeterminate graph →
    AreRows graph limit first nodes rows (length nodes) → HasTooMany graph limit first → ⊥
not_too_many graph limit first nodes rows one are many =
    let distinct : IsDistinct eqb many.nodes = IsDistinct-from_apart eqb many.nodes (λ i j d before below.
    ne_eqb (get_or many.nodes i d) (get_or many.nodes j d) (many.apart i j d before below)) in
    let most = length-le_from_is_member nat_eq_equiv many.nodes nodes distinct (λ node member.
    list_any-from_Contains nat_eq_equiv node nodes (all_there graph limit first nodes rows one are node
    (All-contains (IsReached graph first) many.nodes node many.reached (Contains-from_any (λ x y e. eqb-true x y e) node many.nodes member)))) in
    absurd (omega (arith, most, many.many, are.few))
