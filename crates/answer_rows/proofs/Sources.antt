-- The answers of sources and their rows.
use Rattle.std.proofs.Common.{◌≡◌, ℕ, ◌+◌, Bool, false, cond, List, [], ◌∷◌, ◌++◌, length, map, filter, Option, Some, Ordering, refl, sym, ap, subst, ◌∙◌}
use Rattle.std.specs.Prelude.{All, sum_by}
use Rattle.std.specs.List.{AllByRecursion}
use Rattle.std.specs.List.Sorted.{IsStrictlySortedBy}
use Rattle.std.specs.Map.{keys_of, values_of, lookup}
use Rattle.std.specs.BTreeMap.{is_at}
use Rattle.std.specs.Option.{unwrap_or}
use Rattle.std.specs.Ordering.{is_eq, ordering_then}
use Rattle.std.specs.declared.cmp.Ordering.TheVariants.{Less, Equal, Greater}
use Rattle.std.proofs.lemmas.Bool.{false_from_ne_true}
use Rattle.std.proofs.lemmas.Cmp.{tied_itself, nat_list_cmp_total}
use Rattle.std.proofs.lemmas.List.{append-nil, map-append, length-map, length-append}
use Rattle.std.proofs.lemmas.List.Elements.{All-nil, All-cons, All-head, All-tail, All-append, All-from_recursion, filter-append}
use Rattle.std.proofs.lemmas.List.Sums.{sum_by-cons}
use Rattle.std.proofs.lemmas.Map.{lookup-none, NonePasses}
use Rattle.std.proofs.lemmas.Map.Keys.{sorted_head, sorted_tail}
use Rattle.std.proofs.lemmas.Map.Lookups.{exact_bytes}
use Rattle.rpq_base.specs.Order.{name_cmp, pair_cmp}
use Rattle.rpq_base.specs.Same.{same_name}
use Rattle.rpq_base.specs.declared.data.Pair.{Pair}
use Rattle.rpq_base.proofs.Equality.{names, name_again}
use Rattle.rpq_base.proofs.Sorted.{sorted_nil, sorted_cons}
use Rattle.answer_rows.specs.Answers.{Answer, pair, pair_of, pairs, AreRows, row_of, target_of, AreTargets}
use Rattle.answer_rows.specs.BySource.{BySource, answer, answers, held_row}
use Rattle.answer_rows.specs.declared.target.Target.{Target}
use Rattle.answer_rows.proofs.Places.{to_of}

-- ---- the row of a source

row_append : (rows others : List Answer) (from : List ℕ) → row_of (rows ++ others) from ≡ row_of rows from ++ row_of others from
row_append rows others from =
    let test : Answer → Bool = λ each. same_name each.from from in
    ap (map target_of) (filter-append test rows others) ∙ map-append target_of (filter test rows) (filter test others)

-- the row of a source is what it leads to
pub row_here : (from : List ℕ) (targets : List Target) → row_of (map (answer from) targets) from ≡ targets
row_here from [] = refl
row_here from (first ∷ rest) = rw (name_again from) (ap (λ (others : List Target). first ∷ others) (row_here from rest))

-- another source has no part in it
pub row_elsewhere : (from other : List ℕ) (targets : List Target) → same_name from other ≡ false → row_of (map (answer from) targets) other ≡ []
row_elsewhere from other [] e = refl
row_elsewhere from other (first ∷ rest) e = rw e (row_elsewhere from other rest e)

-- sources above a name don't have it
pub none_passes : (from : List ℕ) (rest : BySource) → AllByRecursion (λ each. name_cmp from each ≡ Less) (keys_of rest) →
    NonePasses (is_at (name_cmp from)) rest
none_passes from [] below = tt
none_passes from (first ∷ rest) below = (ap is_eq below.0, none_passes from rest below.1)

row_step : (order : Ordering) (source : List ℕ × List Target) (rest : BySource) (from : List ℕ) → name_cmp from source.0 ≡ order →
    IsStrictlySortedBy name_cmp (keys_of (source ∷ rest)) → row_of (answers rest) from ≡ held_row rest from →
    row_of (answers (source ∷ rest)) from ≡ unwrap_or (cond (is_eq order) (Some source.1) (lookup (is_at (name_cmp from)) rest)) []
row_step Less source rest from e sorted further =
    row_append (map (answer source.0) source.1) (answers rest) from
    ∙ (ap (λ (row : List Target). row ++ row_of (answers rest) from)
    (row_elsewhere source.0 from source.1 (false_from_ne_true (same_name source.0 from) (λ same.
    let tied : name_cmp from source.0 ≡ Equal = ap (name_cmp from) ((names source.0 from).0 same) ∙ tied_itself nat_list_cmp_total from in
    cc)))
    ∙ further)
row_step Greater source rest from e sorted further =
    row_append (map (answer source.0) source.1) (answers rest) from
    ∙ (ap (λ (row : List Target). row ++ row_of (answers rest) from)
    (row_elsewhere source.0 from source.1 (false_from_ne_true (same_name source.0 from) (λ same.
    let tied : name_cmp from source.0 ≡ Equal = ap (name_cmp from) ((names source.0 from).0 same) ∙ tied_itself nat_list_cmp_total from in
    cc)))
    ∙ further)
row_step Equal source rest from e sorted further =
    let is : from ≡ source.0 = exact_bytes from source.0 e in
    let none : held_row rest source.0 ≡ [] =
    ap (λ (row : Option (List Target)). unwrap_or row [])
    (lookup-none (is_at (name_cmp source.0)) rest (none_passes source.0 rest (sorted_head name_cmp source.0 (keys_of rest) sorted))) in
    row_append (map (answer source.0) source.1) (answers rest) from
    ∙ (ap (λ (name : List ℕ). row_of (map (answer source.0) source.1) name ++ row_of (answers rest) from) is
    ∙ (ap (λ (row : List Target). row ++ row_of (answers rest) from) (row_here source.0 source.1)
    ∙ (ap (λ (row : List Target). source.1 ++ row) (further ∙ (ap (held_row rest) is ∙ none))
    ∙ append-nil source.1)))

-- the row of a source is the one that is held
pub row_is_held : (sources : BySource) (from : List ℕ) → IsStrictlySortedBy name_cmp (keys_of sources) →
    row_of (answers sources) from ≡ held_row sources from
row_is_held [] from sorted = refl
row_is_held (source ∷ rest) from sorted =
    row_step (name_cmp from source.0) source rest from refl sorted
    (row_is_held rest from (sorted_tail name_cmp source.0 (keys_of rest) sorted))

-- ---- the order of the answers

sorted_append : {X : Type 0} (cmp : X → X → Ordering) (firsts others : List X) → IsStrictlySortedBy cmp firsts → IsStrictlySortedBy cmp others →
    All (λ first. All (λ other. cmp first other ≡ Less) others) firsts → IsStrictlySortedBy cmp (firsts ++ others)
sorted_append cmp [] others sorted others_sorted below = others_sorted
sorted_append {X} cmp (first ∷ rest) others sorted others_sorted below =
    sorted_cons cmp first (rest ++ others)
    (All-append (λ (each : X). cmp first each ≡ Less) rest others
    (All-from_recursion (λ (each : X). cmp first each ≡ Less) rest (sorted_head cmp first rest sorted))
    (All-head (λ (each : X). All (λ (other : X). cmp each other ≡ Less) others) first rest below))
    (sorted_append cmp rest others (sorted_tail cmp first rest sorted) others_sorted
    (All-tail (λ (each : X). All (λ (other : X). cmp each other ≡ Less) others) first rest below))

-- the pairs of a source to targets above one
below_row : (from to : List ℕ) (targets : List Target) → All (λ name. name_cmp to name ≡ Less) (map to_of targets) →
    All (λ each. pair_cmp (pair from to) each ≡ Less) (pairs (map (answer from) targets))
below_row from to [] below = All-nil (λ (each : Pair). pair_cmp (pair from to) each ≡ Less)
below_row from to (first ∷ rest) below =
    All-cons (λ (each : Pair). pair_cmp (pair from to) each ≡ Less) (pair from first.to) (pairs (map (answer from) rest))
    (ap (λ (order : Ordering). ordering_then order (name_cmp to first.to)) (tied_itself nat_list_cmp_total from)
    ∙ All-head (λ (name : List ℕ). name_cmp to name ≡ Less) first.to (map to_of rest) below)
    (below_row from to rest (All-tail (λ (name : List ℕ). name_cmp to name ≡ Less) first.to (map to_of rest) below))

pub row_sorted : (from : List ℕ) (targets : List Target) → AreTargets targets → AreRows (map (answer from) targets)
row_sorted from [] sorted = sorted_nil pair_cmp
row_sorted from (first ∷ rest) sorted =
    sorted_cons pair_cmp (pair from first.to) (pairs (map (answer from) rest))
    (below_row from first.to rest (All-from_recursion (λ (name : List ℕ). name_cmp first.to name ≡ Less) (map to_of rest)
    (sorted_head name_cmp first.to (map to_of rest) sorted)))
    (row_sorted from rest (sorted_tail name_cmp first.to (map to_of rest) sorted))

-- the pairs of a source above another
above_source : (from to other : List ℕ) (targets : List Target) → name_cmp from other ≡ Less →
    All (λ each. pair_cmp (pair from to) each ≡ Less) (pairs (map (answer other) targets))
above_source from to other [] less = All-nil (λ (each : Pair). pair_cmp (pair from to) each ≡ Less)
above_source from to other (first ∷ rest) less =
    All-cons (λ (each : Pair). pair_cmp (pair from to) each ≡ Less) (pair other first.to) (pairs (map (answer other) rest))
    (ap (λ (order : Ordering). ordering_then order (name_cmp to first.to)) less)
    (above_source from to other rest less)

pairs_append : (rows others : List Answer) → pairs (rows ++ others) ≡ pairs rows ++ pairs others
pairs_append rows others = map-append pair_of rows others

above_sources : (from to : List ℕ) (rest : BySource) → AllByRecursion (λ each. name_cmp from each ≡ Less) (keys_of rest) →
    All (λ each. pair_cmp (pair from to) each ≡ Less) (pairs (answers rest))
above_sources from to [] below = All-nil (λ (each : Pair). pair_cmp (pair from to) each ≡ Less)
above_sources from to (source ∷ rest) below =
    subst (All (λ (each : Pair). pair_cmp (pair from to) each ≡ Less)) (sym (pairs_append (map (answer source.0) source.1) (answers rest)))
    (All-append (λ (each : Pair). pair_cmp (pair from to) each ≡ Less) (pairs (map (answer source.0) source.1)) (pairs (answers rest))
    (above_source from to source.0 source.1 below.0) (above_sources from to rest below.1))

all_above : (from : List ℕ) (targets : List Target) (rest : BySource) → AllByRecursion (λ each. name_cmp from each ≡ Less) (keys_of rest) →
    All (λ first. All (λ each. pair_cmp first each ≡ Less) (pairs (answers rest))) (pairs (map (answer from) targets))
all_above from [] rest below = All-nil (λ (first : Pair). All (λ (each : Pair). pair_cmp first each ≡ Less) (pairs (answers rest)))
all_above from (first ∷ targets) rest below =
    All-cons (λ (first : Pair). All (λ (each : Pair). pair_cmp first each ≡ Less) (pairs (answers rest)))
    (pair from first.to) (pairs (map (answer from) targets))
    (above_sources from first.to rest below) (all_above from targets rest below)

-- the answers of sources in order, with rows in order, are in order
pub answers_sorted : (sources : BySource) → IsStrictlySortedBy name_cmp (keys_of sources) → All AreTargets (values_of sources) →
    AreRows (answers sources)
answers_sorted [] sorted rows = sorted_nil pair_cmp
answers_sorted (source ∷ rest) sorted rows =
    subst (IsStrictlySortedBy pair_cmp) (sym (pairs_append (map (answer source.0) source.1) (answers rest)))
    (sorted_append pair_cmp (pairs (map (answer source.0) source.1)) (pairs (answers rest))
    (row_sorted source.0 source.1 (All-head AreTargets source.1 (values_of rest) rows))
    (answers_sorted rest (sorted_tail name_cmp source.0 (keys_of rest) sorted) (All-tail AreTargets source.1 (values_of rest) rows))
    (all_above source.0 source.1 rest (sorted_head name_cmp source.0 (keys_of rest) sorted)))

-- ---- the number of the answers

abbrev pub pairs_in : BySource → ℕ
pairs_in sources = sum_by (λ (row : List Target). length row) (values_of sources)

-- there are as many answers as targets in the rows
pub answers_counted : (sources : BySource) → length (answers sources) ≡ pairs_in sources
answers_counted [] = refl
answers_counted (source ∷ rest) =
    length-append (map (answer source.0) source.1) (answers rest)
    ∙ (ap (λ (n : ℕ). n + length (answers rest)) (length-map source.1 (answer source.0))
    ∙ (ap (λ (n : ℕ). length source.1 + n) (answers_counted rest)
    ∙ sym (sum_by-cons (λ (row : List Target). length row) source.1 (values_of rest))))
