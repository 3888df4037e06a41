-- The pairs that others lack, where rows differ at most in those of some sources.
use Rattle.std.proofs.Common.{◌≡◌, ℕ, Bool, true, false, not, cond, List, [], ◌∷◌, ◌++◌, map, filter, Option, Some, None, Ordering, refl, sym, ap, subst, ◌∙◌, ◌⊎◌, inl, inr, ⊎_elim}
use Rattle.std.specs.Prelude.{All, Contains}
use Rattle.std.specs.List.{list_any}
use Rattle.std.specs.List.Sorted.{IsStrictlySortedBy}
use Rattle.std.specs.Map.{keys_of, values_of, lookup}
use Rattle.std.specs.BTreeMap.{is_at}
use Rattle.std.specs.Option.{unwrap_or}
use Rattle.std.specs.Ordering.{is_eq}
use Rattle.std.specs.declared.cmp.Ordering.TheVariants.{Less, Equal, Greater}
use Rattle.std.proofs.lemmas.Cmp.{tied_itself, nat_list_cmp_total}
use Rattle.std.proofs.lemmas.List.{map-append}
use Rattle.std.proofs.lemmas.List.Elements.{All-nil, All-cons, All-head, All-tail, All-from_recursion, Contains-get_or}
use Rattle.std.proofs.lemmas.Map.Keys.{sorted_head, sorted_tail}
use Rattle.std.proofs.lemmas.Map.Lookups.{exact_bytes}
use Rattle.rpq_base.specs.Order.{name_cmp, pair_cmp}
use Rattle.rpq_base.specs.Same.{same_name, same_pair}
use Rattle.rpq_base.specs.declared.data.Pair.{Pair}
use Rattle.rpq_base.proofs.Equality.{names}
use Rattle.rpq_base.proofs.Members.{cons_members, none_in}
use Rattle.rpq_base.proofs.Sorted.{sorted_cons}
use Rattle.answer_rows.specs.Answers.{Answer, pair, pair_of, pairs, AreRows, row_of, target_of, AreTargets, has_target}
use Rattle.answer_rows.specs.BySource.{BySource, answer, answers}
use Rattle.answer_rows.specs.Changes.{without, DifferAtMostIn}
use Rattle.answer_rows.specs.RowChanges.{row_without, rows_without}
use Rattle.answer_rows.specs.declared.target.Target.{Target}
use Rattle.answer_rows.proofs.Changed.{there_is_target}
use Rattle.answer_rows.proofs.Ends.{rows_tell}
use Rattle.answer_rows.proofs.Places.{to_of}
use Rattle.answer_rows.proofs.Sources.{row_is_held, answers_sorted}

-- ---- a part of a list in order is in order

kept_all_step : {X Y : Type 0} (P : Y → Type 0) (read : X → Y) (test : Bool) (first : X) (kept : List X) → P (read first) → All P (map read kept) →
    All P (map read (cond test (first ∷ kept) kept))
kept_all_step P read true first kept is all = All-cons P (read first) (map read kept) is all
kept_all_step P read false first kept is all = all

all_kept : {X Y : Type 0} (P : Y → Type 0) (read : X → Y) (passes : X → Bool) (elements : List X) → All P (map read elements) →
    All P (map read (filter passes elements))
all_kept P read passes [] all = all
all_kept P read passes (first ∷ rest) all =
    kept_all_step P read (passes first) first (filter passes rest) (All-head P (read first) (map read rest) all)
    (all_kept P read passes rest (All-tail P (read first) (map read rest) all))

kept_step : {X Y : Type 0} (cmp : Y → Y → Ordering) (read : X → Y) (passes : X → Bool) (test : Bool) (first : X) (rest : List X) →
    IsStrictlySortedBy cmp (map read (first ∷ rest)) → IsStrictlySortedBy cmp (map read (filter passes rest)) →
    IsStrictlySortedBy cmp (map read (cond test (first ∷ filter passes rest) (filter passes rest)))
kept_step cmp read passes false first rest sorted further = further
kept_step {X} {Y} cmp read passes true first rest sorted further =
    sorted_cons cmp (read first) (map read (filter passes rest))
    (all_kept (λ (each : Y). cmp (read first) each ≡ Less) read passes rest
    (All-from_recursion (λ (each : Y). cmp (read first) each ≡ Less) (map read rest) (sorted_head cmp (read first) (map read rest) sorted)))
    further

pub kept_in_order : {X Y : Type 0} (cmp : Y → Y → Ordering) (read : X → Y) (passes : X → Bool) (elements : List X) →
    IsStrictlySortedBy cmp (map read elements) → IsStrictlySortedBy cmp (map read (filter passes elements))
kept_in_order cmp read passes [] sorted = sorted
kept_in_order cmp read passes (first ∷ rest) sorted =
    kept_step cmp read passes (passes first) first rest sorted
    (kept_in_order cmp read passes rest (sorted_tail cmp (read first) (map read rest) sorted))

-- ---- answers that others lack

-- whether others lack the pair of an answer
abbrev lacks : List Answer → Answer → Bool
lacks others each = not (list_any (same_pair (pair_of each)) (pairs others))

-- whether a row lacks the name of a target
abbrev row_lacks : List Target → Target → Bool
row_lacks row each = not (has_target row each.to)

lacking_step : (test : Bool) (first : Answer) (rest kept : List Answer) (others : List Pair) →
    pairs kept ≡ without (pairs rest) others →
    pairs (cond test (first ∷ kept) kept) ≡ cond test (pair_of first ∷ without (pairs rest) others) (without (pairs rest) others)
lacking_step true first rest kept others further = ap (λ (all : List Pair). pair_of first ∷ all) further
lacking_step false first rest kept others further = further

-- the pairs of the answers that others lack are the pairs that others lack
lacking_pairs : (rows others : List Answer) → pairs (filter (lacks others) rows) ≡ without (pairs rows) (pairs others)
lacking_pairs [] others = refl
lacking_pairs (first ∷ rest) others =
    lacking_step (lacks others first) first rest (filter (lacks others) rest) (pairs others) (lacking_pairs rest others)

row_step : (test kept : Bool) (from : List ℕ) (first : Answer) (rest others : List Answer) →
    same_name first.from from ≡ test → row_lacks (row_of others from) (target_of first) ≡ kept →
    row_of (filter (lacks others) rest) from ≡ filter (row_lacks (row_of others from)) (row_of rest from) →
    row_of (cond (lacks others first) (first ∷ filter (lacks others) rest) (filter (lacks others) rest)) from
    ≡ filter (row_lacks (row_of others from)) (row_of (first ∷ rest) from)
row_step false kept from first rest others is lacking further = rw is (dropped (lacks others first))
  where
    dropped : (test : Bool) → row_of (cond test (first ∷ filter (lacks others) rest) (filter (lacks others) rest)) from
        ≡ filter (row_lacks (row_of others from)) (row_of rest from)
    dropped true = rw is further
    dropped false = further
row_step true true from first rest others is lacking further =
    let same : lacks others first ≡ true =
    ap not (there_is_target first.from first.to others ∙ ap (λ (name : List ℕ). has_target (row_of others name) first.to) ((names first.from from).0 is)) ∙ lacking in
    rw (same, is, lacking) (ap (λ (row : List Target). target_of first ∷ row) further)
row_step true false from first rest others is lacking further =
    let same : lacks others first ≡ false =
    ap not (there_is_target first.from first.to others ∙ ap (λ (name : List ℕ). has_target (row_of others name) first.to) ((names first.from from).0 is)) ∙ lacking in
    rw (same, is, lacking) further

-- the row of a source among the answers that others lack
lacking_row : (rows others : List Answer) (from : List ℕ) →
    row_of (filter (lacks others) rows) from ≡ filter (row_lacks (row_of others from)) (row_of rows from)
lacking_row [] others from = refl
lacking_row (first ∷ rest) others from =
    row_step (same_name first.from from) (row_lacks (row_of others from) (target_of first)) from first rest others refl refl (lacking_row rest others from)

-- ---- a row lacks none of its own targets

own_step : (each first : Target) (rest : List Target) → (first ≡ each) ⊎ (has_target rest each.to ≡ true) → has_target (first ∷ rest) each.to ≡ true
own_step each first rest (inl is) = rw ((names first.to each.to).1 (ap to_of is)) refl
own_step each first rest (inr later) = chosen (same_name first.to each.to) refl
  where
    chosen : (test : Bool) → same_name first.to each.to ≡ test → has_target (first ∷ rest) each.to ≡ true
    chosen true e = rw e refl
    chosen false e = rw e later

has_own : (row : List Target) (each : Target) → Contains row each → has_target row each.to ≡ true
has_own [] each member = absurd (none_in each member)
has_own (first ∷ rest) each member = own_step each first rest (⊎_elim (λ here. inl here) (λ later. inr (has_own rest each later)) ((cons_members first rest each).0 member))

none_kept : (row targets : List Target) → All (λ each. has_target row each.to ≡ true) targets → filter (row_lacks row) targets ≡ []
none_kept row [] all = refl
none_kept row (first ∷ rest) all =
    rw (All-head (λ (each : Target). has_target row each.to ≡ true) first rest all)
    (none_kept row rest (All-tail (λ (each : Target). has_target row each.to ≡ true) first rest all))

lacks_none : (row : List Target) → filter (row_lacks row) row ≡ []
lacks_none row = none_kept row row (λ k d below. has_own row _ (Contains-get_or row k d below))

-- ---- the sources as they are listed

-- for each source the targets of its row that others lack
abbrev listed : List (List ℕ) → List Answer → List Answer → BySource
listed sources rows others = map (λ from. (from, filter (row_lacks (row_of others from)) (row_of rows from))) sources

listed_keys : (sources : List (List ℕ)) (rows others : List Answer) → keys_of (listed sources rows others) ≡ sources
listed_keys [] rows others = refl
listed_keys (first ∷ rest) rows others = ap (λ (keys : List (List ℕ)). first ∷ keys) (listed_keys rest rows others)

listed_in_order : (sources : List (List ℕ)) (rows others : List Answer) → ((from : List ℕ) → AreTargets (row_of rows from)) →
    All AreTargets (values_of (listed sources rows others))
listed_in_order [] rows others in_order = All-nil AreTargets
listed_in_order (first ∷ rest) rows others in_order =
    All-cons AreTargets (filter (row_lacks (row_of others first)) (row_of rows first)) (values_of (listed rest rows others))
    (kept_in_order name_cmp to_of (row_lacks (row_of others first)) (row_of rows first) (in_order first))
    (listed_in_order rest rows others in_order)

row_pairs : (from : List ℕ) (targets : List Target) → pairs (map (answer from) targets) ≡ map (λ (each : Target). pair from each.to) targets
row_pairs from [] = refl
row_pairs from (first ∷ rest) = ap (λ (all : List Pair). pair from first.to ∷ all) (row_pairs from rest)

listed_pairs : (sources : List (List ℕ)) (rows others : List Answer) → pairs (answers (listed sources rows others)) ≡ rows_without sources rows others
listed_pairs [] rows others = refl
listed_pairs (first ∷ rest) rows others =
    let targets = filter (row_lacks (row_of others first)) (row_of rows first) in
    map-append pair_of (map (answer first) targets) (answers (listed rest rows others))
    ∙ (ap (λ (all : List Pair). all ++ pairs (answers (listed rest rows others))) (row_pairs first targets)
    ∙ ap (λ (all : List Pair). row_without first (row_of rows first) (row_of others first) ++ all) (listed_pairs rest rows others))

is_equal : (order : Ordering) → is_eq order ≡ true → order ≡ Equal
is_equal Less e = cc
is_equal Equal e = refl
is_equal Greater e = cc

-- a name is listed with its row, or isn't listed
abbrev IsListed : List (List ℕ) → List Answer → List Answer → List ℕ → Type 0
IsListed sources rows others from =
    (lookup (is_at (name_cmp from)) (listed sources rows others) ≡ Some (filter (row_lacks (row_of others from)) (row_of rows from)))
    ⊎ ((Contains sources from → ⊥) × (lookup (is_at (name_cmp from)) (listed sources rows others) ≡ None))

listed_step : (test : Bool) (first : List ℕ) (rest : List (List ℕ)) (rows others : List Answer) (from : List ℕ) →
    is_at (name_cmp from) first ≡ test → IsListed rest rows others from → IsListed (first ∷ rest) rows others from
listed_step true first rest rows others from e further =
    let is : from ≡ first = exact_bytes from first (is_equal (name_cmp from first) e) in
    inl (rw e (ap (λ (name : List ℕ). Some (filter (row_lacks (row_of others name)) (row_of rows name))) (sym is)))
listed_step false first rest rows others from e (inl found) = inl (rw e found)
listed_step false first rest rows others from e (inr both) = inr (
  (λ member. ⊎_elim
      (λ here.
      let tied : is_at (name_cmp from) first ≡ true = ap is_eq (ap (name_cmp from) here ∙ tied_itself nat_list_cmp_total from) in
      cc)
      (λ later. both.0 later)
      ((cons_members first rest from).0 member)),
  rw e both.1,
)

is_listed : (sources : List (List ℕ)) (rows others : List Answer) (from : List ℕ) → IsListed sources rows others from
is_listed [] rows others from = inr ((λ member. none_in from member), refl)
is_listed (first ∷ rest) rows others from =
    listed_step (is_at (name_cmp from) first) first rest rows others from refl (is_listed rest rows others from)

-- the pairs that others lack are those of the listed sources
pub lacking_listed : (sources : List (List ℕ)) (rows others : List Answer) → IsStrictlySortedBy name_cmp sources → AreRows rows →
    ((from : List ℕ) → AreTargets (row_of rows from)) → DifferAtMostIn sources rows others →
    rows_without sources rows others ≡ without (pairs rows) (pairs others)
lacking_listed sources rows others sorted rows_sorted in_order same =
    let keys = subst (IsStrictlySortedBy name_cmp) (sym (listed_keys sources rows others)) sorted in
    let equal : filter (lacks others) rows ≡ answers (listed sources rows others) =
    rows_tell (filter (lacks others) rows) (answers (listed sources rows others))
    (kept_in_order pair_cmp pair_of (lacks others) rows rows_sorted)
    (answers_sorted (listed sources rows others) keys (listed_in_order sources rows others in_order))
    (λ from.
    let row = row_of others from in
    lacking_row rows others from
    ∙ (⊎_elim
    (λ found. sym (ap (λ (each : Option (List Target)). unwrap_or each []) found))
    (λ both.
    ap (filter (row_lacks row)) (same from both.0) ∙ (lacks_none row ∙ sym (ap (λ (each : Option (List Target)). unwrap_or each []) both.1)))
    (is_listed sources rows others from)
    ∙ sym (row_is_held (listed sources rows others) from keys))) in
    sym (listed_pairs sources rows others) ∙ (ap pairs (sym equal) ∙ lacking_pairs rows others)
