-- What a source has after an edit of the rows that are held.
use Rattle.std.proofs.Common.{◌≡◌, ◌≢◌, ℕ, Bool, true, false, cond, List, [], ◌∷◌, Option, Some, None, Ordering, refl, sym, ap, ◌∙◌}
use Rattle.std.specs.Prelude.{IsSome}
use Rattle.std.specs.BTreeMap.{is_at, insert_entry}
use Rattle.std.specs.List.Sorted.{IsStrictlySortedBy}
use Rattle.std.specs.Map.{keys_of, lookup, remove_entry}
use Rattle.std.specs.Ordering.{is_eq, match_ordering}
use Rattle.std.specs.declared.cmp.Ordering.TheVariants.{Less, Equal, Greater}
use Rattle.std.proofs.lemmas.Bool.{false_from_ne_true, false≢true}
use Rattle.std.proofs.lemmas.Cmp.{tied_itself, nat_list_cmp_total}
use Rattle.std.proofs.lemmas.Map.{lookup-none}
use Rattle.std.proofs.lemmas.Map.Keys.{sorted_head, sorted_tail}
use Rattle.std.proofs.lemmas.Map.Lookups.{exact_bytes}
use Rattle.rpq_base.specs.Order.{name_cmp}
use Rattle.answer_rows.specs.BySource.{BySource, with_row}
use Rattle.answer_rows.specs.declared.target.Target.{Target}
use Rattle.answer_rows.proofs.Sources.{none_passes}

-- whether a name is this one
abbrev pub at : List ℕ → List ℕ → Bool
at from = is_at (name_cmp from)

is_equal : (order : Ordering) → is_eq order ≡ true → order ≡ Equal
is_equal Less e = cc
is_equal Equal e = refl
is_equal Greater e = cc

-- a name is at itself
at_itself : (from : List ℕ) → at from from ≡ true
at_itself from = ap is_eq (tied_itself nat_list_cmp_total from)

-- another name isn't
not_at : (from other : List ℕ) → other ≢ from → at from other ≡ false
not_at from other apart = false_from_ne_true (at from other) (λ e.
    apart (sym (exact_bytes from other (is_equal (name_cmp from other) e))))

-- where a name is this one, it isn't another
elsewhere : (from other : List ℕ) → other ≢ from → (name : List ℕ) → at from name ≡ true → at other name ≡ false
elsewhere from other apart name e =
    let is : from ≡ name = exact_bytes from name (is_equal (name_cmp from name) e) in
    not_at other name (λ same. apart (sym same ∙ sym is))

-- ---- a row that is put

here_put : (order : Ordering) (from : List ℕ) (row : List Target) (source : List ℕ × List Target) (rest put : BySource) →
    name_cmp from source.0 ≡ order → lookup (at from) put ≡ Some row →
    lookup (at from) (match_ordering order ((from, row) ∷ source ∷ rest) ((source.0, row) ∷ rest) (source ∷ put)) ≡ Some row
here_put Less from row source rest put e further = rw (at_itself from) refl
here_put Equal from row source rest put e further = rw e refl
here_put Greater from row source rest put e further = rw e further

pub put_here : (sources : BySource) (from : List ℕ) (row : List Target) →
    lookup (at from) (insert_entry name_cmp sources from row) ≡ Some row
put_here [] from row = rw (at_itself from) refl
put_here (source ∷ rest) from row =
    here_put (name_cmp from source.0) from row source rest (insert_entry name_cmp rest from row) refl (put_here rest from row)

beside_put : (order : Ordering) (from other : List ℕ) (row : List Target) (source : List ℕ × List Target) (rest put : BySource) →
    name_cmp from source.0 ≡ order → at other from ≡ false → lookup (at other) put ≡ lookup (at other) rest →
    lookup (at other) (match_ordering order ((from, row) ∷ source ∷ rest) ((source.0, row) ∷ rest) (source ∷ put))
    ≡ lookup (at other) (source ∷ rest)
beside_put Less from other row source rest put e apart further = rw apart refl
beside_put Equal from other row source rest put e apart further =
    let here : at other source.0 ≡ false = ap (at other) (sym (exact_bytes from source.0 e)) ∙ apart in
    rw here refl
beside_put Greater from other row source rest put e apart further =
    ap (λ (found : Option (List Target)). cond (at other source.0) (Some source.1) found) further

pub put_beside : (sources : BySource) (from : List ℕ) (row : List Target) (other : List ℕ) → other ≢ from →
    lookup (at other) (insert_entry name_cmp sources from row) ≡ lookup (at other) sources
put_beside [] from row other apart = rw (not_at other from (λ is. apart (sym is))) refl
put_beside (source ∷ rest) from row other apart =
    beside_put (name_cmp from source.0) from other row source rest (insert_entry name_cmp rest from row) refl
    (not_at other from (λ is. apart (sym is))) (put_beside rest from row other apart)

-- ---- a row that is set

here_set : (passes : Bool) (from : List ℕ) (row : List Target) (source : List ℕ × List Target) (rest : BySource) →
    at from source.0 ≡ passes → (IsSome (lookup (at from) rest) → lookup (at from) (with_row rest from row) ≡ Some row) →
    IsSome (cond passes (Some source.1) (lookup (at from) rest)) →
    lookup (at from) (cond passes ((source.0, row) ∷ rest) (source ∷ with_row rest from row)) ≡ Some row
here_set true from row source rest e further there = rw e refl
here_set false from row source rest e further there = rw e (further there)

pub set_here : (sources : BySource) (from : List ℕ) (row : List Target) → IsSome (lookup (at from) sources) →
    lookup (at from) (with_row sources from row) ≡ Some row
set_here [] from row there = absurd (false≢true there)
set_here (source ∷ rest) from row there =
    here_set (at from source.0) from row source rest refl (set_here rest from row) there

beside_set : (passes : Bool) (other : List ℕ) (row : List Target) (source : List ℕ × List Target) (rest written : BySource) →
    (passes ≡ true → at other source.0 ≡ false) → lookup (at other) written ≡ lookup (at other) rest →
    lookup (at other) (cond passes ((source.0, row) ∷ rest) (source ∷ written)) ≡ lookup (at other) (source ∷ rest)
beside_set true other row source rest written apart further =
    let here : at other source.0 ≡ false = apart refl in
    rw here refl
beside_set false other row source rest written apart further =
    ap (λ (found : Option (List Target)). cond (at other source.0) (Some source.1) found) further

pub set_beside : (sources : BySource) (from : List ℕ) (row : List Target) (other : List ℕ) → other ≢ from →
    lookup (at other) (with_row sources from row) ≡ lookup (at other) sources
set_beside [] from row other apart = refl
set_beside (source ∷ rest) from row other apart =
    beside_set (at from source.0) other row source rest (with_row rest from row)
    (elsewhere from other apart source.0) (set_beside rest from row other apart)

-- ---- a row that is taken away

here_gone : (passes : Bool) (from : List ℕ) (source : List ℕ × List Target) (rest : BySource) → at from source.0 ≡ passes →
    IsStrictlySortedBy name_cmp (keys_of (source ∷ rest)) → lookup (at from) (remove_entry (at from) rest) ≡ None →
    lookup (at from) (cond passes rest (source ∷ remove_entry (at from) rest)) ≡ None
here_gone true from source rest e sorted further =
    let is : from ≡ source.0 = exact_bytes from source.0 (is_equal (name_cmp from source.0) e) in
    ap (λ (name : List ℕ). lookup (at name) rest) is
    ∙ lookup-none (at source.0) rest (none_passes source.0 rest (sorted_head name_cmp source.0 (keys_of rest) sorted))
here_gone false from source rest e sorted further = rw e further

pub gone_here : (sources : BySource) (from : List ℕ) → IsStrictlySortedBy name_cmp (keys_of sources) →
    lookup (at from) (remove_entry (at from) sources) ≡ None
gone_here [] from sorted = refl
gone_here (source ∷ rest) from sorted =
    here_gone (at from source.0) from source rest refl sorted
    (gone_here rest from (sorted_tail name_cmp source.0 (keys_of rest) sorted))

beside_gone : (passes : Bool) (other : List ℕ) (source : List ℕ × List Target) (rest less : BySource) →
    (passes ≡ true → at other source.0 ≡ false) → lookup (at other) less ≡ lookup (at other) rest →
    lookup (at other) (cond passes rest (source ∷ less)) ≡ lookup (at other) (source ∷ rest)
beside_gone true other source rest less apart further =
    let here : at other source.0 ≡ false = apart refl in
    rw here refl
beside_gone false other source rest less apart further =
    ap (λ (found : Option (List Target)). cond (at other source.0) (Some source.1) found) further

pub gone_beside : (sources : BySource) (from other : List ℕ) → other ≢ from →
    lookup (at other) (remove_entry (at from) sources) ≡ lookup (at other) sources
gone_beside [] from other apart = refl
gone_beside (source ∷ rest) from other apart =
    beside_gone (at from source.0) other source rest (remove_entry (at from) rest)
    (elsewhere from other apart source.0) (gone_beside rest from other apart)
