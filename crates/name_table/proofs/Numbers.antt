-- The numbers of names.
use Rattle.std.proofs.Common.{◌≡◌, ◌<◌, ◌≤◌, ◌+◌, ◌^◌, ℕ, zero, suc, Bool, true, false, not, cond, ◌||◌, nat_lt, List, [], ◌∷◌, ◌++◌, length, get_or, slice_get, None, Some, Option, is_some, refl, sym, ap, subst, ◌∙◌, true≢false, arith}
use Rattle.std.specs.Cmp.{IsEquivalence}
use Rattle.std.specs.Cmp.Lexicographic.{nat_list_eq_equiv}
use Rattle.std.specs.List.{IsDistinct, position, position_or_len, list_any}
use Rattle.std.specs.Map.{lookup}
use Rattle.std.proofs.lemmas.Bool.{lt-ltb, ltb-false}
use Rattle.std.proofs.lemmas.List.{get_or_append_left, get_or_push, length-append}
use Rattle.std.proofs.lemmas.List.Quantifiers.{position-Some}
use Rattle.std.proofs.lemmas.List.Sums.{position_or_len_is, fails_before_first}
use Rattle.std.proofs.lemmas.List.Elements.{All-push}
use Rattle.std.proofs.lemmas.Map.Made.{is_some-lookup}
use Rattle.std.proofs.lemmas.Map.Keys.{apart_from_distinct, IsDistinct-push}
use Rattle.std.proofs.lemmas.Option.{slice_get_within, get_or_from_slice_get}
use Rattle.rpq_base.specs.Same.{same_name}
use Rattle.rpq_base.proofs.Equality.{name_again}
use Rattle.indexmap.specs.IndexMap.{IndexMap, insert_entry}
use Rattle.indexmap.proofs.CallerLemmas.{insert_entry-new}
use Rattle.name_table.specs.Names.{KeepsNumbers, name_at, number_of}
use Rattle.name_table.specs.Table.{names_of, HasKey, IsTable}

-- the equality of names is one
same_name_laws : IsEquivalence same_name
same_name_laws = nat_list_eq_equiv

-- the first element that passes is at this place
position_is : (test : List ℕ → Bool) (names : List (List ℕ)) (place : ℕ) → place < length names →
    ((earlier : ℕ) → earlier < place → test (get_or names earlier []) ≡ false) → test (get_or names place []) ≡ true →
    position test names ≡ Some place
position_is test names place within before here =
    ap (λ n. cond (nat_lt n (length names)) (Some n) None)
    (position_or_len_is test names place [] (omega (arith, within)) before (λ _. here))
    ∙ ap (λ b. cond b (Some place) None) (lt-ltb place (length names) within)

-- where none passes, all fail
past_end : (test : List ℕ → Bool) (names : List (List ℕ)) → position test names ≡ None → length names ≤ position_or_len test names
past_end test names none = by (nat_lt (position_or_len test names) (length names)) refl none
  where
    by : (b : Bool) → nat_lt (position_or_len test names) (length names) ≡ b →
        cond b (Some (position_or_len test names)) None ≡ None → length names ≤ position_or_len test names
    by true within is = absurd cc
    by false past is = ltb-false (position_or_len test names) (length names) past

none_passes : (test : List ℕ → Bool) (names : List (List ℕ)) → length names ≤ position_or_len test names → list_any test names ≡ false
none_passes test [] past = refl
none_passes test (name ∷ names) past = by (test name) refl (none_passes test names)
  where
    by : (b : Bool) → test name ≡ b → (length names ≤ position_or_len test names → list_any test names ≡ false) →
        (b || list_any test names) ≡ false
    by true passes rest = absurd (omega (arith, subst (λ b. suc (length names) ≤ cond (not b) (1 + position_or_len test names) 0) passes past))
    by false fails rest = rest (omega (arith, subst (λ b. suc (length names) ≤ cond (not b) (1 + position_or_len test names) 0) fails past))

-- a name that stands once has the number of its place
pub number_at : (names : List (List ℕ)) (number : ℕ) (name : List ℕ) → IsDistinct same_name names → slice_get names number ≡ Some name →
    number_of names name ≡ Some number
number_at names number name distinct there =
    let at : get_or names number [] ≡ name = get_or_from_slice_get names number name [] there in
    let within : number < length names = slice_get_within names number name there in
    position_is (same_name name) names number within
    (λ earlier less.
    same_name_laws.symm name (get_or names earlier [])
    ∙ sym (ap (same_name (get_or names earlier [])) at)
    ∙ apart_from_distinct same_name names earlier number [] distinct less within)
    (ap (same_name name) at ∙ name_again name)

-- a new name has the number of those before it
pub number_of_new : (names : List (List ℕ)) (name : List ℕ) → number_of names name ≡ None →
    number_of (names ++ name ∷ []) name ≡ Some (length names)
number_of_new names name none =
    position_is (same_name name) (names ++ name ∷ []) (length names) (omega (arith, length-append names (name ∷ [])))
    (λ earlier less.
    ap (same_name name) (get_or_append_left names (name ∷ []) [] earlier less)
    ∙ fails_before_first (same_name name) names earlier [] (omega (arith, past_end (same_name name) names none, less)))
    (ap (same_name name) (get_or_push names name [] (length names) refl) ∙ name_again name)

-- a name that comes in leaves the numbers of the others
pub keeps_numbers : (names : List (List ℕ)) (new : List ℕ) → KeepsNumbers names (names ++ new ∷ [])
keeps_numbers names new name number is =
    let found = position-Some (same_name name) names number [] is in
    position_is (same_name name) (names ++ new ∷ []) number (omega (arith, length-append names (new ∷ []), found.0))
    (λ earlier less.
    ap (same_name name) (get_or_append_left names (new ∷ []) [] earlier (omega (arith, less, found.0))) ∙ found.2 earlier less)
    (ap (same_name name) (get_or_append_left names (new ∷ []) [] number found.0) ∙ found.1)

-- a new name leaves the names apart
pub apart_more : (names : List (List ℕ)) (name : List ℕ) → IsDistinct same_name names → number_of names name ≡ None →
    IsDistinct same_name (names ++ name ∷ [])
apart_more names name distinct none =
    IsDistinct-push same_name_laws names name distinct (none_passes (same_name name) names (past_end (same_name name) names none))

-- ---- the table

-- past the last entry there is no name
pub no_name : (entries : List (List ℕ × ℕ)) (number : ℕ) → slice_get entries number ≡ None → [] ≡ name_at (names_of entries) number
no_name [] number none = refl
no_name (entry ∷ entries) zero none = cc
no_name (entry ∷ entries) (suc number) none = no_name entries number none

-- the names with one more
pub names_more : (entries : List (List ℕ × ℕ)) (name : List ℕ) (key : ℕ) →
    names_of (entries ++ (name, key) ∷ []) ≡ names_of entries ++ name ∷ []
names_more [] name key = refl
names_more (entry ∷ entries) name key = ap (λ names. entry.0 ∷ names) (names_more entries name key)

-- a table with a new name
pub table_more : (entries : List (List ℕ × ℕ)) (name : List ℕ) (key : ℕ) → IsTable entries → HasKey (name, key) →
    number_of (names_of entries) name ≡ None → length entries + 1 < 2 ^ 32 → IsTable (entries ++ (name, key) ∷ [])
table_more entries name key table own none few = record {
  keyed = All-push HasKey entries (name, key) table.keyed own;
  apart = subst (IsDistinct same_name) (sym (names_more entries name key)) (apart_more (names_of entries) name table.apart none);
  few = omega (arith, length-append entries ((name, key) ∷ []), few);
}

-- what isn't some is none
nothing : {A : Type 0} (found : Option A) → is_some found ≡ false → found ≡ None
nothing None none = refl
nothing (Some value) some = absurd (true≢false some)

-- a name that has no number isn't found
absent : (entries : List (List ℕ × ℕ)) (name : List ℕ) → number_of (names_of entries) name ≡ None →
    lookup (λ (each : List ℕ). same_name name each) entries ≡ None
absent entries name none =
    nothing (lookup (same_name name) entries)
    (is_some-lookup (same_name name) entries
    ∙ none_passes (same_name name) (names_of entries) (past_end (same_name name) (names_of entries) none))

-- a table without names
pub no_names : IsTable []
unfolding IsDistinct
no_names = record { keyed = λ place d within. absurd (omega (arith, within)); apart = tt; few = omega arith }

-- the entries after a new name came in
pub added : {S : Type 0} (table : IndexMap (List ℕ) ℕ S) (after : List (List ℕ × ℕ)) (name : List ℕ) (key : ℕ) →
    number_of (names_of table.entries) name ≡ None →
    after ≡ insert_entry (λ (x y : List ℕ). same_name x y) table.entries name key →
    after ≡ table.entries ++ (name, key) ∷ []
added table after name key none inserted =
    inserted ∙ insert_entry-new (λ (x y : List ℕ). same_name x y) table name key (absent table.entries name none)
