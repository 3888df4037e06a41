-- Lists of names.
use Rattle.std.proofs.Common.{◌≡◌, ◌≢◌, ℕ, ◌+◌, Bool, true, false, cond, ◌||◌, List, [], ◌∷◌, ◌++◌}
use Rattle.std.proofs.Common.{map, bytes_eq, inl, refl, sym, ap, ◌∙◌, add-zero, arith}
use Rattle.std.specs.List.{list_any}
use Rattle.std.specs.Cmp.Lexicographic.{same_text}
use Rattle.std.proofs.lemmas.Bool.{false_from_ne_true}
use Rattle.std.proofs.lemmas.Cmp.{nat_list_eq_equiv}
use Rattle.std.proofs.lemmas.List.Sums.{sum_by-append}
use Rattle.rpq_io.specs.Counts.{CountsOpening}
use Rattle.rpq_io.specs.Names.{times}

-- a test of the images of some values
pub list_any-map : {A B : Type 0} (test : B → Bool) (image : A → B) (values : List A)
    → list_any test (map image values) ≡ list_any (λ value. test (image value)) values
list_any-map test image [] = refl
list_any-map test image (value ∷ values) =
    ap (λ rest. test (image value) || rest) (list_any-map test image values)

-- a name is itself
pub bytes_eq-same : (name : List ℕ) → bytes_eq name name ≡ true
bytes_eq-same name = nat_list_eq_equiv.refl name

-- a name is no other
pub bytes_eq-other : (name other : List ℕ) → other ≢ name → bytes_eq name other ≡ false
bytes_eq-other name other differs =
    false_from_ne_true (bytes_eq name other)
    (λ equal. differs (sym (same_text name other (sym equal))))

-- how often any name stands in a list with one name more
times-more : (any name : List ℕ) (names : List (List ℕ))
    → times any (names ++ name ∷ []) ≡ times any names + (0 + cond (bytes_eq name any) 1 0)
times-more any name names = sum_by-append (λ noted. cond (bytes_eq noted any) 1 0) names (name ∷ [])

-- a name that is noted stands once more in the list
pub times-noted : (name : List ℕ) (names : List (List ℕ))
    → times name (names ++ name ∷ []) ≡ times name names + 1
times-noted name names =
    times-more name name names ∙ ap (λ test. times name names + (0 + cond test 1 0))
    (bytes_eq-same name)

-- the others stand in it as often as before
pub times-others : (other name : List ℕ) (names : List (List ℕ)) → other ≢ name
    → times other (names ++ name ∷ []) ≡ times other names
times-others other name names differs =
    times-more other name names ∙ ap (λ test. times other names + (0 + cond test 1 0))
    (bytes_eq-other name other differs)
    ∙ add-zero (times other names)

-- an opening that failed counts by the name that is noted
pub counts_noted : (fault : Type 0) (name : List ℕ) (before after : List (List ℕ)) → fault
    → after ≡ before ++ name ∷ []
    → CountsOpening fault name (λ any. times any before) (λ any. times any after)
counts_noted fault name before after failed noted = record {
  never_fall = λ any. omega (arith, ap (times any) noted, times-more any name before);
  rose = λ _. inl (omega (arith, ap (times name) noted, times-noted name before));
  quiet = λ none. absurd (none failed);
  others = λ other differs. ap (times other) noted ∙ times-others other name before differs;
}
