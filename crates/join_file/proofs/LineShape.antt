-- The form of a line, and the places of names.
use Rattle.std.proofs.Common.{◌≡◌, ◌≢◌, ℕ, zero, suc, ◌+◌, ◌*◌, ◌<◌, ◌≤◌, ◌==◌, ◌||◌, ◌&&◌, not, Bool, true, false, cond, List, [], ◌∷◌, Result, Ok, Err, Option, Some, None, length, map, codes, refl, sym, ap, ap₂, subst, ◌∙◌, ◌⊎◌, inl, inr, ⊎_elim, arith}
use Rattle.std.specs.Prelude.{◌↔◌, Contains, slice_get, bytes_eq, flat_map, is_some, if◌then◌else◌}
use Rattle.std.specs.List.{position, position_or_len, list_any, list_all}
use Rattle.std.specs.Cmp.Lexicographic.{same_text}
use Rattle.std.proofs.lemmas.Bool.{false≢true, and_parts, or_cases, eqb-true, eq-eqb, lt-ltb, le-ltb, not-true, false_from_ne_true}
use Rattle.std.proofs.lemmas.Option.{same_Some}
use Rattle.rpq_base.specs.Names.{is_name}
use Rattle.rpq_base.proofs.Members.{cons_members, none_in}
use Rattle.join_file.specs.declared.fault.JoinFileFaultKind.{JoinFileFaultKind}
use Rattle.join_file.specs.declared.fault.JoinFileFaultKind.TheVariants.{Shape}
use Rattle.join_file.specs.JoinLine.{AtomText, LineText, variable_sign, variable_name}
use Rattle.join_file.specs.JoinLine.{is_some_variable, is_bare, is_bare_of, has_bare, has_variable}
use Rattle.join_file.specs.JoinLine.{atom_texts, is_count, are_sound, checked_text, text_of_fields}
use Rattle.join_file.specs.Parts.{atom_fields, IsVariable, HasParts}

-- ---- tests of members

-- some member passes exactly where the test says so
pub some_passes : {X : Type 0} (test : X → Bool) (xs : List X) → (list_any test xs ≡ true) ↔ ((x : X) × Contains xs x × (test x ≡ true))
some_passes test [] = ((λ e. absurd (false≢true e)), (λ some. absurd (none_in some.0 some.1)))
some_passes test (x ∷ xs) =
    let later = some_passes test xs in (
      (λ e. ⊎_elim
          (λ here. (x, (cons_members x xs x).1 (inl refl), here))
          (λ there. let further = later.0 there in (further.0, (cons_members x xs further.0).1 (inr further.1), further.2))
          (or_cases (test x) (list_any test xs) e)),
      (λ some. by (test x) refl (⊎_elim
          (λ here. inl (ap test here ∙ some.2))
          (λ there. inr (later.1 (some.0, there, some.2)))
          ((cons_members x xs some.0).0 some.1))),
    )
  where
    by : (passes : Bool) → test x ≡ passes → (test x ≡ true) ⊎ (list_any test xs ≡ true) → (test x || list_any test xs) ≡ true
    by true e either = rw e refl
    by false e either = rw e (⊎_elim (λ now. absurd (false≢true (sym e ∙ now))) (λ now. now) either)

-- all pass, or one doesn't
pub data AllCase {X : Type 0} (test : X → Bool) (xs : List X) : Type 0 where
  all_pass : ((x : X) → Contains xs x → test x ≡ true) → list_all test xs ≡ true → AllCase test xs
  one_fails : (x : X) → Contains xs x → test x ≡ false → list_all test xs ≡ false → AllCase test xs

pub all_case : {X : Type 0} (test : X → Bool) (xs : List X) → AllCase test xs
all_case test [] = all_pass (λ x member. absurd (none_in x member)) refl
all_case {X} test (first ∷ xs) = by (test first) refl (all_case test xs)
  where
    by : (passes : Bool) → test first ≡ passes → AllCase test xs → AllCase test (first ∷ xs)
    by true e (all_pass pass is) = all_pass
        (λ x member. ⊎_elim (λ here. subst (λ (each : X). test each ≡ true) here e) (λ there. pass x there) ((cons_members first xs x).0 member))
        (rw e is)
    by true e (one_fails x member fails is) = one_fails x ((cons_members first xs x).1 (inr member)) fails (rw e is)
    by false e later = one_fails first ((cons_members first xs first).1 (inl refl)) e (rw e refl)

-- the place of the first that passes, or none passes
data Found {X : Type 0} (test : X → Bool) (xs : List X) (place : ℕ) : Type 0 where
  there : place < length xs → (x : X) → slice_get xs place ≡ Some x → test x ≡ true → Found test xs place
  nowhere : length xs ≤ place → ((x : X) → Contains xs x → test x ≡ true → ⊥) → Found test xs place

search_place : {X : Type 0} (test : X → Bool) (xs : List X) → Found test xs (position_or_len test xs)
search_place test [] = nowhere (omega arith) (λ x member passes. none_in x member)
search_place {X} test (first ∷ xs) = by (test first) refl (search_place test xs)
  where
    later : (place : ℕ) → test first ≡ false → Found test xs place → Found test (first ∷ xs) (suc place)
    later place e (there below x is passes) = there (omega (arith, below)) x is passes
    later place e (nowhere past none) = nowhere (omega (arith, past)) (λ x member passes. ⊎_elim
        (λ here. false≢true (sym e ∙ (ap test here ∙ passes)))
        (λ rest. none x rest passes)
        ((cons_members first xs x).0 member))

    by : (passes : Bool) → test first ≡ passes → Found test xs (position_or_len test xs) → Found test (first ∷ xs) (position_or_len test (first ∷ xs))
    by true e found = rw e (there (omega arith) first refl e)
    by false e found =
        let next : suc (position_or_len test xs) ≡ 1 + position_or_len test xs = omega arith in
        rw e (subst (Found test (first ∷ xs)) next (later (position_or_len test xs) e found))

pub data PlaceCase {X : Type 0} (test : X → Bool) (xs : List X) : Type 0 where
  at : (place : ℕ) (x : X) → position test xs ≡ Some place → slice_get xs place ≡ Some x → test x ≡ true → PlaceCase test xs
  no_place : position test xs ≡ None → ((x : X) → Contains xs x → test x ≡ true → ⊥) → PlaceCase test xs

pub place_case : {X : Type 0} (test : X → Bool) (xs : List X) → PlaceCase test xs
place_case test xs = by (search_place test xs)
  where
    chosen : Bool → Option ℕ
    chosen within = cond within (Some (position_or_len test xs)) None

    by : Found test xs (position_or_len test xs) → PlaceCase test xs
    by (there below x is passes) = at (position_or_len test xs) x (ap chosen (lt-ltb (position_or_len test xs) (length xs) below)) is passes
    by (nowhere past none) = no_place (ap chosen (le-ltb (position_or_len test xs) (length xs) past)) none

-- what a member gives, at its place and among all
pub given_at : {X : Type 0} (give : X → List ℕ) (xs : List X) (place : ℕ) (x : X) → slice_get xs place ≡ Some x → slice_get (map give xs) place ≡ Some (give x)
given_at give [] place x e = absurd cc
given_at give (first ∷ xs) zero x e = ap (λ each. Some (give each)) (same_Some first x e)
given_at give (first ∷ xs) (suc place) x e = given_at give xs place x e

-- ---- variables

-- how a field begins
pub data FieldCase (field : List ℕ) : Type 0 where
  variable : (name : List ℕ) → field ≡ variable_sign ∷ name → variable_name field ≡ Some name → FieldCase field
  other : (IsVariable field → ⊥) → variable_name field ≡ None → FieldCase field

pub field_case : (field : List ℕ) → FieldCase field
unfolding variable_name
field_case [] = other (λ is. absurd (nothing is.0 is.1)) refl
  where
    nothing : (name : List ℕ) → ◌≡◌ {A = List ℕ} [] (variable_sign ∷ name) → ⊥
    nothing name e = absurd cc
field_case (first ∷ name) = by (first == variable_sign) refl
  where
    head : (rest : List ℕ) → first ∷ name ≡ variable_sign ∷ rest → first ≡ variable_sign
    head rest e = cc

    by : (is : Bool) → (first == variable_sign) ≡ is → FieldCase (first ∷ name)
    by true e = variable name (ap (λ (sign : ℕ). sign ∷ name) (eqb-true first variable_sign e)) (ap (λ (b : Bool). cond b (Some name) None) e)
    by false e = other (λ is. false≢true (sym e ∙ eq-eqb first variable_sign (head is.0 is.1))) (ap (λ (b : Bool). cond b (Some name) None) e)

is_variable_test : (field : List ℕ) → (is_some_variable field ≡ true) ↔ IsVariable field
is_variable_test field = by (field_case field)
  where
    by : FieldCase field → (is_some_variable field ≡ true) ↔ IsVariable field
    by (variable name is e) = ((λ yes. (name, is)), (λ so. ap (λ (found : Option (List ℕ)). is_some found) e))
    by (other none e) = (
      (λ yes. absurd (false≢true (sym (ap (λ (found : Option (List ℕ)). is_some found) e) ∙ yes))),
      (λ so. absurd (none so)),
    )

is_bare_test : (field : List ℕ) → (is_bare field ≡ true) ↔ (field ≡ codes "?")
is_bare_test field = by (field_case field)
  where
    bare_name : (name : List ℕ) → (length name == 0) ≡ true → name ≡ []
    bare_name [] e = refl
    bare_name (first ∷ name) e = absurd (omega (arith, eqb-true (length (first ∷ name)) 0 e))

    rest_of : (name : List ℕ) → variable_sign ∷ name ≡ codes "?" → name ≡ []
    rest_of [] e = refl
    rest_of (first ∷ name) e = absurd (omega (arith, ap length e))

    by : FieldCase field → (is_bare field ≡ true) ↔ (field ≡ codes "?")
    by (variable name is e) = (
      (λ yes. is ∙ ap (λ (rest : List ℕ). variable_sign ∷ rest) (bare_name name (sym (ap is_bare_of e) ∙ yes))),
      (λ so. ap is_bare_of e ∙ ap (λ (rest : List ℕ). length rest == 0) (rest_of name (sym is ∙ so))),
    )
    by (other none e) = (
      (λ yes. absurd (false≢true (sym (ap is_bare_of e) ∙ yes))),
      (λ so. absurd (none ([], so))),
    )

either_test : (first second : Bool) (A B : Type 0) → (first ≡ true) ↔ A → (second ≡ true) ↔ B → ((first || second) ≡ true) ↔ (A ⊎ B)
either_test first second A B one two = (
  (λ e. ⊎_elim (λ here. inl (one.0 here)) (λ there. inr (two.0 there)) (or_cases first second e)),
  (λ either. ⊎_elim (λ a. from_first (one.1 a)) (λ b. from_second first (two.1 b)) either),
)
  where
    from_first : first ≡ true → (first || second) ≡ true
    from_first e = rw e refl

    from_second : (test : Bool) → second ≡ true → (test || second) ≡ true
    from_second true e = refl
    from_second false e = e

-- ---- the atoms that fields are

back : (atoms : List AtomText) → atom_texts (flat_map atom_fields atoms) ≡ atoms
unfolding atom_texts
back [] = refl
back (atom ∷ atoms) = ap (λ (list : List AtomText). atom ∷ list) (back atoms)

many : (atoms : List AtomText) → length (flat_map atom_fields atoms) ≡ 3 * length atoms
many [] = refl
many (atom ∷ atoms) = let later = many atoms in omega (arith, later)

forth : (rest : List (List ℕ)) (count : ℕ) → length rest ≡ 3 * count → (flat_map atom_fields (atom_texts rest) ≡ rest) × (length (atom_texts rest) ≡ count)
unfolding atom_texts
forth [] zero e = (refl, refl)
forth [] (suc count) e = absurd (omega (arith, e))
forth (one ∷ []) count e = absurd (omega (arith, e))
forth (one ∷ two ∷ []) count e = absurd (omega (arith, e))
forth (one ∷ two ∷ three ∷ rest) zero e = absurd (omega (arith, e))
forth (one ∷ two ∷ three ∷ rest) (suc count) e =
    let later = forth rest count (omega (arith, e)) in
    let more = later.1 in (
      ap (λ (list : List (List ℕ)). one ∷ two ∷ three ∷ list) later.0,
      omega (arith, more),
    )

-- so many fields are one to four atoms
counted : (count : ℕ) → is_count count ≡ true → (atoms : ℕ) × (count ≡ 3 * atoms) × (1 ≤ atoms) × (atoms ≤ 4)
unfolding is_count
counted count e = ⊎_elim
    (λ front. ⊎_elim
    (λ early. ⊎_elim
    (λ is. (1, eqb-true count 3 is, omega arith, omega arith))
    (λ is. (2, eqb-true count 6 is, omega arith, omega arith))
    (or_cases (count == 3) (count == 6) early))
    (λ is. (3, eqb-true count 9 is, omega arith, omega arith))
    (or_cases (count == 3 || count == 6) (count == 9) front))
    (λ is. (4, eqb-true count 12 is, omega arith, omega arith))
    (or_cases (count == 3 || count == 6 || count == 9) (count == 12) e)

counts : (atoms : ℕ) → 1 ≤ atoms → atoms ≤ 4 → is_count (3 * atoms) ≡ true
unfolding is_count
counts zero some few = absurd (omega (arith, some))
counts (suc zero) some few = refl
counts (suc (suc zero)) some few = refl
counts (suc (suc (suc zero))) some few = refl
counts (suc (suc (suc (suc zero)))) some few = refl
counts (suc (suc (suc (suc (suc atoms))))) some few = absurd (omega (arith, few))

-- ---- the form

pub data TextCase (fields : List (List ℕ)) : Type 0 where
  formed : (text : LineText) → HasParts fields text → text_of_fields fields ≡ Ok text → TextCase fields
  unformed : ((text : LineText) → HasParts fields text → ⊥) → text_of_fields fields ≡ Err Shape → TextCase fields

-- whether the atoms are sound
sound_is : (atoms : List AtomText) → (are_sound atoms ≡ true) ↔ (
    ((atom : AtomText) → Contains atoms atom → (atom.from ≢ codes "?") × (atom.to ≢ codes "?"))
    × ((atom : AtomText) × Contains atoms atom × (IsVariable atom.from ⊎ IsVariable atom.to)))
unfolding are_sound
sound_is atoms = (
  (λ e.
      let parts = and_parts (not (list_any has_bare atoms)) (list_any has_variable atoms) e in
      let none = not-true (list_any has_bare atoms) parts.0 in
      let some = (some_passes has_variable atoms).0 parts.1 in (
        (λ atom member. (
          λ is. false≢true (sym none ∙ (some_passes has_bare atoms).1 (atom, member, (bare atom).1 (inl is))),
          λ is. false≢true (sym none ∙ (some_passes has_bare atoms).1 (atom, member, (bare atom).1 (inr is))),
        )),
        (some.0, some.1, (varies some.0).0 some.2),
      )),
  (λ both. rw (no_bare both.0, (some_passes has_variable atoms).1 (both.1.0, both.1.1, (varies both.1.0).1 both.1.2)) refl),
)
  where
    bare : (atom : AtomText) → (has_bare atom ≡ true) ↔ ((atom.from ≡ codes "?") ⊎ (atom.to ≡ codes "?"))
    bare atom = either_test (is_bare atom.from) (is_bare atom.to) (atom.from ≡ codes "?") (atom.to ≡ codes "?") (is_bare_test atom.from) (is_bare_test atom.to)

    varies : (atom : AtomText) → (has_variable atom ≡ true) ↔ (IsVariable atom.from ⊎ IsVariable atom.to)
    varies atom = either_test (is_some_variable atom.from) (is_some_variable atom.to) (IsVariable atom.from) (IsVariable atom.to)
        (is_variable_test atom.from) (is_variable_test atom.to)

    no_bare : ((atom : AtomText) → Contains atoms atom → (atom.from ≢ codes "?") × (atom.to ≢ codes "?")) → list_any has_bare atoms ≡ false
    no_bare full = false_from_ne_true (list_any has_bare atoms) (λ e.
        let some = (some_passes has_bare atoms).0 e in
        let both = full some.0 some.1 in
        ⊎_elim both.0 both.1 ((bare some.0).0 some.2))

-- the parts are given
pub parts_given : (fields : List (List ℕ)) (text : LineText) → HasParts fields text → text_of_fields fields ≡ Ok text
unfolding text_of_fields checked_text
parts_given fields text parts =
    ap text_of_fields parts.split
    ∙ rw (
      ap is_count (many text.atoms) ∙ counts (length text.atoms) parts.some parts.few,
      parts.named,
      back text.atoms,
      (sound_is text.atoms).1 (parts.full, parts.variable),
    ) refl

-- what is given are parts
given_parts : (word name : List ℕ) (rest : List (List ℕ)) → word ≡ codes "join" → is_count (length rest) ≡ true → is_name name ≡ true →
    are_sound (atom_texts rest) ≡ true → HasParts (word ∷ name ∷ rest) (record { name = name; atoms = atom_texts rest })
given_parts word name rest is count named sound =
    let number = counted (length rest) count in
    let fields = forth rest number.0 number.1 in
    let all = fields.1 in
    let least = number.2 in
    let most = number.3 in
    let both = (sound_is (atom_texts rest)).0 sound in
    record {
      split = ap₂ (λ (first : List ℕ) (list : List (List ℕ)). first ∷ name ∷ list) is (sym fields.0);
      named = named;
      some = omega (arith, all, least);
      few = omega (arith, all, most);
      full = both.0;
      variable = both.1;
    }

text_parts : (fields : List (List ℕ)) (text : LineText) → text_of_fields fields ≡ Ok text → HasParts fields text
unfolding text_of_fields checked_text
text_parts [] text e = absurd cc
text_parts (word ∷ []) text e = absurd cc
text_parts (word ∷ name ∷ rest) text e =
    by (bytes_eq word (codes "join")) refl (is_count (length rest)) refl (is_name name) refl (are_sound (atom_texts rest)) refl e
  where
    made : LineText
    made = record { name = name; atoms = atom_texts rest }

    by : (a : Bool) → bytes_eq word (codes "join") ≡ a → (b : Bool) → is_count (length rest) ≡ b → (c : Bool) → is_name name ≡ c →
        (d : Bool) → are_sound (atom_texts rest) ≡ d →
        (if a && b && c then (if d then Ok made else Err Shape) else Err Shape) ≡ Ok text → HasParts (word ∷ name ∷ rest) text
    by true p true q true r true s found =
        subst (HasParts (word ∷ name ∷ rest)) (same made text found) (given_parts word name rest (same_text word (codes "join") (sym p)) q r s)
      where
        same : (a b : LineText) → ◌≡◌ {A = Result LineText JoinFileFaultKind} (Ok a) (Ok b) → a ≡ b
        same a b e = cc
    by true p true q true r false s found = absurd cc
    by true p true q false r d s found = absurd cc
    by true p false q c r d s found = absurd cc
    by false p b q c r d s found = absurd cc

shape_alone : (fields : List (List ℕ)) (kind : JoinFileFaultKind) → text_of_fields fields ≡ Err kind → kind ≡ Shape
unfolding text_of_fields checked_text
shape_alone [] kind e = cc
shape_alone (word ∷ []) kind e = cc
shape_alone (word ∷ name ∷ rest) kind e =
    by (bytes_eq word (codes "join") && is_count (length rest) && is_name name) (are_sound (atom_texts rest)) e
  where
    made : LineText
    made = record { name = name; atoms = atom_texts rest }

    by : (a d : Bool) → (if a then (if d then Ok made else Err Shape) else Err Shape) ≡ Err kind → kind ≡ Shape
    by true true found = absurd cc
    by true false found = cc
    by false d found = cc

pub text_case : (fields : List (List ℕ)) → TextCase fields
text_case fields = by (text_of_fields fields) refl
  where
    same : (a b : LineText) → ◌≡◌ {A = Result LineText JoinFileFaultKind} (Ok a) (Ok b) → a ≡ b
    same a b e = cc

    differ : (a : LineText) (kind : JoinFileFaultKind) → ◌≡◌ {A = Result LineText JoinFileFaultKind} (Ok a) (Err kind) → ⊥
    differ a kind e = absurd cc

    by : (outcome : Result LineText JoinFileFaultKind) → text_of_fields fields ≡ outcome → TextCase fields
    by (Ok text) e = formed text (text_parts fields text e) e
    by (Err kind) e = unformed (λ text parts. differ text kind (sym (parts_given fields text parts) ∙ e))
        (e ∙ ap (λ (k : JoinFileFaultKind). Err k) (shape_alone fields kind e))
