-- The positions that words reach, one label after another.
use Rattle.std.proofs.Common.{◌≡◌, ℕ, ◌<◌, List, [], ◌∷◌, ◌++◌, length, Option, Some, refl, sym, ap, ◌∙◌, subst, ◌⊎◌, inl, inr, ⊎_elim, arith}
use Rattle.std.specs.Prelude.{◌↔◌, Contains}
use Rattle.std.specs.List.{slice_get}
use Rattle.std.specs.Option.{option_to_list}
use Rattle.std.proofs.lemmas.Bool.{cases_lt}
use Rattle.std.proofs.lemmas.List.{append_assoc, append-nil, same_from_push, get_or_past}
use Rattle.std.proofs.lemmas.List.Concat.{flat_map-append}
use Rattle.std.proofs.lemmas.List.Elements.{All-contains, All-get_or}
use Rattle.std.proofs.lemmas.Option.{slice_get_cases}
use Rattle.rpq_base.specs.declared.data.Label.{Label}
use Rattle.dfa_build.specs.Positions.{PositionsValue, next_of, GoesOn, end_of, spells, ArePlaces, ArePositions}
use Rattle.dfa_build.specs.Subset.{Reaches, ReachesSome}

-- ---- places

-- a position has a label
pub has_label : (positions : PositionsValue) (position : ℕ) → position < length positions.atoms →
    (label : Label) × (slice_get positions.atoms position ≡ Some label)
has_label positions position below = ⊎_elim
    (λ found. (found.0, found.2))
    (λ past. absurd (omega (arith, past.0)))
    (slice_get_cases positions.atoms position).1

-- what may stand after a position is a position
next_is_place : (positions : PositionsValue) (position next : ℕ) → ArePositions positions → Contains (next_of positions position) next →
    next < length positions.atoms
next_is_place positions position next are member =
    let few : ℕ → Type 0 = λ place. place < length positions.atoms in
    ⊎_elim
    (λ within. All-contains few (next_of positions position) next (All-get_or (ArePlaces positions) positions.follow position [] within are.follow) member)
    (λ past.
    let none : next_of positions position ≡ [] = get_or_past positions.follow position [] past in
    let nowhere = subst (λ (list : List ℕ). Contains list next) none member in
    absurd (omega (arith, nowhere.1)))
    (cases_lt position (length positions.follow))

-- a trace from a position ends in one
end_is_place : (rest : List ℕ) (positions : PositionsValue) (position : ℕ) → ArePositions positions → position < length positions.atoms →
    GoesOn positions position rest → end_of position rest < length positions.atoms
end_is_place [] positions position are below goes = below
end_is_place (next ∷ rest) positions position are below goes = end_is_place rest positions next are (next_is_place positions position next are goes.0) goes.1

first_is_place : (positions : PositionsValue) (first : ℕ) → ArePositions positions → Contains positions.first first → first < length positions.atoms
first_is_place positions first are member = let few : ℕ → Type 0 = λ place. place < length positions.atoms in All-contains few positions.first first are.first member

-- what a word reaches is a position
pub reached_is_place : (positions : PositionsValue) (word : List Label) (position : ℕ) → ArePositions positions →
    Reaches positions word position → position < length positions.atoms
reached_is_place positions word position are reaches =
    let few : ℕ → Type 0 = λ place. place < length positions.atoms in
    subst few reaches.ends (end_is_place reaches.rest positions reaches.first are (first_is_place positions reaches.first are reaches.front.0) reaches.front.1)

-- ---- traces with one position more

goes_on_more : (rest : List ℕ) (positions : PositionsValue) (position next : ℕ) → GoesOn positions position rest →
    Contains (next_of positions (end_of position rest)) next →
    GoesOn positions position (rest ++ next ∷ [])
goes_on_more [] positions position next goes member = (member, tt)
goes_on_more (second ∷ rest) positions position next goes member = (goes.0, goes_on_more rest positions second next goes.1 member)

goes_on_less : (rest : List ℕ) (positions : PositionsValue) (position next : ℕ) → GoesOn positions position (rest ++ next ∷ []) →
    GoesOn positions position rest × Contains (next_of positions (end_of position rest)) next
goes_on_less [] positions position next goes = (tt, goes.0)
goes_on_less (second ∷ rest) positions position next goes = let less = goes_on_less rest positions second next goes.1 in ((goes.0, less.0), less.1)

end_of_more : (rest : List ℕ) (position next : ℕ) → end_of position (rest ++ next ∷ []) ≡ next
end_of_more [] position next = refl
end_of_more (second ∷ rest) position next = end_of_more rest second next

-- a position with a label spells that label
spells_one : (positions : PositionsValue) (position : ℕ) (label : Label) → slice_get positions.atoms position ≡ Some label →
    spells positions (position ∷ []) ≡ label ∷ []
spells_one positions position label is = ap (λ (o : Option Label). option_to_list o ++ []) is

spells_more : (positions : PositionsValue) (trace : List ℕ) (position : ℕ) (label : Label) → slice_get positions.atoms position ≡ Some label →
    spells positions (trace ++ position ∷ []) ≡ spells positions trace ++ label ∷ []
spells_more positions trace position label is =
    flat_map-append (λ (place : ℕ). option_to_list (slice_get positions.atoms place)) trace (position ∷ [])
    ∙ ap (λ (last : List Label). spells positions trace ++ last) (spells_one positions position label is)

-- a trace spells its first label and then the others
spells_first : (positions : PositionsValue) (position : ℕ) (rest : List ℕ) (label : Label) → slice_get positions.atoms position ≡ Some label →
    spells positions (position ∷ rest) ≡ label ∷ spells positions rest
spells_first positions position rest label is = ap (λ (o : Option Label). option_to_list o ++ spells positions rest) is

-- ---- words with one label more

-- after the word the position may stand, whatever its label
abbrev pub Enters : PositionsValue → List Label → ℕ → Type 0
Enters positions [] next = Contains positions.first next
Enters positions (label ∷ word) next = (position : ℕ) × Reaches positions (label ∷ word) position × Contains (next_of positions position) next

-- a list has a last element, or none
last_or_none : {X : Type 0} (xs : List X) → (xs ≡ []) ⊎ ((front : List X) × (last : X) × (xs ≡ front ++ last ∷ []))
last_or_none [] = inl refl
last_or_none {X} (x ∷ xs) = ⊎_elim
    (λ none. inr ([], x, ap (λ (rest : List X). x ∷ rest) none))
    (λ some. inr (x ∷ some.0, some.1, ap (λ (rest : List X). x ∷ rest) some.2))
    (last_or_none xs)

-- what a nonempty word leads on to
enters_from : (positions : PositionsValue) (word spelled : List Label) (label : Label) (position next : ℕ) → spelled ≡ label ∷ word →
    Reaches positions spelled position → Contains (next_of positions position) next → Enters positions spelled next
enters_from positions word spelled label position next is reaches member =
    let P : List Label → Type 0 = λ w. Enters positions w next in
    let Q : List Label → Type 0 = λ w. Reaches positions w position in
    subst P (sym is) (position, subst Q is reaches, member)

reaches_from_more : (positions : PositionsValue) (word : List Label) (label : Label) (position first : ℕ) (rest : List ℕ) → ArePositions positions →
    Contains positions.first first → GoesOn positions first rest → end_of first rest ≡ position → word ++ label ∷ [] ≡ spells positions (first ∷ rest) →
    (rest ≡ []) ⊎ ((front : List ℕ) × (last : ℕ) × (rest ≡ front ++ last ∷ [])) →
    (slice_get positions.atoms position ≡ Some label) × Enters positions word position
reaches_from_more positions word label position first rest are begins goes ends spelled either = ⊎_elim
    (λ none.
    let here = has_label positions first (first_is_place positions first are begins) in
    let is : first ≡ position = ap (end_of first) (sym none) ∙ ends in
    let one : word ++ label ∷ [] ≡ [] ++ here.0 ∷ [] = spelled ∙ (ap (λ (r : List ℕ). spells positions (first ∷ r)) none ∙ spells_one positions first here.0 here.1) in
    let parts = same_from_push word [] label here.0 one in
    let P : List Label → Type 0 = λ w. Enters positions w position in
    (ap (slice_get positions.atoms) (sym is) ∙ (here.1 ∙ ap (λ (l : Label). Some l) (sym parts.1)), subst P (sym parts.0) (subst (Contains positions.first) is begins)))
    (λ some.
    let front = some.0 in
    let last = some.1 in
    let less = goes_on_less front positions first last (subst (GoesOn positions first) some.2 goes) in
    let is : last ≡ position = sym (end_of_more front first last) ∙ (ap (end_of first) (sym some.2) ∙ ends) in
    let here = has_label positions last (next_is_place positions (end_of first front) last are less.1) in
    let at_first = has_label positions first (first_is_place positions first are begins) in
    let one : word ++ label ∷ [] ≡ spells positions (first ∷ front) ++ here.0 ∷ [] = spelled ∙ (ap (λ (r : List ℕ). spells positions (first ∷ r)) some.2 ∙ spells_more positions (first ∷ front) last here.0 here.1) in
    let parts = same_from_push word (spells positions (first ∷ front)) label here.0 one in
    let before : Reaches positions word (end_of first front) = record { first = first; rest = front; front = (begins, less.0); ends = refl; spelled = parts.0 } in
    let nonempty : word ≡ at_first.0 ∷ spells positions front = parts.0 ∙ spells_first positions first front at_first.0 at_first.1 in (
      ap (slice_get positions.atoms) (sym is) ∙ (here.1 ∙ ap (λ (l : Label). Some l) (sym parts.1)),
      subst (Enters positions word) is (enters_from positions (spells positions front) word at_first.0 (end_of first front) last nonempty before less.1),
    ))
    either

reaches_more : (word : List Label) (positions : PositionsValue) (label : Label) (position : ℕ) →
    slice_get positions.atoms position ≡ Some label → Enters positions word position → Reaches positions (word ++ label ∷ []) position
reaches_more [] positions label position has enters = record {
  first = position;
  rest = [];
  front = (enters, tt);
  ends = refl;
  spelled = sym (spells_one positions position label has);
}
reaches_more (first ∷ word) positions label position has enters =
    let before = enters.1 in record {
      first = before.first;
      rest = before.rest ++ position ∷ [];
      front = (before.front.0, goes_on_more before.rest positions before.first position before.front.1 (subst (λ (p : ℕ). Contains (next_of positions p) position) (sym before.ends) enters.2));
      ends = end_of_more before.rest before.first position;
      spelled = ap (λ (w : List Label). w ++ label ∷ []) before.spelled ∙ sym (spells_more positions (before.first ∷ before.rest) position label has);
    }

-- a word with one label more reaches the positions with that label that may stand after the word
pub one_label_more : (positions : PositionsValue) (word : List Label) (label : Label) (position : ℕ) → ArePositions positions →
    Reaches positions (word ++ label ∷ []) position ↔ ((slice_get positions.atoms position ≡ Some label) × Enters positions word position)
one_label_more positions word label position are = (
  (λ reaches. reaches_from_more positions word label position reaches.first reaches.rest are reaches.front.0 reaches.front.1 reaches.ends reaches.spelled (last_or_none reaches.rest)),
  (λ both. reaches_more word positions label position both.0 both.1),
)

-- the empty word reaches nothing
pub empty_reaches_nothing : (positions : PositionsValue) (position : ℕ) → ArePositions positions → Reaches positions [] position → ⊥
empty_reaches_nothing positions position are reaches =
    let here = has_label positions reaches.first (first_is_place positions reaches.first are reaches.front.0) in
    let is = reaches.spelled ∙ spells_first positions reaches.first reaches.rest here.0 here.1 in
    cc

-- where a word goes on, its front reaches something
pub front_reaches : (rest : List Label) (positions : PositionsValue) (label : Label) (word : List Label) → ArePositions positions →
    ReachesSome positions ((label ∷ word) ++ rest) → ReachesSome positions (label ∷ word)
front_reaches [] positions label word are some = subst (ReachesSome positions) (append-nil (label ∷ word)) some
front_reaches (next ∷ rest) positions label word are some =
    let longer : ReachesSome positions (label ∷ (word ++ next ∷ [])) =
    front_reaches rest positions label (word ++ next ∷ []) are (subst (ReachesSome positions) (sym (append_assoc (label ∷ word) (next ∷ []) rest)) some) in
    let both = (one_label_more positions (label ∷ word) next longer.0 are).0 longer.1 in
    (both.1.0, both.1.1)
