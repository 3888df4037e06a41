-- Sets and lists of sets that loops fill, one step on.
use Rattle.std.proofs.Common.{◌≡◌, ℕ, ◌+◌, ◌<◌, Bool, true, false, not, ◌==◌, ◌&&◌, ◌||◌, List, [], ◌∷◌, ◌++◌, length, get_or, map, Some, refl, sym, ap, ◌∙◌, inl, inr, ⊎_elim, arith, eq-eqb, subst}
use Rattle.std.specs.Prelude.{◌↔◌, IsTrue}
use Rattle.std.specs.List.{slice_get}
use Rattle.std.proofs.lemmas.Bool.{cases_eq, eqb-true, or_cases, or_left, or_right, and_parts, and_from, false≢true}
use Rattle.std.proofs.lemmas.List.{get_or_append_left, get_or_push, get_or-map}
use Rattle.std.proofs.lemmas.Option.{slice_get_read, same_Some}
use Rattle.rpq_base.specs.declared.data.Label.{Label}
use Rattle.dfa_build.specs.declared.position_set.PositionSet.{PositionSet}
use Rattle.dfa_build.specs.PositionSet.{has}
use Rattle.dfa_build.specs.StateSets.{set_at}

-- the positions below a place that have the label
abbrev pub HaveLabel : List Label → Label → ℕ → ℕ → Type 0
HaveLabel atoms label place position = (position < place) × (slice_get atoms position ≡ Some label)

-- one position more is there if its atom has the label
pub have_label_more : (atoms : List Label) (label atom : Label) (set one next : PositionSet) (place : ℕ) (test : Bool) →
    place < length atoms → atom ≡ get_or atoms place atom → IsTrue test ↔ (atom ≡ label) →
    ((p : ℕ) → has one p ≡ (p == place)) → ((p : ℕ) → has next p ≡ (has set p || (test && has one p))) →
    ((p : ℕ) → IsTrue (has set p) ↔ HaveLabel atoms label place p) → (p : ℕ) → IsTrue (has next p) ↔ HaveLabel atoms label (place + 1) p
have_label_more atoms label atom set one next place test below read tells alone joined before p =
    let here : slice_get atoms place ≡ Some atom = slice_get_read atoms (length atoms) place atom refl below read in (
      (λ member. ⊎_elim
          (λ earlier. let found = (before p).0 earlier in (omega (arith, found.0), found.1))
          (λ both.
          let parts = and_parts test (has one p) both in
          let is : p ≡ place = eqb-true p place (sym (alone p) ∙ parts.1) in
          (omega arith, ap (slice_get atoms) is ∙ (here ∙ ap (λ (l : Label). Some l) (tells.0 parts.0))))
          (or_cases (has set p) (test && has one p) (sym (joined p) ∙ member))),
      (λ found. joined p ∙ elim (cases_eq p place) [
        | inl is ↦
            let same : atom ≡ label = same_Some atom label (sym here ∙ (ap (slice_get atoms) (sym is) ∙ found.1)) in
            or_right (has set p) (test && has one p) (and_from test (has one p) (tells.1 same) (alone p ∙ eq-eqb p place is))
        | inr other ↦ or_left (has set p) (test && has one p) ((before p).1 (omega (arith, found.0), found.1))
      ]),
    )

-- what the members below a place lead to
abbrev pub LedTo : List PositionSet → PositionSet → ℕ → ℕ → Type 0
LedTo follow set place next = (position : ℕ) × (position < place) × IsTrue (has set position) × IsTrue (has (set_at follow position) next)

-- one place more adds what it leads to if it is a member
pub led_to_more : (follow : List PositionSet) (set reach more : PositionSet) (place : ℕ) (member : Bool) →
    member ≡ has set place → ((p : ℕ) → has more p ≡ (has reach p || (member && has (set_at follow place) p))) →
    ((p : ℕ) → IsTrue (has reach p) ↔ LedTo follow set place p) → (p : ℕ) → IsTrue (has more p) ↔ LedTo follow set (place + 1) p
led_to_more follow set reach more place member is joined before p = (
  (λ there. ⊎_elim
      (λ earlier. let found = (before p).0 earlier in (found.0, omega (arith, found.1), found.2, found.3))
      (λ both.
      let parts = and_parts member (has (set_at follow place) p) both in
      (place, omega arith, sym is ∙ parts.0, parts.1))
      (or_cases (has reach p) (member && has (set_at follow place) p) (sym (joined p) ∙ there))),
  (λ found. joined p ∙ elim (cases_eq found.0 place) [
    | inl same ↦
        or_right (has reach p) (member && has (set_at follow place) p)
        (and_from member (has (set_at follow place) p) (is ∙ (ap (has set) (sym same) ∙ found.2)) (ap (λ (n : ℕ). has (set_at follow n) p) (sym same) ∙ found.3))
    | inr other ↦ or_left (has reach p) (member && has (set_at follow place) p) ((before p).1 (found.0, omega (arith, found.1), found.2, found.3))
  ]),
)

-- each set of a list is right, and so is one more
pub right_more : (Q : ℕ → ℕ → Type 0) (sets after : List PositionSet) (set : PositionSet) (index : ℕ) → length sets ≡ index → after ≡ sets ++ set ∷ [] →
    ((place position : ℕ) → place < index → IsTrue (has (set_at sets place) position) ↔ Q place position) →
    ((position : ℕ) → IsTrue (has set position) ↔ Q index position) →
    (place position : ℕ) → place < index + 1 → IsTrue (has (set_at after place) position) ↔ Q place position
right_more Q sets after set index as_many pushed before here place position below =
    let P : List PositionSet → Type 0 = λ all. IsTrue (has (set_at all place) position) ↔ Q place position in
    subst P (sym pushed) (elim (cases_eq place index) [
      | inl is ↦
          let last : set_at (sets ++ set ∷ []) place ≡ set = get_or_push sets set (record { bits = 0 }) place (as_many ∙ sym is) in
          let R : ℕ → Type 0 = λ n. IsTrue (has set position) ↔ Q n position in
          let S : PositionSet → Type 0 = λ s. IsTrue (has s position) ↔ Q place position in
          subst S (sym last) (subst R (sym is) (here position))
      | inr other ↦
          let earlier : place < length sets = omega arith in
          let same : set_at (sets ++ set ∷ []) place ≡ set_at sets place = get_or_append_left sets (set ∷ []) (record { bits = 0 }) place earlier in
          let S : PositionSet → Type 0 = λ s. IsTrue (has s position) ↔ Q place position in
          subst S (sym same) (before place position (omega arith))
    ])

-- a row of a list, as its items
pub items_at : {R : Type 0} (items : R → List ℕ) (rows : List R) (place : ℕ) (row : R) → place < length rows → row ≡ get_or rows place row →
    get_or (map items rows) place [] ≡ items row
items_at items rows place row below read = get_or-map items rows place row [] below ∙ ap items (sym read)

-- an intersection with a member is one of sets that share it
pub shares : (set other both : PositionSet) (empty : Bool) → ((p : ℕ) → has both p ≡ (has set p && has other p)) →
    (empty ≡ true → (p : ℕ) → has both p ≡ false) → (empty ≡ false → (p : ℕ) × (has both p ≡ true)) →
    IsTrue (not empty) ↔ ((position : ℕ) × IsTrue (has set position) × IsTrue (has other position))
shares set other both true joined none some = (
  (λ e. absurd (false≢true e)),
  (λ found. absurd (false≢true (sym (none refl found.0) ∙ (joined found.0 ∙ and_from (has set found.0) (has other found.0) found.1 found.2)))),
)
shares set other both false joined none some = (
  (λ e. let found = some refl in let parts = and_parts (has set found.0) (has other found.0) (sym (joined found.0) ∙ found.1) in (found.0, parts.0, parts.1)),
  (λ found. refl),
)

-- one set more is told to be final or not
pub finals_more : (Q : ℕ → Type 0) (finals after : List Bool) (final : Bool) (index : ℕ) → length finals ≡ index + 1 → after ≡ finals ++ final ∷ [] →
    ((place : ℕ) → place < index → IsTrue (get_or finals (place + 1) false) ↔ Q place) → IsTrue final ↔ Q index →
    (place : ℕ) → place < index + 1 → IsTrue (get_or after (place + 1) false) ↔ Q place
finals_more Q finals after final index as_many pushed before here place below =
    let P : List Bool → Type 0 = λ all. IsTrue (get_or all (place + 1) false) ↔ Q place in
    let S : Bool → Type 0 = λ b. IsTrue b ↔ Q place in
    subst P (sym pushed) (elim (cases_eq place index) [
      | inl is ↦
          let last : get_or (finals ++ final ∷ []) (place + 1) false ≡ final = get_or_push finals final false (place + 1) (omega arith) in
          let R : ℕ → Type 0 = λ n. IsTrue final ↔ Q n in
          subst S (sym last) (subst R (sym is) here)
      | inr other ↦
          let earlier : place + 1 < length finals = omega arith in
          let same : get_or (finals ++ final ∷ []) (place + 1) false ≡ get_or finals (place + 1) false = get_or_append_left finals (final ∷ []) false (place + 1) earlier in
          subst S (sym same) (before place (omega arith))
    ])
