-- The tests for equal values find exactly the equal ones.
use Rattle.std.proofs.Common.{◌≡◌, ℕ, Bool, true, false, not, ◌&&◌, List, Decides, refl, sym, ap, ◌∙◌}
use Rattle.std.proofs.Math.Bool.{beq}
use Rattle.std.specs.Prelude.{◌↔◌, IsTrue, if◌then◌else◌}
use Rattle.std.proofs.lemmas.Bool.{false≢true, and_parts}
use Rattle.std.proofs.lemmas.Bool.Decides.{Decides-eqb}
use Rattle.std.proofs.lemmas.Slice.Eq.{slice_eq-Decides}
use Rattle.rpq_base.specs.Same.{same_name, same_label, same_edge, same_pair}
use Rattle.rpq_base.specs.declared.data.Label.{Label}
use Rattle.rpq_base.specs.declared.data.Edge.{Edge}
use Rattle.rpq_base.specs.declared.data.Pair.{Pair}

-- tests that hold alike are equal
pub same_tests : (first second : Bool) → IsTrue first ↔ IsTrue second → first ≡ second
same_tests true second e = sym (e.0 refl)
same_tests false true e = e.1 refl
same_tests false false e = refl

-- ---- directions

-- the test of two directions finds the equal ones
directions : (first second : Bool) → (if first then second else not second) ≡ true → first ≡ second
directions true true e = refl
directions true false e = absurd (false≢true e)
directions false true e = absurd (false≢true e)
directions false false e = refl

-- a direction is equal to itself
direction_again : (back : Bool) → (if back then back else not back) ≡ true
direction_again true = refl
direction_again false = refl

-- the derived test of two directions is this one
derived_directions : (first second : Bool) → beq first second ≡ (if first then second else not second)
derived_directions true true = refl
derived_directions true false = refl
derived_directions false true = refl
derived_directions false false = refl

-- ---- names, labels, edges and pairs

-- the test of two names finds exactly the equal ones
pub names : (first second : List ℕ) → Decides (same_name first second) (first ≡ second)
names first second = slice_eq-Decides Decides-eqb first second (same_name first second) refl

-- a name is equal to itself
pub name_again : (name : List ℕ) → same_name name name ≡ true
name_again name = (names name name).1 refl

-- the test of two labels finds exactly the equal ones
pub labels : (first second : Label) → Decides (same_label first second) (first ≡ second)
labels first second = (
  λ e.
      let parts = and_parts (same_name first.name second.name) (if first.back then second.back else not second.back) e in
      let name = (names first.name second.name).0 parts.0 in
      let back = directions first.back second.back parts.1 in
      λ i. record { name = name i; back = back i },
  λ e. rw e (rw (name_again second.name, direction_again second.back)),
)

-- a label is equal to itself
pub label_again : (label : Label) → same_label label label ≡ true
label_again label = (labels label label).1 refl

-- the derived test of two labels is this one
pub derived_labels : (first second : Label) (equal : Bool) →
    equal ≡ (same_name first.name second.name && beq first.back second.back) → equal ≡ same_label first second
derived_labels first second equal is =
    is ∙ ap (λ (same : Bool). same_name first.name second.name && same) (derived_directions first.back second.back)

-- and so it finds exactly the equal ones
pub label_test : (first second : Label) (test : Bool) →
    test ≡ (same_name first.name second.name && beq first.back second.back) → IsTrue test ↔ (first ≡ second)
label_test first second test is =
    let same = derived_labels first second test is in (
      (λ e. (labels first second).0 (sym same ∙ e)),
      (λ e. same ∙ (labels first second).1 e),
    )

-- the test of two edges finds exactly the equal ones
pub edges : (first second : Edge) → Decides (same_edge first second) (first ≡ second)
edges first second = (
  λ e.
      let outer = and_parts (same_name first.from second.from && same_label first.label second.label) (same_name first.to second.to) e in
      let inner = and_parts (same_name first.from second.from) (same_label first.label second.label) outer.0 in
      let from = (names first.from second.from).0 inner.0 in
      let label = (labels first.label second.label).0 inner.1 in
      let to = (names first.to second.to).0 outer.1 in
      λ i. record { from = from i; label = label i; to = to i },
  λ e. rw e (rw (name_again second.from, label_again second.label, name_again second.to)),
)

-- the test of two pairs finds exactly the equal ones
pub pairs : (first second : Pair) → Decides (same_pair first second) (first ≡ second)
pairs first second = (
  λ e.
      let parts = and_parts (same_name first.from second.from) (same_name first.to second.to) e in
      let from = (names first.from second.from).0 parts.0 in
      let to = (names first.to second.to).0 parts.1 in
      λ i. record { from = from i; to = to i },
  λ e. rw e (rw (name_again second.from, name_again second.to)),
)
