use Rattle.std.proofs.Common.{◌≡◌, ℕ, ◌<◌, List, [], length, map, get_or, Vec, Global, ap, subst, sym, ◌∙◌}
use Rattle.std.specs.Prelude.{◌↔◌, IsTrue, Contains}
use Rattle.std.specs.List.{slice_get}
use Rattle.std.proofs.lemmas.List.{length-map}
use Rattle.rpq_base.specs.declared.data.Label.{Label}
use Rattle.dfa_build.specs.PositionSet.{has}
use Rattle.dfa_build.specs.Positions.{PositionsValue}
use Rattle.dfa_build.specs.StateSets.{set_at}
use Rattle.dfa_build.proofs.transitions.PositionSets.of.Goals as goal

pub returns-clause-sets : goal.returns-clause-sets
returns-clause-sets c =
    let items : Vec ℕ Global → List ℕ = λ row. row.items in
    let labels = c.in_ok-labels.labels.items in
    let masks = c.in_ok-masks.masks.items in
    let follow = c.in_ok-sets_of.field-0.items in
    let first = c.set_of.result in
    let last = c.set_of-2.result in
    let atoms : (list : List Label) → list ≡ c.positions.inside.atoms.items → list ≡ c.args.positions.now.atoms = λ list is. is ∙ ap (λ (p : PositionsValue). p.atoms) c.positions.view_is in
    let rows : map items c.deref-4.result.now ≡ c.args.positions.now.follow = ap (map items) c.deref-4.ensures.value ∙ ap (λ (p : PositionsValue). p.follow) c.positions.view_is in
    let begin : c.deref-5.result.now ≡ c.args.positions.now.first = c.deref-5.ensures.value ∙ ap (λ (p : PositionsValue). p.first) c.positions.view_is in
    let end : c.deref-6.result.now ≡ c.args.positions.now.last = c.deref-6.ensures.value ∙ ap (λ (p : PositionsValue). p.last) c.positions.view_is in
    let as_many : length follow ≡ length (map items c.deref-4.result.now) = c.in_ok-sets_of.ensures.length ∙ sym (length-map c.deref-4.result.now items) in
    record {
      labels_of_atoms = subst (λ (list : List Label). (label : Label) → Contains labels label ↔ Contains list label)
          (atoms c.deref.result.now c.deref.ensures.value) c.in_ok-labels.ensures.members;
      as_many_masks = c.in_ok-masks.ensures.length ∙ ap length c.deref-3.ensures.value;
      mask = subst (λ (list : List Label). (place position : ℕ) → place < length list → IsTrue (has (set_at masks place) position) ↔ (slice_get c.args.positions.now.atoms position ≡ slice_get list place))
          c.deref-3.ensures.value
          (subst (λ (list : List Label). (place position : ℕ) → place < length c.deref-3.result.now → IsTrue (has (set_at masks place) position) ↔ (slice_get list position ≡ slice_get c.deref-3.result.now place))
          (atoms c.deref-2.result.now c.deref-2.ensures.value) c.in_ok-masks.ensures.members);
      as_many_rows = as_many ∙ ap length rows;
      follows = subst (λ (list : List (List ℕ)). (place position : ℕ) → place < length list → IsTrue (has (set_at follow place) position) ↔ Contains (get_or list place []) position)
          rows
          (λ place position below. c.in_ok-sets_of.ensures.members place position (subst (λ (n : ℕ). place < n) (length-map c.deref-4.result.now items) below));
      starts = subst (λ (list : List ℕ). (position : ℕ) → IsTrue (has first position) ↔ Contains list position) begin c.set_of.ensures;
      ends = subst (λ (list : List ℕ). (position : ℕ) → IsTrue (has last position) ↔ Contains list position) end c.set_of-2.ensures;
    }
