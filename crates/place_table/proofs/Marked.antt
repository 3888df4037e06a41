-- Marks of searches.
use Rattle.std.proofs.Common.{◌≡◌, inl, inr, ℕ, ◌++◌, ◌∷◌, [], List, Some, Contains, slice_get, slice_set, refl, sym, ap, subst, arith}
use Rattle.std.proofs.lemmas.List.Elements.{Contains-push, Contains-append_left}
use Rattle.delta_tree.specs.declared.node.NodeId.{NodeId}
use Rattle.place_table.specs.declared.marks.Mark.{Mark}
use Rattle.place_table.specs.Marking.{AddsOne, AreBefore, AreMarks}
use Rattle.place_table.proofs.Found.{set_cases, push_cases}

-- at the beginning of a search
pub none_marked : (search : ℕ) (marks : List Mark) → AreBefore search marks → AreMarks search [] marks
none_marked search marks before = record {
  up_to = λ number mark at. omega (arith, before number mark at);
  of_marked = λ number mark at same. absurd (omega (arith, before number mark at, same));
}

-- one more
pub one_marked : (search : ℕ) (marked more : List NodeId) (old new : List Mark) (id : NodeId) →
    AreMarks search marked old → more ≡ marked ++ id ∷ [] →
    AddsOne old new (record { id = id; search = search }) → AreMarks search more new
one_marked search marked more old new id before is adds = record {
  up_to = λ number mark at. elim (adds number mark at) [
    | inl stood ↦ before.up_to number mark stood
    | inr one ↦ omega (arith, ap (λ (m : Mark). m.search) one)
  ];
  of_marked = λ number mark at same. subst (λ (l : List NodeId). Contains l mark.id) (sym is)
      (elim (adds number mark at) [
        | inl stood ↦ Contains-append_left marked (id ∷ []) mark.id
            (before.of_marked number mark stood same)
        | inr one ↦ subst (Contains (marked ++ id ∷ [])) (sym (ap (λ (m : Mark). m.id) one))
            (Contains-push marked id)
      ]);
}

-- the mark that stands there is of a place that is marked
pub marked_there : (search : ℕ) (marked : List NodeId) (marks : List Mark) (number : ℕ)
    (id : NodeId) → AreMarks search marked marks →
    slice_get marks number ≡ Some (record { id = id; search = search }) → Contains marked id
marked_there search marked marks number id all at =
    all.of_marked number (record { id = id; search = search }) at refl

pub adds_none : (marks : List Mark) (mark : Mark) → AddsOne marks marks mark
adds_none marks mark number each at = inl at

pub adds_pushed : (old now new : List Mark) (mark : Mark) → AddsOne old now mark →
    new ≡ now ++ mark ∷ [] → AddsOne old new mark
adds_pushed old now new mark before is number each at =
    elim (push_cases now mark number each (subst (λ l. slice_get l number ≡ Some each) is at)) [
      | inl stood ↦ before number each stood
      | inr (here, one) ↦ inr one
    ]

pub adds_set : (old now : List Mark) (mark : Mark) (number : ℕ) → AddsOne old now mark →
    AddsOne old (slice_set now number mark) mark
adds_set old now mark number before other each at =
    elim (set_cases now number mark other each at) [
      | inl stood ↦ before other each stood
      | inr (here, one) ↦ inr one
    ]
