-- The nodes that have a step to a node, label by label and node by node.
use Rattle.std.proofs.Common.{◌≡◌, ℕ, ◌+◌, ◌<◌, List, [], set, length, Some, None, refl, sym, ap, ◌∙◌, subst, ⊎_elim, inl, inr, arith, ◌⊎◌, Contains}
use Rattle.std.specs.Prelude.{◌↔◌}
use Rattle.std.proofs.lemmas.Bool.{cases_eq}
use Rattle.std.proofs.lemmas.List.{length-set, get_or-set_same, get_or-set_other}
use Rattle.std.proofs.lemmas.Option.{none-some, same_Some}
use Rattle.state_pairs.specs.Goals.{GoalGraph}
use Rattle.state_pairs.specs.Sources.{sources_at, HasStep, AddsSource, AddsSteps, AreSources}

-- the list of one target gets the node
pub adds_at : (lists : List (List ℕ)) (target node : ℕ) (more : List ℕ) → target < length lists →
    ((each : ℕ) → Contains more each ↔ (Contains (sources_at lists target) each ⊎ (each ≡ node))) →
    AddsSource target node lists (set lists target more)
adds_at lists target node more below adds = record {
  as_many = length-set lists target more;
  each = λ other source. elim (cases_eq other target) [
    | inl is ↦
        subst
        (λ (n : ℕ). Contains (sources_at (set lists target more) n) source ↔ (Contains (sources_at lists n) source ⊎ ((source ≡ node) × (n ≡ target))))
        (sym is)
        (subst
        (λ (list : List ℕ). Contains list source ↔ (Contains (sources_at lists target) source ⊎ ((source ≡ node) × (target ≡ target))))
        (sym (get_or-set_same lists target more [] below)) (
          (λ there. ⊎_elim (λ old. inl old) (λ same. inr (same, refl)) ((adds source).0 there)),
          (λ which. (adds source).1 (⊎_elim (λ old. inl old) (λ both. inr both.0) which)),
        ))
    | inr differ ↦
        subst
        (λ (list : List ℕ). Contains list source ↔ (Contains (sources_at lists other) source ⊎ ((source ≡ node) × (other ≡ target))))
        (sym (get_or-set_other lists target other more [] differ))
        ((λ there. inl there), (λ which. ⊎_elim (λ old. old) (λ both. absurd (differ both.1)) which))
  ];
}

-- ---- label by label

pub steps_more : (graph : GoalGraph) (node label next : ℕ) (before middle after : List (List ℕ)) → AddsSteps graph node label before middle → graph.leads node label ≡ Some next →
    AddsSource next node middle after → AddsSteps graph node (label + 1) before after
steps_more graph node label next before middle after adds leads one = record {
  as_many = one.as_many ∙ adds.as_many;
  each = λ target source. (
    (λ there. ⊎_elim
        (λ among. ⊎_elim
        (λ old. inl old)
        (λ both. inr (both.0, (both.1.0, omega (arith, both.1.1), both.1.2)))
        ((adds.each target source).0 among))
        (λ both. inr (both.0, (label, omega arith, leads ∙ ap (λ (n : ℕ). Some n) (sym both.1))))
        ((one.each target source).0 there)),
    (λ which. ⊎_elim
        (λ old. (one.each target source).1 (inl ((adds.each target source).1 (inl old))))
        (λ both. ⊎_elim
        (λ is. (one.each target source).1 (inr (both.0, same_Some target next (sym both.1.2 ∙ (ap (graph.leads node) is ∙ leads)))))
        (λ differ. (one.each target source).1 (inl ((adds.each target source).1 (inr (both.0, (both.1.0, omega (arith, both.1.1, differ), both.1.2))))))
        (cases_eq both.1.0 label))
        which),
  );
}

pub steps_none : (graph : GoalGraph) (node label : ℕ) (before after : List (List ℕ)) → AddsSteps graph node label before after → graph.leads node label ≡ None →
    AddsSteps graph node (label + 1) before after
steps_none graph node label before after adds leads = record {
  as_many = adds.as_many;
  each = λ target source. (
    (λ there. ⊎_elim
        (λ old. inl old)
        (λ both. inr (both.0, (both.1.0, omega (arith, both.1.1), both.1.2)))
        ((adds.each target source).0 there)),
    (λ which. ⊎_elim
        (λ old. (adds.each target source).1 (inl old))
        (λ both. ⊎_elim
        (λ is. absurd (none-some target (sym leads ∙ (sym (ap (graph.leads node) is) ∙ both.1.2))))
        (λ differ. (adds.each target source).1 (inr (both.0, (both.1.0, omega (arith, both.1.1, differ), both.1.2))))
        (cases_eq both.1.0 label))
        which),
  );
}

-- ---- node by node

pub sources_more : (graph : GoalGraph) (node : ℕ) (before after : List (List ℕ)) → AreSources graph node before → AddsSteps graph node graph.label_count before after →
    AreSources graph (node + 1) after
sources_more graph node before after are adds = record {
  as_many = adds.as_many ∙ are.as_many;
  each = λ target source. (
    (λ there. ⊎_elim
        (λ old. let has = (are.each target source).0 old in (omega (arith, has.0), has.1))
        (λ both. (omega (arith, both.0), subst (λ (n : ℕ). HasStep graph graph.label_count n target) (sym both.0) both.1))
        ((adds.each target source).0 there)),
    (λ both. ⊎_elim
        (λ is. (adds.each target source).1 (inr (is, subst (λ (n : ℕ). HasStep graph graph.label_count n target) is both.1)))
        (λ differ. (adds.each target source).1 (inl ((are.each target source).1 (omega (arith, both.0, differ), both.1))))
        (cases_eq source node)),
  );
}
