-- The log of ends that come or go, while it is made.
use Rattle.std.proofs.Common.{◌≡◌, ◌≢◌, ◌==◌, inl, inr, ℕ, Bool, true, false, List, [], ◌∷◌, ◌++◌, get_or, Option, None, Some, refl, sym, ap, subst, ◌∙◌, Contains, arith}
use Rattle.std.specs.Prelude.{◌↔◌, AllPairs, is_some}
use Rattle.std.proofs.lemmas.Bool.{eqb-true}
use Rattle.std.proofs.lemmas.List.Elements.{Contains-append_left, Contains-push, Contains-push_cases, Contains-get_or}
use Rattle.std.proofs.lemmas.List.Quantifiers.{all_pairs_push}
use Rattle.tree_insert.proofs.Members.{contains_none}
use Rattle.source_tree.specs.Ends.{AreEndChanges, HasOutcome, end_change}
use Rattle.source_tree.specs.Telling.{Logs, outcome_of}
use Rattle.source_tree.specs.declared.change.EndChange.{EndChange}
use Rattle.source_tree.specs.declared.change.Outcome.{Outcome}
use Rattle.source_tree.specs.declared.change.Outcome.TheVariants.{Lost, Gained}
use Rattle.source_tree.proofs.Outcomes.{none_both, none_kept, one_outcome}

-- the end of a vertex that doesn't wait, with its outcome
abbrev Told : ℕ → (ℕ → Option ℕ) → (ℕ → Option ℕ) → (ℕ → Type 0) → EndChange → Type 0
Told root before after Waits each =
    (each.root ≡ root) × HasOutcome each.outcome (before each.vertex) (after each.vertex)
    × (Waits each.vertex → ⊥)

-- the log has exactly the ends that come or go of those vertices that don't wait
pub record IsTelling (root : ℕ) (before after : ℕ → Option ℕ) (Waits : ℕ → Type 0)
    (log : List EndChange) : Type 0 where
  pub exact : (each : EndChange) → Contains log each ↔ Told root before after Waits each
  pub once : AllPairs (λ (first second : EndChange). first.vertex ≢ second.vertex) log

module _ (root : ℕ) (before after : ℕ → Option ℕ) where
  -- where all vertices whose ends may come or go wait
  pub telling_starts : (Waits : ℕ → Type 0) →
      ((vertex : ℕ) → (Waits vertex → ⊥) → before vertex ≡ after vertex) →
      IsTelling root before after Waits []
  telling_starts Waits same = record {
    exact = λ each. (
      (λ there. absurd (contains_none each there)),
      (λ told. absurd (none_kept each.outcome (before each.vertex) (after each.vertex)
          (same each.vertex told.2) told.1)),
    );
    once = λ i j d below within. absurd (omega (arith, within));
  }

  -- where none waits
  pub telling_ends : (Waits : ℕ → Type 0) (log : List EndChange) →
      ((vertex : ℕ) → Waits vertex → ⊥) → IsTelling root before after Waits log →
      AreEndChanges root before after log
  telling_ends Waits log none telling = record {
    exact = λ each. (
      (λ there.
          let told = (telling.exact each).0 there in
          (told.0, told.1)),
      (λ is. (telling.exact each).1 (is.0, is.1, none each.vertex)),
    );
    once = telling.once;
  }

  -- where the same vertices wait
  pub telling_like : (Waits Then : ℕ → Type 0) (log : List EndChange) →
      ((vertex : ℕ) → Waits vertex ↔ Then vertex) →
      IsTelling root before after Waits log → IsTelling root before after Then log
  telling_like Waits Then log like telling = record {
    exact = λ each. (
      (λ there.
          let told = (telling.exact each).0 there in
          (told.0, told.1, λ then. told.2 ((like each.vertex).1 then))),
      (λ is. (telling.exact each).1
          (is.0, is.1, λ waits. is.2 ((like each.vertex).0 waits))),
    );
    once = telling.once;
  }

  module _ (Waits Then : ℕ → Type 0) (vertex : ℕ) (log : List EndChange)
      (others : (each : ℕ) → (vertex == each) ≡ false → Waits each ↔ Then each)
      (telling : IsTelling root before after Waits log) where
    -- one vertex less waits, whose end neither comes nor goes
    telling_same : ((outcome : Outcome) → HasOutcome outcome (before vertex) (after vertex) → ⊥) →
        IsTelling root before after Then log
    telling_same stays = record {
      exact = λ each. (
        (λ there. free each ((telling.exact each).0 there) (vertex == each.vertex) refl),
        (λ is. there each is (vertex == each.vertex) refl),
      );
      once = telling.once;
    }
      where
        none : (each : EndChange) → HasOutcome each.outcome (before each.vertex)
            (after each.vertex) → (vertex == each.vertex) ≡ true → ⊥
        none each has is = stays each.outcome (subst
            (λ (one : ℕ). HasOutcome each.outcome (before one) (after one))
            (sym (eqb-true vertex each.vertex is)) has)

        free : (each : EndChange) → Told root before after Waits each → (b : Bool) →
            (vertex == each.vertex) ≡ b → Told root before after Then each
        free each told true is = absurd (none each told.1 is)
        free each told false other =
            (told.0, told.1, λ then. told.2 ((others each.vertex other).1 then))

        there : (each : EndChange) → Told root before after Then each → (b : Bool) →
            (vertex == each.vertex) ≡ b → Contains log each
        there each told true is = absurd (none each told.1 is)
        there each told false other = (telling.exact each).1
            (told.0, told.1, λ waits. told.2 ((others each.vertex other).0 waits))

    module _ (waits : Waits vertex) (free : Then vertex → ⊥) (outcome : Outcome)
        (has : HasOutcome outcome (before vertex) (after vertex)) where
      abbrev change : EndChange
      change = end_change root vertex outcome

      -- those that are told don't wait
      another : (each : EndChange) → Contains log each → (b : Bool) →
          (vertex == each.vertex) ≡ b → b ≡ false
      another each there true is = absurd (((telling.exact each).0 there).2
          (subst Waits (eqb-true vertex each.vertex is) waits))
      another each there false other = refl

      told_more : (each : EndChange) → Contains (log ++ change ∷ []) each →
          Told root before after Then each
      told_more each there = elim (Contains-push_cases log change each there) [
        | inl stood ↦
            let told = (telling.exact each).0 stood in
            let other = another each stood (vertex == each.vertex) refl in
            (told.0, told.1, λ then. told.2 ((others each.vertex other).1 then))
        | inr is ↦ subst (Told root before after Then) is (refl, has, free)
      ]

      -- the vertex has this end alone
      it : (each : EndChange) → each.root ≡ root →
          HasOutcome each.outcome (before each.vertex) (after each.vertex) →
          vertex ≡ each.vertex → change ≡ each
      it each root_is told same =
          let here : HasOutcome each.outcome (before vertex) (after vertex) =
          subst (λ (one : ℕ). HasOutcome each.outcome (before one) (after one)) (sym same) told in
          let outcome_is : outcome ≡ each.outcome =
          one_outcome outcome each.outcome (before vertex) (after vertex) has here in
          let from : root ≡ each.root = sym root_is in
          λ i. record { root = from i; vertex = same i; outcome = outcome_is i }

      all_told : (each : EndChange) → Told root before after Then each → (b : Bool) →
          (vertex == each.vertex) ≡ b → Contains (log ++ change ∷ []) each
      all_told each told true is = subst (Contains (log ++ change ∷ []))
          (it each told.0 told.1 (eqb-true vertex each.vertex is)) (Contains-push log change)
      all_told each told false other =
          Contains-append_left log (change ∷ []) each ((telling.exact each).1
          (told.0, told.1, λ each_waits. told.2 ((others each.vertex other).0 each_waits)))

      -- one vertex less waits, whose end has this outcome
      telling_more : IsTelling root before after Then (log ++ change ∷ [])
      telling_more = record {
        exact = λ each. (
          told_more each,
          (λ told. all_told each told (vertex == each.vertex) refl),
        );
        once = all_pairs_push
            (λ (first second : EndChange). first.vertex ≢ second.vertex) log change
            telling.once
            (λ k d within same.
            ((telling.exact (get_or log k d)).0 (Contains-get_or log k d within)).2
            (subst Waits (sym same) waits));
      }

    -- one vertex less waits, and the log has its end more if it comes or goes
    pub telling_step : Waits vertex → (Then vertex → ⊥) → (new : List EndChange) →
        Logs root vertex (outcome_of (is_some (before vertex)) (is_some (after vertex))) log new →
        IsTelling root before after Then new
    telling_step waits free new logs = by (before vertex) (after vertex) refl refl logs
      where
        by : (had has : Option ℕ) → before vertex ≡ had → after vertex ≡ has →
            Logs root vertex (outcome_of (is_some had) (is_some has)) log new →
            IsTelling root before after Then new
        by None None was is same = subst (IsTelling root before after Then) (sym same)
            (telling_same (λ outcome. none_kept outcome (before vertex) (after vertex)
            (was ∙ sym is)))
        by (Some had) (Some has) was is same = subst (IsTelling root before after Then) (sym same)
            (telling_same (λ outcome. none_both outcome (before vertex) (after vertex)
            (ap is_some was) (ap is_some is)))
        by (Some had) None was is more = subst (IsTelling root before after Then) (sym more)
            (telling_more waits free Lost (ap is_some was, is))
        by None (Some has) was is more = subst (IsTelling root before after Then) (sym more)
            (telling_more waits free Gained (was, ap is_some is))
