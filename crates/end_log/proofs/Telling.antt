-- The log of the ends that come or go, while it is made.
use Rattle.std.proofs.Common.{◌≡◌, ◌==◌, inl, inr, ◌&&◌, ℕ, Bool, true, false, List, [], ◌∷◌, ◌++◌, get_or, Option, None, Some, refl, sym, ap₂, subst, ◌∙◌, Contains, true≢false, eq-eqb, append-nil, arith}
use Rattle.std.specs.Prelude.{◌↔◌, AllPairs}
use Rattle.std.specs.List.{cons_option}
use Rattle.std.proofs.lemmas.Bool.{eqb-true}
use Rattle.std.proofs.lemmas.List.Elements.{Contains-append_left, Contains-push, Contains-push_cases, Contains-get_or}
use Rattle.std.proofs.lemmas.List.Quantifiers.{all_pairs_push}
use Rattle.tree_insert.proofs.Members.{contains_none}
use Rattle.source_tree.specs.Ends.{HasOutcome, end_change}
use Rattle.source_tree.specs.declared.change.EndChange.{EndChange}
use Rattle.source_tree.specs.declared.change.Outcome.{Outcome}
use Rattle.place_table.specs.Table.{TableValue}
use Rattle.end_log.specs.Log.{AreApart, AreEndChangesIn, end_at}
use Rattle.end_log.proofs.Deciding.{Finds}

-- the same root and vertex
abbrev pub same_place : ℕ → ℕ → ℕ → ℕ → Bool
same_place root vertex root' vertex' = (vertex == vertex') && (root == root')

pub same_place_is : (root vertex root' vertex' : ℕ) →
    same_place root vertex root' vertex' ≡ true → (root ≡ root') × (vertex ≡ vertex')
same_place_is root vertex root' vertex' is = by (vertex == vertex') refl (root == root') refl is
  where
    by : (v : Bool) → (vertex == vertex') ≡ v → (r : Bool) → (root == root') ≡ r →
        (v && r) ≡ true → (root ≡ root') × (vertex ≡ vertex')
    by true v true r is = (eqb-true root root' r, eqb-true vertex vertex' v)
    by true v false r is = absurd (true≢false (sym is))
    by false v r' r is = absurd (true≢false (sym is))

pub is_same_place : (root vertex root' vertex' : ℕ) → root ≡ root' → vertex ≡ vertex' →
    same_place root vertex root' vertex' ≡ true
is_same_place root vertex root' vertex' roots vertices =
    ap₂ (λ a b. a && b) (eq-eqb vertex vertex' vertices) (eq-eqb root root' roots)

module _ (finals : List ℕ) (outcome : Outcome) (old new : TableValue) where
  -- the end did so
  abbrev pub Moves : Outcome → ℕ → ℕ → Type 0
  Moves each root vertex =
      HasOutcome each (end_at finals old root vertex) (end_at finals new root vertex)

  -- the end of a root and a vertex that don't wait, with its outcome
  abbrev Told : (ℕ → ℕ → Type 0) → EndChange → Type 0
  Told Waits each = Moves each.outcome each.root each.vertex × (Waits each.root each.vertex → ⊥)

  -- the log has exactly the ends that come or go of those roots and vertices that don't wait
  pub record IsTelling (Waits : ℕ → ℕ → Type 0) (log : List EndChange) : Type 0 where
    pub exact : (each : EndChange) → Contains log each ↔ Told Waits each
    pub once : AllPairs AreApart log

  -- where all whose ends may come or go wait
  pub telling_starts : (Waits : ℕ → ℕ → Type 0) →
      ((each : Outcome) (root vertex : ℕ) → Moves each root vertex → Waits root vertex) →
      IsTelling Waits []
  telling_starts Waits all = record {
    exact = λ each. (
      (λ there. absurd (contains_none each there)),
      (λ told. absurd (told.1 (all each.outcome each.root each.vertex told.0))),
    );
    once = λ i j d below within. absurd (omega (arith, within));
  }

  -- where none waits
  pub telling_ends : (Waits : ℕ → ℕ → Type 0) (log : List EndChange) →
      ((root vertex : ℕ) → Waits root vertex → ⊥) → IsTelling Waits log →
      AreEndChangesIn finals old new log
  telling_ends Waits log none telling = record {
    exact = λ each. (
      (λ there. ((telling.exact each).0 there).0),
      (λ moves. (telling.exact each).1 (moves, none each.root each.vertex)),
    );
    once = telling.once;
  }

  module _ (way : (each : Outcome) (root vertex : ℕ) → Moves each root vertex → each ≡ outcome)
      (Waits Then : ℕ → ℕ → Type 0) (root vertex : ℕ) (log : List EndChange)
      (others : (root' vertex' : ℕ) → same_place root vertex root' vertex' ≡ false →
      Waits root' vertex' ↔ Then root' vertex')
      (telling : IsTelling Waits log) where
    -- one less waits, whose end neither comes nor goes
    telling_same : (Moves outcome root vertex → ⊥) → IsTelling Then log
    telling_same stays = record {
      exact = λ each. (
        (λ there. free each ((telling.exact each).0 there)
            (same_place root vertex each.root each.vertex) refl),
        (λ is. there each is (same_place root vertex each.root each.vertex) refl),
      );
      once = telling.once;
    }
      where
        none : (each : EndChange) → Moves each.outcome each.root each.vertex →
            same_place root vertex each.root each.vertex ≡ true → ⊥
        none each moves is =
            let same = same_place_is root vertex each.root each.vertex is in
            stays (subst (λ kind. Moves kind root vertex)
            (way each.outcome each.root each.vertex moves)
            (subst (λ one. Moves each.outcome one vertex) (sym same.0)
            (subst (λ one. Moves each.outcome each.root one) (sym same.1) moves)))

        free : (each : EndChange) → Told Waits each → (b : Bool) →
            same_place root vertex each.root each.vertex ≡ b → Told Then each
        free each told true is = absurd (none each told.0 is)
        free each told false other =
            (told.0, λ then. told.1 ((others each.root each.vertex other).1 then))

        there : (each : EndChange) → Told Then each → (b : Bool) →
            same_place root vertex each.root each.vertex ≡ b → Contains log each
        there each told true is = absurd (none each told.0 is)
        there each told false other = (telling.exact each).1
            (told.0, λ waits. told.1 ((others each.root each.vertex other).0 waits))

    module _ (waits : Waits root vertex) (free : Then root vertex → ⊥)
        (moves : Moves outcome root vertex) where
      abbrev change : EndChange
      change = end_change root vertex outcome

      -- those that are told don't wait
      another : (each : EndChange) → Contains log each → (b : Bool) →
          same_place root vertex each.root each.vertex ≡ b → b ≡ false
      another each there true is =
          let same = same_place_is root vertex each.root each.vertex is in
          absurd (((telling.exact each).0 there).1
          (subst (λ one. Waits one each.vertex) same.0 (subst (Waits root) same.1 waits)))
      another each there false other = refl

      told_more : (each : EndChange) → Contains (log ++ change ∷ []) each → Told Then each
      told_more each there = elim (Contains-push_cases log change each there) [
        | inl stood ↦
            let told = (telling.exact each).0 stood in
            let other = another each stood (same_place root vertex each.root each.vertex) refl in
            (told.0, λ then. told.1 ((others each.root each.vertex other).1 then))
        | inr is ↦ subst (Told Then) is (moves, free)
      ]

      -- the root and vertex have this end alone
      it : (each : EndChange) → Moves each.outcome each.root each.vertex → root ≡ each.root →
          vertex ≡ each.vertex → change ≡ each
      it each told roots vertices =
          let kinds : outcome ≡ each.outcome =
          sym (way each.outcome each.root each.vertex told) in
          λ i. record { root = roots i; vertex = vertices i; outcome = kinds i }

      all_told : (each : EndChange) → Told Then each → (b : Bool) →
          same_place root vertex each.root each.vertex ≡ b → Contains (log ++ change ∷ []) each
      all_told each told true is =
          let same = same_place_is root vertex each.root each.vertex is in
          subst (Contains (log ++ change ∷ [])) (it each told.0 same.0 same.1)
          (Contains-push log change)
      all_told each told false other = Contains-append_left log (change ∷ []) each
          ((telling.exact each).1
          (told.0, λ each_waits. told.1 ((others each.root each.vertex other).0 each_waits)))

      -- whatever is told is of another root or vertex
      apart : (each : EndChange) → Contains log each → (b : Bool) → (each.root == root) ≡ b →
          AreApart each change
      apart each there true is = inr (λ same. true≢false
          (sym (is_same_place root vertex each.root each.vertex
          (sym (eqb-true each.root root is)) (sym same))
          ∙ another each there (same_place root vertex each.root each.vertex) refl))
      apart each there false other =
          inl (λ same. true≢false (sym (eq-eqb each.root root same) ∙ other))

      -- one less waits, whose end has this outcome
      telling_more : IsTelling Then (log ++ change ∷ [])
      telling_more = record {
        exact = λ each. (
          told_more each,
          (λ told. all_told each told (same_place root vertex each.root each.vertex) refl),
        );
        once = all_pairs_push AreApart log change telling.once
            (λ k d within.
            let each = get_or log k d in
            apart each (Contains-get_or log k d within) (each.root == root) refl);
      }

    -- one less waits, and the log has its end more if it comes or goes
    pub telling_step : Waits root vertex → (Then root vertex → ⊥) →
        (found : Option EndChange) → Finds (end_change root vertex outcome)
        (Moves outcome root vertex) found → IsTelling Then (log ++ cons_option found [])
    telling_step waits free None finds =
        subst (IsTelling Then) (sym (append-nil log)) (telling_same finds)
    telling_step waits free (Some found) finds =
        subst (λ one. IsTelling Then (log ++ one ∷ [])) (sym finds.0)
        (telling_more waits free finds.1)
