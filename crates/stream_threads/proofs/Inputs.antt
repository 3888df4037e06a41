-- Sinks that are given to streams one after another.
use Rattle.std.proofs.Common.{◌≡◌, ℕ, zero, suc, ◌+◌, List, [], ◌∷◌, ◌++◌, length, map, refl, sym}
use Rattle.std.proofs.Common.{ap, ◌∙◌, arith, append_assoc, append-nil, inl, inr, ◌⊎◌}
use Rattle.std.proofs.Common.{Option, Some, None}
use Rattle.std.specs.Prelude.{replicate, MatchOption}
use Rattle.std.proofs.lemmas.List.{nil_from_length, map-append}
use Rattle.stream_threads.specs.Inputs.{sinks_for}

module _ {K : Type 0} where
  -- what so many streams get of these sinks, one after another
  abbrev pub next_sinks : ℕ → List K → List (Option K)
  next_sinks zero sinks = []
  next_sinks (suc n) [] = None ∷ next_sinks n []
  next_sinks (suc n) (sink ∷ sinks) = Some sink ∷ next_sinks n sinks

  all_none : (n : ℕ) → next_sinks n [] ≡ replicate n None
  all_none zero = refl
  all_none (suc n) = ap (λ (l : List (Option K)). None ∷ l) (all_none n)

  all_some : (n : ℕ) (sinks : List K) → length sinks ≡ n → next_sinks n sinks ≡ map Some sinks
  all_some zero [] many = refl
  all_some zero (sink ∷ sinks) many = absurd (let no : ⊥ = omega (arith, many) in no)
  all_some (suc n) [] many = absurd (let no : ⊥ = omega (arith, many) in no)
  all_some (suc n) (sink ∷ sinks) many =
      ap (λ (l : List (Option K)). Some sink ∷ l) (all_some n sinks (omega (arith, many)))

  -- each gets one, or none does
  pub all_sinks : (n : ℕ) (sinks : List K) → (sinks ≡ []) ⊎ (length sinks ≡ n) →
      next_sinks n sinks ≡ sinks_for n sinks
  all_sinks n [] either = all_none n
  all_sinks n (sink ∷ sinks) either = elim either [
    | inl none ↦ absurd (cc none)
    | inr many ↦ all_some n (sink ∷ sinks) many
  ]

  -- the next of the sinks, if there is one
  pub next_sink : (n : ℕ) (found : Option K) (before after : List K) (many fewer : ℕ) →
      length before ≡ many → length after ≡ fewer →
      MatchOption found ((many ≡ 0) × (fewer ≡ 0))
      (λ sink. (before ≡ sink ∷ after) × (fewer + 1 ≡ many)) →
      next_sinks (suc n) before ≡ found ∷ next_sinks n after
  next_sink n None before after many fewer long short step =
      let none : before ≡ [] = nil_from_length before (long ∙ step.0) in
      let over : after ≡ [] = nil_from_length after (short ∙ step.1) in
      ap (next_sinks (suc n)) none
      ∙ ap (λ (l : List K). None ∷ next_sinks n l) (sym over)
  next_sink n (Some sink) before after many fewer long short step =
      ap (next_sinks (suc n)) step.0

  -- one stream more has its sink
  pub sinks_more : (done whole : List (Option K)) (found : Option K) (n m : ℕ)
      (before after : List K) → done ++ next_sinks m before ≡ whole → m ≡ n + 1 →
      next_sinks (suc n) before ≡ found ∷ next_sinks n after →
      (done ++ found ∷ []) ++ next_sinks n after ≡ whole
  sinks_more done whole found n m before after was more step =
      let counted : m ≡ suc n = omega (arith, more) in
      append_assoc done (found ∷ []) (next_sinks n after)
      ∙ (ap (λ (l : List (Option K)). done ++ l) (sym step)
      ∙ (ap (λ (k : ℕ). done ++ next_sinks k before) (sym counted) ∙ was))

  -- all streams have
  pub sinks_done : (done whole : List (Option K)) (m : ℕ) (before : List K) →
      done ++ next_sinks m before ≡ whole → m ≡ 0 → done ≡ whole
  sinks_done done whole m before was none =
      sym (append-nil done) ∙ (ap (λ (k : ℕ). done ++ next_sinks k before) (sym none) ∙ was)

-- one element more of a list, seen by one of its parts
pub mapped_more : {A B : Type 0} (f : A → B) (before after : List A) (one : A) (seen : List B) →
    after ≡ before ++ one ∷ [] → map f before ≡ seen → map f after ≡ seen ++ f one ∷ []
mapped_more f before after one seen ends were =
    ap (map f) ends
    ∙ (map-append f before (one ∷ []) ∙ ap (λ (l : List _). l ++ f one ∷ []) were)
