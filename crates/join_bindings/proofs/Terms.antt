-- Binding a variable.
use Rattle.std.proofs.Common.{◌≡◌, ℕ, zero, suc, ◌<◌, List, [], ◌∷◌, length, set, Some, refl, sym, ap, ◌∙◌, ⊎_elim, arith}
use Rattle.std.specs.Prelude.{slice_get}
use Rattle.std.proofs.lemmas.Bool.{cases_eq}
use Rattle.join_file.specs.declared.data.Term.TheVariants.{Variable}
use Rattle.join_bindings.specs.Partial.{Bound, IsOpen, Binds}

-- what stands in a list with one element set
set_there : {X : Type 0} (xs : List X) (place : ℕ) (x : X) → place < length xs → slice_get (set xs place x) place ≡ Some x
set_there [] place x below = absurd (omega (arith, below))
set_there (first ∷ xs) zero x below = refl
set_there (first ∷ xs) (suc place) x below = set_there xs place x (omega (arith, below))

set_elsewhere : {X : Type 0} (xs : List X) (place other : ℕ) (x : X) → (place ≡ other → ⊥) → slice_get (set xs place x) other ≡ slice_get xs other
set_elsewhere [] place other x apart = refl
set_elsewhere (first ∷ xs) zero zero x apart = absurd (apart refl)
set_elsewhere (first ∷ xs) zero (suc other) x apart = refl
set_elsewhere (first ∷ xs) (suc place) zero x apart = refl
set_elsewhere (first ∷ xs) (suc place) (suc other) x apart = set_elsewhere xs place other x (λ same. apart (ap suc same))

set_many : {X : Type 0} (xs : List X) (place : ℕ) (x : X) → length (set xs place x) ≡ length xs
set_many [] place x = refl
set_many (first ∷ xs) zero x = refl
set_many (first ∷ xs) (suc place) x = let more = set_many xs place x in omega (arith, more)

not_both : (bound : Bound) (place : ℕ) (name : List ℕ) → IsOpen bound place → slice_get bound place ≡ Some (Some name) → ⊥
not_both bound place name open_ there = cc

pub binds_open : (bound : Bound) (place : ℕ) (name : List ℕ) → place < length bound → IsOpen bound place →
    Binds bound (Variable place) name (set bound place (Some name))
binds_open bound place name below open_ = record {
  agrees = λ names. (
    (λ agree. (
      record {
        as_many = agree.as_many ∙ set_many bound place (Some name);
        same = λ number known there. agree.same number known
            (set_elsewhere bound place number (Some name)
            (λ same. not_both bound place known open_ (ap (slice_get bound) same ∙ there)) ∙ there);
      },
      agree.same place name (set_there bound place (Some name) below),
    )),
    (λ both. record {
      as_many = both.0.as_many ∙ sym (set_many bound place (Some name));
      same = λ number known there. ⊎_elim
          (λ same. same_name names number known same there both.1)
          (λ differ. both.0.same number known (sym (set_elsewhere bound place number (Some name) differ) ∙ there))
          (cases_eq place number);
    }),
  );
  as_many = set_many bound place (Some name);
  leaves = λ number still. ⊎_elim
      (λ same. absurd (not_both (set bound place (Some name)) place name (ap (slice_get (set bound place (Some name))) same ∙ still)
      (set_there bound place (Some name) below)))
      (λ differ. (
        sym (set_elsewhere bound place number (Some name) differ) ∙ still,
        λ is. differ (same_number is),
      ))
      (cases_eq place number);
}
  where
    same_number : {first second : ℕ} → Variable first ≡ Variable second → first ≡ second
    same_number is = cc

    same_name : (names : List (List ℕ)) (number : ℕ) (known : List ℕ) → place ≡ number → slice_get (set bound place (Some name)) number ≡ Some (Some known) →
        slice_get names place ≡ Some name → slice_get names number ≡ Some known
    same_name names number known same there here =
        let both : Some (Some name) ≡ Some (Some known) =
        sym (set_there bound place (Some name) below) ∙ (ap (slice_get (set bound place (Some name))) same ∙ there) in
        let known_is : name ≡ known = cc in
        ap (slice_get names) (sym same) ∙ (here ∙ ap (λ (each : List ℕ). Some each) known_is)
