-- The places of keys among the entries of a map.
use Rattle.std.specs.Prelude.{◌≡◌, ℕ, Bool, true, List, Option, Some, None, slice_get}
use Rattle.std.specs.Option.{MatchOption}
use Rattle.std.specs.Map.{lookup}

-- each key is found with the place of its entry
abbrev pub ArePlaced : {K V : Type 0} → (K → K → Bool) → List (K × V) → List (K × ℕ) → Type 0
ArePlaced {K} {V} eq entries places = (place : ℕ) (entry : K × V) →
    slice_get entries place ≡ Some entry → lookup (eq entry.0) places ≡ Some place

-- an entry of the key stands at this place, or there is none where there is no place
abbrev pub IsPlace : {K V : Type 0} → (K → K → Bool) → List (K × V) → K → Option ℕ → Type 0
IsPlace {K} {V} eq entries key found = MatchOption found (lookup (eq key) entries ≡ None)
    (λ place. (entry : K × V) × (slice_get entries place ≡ Some entry) × (eq key entry.0 ≡ true))
