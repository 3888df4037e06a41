-- Entries in chunks.
use Rattle.std.specs.Prelude.{◌≡◌, ◌<◌, ℕ, ◌+◌, List, All, flat_map, length, slice_index_or, take, drop}
use Rattle.std.specs.Global.{Global}
use Rattle.std.specs.declared.cmp.Ordering.{Ordering}
use Rattle.std.specs.declared.cmp.Ordering.TheVariants.{Less, Equal, Greater}
use Rattle.std.specs.declared.sync.Arc.{Arc}

-- the entries of all chunks, in their order
abbrev pub entries_of : {K V : Type 0} → List (Arc (List (K × V)) Global) → List (K × V)
entries_of chunks = flat_map (λ chunk. chunk.value) chunks

-- the key is above those of the entries
abbrev pub IsAbove : {K V : Type 0} → (K → K → Ordering) → K → List (K × V) → Type 0
IsAbove cmp key entries = All (λ entry. cmp key entry.0 ≡ Greater) entries

-- the key is below those of the entries
abbrev pub IsBelow : {K V : Type 0} → (K → K → Ordering) → K → List (K × V) → Type 0
IsBelow cmp key entries = All (λ entry. cmp key entry.0 ≡ Less) entries

-- the key is above all entries in the chunks before this place, and below all in those behind it
abbrev pub IsChunkOf : {K V : Type 0} → (K → K → Ordering) → K → List (Arc (List (K × V)) Global) →
    ℕ → Type 0
IsChunkOf cmp key chunks place =
    IsAbove cmp key (entries_of (take place chunks))
    × IsBelow cmp key (entries_of (drop (place + 1) chunks))

-- the entry at this place is the key's
abbrev pub IsPlaceOf : {K V : Type 0} → (K → K → Ordering) → K → List (K × V) → ℕ → Type 0
IsPlaceOf {K} {V} cmp key entries place =
    (place < length entries)
    × ((entry : K × V) → cmp (slice_index_or entries place entry).0 key ≡ Equal)
