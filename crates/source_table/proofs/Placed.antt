-- Sources that are found by their places.
use Rattle.std.proofs.Common.{◌≡◌, ◌+◌, ◌-◌, ◌^◌, ◌<◌, zero, suc, All, inl, inr, ◌↔◌, ℕ, Bool, true, false, cond, List, [], ◌∷◌, ◌++◌, length, get_or, None, Some, slice_get, nat_eq, refl, sym, ap, subst, ◌∙◌, arith}
use Rattle.std.specs.Cmp.{nat_eq_equiv}
use Rattle.std.specs.List.{IsDistinct}
use Rattle.std.proofs.lemmas.List.Elements.{All-contains, All-from_get_or}
use Rattle.std.proofs.lemmas.Map.Keys.{IsDistinct-from_apart, apart_from_distinct}
use Rattle.std.proofs.lemmas.Map.Steps.{length-le_from_distinct_below}
use Rattle.std.proofs.lemmas.Map.Views.{Contains-from_any, exact_unsigned_eq}
use Rattle.std.proofs.lemmas.Option.{slice_get-get_or, slice_get_read, slice_get_within}
use Rattle.std.proofs.lemmas.List.{map-append, length-map}
use Rattle.source_tree.specs.Ends.{SourceValue}
use Rattle.source_table.specs.Places.{place_of, ArePlaced}
use Rattle.source_table.specs.Sources.{roots_of, source_in}
use Rattle.source_table.proofs.Lists.{none_or_some, some_is_one, none_from, kept_by_push, pushed_last, push_cases, found_at, finds, mapped, mapped_from}

-- the root of a source
abbrev pub root_of : SourceValue → ℕ
root_of source = source.tree.root

-- two places of one root are the same
pub one_place : (roots : List ℕ) (places : List ℕ) → ArePlaced roots places →
    (root one other : ℕ) → slice_get roots one ≡ Some root → slice_get roots other ≡ Some root →
    one ≡ other
one_place roots places placed root one other here there =
    some_is_one one other (sym ((placed root one).1 here) ∙ (placed root other).1 there)

-- the source of a root is the one at the root's place
pub source_at : (sources : List SourceValue) (places : List ℕ) →
    ArePlaced (roots_of sources) places → (place root : ℕ) (source : SourceValue) →
    slice_get sources place ≡ Some source → root_of source ≡ root →
    source_in sources root ≡ Some source
source_at sources places placed place root source at has =
    let (other, found) = finds (λ (each : SourceValue). nat_eq (root_of each) root) sources place
    source at (ap (λ each. nat_eq each root) has ∙ nat_eq_equiv.refl root) in
    let (where', stands, passes) = found_at
    (λ (each : SourceValue). nat_eq (root_of each) root) sources other found in
    let same : place ≡ where' = one_place (roots_of sources) places placed root place where'
    (mapped root_of sources place source at ∙ ap Some has)
    (mapped root_of sources where' other stands
    ∙ ap Some (exact_unsigned_eq (root_of other) root passes)) in
    found ∙ sym stands ∙ ap (slice_get sources) (sym same) ∙ at

-- a source that is found stands at a place, with its root
pub stands_at : (sources : List SourceValue) (root : ℕ) (source : SourceValue) →
    source_in sources root ≡ Some source →
    (place : ℕ) × (slice_get sources place ≡ Some source) × (root_of source ≡ root)
stands_at sources root source found =
    let (place, at, passes) = found_at
    (λ (each : SourceValue). nat_eq (root_of each) root) sources source found in
    (place, at, exact_unsigned_eq (root_of source) root passes)

-- this place is that of the root
pub placed_at : (sources : List SourceValue) (places : List ℕ) →
    ArePlaced (roots_of sources) places → (place root : ℕ) (source : SourceValue) →
    slice_get sources place ≡ Some source → root_of source ≡ root →
    place_of places root ≡ Some place
placed_at sources places placed place root source at has =
    (placed root place).1 (mapped root_of sources place source at ∙ ap Some has)

-- the source at the place of a root
pub at_place : (sources : List SourceValue) (places : List ℕ) →
    ArePlaced (roots_of sources) places → (place root : ℕ) → place_of places root ≡ Some place →
    (source : SourceValue) × (slice_get sources place ≡ Some source) × (root_of source ≡ root)
at_place sources places placed place root is =
    mapped_from root_of sources place root ((placed root place).0 is)

-- a place is one of the list's
pub within : (sources : List SourceValue) (places : List ℕ) →
    ArePlaced (roots_of sources) places → (place root : ℕ) → place_of places root ≡ Some place →
    place < length sources
within sources places placed place root is =
    let (source, at, has) = at_place sources places placed place root is in
    slice_get_within sources place source at

-- what is read at the place of a root is its source
pub read_is : (sources : List SourceValue) (places : List ℕ) →
    ArePlaced (roots_of sources) places → (place root : ℕ) (read : SourceValue) →
    place_of places root ≡ Some place → read ≡ get_or sources place read →
    Some read ≡ source_in sources root
read_is sources places placed place root read is value =
    let (source, at, has) = at_place sources places placed place root is in
    sym (slice_get_read sources (length sources) place read refl
    (slice_get_within sources place source at) value)
    ∙ at ∙ sym (source_at sources places placed place root source at has)

-- two roots of one place are the same
pub root_at : (sources : List SourceValue) (places : List ℕ) →
    ArePlaced (roots_of sources) places → (place one other : ℕ) →
    place_of places one ≡ Some place → place_of places other ≡ Some place → one ≡ other
root_at sources places placed place one other here there =
    some_is_one one other (sym ((placed one place).0 here) ∙ (placed other place).0 there)

-- where a root has no place there is no source
pub no_source : (sources : List SourceValue) (places : List ℕ) →
    ArePlaced (roots_of sources) places → (root : ℕ) → place_of places root ≡ None →
    source_in sources root ≡ None
no_source sources places placed root none = none_from (source_in sources root) (λ source found.
    let (place, at, has) = stands_at sources root source found in
    none_or_some place (sym none ∙ placed_at sources places placed place root source at has))

-- where there is no source the root has no place
pub no_place : (sources : List SourceValue) (places : List ℕ) →
    ArePlaced (roots_of sources) places → (root : ℕ) → source_in sources root ≡ None →
    place_of places root ≡ None
no_place sources places placed root none = none_from (place_of places root) (λ place is.
    let (source, at, has) = at_place sources places placed place root is in
    none_or_some source (sym none ∙ source_at sources places placed place root source at has))

-- each root is that of one source
pub are_apart : (roots : List ℕ) (places : List ℕ) → ArePlaced roots places →
    IsDistinct nat_eq roots
are_apart roots places placed = IsDistinct-from_apart nat_eq roots (λ i j d less below.
    by i j d less below (nat_eq (get_or roots i d) (get_or roots j d)) refl)
  where
    by : (i j d : ℕ) → i < j → j < length roots → (b : Bool) →
        nat_eq (get_or roots i d) (get_or roots j d) ≡ b → b ≡ false
    by i j d less below true same =
        let root = get_or roots j d in
        let at = slice_get-get_or roots i d (omega (arith, less, below)) in
        absurd (omega (
          arith,
          less,
          one_place roots places placed root i j
              (at ∙ ap Some (exact_unsigned_eq (get_or roots i d) root same))
              (slice_get-get_or roots j d below),
        ))
    by i j d less below false apart = refl

-- ---- numbers for the places

-- a root with a place has a mark
has_mark : (marks : List ℕ) (root place : ℕ) → place_of marks root ≡ Some place →
    root < length marks
has_mark [] root place is = absurd (none_or_some place is)
has_mark (mark ∷ marks) zero place is = omega arith
has_mark (mark ∷ marks) (suc root) place is = omega (arith, has_mark marks root place is)

-- a place more has a number, where it is for a root without one: the roots are distinct
pub next_place : (sources : List SourceValue) (marks : List ℕ) (root : ℕ) →
    ArePlaced (roots_of sources) marks → source_in sources root ≡ None →
    length marks < 2 ^ 32 → root + 1 < 2 ^ 32 → length sources + 1 < 2 ^ 32
next_place sources marks root placed new short small = omega (
  arith,
  length-map sources root_of,
  length-le_from_distinct_below (root ∷ roots) (2 ^ 32 - 1) distinct (λ each member.
      All-contains (λ (n : ℕ). n < 2 ^ 32 - 1) (root ∷ roots) each
      (All-from_get_or (λ (n : ℕ). n < 2 ^ 32 - 1) (root ∷ roots) 0 below)
      (Contains-from_any exact_unsigned_eq each (root ∷ roots) member)),
)
  where
    roots : List ℕ
    roots = roots_of sources

    here : (place : ℕ) (d : ℕ) → place < length roots →
        place_of marks (get_or roots place d) ≡ Some place
    here place d within =
        (placed (get_or roots place d) place).1 (slice_get-get_or roots place d within)

    below : (place : ℕ) → place < length (root ∷ roots) → get_or (root ∷ roots) place 0 < 2 ^ 32 - 1
    below zero within = omega (arith, small)
    below (suc place) within = omega (
      arith,
      short,
      has_mark marks (get_or roots place 0) place (here place 0 (omega (arith, within))),
    )

    other : (place : ℕ) (d : ℕ) → place < length roots → (b : Bool) →
        nat_eq root (get_or roots place d) ≡ b → b ≡ false
    other place d within true same =
        absurd (none_or_some place
        (sym (no_place sources marks placed root new)
        ∙ ap (place_of marks) (exact_unsigned_eq root (get_or roots place d) same)
        ∙ here place d within))
    other place d within false apart = refl

    distinct : IsDistinct nat_eq (root ∷ roots)
    distinct = IsDistinct-from_apart nat_eq (root ∷ roots) differ
      where
        differ : (i j : ℕ) (d : ℕ) → i < j → j < length (root ∷ roots) →
            nat_eq (get_or (root ∷ roots) i d) (get_or (root ∷ roots) j d) ≡ false
        differ i zero d less within = absurd (omega (arith, less))
        differ zero (suc j) d less within =
            other j d (omega (arith, within)) (nat_eq root (get_or roots j d)) refl
        differ (suc i) (suc j) d less within =
            apart_from_distinct nat_eq roots i j d (are_apart roots marks placed)
            (omega (arith, less)) (omega (arith, within))

-- ---- one source more

pub placed_more : (sources : List SourceValue) (places more : List ℕ) (source : SourceValue) →
    ArePlaced (roots_of sources) places → source_in sources (root_of source) ≡ None →
    ((each : ℕ) → place_of more each
    ≡ cond (nat_eq (root_of source) each) (Some (length sources)) (place_of places each)) →
    ArePlaced (roots_of (sources ++ source ∷ [])) more
placed_more sources places more source placed new put root place =
    subst (λ roots. (place_of more root ≡ Some place) ↔ (slice_get roots place ≡ Some root))
    (sym (map-append root_of sources (source ∷ []))) (forth (nat_eq own root) refl, back)
  where
    own : ℕ
    own = root_of source

    all : List ℕ
    all = roots_of sources ++ own ∷ []

    unplaced : place_of places own ≡ None
    unplaced = no_place sources places placed own new

    last : slice_get all (length sources) ≡ Some own
    last = subst (λ k. slice_get all k ≡ Some own) (length-map sources root_of)
        (pushed_last (roots_of sources) own)

    forth : (b : Bool) → nat_eq own root ≡ b → place_of more root ≡ Some place →
        slice_get all place ≡ Some root
    forth true same is =
        let at : length sources ≡ place = some_is_one (length sources) place
        (sym (ap (λ b. cond b (Some (length sources)) (place_of places root)) same)
        ∙ sym (put root) ∙ is) in
        subst (λ k. slice_get all k ≡ Some root) at
        (last ∙ ap Some (exact_unsigned_eq own root same))
    forth false apart is = kept_by_push (roots_of sources) (own ∷ []) place root
        ((placed root place).0
        (sym (ap (λ b. cond b (Some (length sources)) (place_of places root)) apart)
        ∙ sym (put root) ∙ is))

    old : (b : Bool) → nat_eq own root ≡ b → place_of places root ≡ Some place →
        place_of more root ≡ Some place
    old true same is = absurd (none_or_some place
        (sym unplaced ∙ ap (place_of places) (exact_unsigned_eq own root same) ∙ is))
    old false apart is =
        put root ∙ ap (λ b. cond b (Some (length sources)) (place_of places root)) apart ∙ is

    back : slice_get all place ≡ Some root → place_of more root ≡ Some place
    back is = elim (push_cases (roots_of sources) own place root is) [
      | inl there ↦ old (nat_eq own root) refl ((placed root place).1 there)
      | inr here ↦ put root
          ∙ ap (λ b. cond b (Some (length sources)) (place_of places root))
          (ap (nat_eq own) (sym here.1) ∙ nat_eq_equiv.refl own)
          ∙ ap Some (sym (here.0 ∙ length-map sources root_of))
    ]
