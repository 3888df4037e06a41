-- The shares of a front that are dealt to parts, fed there, and put back in order.
use Rattle.std.proofs.Common.{◌≡◌, ℕ, zero, suc, ◌+◌, ◌-◌, ◌<◌, ◌≤◌, Bool, List, [], ◌∷◌, ◌++◌, eqb}
use Rattle.std.proofs.Common.{length, get_or, set, sym, ap, ap₂, subst, ◌∙◌, append_assoc, arith, length-append}
use Rattle.std.specs.Cmp.{nat_eq_equiv}
use Rattle.std.specs.List.{All, AllZip, IsDistinct}
use Rattle.std.specs.List.Sorted.{IsNonDecreasingBy, IsPermutation}
use Rattle.std.proofs.lemmas.Bool.{eqb-false, ne_eqb}
use Rattle.std.proofs.lemmas.List.{append-nil, get_or-append-add, get_or_append_left, get_or_default}
use Rattle.std.proofs.lemmas.List.Concat.{flat_map-append}
use Rattle.std.proofs.lemmas.List.Elements.{AllZip-get_or}
use Rattle.std.proofs.lemmas.List.Sorted.{All-permutation, IsPermutation-append_left, IsPermutation-append_right}
use Rattle.std.proofs.lemmas.List.Sorted.{IsPermutation-middle, IsPermutation-sym, IsPermutation-to_front}
use Rattle.std.proofs.lemmas.List.Sorted.{IsPermutation-trans, length_permutation}
use Rattle.std.proofs.lemmas.Map.Keys.{IsDistinct-from_apart, IsDistinct-IsPermutation, apart_from_distinct}
use Rattle.std.proofs.lemmas.Slice.Zip.{AllZip-long}
use Rattle.rpq_base.specs.declared.data.Entry.{Entry}
use Rattle.query_file.specs.Compiled.{CompiledValue}
use Rattle.path_engine.specs.declared.front.Share.{Share}
use Rattle.path_engine.specs.declared.parts.Part.{Part}
use Rattle.path_engine.specs.Front.{AreInPlace, HaveFed, IsFed}
use Rattle.path_engine.specs.Parts.{shares_in}

-- ---- lists in step

-- two lists are in step that are so at each place
pub zip_from_each : {A : Type 0} (R : A → A → Type 0) (olds news : List A) →
    length news ≡ length olds →
    ((k : ℕ) (d : A) → k < length olds → R (get_or olds k d) (get_or news k d)) →
    AllZip R olds news
zip_from_each R [] [] as_many each = tt
zip_from_each R [] (new ∷ news) as_many each = absurd (omega (arith, as_many))
zip_from_each R (old ∷ olds) [] as_many each = absurd (omega (arith, as_many))
zip_from_each R (old ∷ olds) (new ∷ news) as_many each = (
  each 0 old (omega arith),
  zip_from_each R olds news (omega (arith, as_many))
      (λ k d below. each (suc k) d (omega (arith, below))),
)

zip_append : {A : Type 0} (R : A → A → Type 0) (xs us ys vs : List A) → AllZip R xs ys →
    AllZip R us vs → AllZip R (xs ++ us) (ys ++ vs)
zip_append R [] us [] vs one more = more
zip_append R [] us (y ∷ ys) vs one more = absurd one
zip_append R (x ∷ xs) us [] vs one more = absurd one
zip_append R (x ∷ xs) us (y ∷ ys) vs one more = (one.0, zip_append R xs us ys vs one.1 more)

-- ---- a share is dealt

-- into a part of its own
pub part_more : (parts all : List Part) (part : Part) (share : Share) →
    all ≡ parts ++ part ∷ [] → part.shares.items ≡ share ∷ [] →
    IsPermutation (share ∷ shares_in parts) (shares_in all)
part_more parts all part share is holds =
    let last : shares_in all ≡ shares_in parts ++ share ∷ [] =
    ap shares_in is
    ∙ (flat_map-append (λ (each : Part). each.shares.items) parts (part ∷ [])
    ∙ ap (λ (own : List Share). shares_in parts ++ own)
    (append-nil part.shares.items ∙ holds)) in
    subst (IsPermutation (share ∷ shares_in parts)) (sym last)
    (IsPermutation-sym (shares_in parts ++ share ∷ []) (share ∷ shares_in parts)
    (IsPermutation-to_front (shares_in parts) share))

-- or into the part at this place
pub part_grew : (parts : List Part) (place : ℕ) (part new : Part) (share : Share) →
    place < length parts → part ≡ get_or parts place part →
    new.shares.items ≡ part.shares.items ++ share ∷ [] →
    IsPermutation (share ∷ shares_in parts) (shares_in (set parts place new))
part_grew [] place part new share inside is grew = absurd (omega (arith, inside))
part_grew (first ∷ parts) zero part new share inside is grew =
    let own = first.shares.items in
    let rest = shares_in parts in
    let all : new.shares.items ++ rest ≡ own ++ (share ∷ rest) =
    ap (λ (each : List Share). each ++ rest)
    (grew ∙ ap (λ (each : Part). each.shares.items ++ share ∷ []) is)
    ∙ append_assoc own (share ∷ []) rest in
    subst (IsPermutation (share ∷ (own ++ rest))) (sym all)
    (IsPermutation-sym (own ++ (share ∷ rest)) (share ∷ (own ++ rest))
    (IsPermutation-middle own share rest))
part_grew (first ∷ parts) (suc place) part new share inside is grew =
    let own = first.shares.items in
    let rest = shares_in parts in
    let more = shares_in (set parts place new) in
    IsPermutation-trans (share ∷ (own ++ rest)) (own ++ (share ∷ rest)) (own ++ more)
    (IsPermutation-sym (own ++ (share ∷ rest)) (share ∷ (own ++ rest))
    (IsPermutation-middle own share rest))
    (IsPermutation-append_right own (share ∷ rest) more
    (part_grew parts place part new share (omega (arith, inside)) is grew))

-- the shares that are dealt and those that are left are all
pub dealt_more : (all dealt more rest left : List Share) (share : Share) →
    IsPermutation all (dealt ++ left) → left ≡ share ∷ rest →
    IsPermutation (share ∷ dealt) more → IsPermutation all (more ++ rest)
dealt_more all dealt more rest left share was is put =
    IsPermutation-trans all (dealt ++ (share ∷ rest)) (more ++ rest)
    (subst (λ (each : List Share). IsPermutation all (dealt ++ each)) is was)
    (IsPermutation-trans (dealt ++ (share ∷ rest)) (share ∷ (dealt ++ rest)) (more ++ rest)
    (IsPermutation-middle dealt share rest)
    (IsPermutation-append_left rest (share ∷ dealt) more put))

-- ---- the shares of each part

first_of_both : (P : Share → Type 0) (xs ys : List Share) → All P (xs ++ ys) → All P xs
first_of_both P xs ys all k d below =
    subst P (get_or_append_left xs ys d k below)
    (all k d (omega (arith, below, length-append xs ys)))

rest_of_both : (P : Share → Type 0) (xs ys : List Share) → All P (xs ++ ys) → All P ys
rest_of_both P xs ys all k d below =
    subst P (get_or-append-add xs ys k d)
    (all (length xs + k) d (omega (arith, below, length-append xs ys)))

-- what holds of all shares holds of those of each part
pub all_in_part : (P : Share → Type 0) (parts : List Part) (place : ℕ) (part : Part) →
    All P (shares_in parts) → place < length parts → part ≡ get_or parts place part →
    All P part.shares.items
all_in_part P [] place part all below is = absurd (omega (arith, below))
all_in_part P (first ∷ parts) zero part all below is =
    subst (λ (each : Part). All P each.shares.items) (sym is)
    (first_of_both P first.shares.items (shares_in parts) all)
all_in_part P (first ∷ parts) (suc place) part all below is =
    all_in_part P parts place part (rest_of_both P first.shares.items (shares_in parts) all)
    (omega (arith, below)) is

-- where those of each part are in step, all are
pub parts_in_step : (R : Share → Share → Type 0) (olds news : List Part) →
    length news ≡ length olds →
    ((place : ℕ) (d : Part) → place < length olds →
    AllZip R (get_or olds place d).shares.items (get_or news place d).shares.items) →
    AllZip R (shares_in olds) (shares_in news)
parts_in_step R [] [] as_many each = tt
parts_in_step R [] (new ∷ news) as_many each = absurd (omega (arith, as_many))
parts_in_step R (old ∷ olds) [] as_many each = absurd (omega (arith, as_many))
parts_in_step R (old ∷ olds) (new ∷ news) as_many each =
    zip_append R old.shares.items (shares_in olds) new.shares.items (shares_in news)
    (each 0 old (omega arith))
    (parts_in_step R olds news (omega (arith, as_many))
    (λ place d below. each (suc place) d (omega (arith, below))))

-- ---- places

-- whether two shares are of the same query
abbrev same_place : Share → Share → Bool
same_place one other = eqb one.place other.place

flips : (one other : Share) → same_place one other ≡ same_place other one
flips one other = nat_eq_equiv.symm one.place other.place

-- the shares are of different queries
apart_in_place : (shares : List Share) → AreInPlace shares → IsDistinct same_place shares
apart_in_place shares own =
    IsDistinct-from_apart same_place shares
    (λ i j d less inside.
    ne_eqb (get_or shares i d).place (get_or shares j d).place
    (λ same.
    omega (arith, less, same, own i d (omega (arith, less, inside)), own j d inside)))

-- shares whose places rise have at a later place a place that is later by as much at least
rise : (shares : List Share) (d : Share) →
    ((k : ℕ) → k + 1 < length shares →
    (get_or shares k d).place < (get_or shares (k + 1) d).place) → (k more : ℕ) →
    k + more < length shares → (get_or shares k d).place + more ≤ (get_or shares (k + more) d).place
rise shares d up k zero below =
    let same : k + 0 ≡ k = omega arith in
    omega (arith, ap (λ (at : ℕ). (get_or shares at d).place) same)
rise shares d up k (suc more) below =
    let next : k + suc more ≡ k + more + 1 = omega arith in
    omega (
      arith,
      rise shares d up k more (omega (arith, below)),
      up (k + more) (omega (arith, below)),
      ap (λ (at : ℕ). (get_or shares at d).place) next,
    )

-- shares of different queries, in order
one_more : (shares : List Share) (d : Share) → IsDistinct same_place shares →
    IsNonDecreasingBy (λ (share : Share). share.place) shares → (k : ℕ) →
    k + 1 < length shares → (get_or shares k d).place < (get_or shares (k + 1) d).place
one_more shares d apart up k inside =
    let no_less : (get_or shares k d).place ≤ (get_or shares (k + 1) d).place =
    up k (k + 1) d (omega arith) inside in
    let other = eqb-false (get_or shares k d).place (get_or shares (k + 1) d).place
    (apart_from_distinct same_place shares k (k + 1) d apart (omega arith) inside) in
    omega (arith, no_less, other)

at_place : (shares : List Share) (d : Share) (most k behind : ℕ) → length shares ≡ most →
    k + behind + 1 ≡ length shares →
    ((at : ℕ) → at + 1 < length shares →
    (get_or shares at d).place < (get_or shares (at + 1) d).place) →
    All (λ (share : Share). share.place < most) shares → (get_or shares k d).place ≡ k
at_place shares d most k behind long whole rises small =
    let here : 0 + k ≡ k = omega arith in
    omega (
      arith,
      long,
      whole,
      rise shares d rises 0 k (omega (arith, whole)),
      ap (λ (at : ℕ). (get_or shares at d).place) here,
      rise shares d rises k behind (omega (arith, whole)),
      small (k + behind) d (omega (arith, whole)),
    )

-- so many shares of different queries of so many, in order: each is in its place
in_place : (shares : List Share) (most : ℕ) → length shares ≡ most →
    All (λ (share : Share). share.place < most) shares → IsDistinct same_place shares →
    IsNonDecreasingBy (λ (share : Share). share.place) shares → AreInPlace shares
in_place shares most long small apart up k d below =
    at_place shares d most k (length shares - 1 - k) long (omega (arith, below))
    (one_more shares d apart up) small

-- ---- in order again

module _ (queries : List CompiledValue) (names : List (List ℕ)) (entries : List Entry) where
  -- the share is the one at its place
  abbrev StandsAt : List Share → Share → Type 0
  StandsAt olds share =
      (share.place < length olds) × ((d : Share) → get_or olds share.place d ≡ share)

  -- the query of the share at this place took the entries, and this is what it left
  abbrev HasOwn : List Share → Share → Type 0
  HasOwn olds new = (new.place < length olds)
      × ((d : Share) → IsFed queries names entries (get_or olds new.place d) new)

  stand : (olds : List Share) → AreInPlace olds → All (StandsAt olds) olds
  stand olds own k d below = (
    omega (arith, own k d below, below),
    λ e. ap (λ (at : ℕ). get_or olds at e) (own k d below) ∙ get_or_default olds k e d below,
  )

  -- shares that were fed are of different queries if they were before
  apart_fed : (olds news : List Share) → HaveFed queries names entries olds news →
      IsDistinct same_place olds → IsDistinct same_place news
  apart_fed olds news fed apart =
      let long = AllZip-long (IsFed queries names entries) olds news fed in
      IsDistinct-from_apart same_place news
      (λ i j d less inside.
      let one = AllZip-get_or (IsFed queries names entries) olds news i d d fed
      (omega (arith, less, inside, long)) in
      let other = AllZip-get_or (IsFed queries names entries) olds news j d d fed
      (omega (arith, inside, long)) in
      ap₂ (λ (a b : ℕ). eqb a b) one.place other.place
      ∙ apart_from_distinct same_place olds i j d apart less (omega (arith, inside, long)))

  own_fed : (olds dealt fed : List Share) → AreInPlace olds → IsPermutation olds dealt →
      HaveFed queries names entries dealt fed → All (HasOwn olds) fed
  own_fed olds dealt fed own moved have k d below =
      let inside : k < length dealt =
      omega (arith, below, AllZip-long (IsFed queries names entries) dealt fed have) in
      let stands = All-permutation (StandsAt olds) olds dealt moved (stand olds own) k d inside in
      let is = AllZip-get_or (IsFed queries names entries) dealt fed k d d have inside in (
        omega (arith, is.place, stands.0),
        λ e.
            subst (λ (old : Share). IsFed queries names entries old (get_or fed k d))
            (sym (ap (λ (at : ℕ). get_or olds at e) is.place ∙ stands.1 e)) is,
      )

  -- the shares are dealt, fed, and put in order
  pub fed_in_order : (olds dealt fed news : List Share) → AreInPlace olds →
      IsPermutation olds dealt → HaveFed queries names entries dealt fed →
      IsPermutation fed news → IsNonDecreasingBy (λ (share : Share). share.place) news →
      HaveFed queries names entries olds news
  fed_in_order olds dealt fed news own moved have back up =
      let owns = All-permutation (HasOwn olds) fed news back (own_fed olds dealt fed own moved have) in
      let long : length news ≡ length olds =
      length_permutation fed news back
      ∙ (AllZip-long (IsFed queries names entries) dealt fed have
      ∙ length_permutation olds dealt moved) in
      let apart = IsDistinct-IsPermutation same_place flips fed news back
      (apart_fed dealt fed have
      (IsDistinct-IsPermutation same_place flips olds dealt moved (apart_in_place olds own))) in
      let places : AreInPlace news =
      in_place news (length olds) long (λ k d below. (owns k d below).0) apart up in
      zip_from_each (IsFed queries names entries) olds news long
      (λ k d below.
      let inside : k < length news = omega (arith, below, long) in
      subst (λ (at : ℕ). IsFed queries names entries (get_or olds at d) (get_or news k d))
      (places k d inside) ((owns k d inside).1 d))
