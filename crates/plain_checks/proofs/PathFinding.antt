-- Live entries found by their positions, and the path that they are.
use Rattle.std.proofs.Common.{◌≡◌, ℕ, ◌+◌, ◌<◌, ◌≤◌, zero, suc, List, [], ◌∷◌, ◌++◌, length, get_or}
use Rattle.std.proofs.Common.{take, map, Some, refl, sym, ap, subst, ◌∙◌, inl, inr, ⊎_elim, arith}
use Rattle.std.specs.Prelude.{All, Contains, slice_get}
use Rattle.std.proofs.lemmas.List.{take_all, take_more, map_push}
use Rattle.std.proofs.lemmas.List.Elements.{All-cons, All-nil, All-head, All-tail, All-append, All-contains}
use Rattle.std.proofs.lemmas.Option.{same_Some, slice_get-get_or}
use Rattle.rpq_base.specs.declared.data.Entry.{Entry}
use Rattle.rpq_base.specs.Laws.{SameIsEqual}
use Rattle.rpq_base.proofs.Equality.{names, labels, edges, pairs}
use Rattle.rpq_base.proofs.Members.{cons_members, next_given}
use Rattle.rpq_model.specs.declared.live.Live.{Live}
use Rattle.rpq_model.specs.Live.{placed_entry}
use Rattle.rpq_model.specs.Window.{WindowValue, Placed, live_entries}
use Rattle.rpq_model.proofs.Places.{live_by_places}
use Rattle.path_witness.specs.Found.{position_of}
use Rattle.plain_checks.specs.PathTests.{IsAt, IsPathAt, HasNoPathAt}

-- the tests for equal values find exactly the equal ones
same : SameIsEqual
same = record { names = names; labels = labels; edges = edges; pairs = pairs }

-- ---- one entry

-- none of the entries has the place
abbrev pub HasNone : List Live → ℕ → Type 0
HasNone live place = (each : Placed) → Contains (map placed_entry live) each → each.place ≡ place → ⊥

pub none_more : (live : List Live) (index : ℕ) (one : Live) (place : ℕ) → index < length live → one ≡ get_or live index one → (one.place ≡ place → ⊥) →
    HasNone (take index live) place → HasNone (take (index + 1) live) place
none_more live index one place below is differs none each member at = ⊎_elim
    (λ before. none each before at)
    (λ here. differs (ap (λ (some : Placed). some.place) here ∙ at))
    ((next_given placed_entry live index one below is).cases each member)

pub none_with_position : (live : List Live) (index place position : ℕ) → HasNone (take index live) place → length live ≤ index → position ≡ place + 1 →
    (each : Placed) → IsAt (map placed_entry live) position each → ⊥
none_with_position live index place position none all is each at =
    none each (subst (λ (some : List Live). Contains (map placed_entry some) each) (sym (take_all index live all)) at.seen)
    (omega (arith, is, at.position_is))

-- an element gives one of what all give
given : {X Y : Type 0} (give : X → Y) (elements : List X) (index : ℕ) (one : X) → slice_get elements index ≡ Some one → Contains (map give elements) (give one)
given give [] index one there = cc
given give (first ∷ elements) zero one there =
    subst (λ each. Contains (map give (first ∷ elements)) (give each)) (same_Some first one there) ((cons_members (give first) (map give elements) (give first)).1 (inl refl))
given give (first ∷ elements) (suc index) one there =
    (cons_members (give first) (map give elements) (give one)).1 (inr (given give elements index one there))

pub element_given : {X Y : Type 0} (give : X → Y) (elements : List X) (index : ℕ) (one : X) → index < length elements → one ≡ get_or elements index one →
    Contains (map give elements) (give one)
element_given give elements index one below is = given give elements index one (slice_get-get_or elements index one below ∙ ap Some (sym is))

-- ---- all of them

-- an element that is there is the same whatever would stand in its place
pub any_default : (elements : List ℕ) (index default other : ℕ) → index < length elements → get_or elements index default ≡ get_or elements index other
any_default elements index default other below =
    same_Some (get_or elements index default) (get_or elements index other)
    (sym (slice_get-get_or elements index default below) ∙ slice_get-get_or elements index other below)

pub path_more : (live : List Placed) (positions : List ℕ) (index position : ℕ) (path more : List Placed) (one : Placed) → index < length positions →
    position ≡ get_or positions index position → IsAt live position one → more ≡ path ++ one ∷ [] → IsPathAt live (take index positions) path →
    IsPathAt live (take (index + 1) positions) more
path_more live positions index position path more one below is at pushed so_far =
    subst (IsPathAt live (take (index + 1) positions)) (sym pushed) (record {
      seen = All-append (Contains live) path (one ∷ []) so_far.seen (All-cons (Contains live) one [] at.seen (All-nil (Contains live)));
      positions_are = map_push position_of path one
          ∙ ((λ i. so_far.positions_are i ++ at.position_is i ∷ [])
          ∙ (ap (λ (each : ℕ). take index positions ++ each ∷ []) is ∙ sym (take_more positions index position below)));
    })

-- where one is missing, there is no path
has_position : (path : List Placed) (index position : ℕ) → slice_get (map position_of path) index ≡ Some position →
    (each : Placed) × Contains path each × (position_of each ≡ position)
has_position [] index position there = cc
has_position (first ∷ path) zero position there = (first, (cons_members first path first).1 (inl refl), same_Some (position_of first) position there)
has_position (first ∷ path) (suc index) position there =
    let later = has_position path index position there in
    (later.0, (cons_members first path later.0).1 (inr later.1), later.2)

pub no_path : (live : List Placed) (positions : List ℕ) (index position : ℕ) → index < length positions → position ≡ get_or positions index position →
    ((each : Placed) → IsAt live position each → ⊥) → HasNoPathAt live positions
no_path live positions index position below is none path at =
    let there = slice_get-get_or positions index position below ∙ ap Some (sym is) in
    let found = has_position path index position (ap (λ (some : List ℕ). slice_get some index) at.positions_are ∙ there) in
    none found.0 (record { seen = All-contains (Contains live) path found.0 at.seen found.1; position_is = found.2 })

-- ---- the positions tell the path

-- a place has one live entry
one_at_place : (window : WindowValue) (now : ℕ) (entries : List Entry) (first second : Placed) →
    Contains (live_entries window now entries) first → Contains (live_entries window now entries) second → first.place ≡ second.place → first ≡ second
one_at_place window now entries first second here there at =
    let first_is = ((live_by_places same window now entries first).0 here).1.undeleted.there in
    let second_is = ((live_by_places same window now entries second).0 there).1.undeleted.there in
    let entry_is = same_Some first.entry second.entry (sym first_is ∙ (ap (slice_get entries) at ∙ second_is)) in
    λ i. record { place = at i; entry = entry_is i }

pub same_path : (window : WindowValue) (now : ℕ) (entries : List Entry) (path other : List Placed) →
    All (Contains (live_entries window now entries)) path → All (Contains (live_entries window now entries)) other →
    map position_of path ≡ map position_of other → path ≡ other
same_path window now entries [] [] here there is = refl
same_path window now entries [] (second ∷ other) here there is = absurd (none_some (position_of second) (map position_of other) is)
  where
    none_some : (first : ℕ) (rest : List ℕ) → [] ≡ first ∷ rest → ⊥
    none_some first rest e = cc
same_path window now entries (first ∷ path) [] here there is = absurd (some_none (position_of first) (map position_of path) is)
  where
    some_none : (first : ℕ) (rest : List ℕ) → first ∷ rest ≡ [] → ⊥
    some_none first rest e = cc
same_path window now entries (first ∷ path) (second ∷ other) here there is =
    let live = live_entries window now entries in
    let heads : position_of first ≡ position_of second = heads_are is in
    let tails : map position_of path ≡ map position_of other = tails_are is in
    let one = one_at_place window now entries first second (All-head (Contains live) first path here) (All-head (Contains live) second other there)
    (omega (arith, heads)) in
    let rest = same_path window now entries path other (All-tail (Contains live) first path here) (All-tail (Contains live) second other there) tails in
    λ i. one i ∷ rest i
  where
    heads_are : {a b : ℕ} {here there : List ℕ} → a ∷ here ≡ b ∷ there → a ≡ b
    heads_are e = cc

    tails_are : {a b : ℕ} {here there : List ℕ} → a ∷ here ≡ b ∷ there → here ≡ there
    tails_are e = cc
