-- Sources from which one was taken, into whose place the last one came.
use Rattle.std.proofs.Common.{◌≡◌, ◌≢◌, ◌<◌, ◌+◌, ◌-◌, ◌⊎◌, inl, inr, ℕ, Bool, true, false, cond, List, [], ◌∷◌, length, get_or, option_map, Option, None, Some, slice_get, nat_eq, refl, sym, ap, ◌∙◌, true≢false, arith}
use Rattle.std.specs.Cmp.{nat_eq_equiv}
use Rattle.std.proofs.lemmas.Map.Views.{exact_unsigned_eq}
use Rattle.std.proofs.lemmas.Option.{slice_get-get_or, slice_get_within, slice_get-map}
use Rattle.std.proofs.lemmas.List.{length-map}
use Rattle.source_tree.specs.Ends.{SourceValue}
use Rattle.source_table.specs.Places.{place_of, ArePlaced}
use Rattle.source_table.specs.Sources.{GivesSource, roots_of, source_in}
use Rattle.source_table.proofs.Lists.{none_or_some, some_is_one, none_from, by_order, before_last}
use Rattle.source_table.proofs.Placed.{root_of, root_at, source_at, stands_at, placed_at, no_source, within}

-- the last one came to this place, and all others stand where they stood
pub record Moves {X : Type 0} (old new : List X) (gone : ℕ) : Type 0 where
  pub len : length new + 1 ≡ length old
  pub moved : gone + 1 < length old → slice_get new gone ≡ slice_get old (length old - 1)
  pub kept : (k : ℕ) → k ≢ gone → k + 1 < length old → slice_get new k ≡ slice_get old k

-- from what a removal says of each place
pub moves : {X : Type 0} (old new : List X) (gone n : ℕ) → n ≡ length old →
    length new + 1 ≡ length old →
    ((d : X) → gone + 1 < n → get_or new gone d ≡ get_or old (n - 1) d) ×
    ((k : ℕ) (d : X) → k ≢ gone → k + 1 < n → get_or new k d ≡ get_or old k d) →
    Moves old new gone
moves [] new gone n is len each = absurd (omega (arith, len))
moves (x ∷ xs) new gone n is len each = record {
  len = len;
  moved = λ below.
      slice_get-get_or new gone x (omega (arith, len, below))
      ∙ ap Some (each.0 x (omega (arith, is, below))
      ∙ ap (λ m. get_or (x ∷ xs) (m - 1) x) is)
      ∙ sym (slice_get-get_or (x ∷ xs) (length (x ∷ xs) - 1) x (omega (arith, below)));
  kept = λ k apart below.
      slice_get-get_or new k x (omega (arith, len, below))
      ∙ ap Some (each.1 k x apart (omega (arith, is, below)))
      ∙ sym (slice_get-get_or (x ∷ xs) k x (omega (arith, below)));
}

moves_roots : (old new : List SourceValue) (gone : ℕ) → Moves old new gone →
    Moves (roots_of old) (roots_of new) gone
moves_roots old new gone moved = record {
  len = omega (arith, length-map old root_of, length-map new root_of, moved.len);
  moved = λ below.
      slice_get-map root_of new gone
      ∙ ap (option_map root_of) (moved.moved (omega (arith, length-map old root_of, below)))
      ∙ sym (slice_get-map root_of old (length old - 1))
      ∙ ap (λ n. slice_get (roots_of old) (n - 1)) (sym (length-map old root_of));
  kept = λ k apart below.
      slice_get-map root_of new k
      ∙ ap (option_map root_of) (moved.kept k apart (omega (arith, length-map old root_of, below)))
      ∙ sym (slice_get-map root_of old k);
}

-- what is there afterwards stood at another place than the one that was taken
pub from_new : {X : Type 0} (old new : List X) (gone : ℕ) → Moves old new gone → (k : ℕ) (x : X) →
    slice_get new k ≡ Some x → (j : ℕ) × (slice_get old j ≡ Some x) × (j ≢ gone)
from_new old new gone moved k x at = by (by_order k gone)
  where
    below : k + 1 < length old
    below = omega (arith, moved.len, slice_get_within new k x at)

    kept : k ≢ gone → (j : ℕ) × (slice_get old j ≡ Some x) × (j ≢ gone)
    kept other = (k, sym (moved.kept k other below) ∙ at, other)

    by : (k < gone) ⊎ ((k ≡ gone) ⊎ (gone < k)) →
        (j : ℕ) × (slice_get old j ≡ Some x) × (j ≢ gone)
    by (inl less) = kept (λ is. omega (arith, less, is))
    by (inr (inl is)) = (
      length old - 1,
      sym (moved.moved (omega (arith, below, is))) ∙ ap (slice_get new) (sym is) ∙ at,
      (λ last. omega (arith, below, is, last)),
    )
    by (inr (inr more)) = kept (λ is. omega (arith, more, is))

-- what stood at another place is there
pub to_new : {X : Type 0} (old new : List X) (gone : ℕ) → Moves old new gone →
    gone < length old → (j : ℕ) (x : X) → slice_get old j ≡ Some x → j ≢ gone →
    (k : ℕ) × (slice_get new k ≡ Some x)
to_new old new gone moved here j x at other =
    by (before_last j (length old) (slice_get_within old j x at)) (by_order gone j)
  where
    by : (j + 1 < length old) ⊎ (j + 1 ≡ length old) →
        (gone < j) ⊎ ((gone ≡ j) ⊎ (j < gone)) → (k : ℕ) × (slice_get new k ≡ Some x)
    by (inl below) order = (j, moved.kept j other below ∙ at)
    by (inr last) (inl less) = (
      gone,
      moved.moved (omega (arith, last, less))
          ∙ ap (slice_get old) (sym (omega (arith, last))) ∙ at,
    )
    by (inr last) (inr (inl is)) = absurd (other (sym is))
    by (inr last) (inr (inr more)) = absurd (omega (arith, last, more, here))

-- the source of the root is gone, and all others are found as before
pub gives_none : (old new : List SourceValue) (before after : List ℕ) (gone root : ℕ) →
    ArePlaced (roots_of old) before → ArePlaced (roots_of new) after → Moves old new gone →
    place_of before root ≡ Some gone → GivesSource old new root None
gives_none old new before after gone root placed afterwards moved is each =
    by (nat_eq root each) refl
  where
    here : gone < length old
    here = within old before placed gone root is

    -- no source of this root is left
    left : (source : SourceValue) → source_in new root ≡ Some source → ⊥
    left source found =
        let (k, at, has) = stands_at new root source found in
        let (j, stood, other) = from_new old new gone moved k source at in
        other (some_is_one j gone
        (sym (placed_at old before placed j root source stood has) ∙ is))

    same : (each ≡ root → ⊥) → source_in new each ≡ source_in old each
    same apart = decide (source_in old each) refl
      where
        decide : (found : Option SourceValue) → source_in old each ≡ found →
            source_in new each ≡ source_in old each
        decide None none = none_from (source_in new each) (λ source found.
            let (k, at, has) = stands_at new each source found in
            let (j, stood, other) = from_new old new gone moved k source at in
            none_or_some source (sym none ∙ source_at old before placed j each source stood has))
            ∙ sym none
        decide (Some source) found =
            let (j, stood, has) = stands_at old each source found in
            let (k, at) = to_new old new gone moved here j source stood (λ same.
            apart (root_at old before placed gone each root
            (placed_at old before placed j each source stood has
            ∙ ap Some same) is)) in
            source_at new after afterwards k each source at has ∙ sym found

    by : (b : Bool) → nat_eq root each ≡ b →
        source_in new each ≡ cond (nat_eq root each) None (source_in old each)
    by true at =
        ap (source_in new) (sym (exact_unsigned_eq root each at)) ∙ none_from (source_in new root) left
        ∙ sym (ap (λ b. cond b None (source_in old each)) at)
    by false apart =
        same (λ at. true≢false (sym (ap (nat_eq root) at ∙ nat_eq_equiv.refl root) ∙ apart))
        ∙ sym (ap (λ b. cond b None (source_in old each)) apart)

-- ---- the places afterwards

-- the last one was taken
pub placed_without : (old new : List SourceValue) (before after : List ℕ) (gone root : ℕ) →
    ArePlaced (roots_of old) before → Moves old new gone → place_of before root ≡ Some gone →
    gone + 1 ≡ length old →
    ((each : ℕ) → place_of after each ≡ cond (nat_eq root each) None (place_of before each)) →
    ArePlaced (roots_of new) after
placed_without old new before after gone root placed moved is last update each place =
    (forth (nat_eq root each) refl, back (nat_eq root each) refl)
  where
    roots : Moves (roots_of old) (roots_of new) gone
    roots = moves_roots old new gone moved

    count : length (roots_of old) ≡ length old
    count = length-map old root_of

    forth : (b : Bool) → nat_eq root each ≡ b → place_of after each ≡ Some place →
        slice_get (roots_of new) place ≡ Some each
    forth true same found = absurd (none_or_some place
        (sym (ap (λ b. cond b None (place_of before each)) same) ∙ sym (update each) ∙ found))
    forth false apart found =
        let was : place_of before each ≡ Some place =
        sym (ap (λ b. cond b None (place_of before each)) apart) ∙ sym (update each) ∙ found in
        let other : place ≢ gone = λ at. true≢false
        (sym (ap (nat_eq root) (root_at old before placed gone each root (was ∙ ap Some at) is)
        ∙ nat_eq_equiv.refl root) ∙ apart) in
        roots.kept place other (short place other (within old before placed place each was))
        ∙ (placed each place).0 was
      where
        short : (k : ℕ) → k ≢ gone → k < length old → k + 1 < length (roots_of old)
        short k other below = elim (by_order k gone) [
          | inl less ↦ omega (arith, less, last, count)
          | inr rest ↦ elim rest [
            | inl same ↦ absurd (other same)
            | inr more ↦ absurd (omega (arith, more, last, below))
          ]
        ]

    back : (b : Bool) → nat_eq root each ≡ b → slice_get (roots_of new) place ≡ Some each →
        place_of after each ≡ Some place
    back b same at =
        let (j, stood, other) = from_new (roots_of old) (roots_of new) gone roots place each at in
        let below = slice_get_within (roots_of new) place each at in
        let less : place ≢ gone = λ is. omega (arith, is, below, roots.len, count, last) in
        let was = (placed each place).1
        (sym (roots.kept place less (omega (arith, below, roots.len))) ∙ at) in
        decide b same was less
      where
        decide : (b : Bool) → nat_eq root each ≡ b → place_of before each ≡ Some place →
            place ≢ gone → place_of after each ≡ Some place
        decide true here was less = absurd (less (some_is_one place gone
            (sym was ∙ ap (place_of before) (sym (exact_unsigned_eq root each here)) ∙ is)))
        decide false apart was less =
            update each ∙ ap (λ b. cond b None (place_of before each)) apart ∙ was

-- the last one came into the place of another
pub placed_moved : (old new : List SourceValue) (before after : List ℕ)
    (gone root moving : ℕ) →
    ArePlaced (roots_of old) before → Moves old new gone → place_of before root ≡ Some gone →
    gone + 1 < length old → slice_get (roots_of new) gone ≡ Some moving →
    ((each : ℕ) → place_of after each ≡ cond (nat_eq moving each) (Some gone)
    (cond (nat_eq root each) None (place_of before each))) →
    ArePlaced (roots_of new) after
placed_moved old new before after gone root moving placed moved is lower came update each place = (
  forth (nat_eq moving each) refl (nat_eq root each) refl,
  back,
)
  where
    roots : Moves (roots_of old) (roots_of new) gone
    roots = moves_roots old new gone moved

    count : length (roots_of old) ≡ length old
    count = length-map old root_of

    -- where it stood
    last : place_of before moving ≡ Some (length (roots_of old) - 1)
    last = (placed moving (length (roots_of old) - 1)).1
        (sym (roots.moved (omega (arith, lower, count))) ∙ came)

    after_is : (b : Bool) → nat_eq moving each ≡ b → (c : Bool) → nat_eq root each ≡ c →
        place_of after each ≡ cond b (Some gone) (cond c None (place_of before each))
    after_is b here c there =
        update each
        ∙ ap (λ t. cond t (Some gone) (cond (nat_eq root each) None (place_of before each))) here
        ∙ ap (λ t. cond b (Some gone) (cond t None (place_of before each))) there

    forth : (b : Bool) → nat_eq moving each ≡ b → (c : Bool) → nat_eq root each ≡ c →
        place_of after each ≡ Some place → slice_get (roots_of new) place ≡ Some each
    forth true here c there found =
        let at : gone ≡ place = some_is_one gone place (sym (after_is true here c there) ∙ found) in
        ap (slice_get (roots_of new)) (sym at) ∙ came ∙ ap Some (exact_unsigned_eq moving each here)
    forth false here true there found =
        absurd (none_or_some place (sym (after_is false here true there) ∙ found))
    forth false here false there found =
        let was : place_of before each ≡ Some place = sym (after_is false here false there) ∙ found in
        let other : place ≢ gone = λ at. true≢false
        (sym (ap (nat_eq root) (root_at old before placed gone each root (was ∙ ap Some at) is)
        ∙ nat_eq_equiv.refl root) ∙ there) in
        let below : place < length old = within old before placed place each was in
        roots.kept place other (elim (before_last place (length old) below) [
          | inl short ↦ omega (arith, short, count)
          | inr long ↦ absurd (true≢false (sym (ap (nat_eq moving)
              (root_at old before placed place each moving was
              (last ∙ ap Some (omega (arith, long, count))))
              ∙ nat_eq_equiv.refl moving) ∙ here))
        ])
        ∙ (placed each place).0 was

    back : slice_get (roots_of new) place ≡ Some each → place_of after each ≡ Some place
    back at = by (by_order place gone)
      where
        below : place + 1 < length (roots_of old)
        below = omega (arith, slice_get_within (roots_of new) place each at, roots.len)

        kept : place ≢ gone → place_of after each ≡ Some place
        kept other =
            let was = (placed each place).1 (sym (roots.kept place other below) ∙ at) in
            decide was (nat_eq moving each) refl (nat_eq root each) refl
          where
            decide : place_of before each ≡ Some place → (b : Bool) → nat_eq moving each ≡ b →
                (c : Bool) → nat_eq root each ≡ c → place_of after each ≡ Some place
            decide was true here c there = absurd (omega (
              arith,
              below,
              some_is_one place (length (roots_of old) - 1)
                  (sym was ∙ ap (place_of before) (sym (exact_unsigned_eq moving each here)) ∙ last),
            ))
            decide was false here true there = absurd (other (some_is_one place gone
                (sym was ∙ ap (place_of before) (sym (exact_unsigned_eq root each there)) ∙ is)))
            decide was false here false there = after_is false here false there ∙ was

        by : (place < gone) ⊎ ((place ≡ gone) ⊎ (gone < place)) → place_of after each ≡ Some place
        by (inl less) = kept (λ same. omega (arith, less, same))
        by (inr (inl same)) =
            let own : moving ≡ each = some_is_one moving each
            (sym came ∙ ap (slice_get (roots_of new)) (sym same) ∙ at) in
            after_is true (ap (nat_eq moving) (sym own) ∙ nat_eq_equiv.refl moving)
            (nat_eq root each) refl ∙ ap Some (sym same)
        by (inr (inr more)) = kept (λ same. omega (arith, more, same))

-- a root without a place has no source
pub gives_absent : (sources : List SourceValue) (places : List ℕ) (root : ℕ) →
    ArePlaced (roots_of sources) places → place_of places root ≡ None →
    GivesSource sources sources root None
gives_absent sources places root placed none each = by (nat_eq root each) refl
  where
    by : (b : Bool) → nat_eq root each ≡ b →
        source_in sources each ≡ cond (nat_eq root each) None (source_in sources each)
    by true same =
        ap (source_in sources) (sym (exact_unsigned_eq root each same))
        ∙ no_source sources places placed root none
        ∙ sym (ap (λ b. cond b None (source_in sources each)) same)
    by false apart = sym (ap (λ b. cond b None (source_in sources each)) apart)

-- the last root keeps its place while another is taken out
pub still_last : (old new : List SourceValue) (before between : List ℕ)
    (gone root moving : ℕ) →
    ArePlaced (roots_of old) before → Moves old new gone → place_of before root ≡ Some gone →
    gone + 1 < length old → slice_get (roots_of new) gone ≡ Some moving →
    ((each : ℕ) → place_of between each ≡ cond (nat_eq root each) None (place_of before each)) →
    place_of between moving ≡ Some (length (roots_of old) - 1)
still_last old new before between gone root moving placed moved is lower came update =
    by (nat_eq root moving) refl
  where
    roots : Moves (roots_of old) (roots_of new) gone
    roots = moves_roots old new gone moved

    count : length (roots_of old) ≡ length old
    count = length-map old root_of

    last : place_of before moving ≡ Some (length (roots_of old) - 1)
    last = (placed moving (length (roots_of old) - 1)).1
        (sym (roots.moved (omega (arith, lower, count))) ∙ came)

    by : (b : Bool) → nat_eq root moving ≡ b →
        place_of between moving ≡ Some (length (roots_of old) - 1)
    by true same = absurd (omega (
      arith,
      lower,
      count,
      some_is_one gone (length (roots_of old) - 1)
          (sym is ∙ ap (place_of before) (exact_unsigned_eq root moving same) ∙ last),
    ))
    by false apart =
        update moving ∙ ap (λ b. cond b None (place_of before moving)) apart ∙ last
