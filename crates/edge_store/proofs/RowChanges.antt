-- What changes of the rows of one side write.
use Rattle.std.proofs.Common.{◌≡◌, ◌<◌, ◌+◌, ◌-◌, ℕ, zero, suc, Bool, true, false, nat_lt, ◌&&◌, ◌==◌, cond, List, [], ◌∷◌, ◌++◌, length, take, slice_index_or, slice_set, refl, sym, ap, subst, ◌∙◌, Option, None, Some, ◌⊎◌, inl, inr, arith}
use Rattle.std.proofs.lemmas.Bool.{eqb-true, eqb-false, ltb-true, ltb-false}
use Rattle.std.proofs.lemmas.List.{get_or-set_same, get_or-set_other, get_or_append_left, get_or_push, get_or_read, get_or-take, length-take-le}
use Rattle.std.specs.Map.{lookup}
use Rattle.edge_store.specs.Row.{RowValue}
use Rattle.edge_store.specs.declared.edge.HalfEdge.{HalfEdge}
use Rattle.edge_store.specs.Edges.{row, value_at, same_half}
use Rattle.edge_store.specs.Rows.{rows_of, no_row, place_in, place_of, row_at, side, IsSide, IsBareAt, GivesRow, HasSameRows, KeepsRows, Writes}

-- ---- the row of a vertex

-- the entries of the row at a place that may be there
abbrev entries_at : List RowValue → Option ℕ → List (HalfEdge × ℕ)
entries_at rows place = (row_at rows place).entries

-- the entries of a vertex are those of the row at its place
side_row : (slots : List ℕ) (rows : List RowValue) (vertex : ℕ) →
    row (rows_of (side slots rows)) vertex ≡ entries_at rows (place_of slots vertex)
side_row [] rows vertex = refl
side_row (number ∷ slots) rows zero = refl
side_row (number ∷ slots) rows (suc vertex) = side_row slots rows vertex

-- what a search in the slots answered
pub place_is : (slots seen : List ℕ) (vertex : ℕ) (answer found : Option ℕ) → seen ≡ slots →
    answer ≡ place_of seen vertex → answer ≡ found → place_of slots vertex ≡ found
place_is slots seen vertex answer found same is matches =
    ap (λ l. place_of l vertex) (sym same) ∙ sym is ∙ matches

-- the entries of a vertex that has a row
pub row_there : (slots : List ℕ) (rows all : List RowValue) (vertex place : ℕ) (here : RowValue) →
    side slots rows ≡ all → IsSide slots (length rows) → place_of slots vertex ≡ Some place →
    here ≡ slice_index_or rows place here → row (rows_of all) vertex ≡ here.entries
row_there slots rows all vertex place here view is at found =
    ap (λ l. row (rows_of l) vertex) (sym view)
    ∙ side_row slots rows vertex
    ∙ ap (entries_at rows) at
    ∙ sym (ap (λ (each : RowValue). each.entries)
    (get_or_read rows place here (is.within vertex place at) found no_row))

-- a vertex without a row has none
pub row_none : (slots : List ℕ) (rows all : List RowValue) (vertex : ℕ) → side slots rows ≡ all →
    place_of slots vertex ≡ None → row (rows_of all) vertex ≡ []
row_none slots rows all vertex view none =
    ap (λ l. row (rows_of l) vertex) (sym view)
    ∙ side_row slots rows vertex
    ∙ ap (entries_at rows) none

-- where each vertex has the entries that it had, the rows are the same
same_rows : (slots slots' : List ℕ) (rows rows' : List RowValue) →
    ((each : ℕ) →
    entries_at rows' (place_of slots' each) ≡ entries_at rows (place_of slots each)) →
    HasSameRows (rows_of (side slots rows)) (rows_of (side slots' rows'))
same_rows slots slots' rows rows' same each =
    side_row slots' rows' each ∙ same each ∙ sym (side_row slots rows each)

-- ---- a row that is set

-- the row of that vertex is new
set_here : (slots : List ℕ) (rows : List RowValue) (vertex place : ℕ) (new : RowValue) →
    IsSide slots (length rows) → place_of slots vertex ≡ Some place →
    entries_at (slice_set rows place new) (place_of slots vertex) ≡ new.entries
set_here slots rows vertex place new is at =
    ap (entries_at (slice_set rows place new)) at
    ∙ ap (λ (each : RowValue). each.entries)
    (get_or-set_same rows place new no_row (is.within vertex place at))

-- and the others are as they were
set_apart : (slots : List ℕ) (rows : List RowValue) (vertex place each : ℕ) (new : RowValue) →
    IsSide slots (length rows) → place_of slots vertex ≡ Some place → (vertex ≡ each → ⊥) →
    entries_at (slice_set rows place new) (place_of slots each)
    ≡ entries_at rows (place_of slots each)
set_apart slots rows vertex place each new is at apart = by (place_of slots each) refl
  where
    by : (found : Option ℕ) → place_of slots each ≡ found →
        entries_at (slice_set rows place new) found ≡ entries_at rows found
    by None found = refl
    by (Some other) found =
        ap (λ (each : RowValue). each.entries)
        (get_or-set_other rows place other new no_row
        (λ same. apart (is.once vertex each place at (found ∙ ap Some same))))

-- the same entries in a row change no row
pub row_same : (slots : List ℕ) (rows : List RowValue) (vertex place : ℕ) (old new : RowValue) →
    IsSide slots (length rows) → place_of slots vertex ≡ Some place →
    old ≡ slice_index_or rows place old → new.entries ≡ old.entries →
    HasSameRows (rows_of (side slots rows)) (rows_of (side slots (slice_set rows place new)))
row_same slots rows vertex place old new is at found same =
    same_rows slots slots rows (slice_set rows place new) (λ each. by each (vertex == each) refl)
  where
    by : (each : ℕ) (b : Bool) → (vertex == each) ≡ b →
        entries_at (slice_set rows place new) (place_of slots each)
        ≡ entries_at rows (place_of slots each)
    by each true here =
        subst (λ n. entries_at (slice_set rows place new) (place_of slots n)
        ≡ entries_at rows (place_of slots n))
        (eqb-true vertex each here)
        (set_here slots rows vertex place new is at
        ∙ same
        ∙ sym (row_there slots rows (side slots rows) vertex place old refl is at found)
        ∙ side_row slots rows vertex)
    by each false apart =
        set_apart slots rows vertex place each new is at (eqb-false vertex each apart)

-- what an update of one row writes
pub writes : (slots : List ℕ) (rows : List RowValue) (vertex place : ℕ) (old new : RowValue)
    (half : HalfEdge) (value : Option ℕ) →
    IsSide slots (length rows) → place_of slots vertex ≡ Some place →
    old ≡ slice_index_or rows place old →
    ((other : HalfEdge) → lookup (same_half other) new.entries
    ≡ cond (same_half half other) value (lookup (same_half other) old.entries)) →
    Writes (rows_of (side slots rows)) (rows_of (side slots (slice_set rows place new)))
    vertex half value
writes slots rows vertex place old new half value is at found update each other =
    by (vertex == each) refl
  where
    by : (b : Bool) → (vertex == each) ≡ b →
        value_at (rows_of (side slots (slice_set rows place new))) each other
        ≡ cond (b && same_half half other) value (value_at (rows_of (side slots rows)) each other)
    by true here =
        subst (λ n. value_at (rows_of (side slots (slice_set rows place new))) n other
        ≡ cond (same_half half other) value (value_at (rows_of (side slots rows)) n other))
        (eqb-true vertex each here)
        (ap (lookup (same_half other))
        (side_row slots (slice_set rows place new) vertex
        ∙ set_here slots rows vertex place new is at)
        ∙ update other
        ∙ ap (λ entries. cond (same_half half other) value (lookup (same_half other) entries))
        (sym (row_there slots rows (side slots rows) vertex place old refl is at found)))
    by false apart =
        ap (lookup (same_half other))
        (side_row slots (slice_set rows place new) each
        ∙ set_apart slots rows vertex place each new is at (eqb-false vertex each apart)
        ∙ sym (side_row slots rows each))

-- a vertex without a row has nothing to take out
pub writes_none : (slots : List ℕ) (rows : List RowValue) (vertex : ℕ) (half : HalfEdge) →
    place_of slots vertex ≡ None →
    Writes (rows_of (side slots rows)) (rows_of (side slots rows)) vertex half None
writes_none slots rows vertex half none each other =
    by (vertex == each) refl (same_half half other)
  where
    by : (b : Bool) → (vertex == each) ≡ b → (c : Bool) →
        value_at (rows_of (side slots rows)) each other
        ≡ cond (b && c) None (value_at (rows_of (side slots rows)) each other)
    by true here true =
        ap (lookup (same_half other))
        (ap (row (rows_of (side slots rows))) (sym (eqb-true vertex each here))
        ∙ row_none slots rows (side slots rows) vertex refl none)
    by true here false = refl
    by false apart c = refl

-- ---- a vertex more

-- slots with the same places
pub is_side_same : (slots slots' : List ℕ) (count : ℕ) →
    ((each : ℕ) → place_of slots' each ≡ place_of slots each) → IsSide slots count →
    IsSide slots' count
is_side_same slots slots' count same is = record {
  within = λ vertex place at. is.within vertex place (sym (same vertex) ∙ at);
  once = λ first second place one other.
      is.once first second place (sym (same first) ∙ one) (sym (same second) ∙ other);
}

pub same_slots : (slots slots' : List ℕ) (rows : List RowValue) →
    ((each : ℕ) → place_of slots' each ≡ place_of slots each) →
    HasSameRows (rows_of (side slots rows)) (rows_of (side slots' rows))
same_slots slots slots' rows same =
    same_rows slots slots' rows rows (λ each. ap (entries_at rows) (same each))

-- the number of a row is one more than its place
place_in_next : (place : ℕ) → place_in (suc place) ≡ Some place
place_in_next place = refl

place_in_more : (place : ℕ) → place_in (place + 1) ≡ Some place
place_in_more place =
    let same : suc place ≡ place + 1 = omega arith in
    subst (λ n. place_in n ≡ Some place) same (place_in_next place)

-- the place of the vertex whose slot was set
slot_here : (slots : List ℕ) (vertex place : ℕ) → vertex < length slots →
    place_of (slice_set slots vertex (place + 1)) vertex ≡ Some place
slot_here slots vertex place within =
    ap place_in (get_or-set_same slots vertex (place + 1) 0 within) ∙ place_in_more place

-- and of the others
slot_apart : (slots : List ℕ) (vertex each place : ℕ) → (vertex ≡ each → ⊥) →
    place_of (slice_set slots vertex (place + 1)) each ≡ place_of slots each
slot_apart slots vertex each place apart =
    ap place_in (get_or-set_other slots vertex each (place + 1) 0 (λ same. apart (sym same)))

-- an empty row more changes no row
pub rows_more : (slots : List ℕ) (rows : List RowValue) (vertex : ℕ) (new : RowValue) →
    IsSide slots (length rows) → place_of slots vertex ≡ None → vertex < length slots →
    new.entries ≡ [] →
    HasSameRows (rows_of (side slots rows))
    (rows_of (side (slice_set slots vertex (length rows + 1)) (rows ++ new ∷ [])))
rows_more slots rows vertex new is none within empty =
    same_rows slots (slice_set slots vertex (length rows + 1)) rows (rows ++ new ∷ [])
    (λ each. by each (vertex == each) refl)
  where
    kept : (found : Option ℕ) → ((place : ℕ) → found ≡ Some place → place < length rows) →
        entries_at (rows ++ new ∷ []) found ≡ entries_at rows found
    kept None below = refl
    kept (Some place) below =
        ap (λ (each : RowValue). each.entries)
        (get_or_append_left rows (new ∷ []) no_row place (below place refl))

    by : (each : ℕ) (b : Bool) → (vertex == each) ≡ b →
        entries_at (rows ++ new ∷ []) (place_of (slice_set slots vertex (length rows + 1)) each)
        ≡ entries_at rows (place_of slots each)
    by each true here =
        subst (λ n. entries_at (rows ++ new ∷ [])
        (place_of (slice_set slots vertex (length rows + 1)) n)
        ≡ entries_at rows (place_of slots n))
        (eqb-true vertex each here)
        (ap (entries_at (rows ++ new ∷ [])) (slot_here slots vertex (length rows) within)
        ∙ ap (λ (each : RowValue). each.entries) (get_or_push rows new no_row (length rows) refl)
        ∙ empty
        ∙ sym (ap (entries_at rows) none))
    by each false apart =
        ap (entries_at (rows ++ new ∷ []))
        (slot_apart slots vertex each (length rows) (eqb-false vertex each apart))
        ∙ kept (place_of slots each) (λ place at. is.within each place at)

-- ---- a row that another vertex takes over

-- the vertex that has the row at this place had it before, or took it over
had_or_took : (old new : List ℕ) (from to vertex place : ℕ) → GivesRow old new from to →
    place_of new vertex ≡ Some place →
    ((to ≡ vertex) × (place_of old from ≡ Some place))
    ⊎ ((from ≡ vertex → ⊥) × (place_of old vertex ≡ Some place))
had_or_took old new from to vertex place gives is =
    by (to == vertex) (from == vertex) refl refl (gives vertex)
  where
    by : (b c : Bool) → (to == vertex) ≡ b → (from == vertex) ≡ c →
        place_of new vertex ≡ cond b (place_of old from) (cond c None (place_of old vertex)) →
        ((to ≡ vertex) × (place_of old from ≡ Some place))
        ⊎ ((from ≡ vertex → ⊥) × (place_of old vertex ≡ Some place))
    by true c here other now = inl (eqb-true to vertex here, sym now ∙ is)
    by false true apart gone now = absurd cc
    by false false apart stays now = inr (eqb-false from vertex stays, sym now ∙ is)

-- each row is still one vertex's
pub given_side : (old new : List ℕ) (count from to : ℕ) → GivesRow old new from to →
    IsSide old count → IsSide new count
given_side old new count from to gives is = record { within = within; once = once }
  where
    within : (vertex place : ℕ) → place_of new vertex ≡ Some place → place < count
    within vertex place there = by (had_or_took old new from to vertex place gives there)
      where
        by : ((to ≡ vertex) × (place_of old from ≡ Some place))
            ⊎ ((from ≡ vertex → ⊥) × (place_of old vertex ≡ Some place)) → place < count
        by (inl took) = is.within from place took.1
        by (inr had) = is.within vertex place had.1

    once : (first second place : ℕ) → place_of new first ≡ Some place →
        place_of new second ≡ Some place → first ≡ second
    once first second place one other =
        by (had_or_took old new from to first place gives one)
        (had_or_took old new from to second place gives other)
      where
        by : ((to ≡ first) × (place_of old from ≡ Some place))
            ⊎ ((from ≡ first → ⊥) × (place_of old first ≡ Some place)) →
            ((to ≡ second) × (place_of old from ≡ Some place))
            ⊎ ((from ≡ second → ⊥) × (place_of old second ≡ Some place)) → first ≡ second
        by (inl took) (inl too) = sym took.0 ∙ too.0
        by (inl took) (inr had) = absurd (had.0 (is.once from second place took.1 had.1))
        by (inr had) (inl took) = absurd (had.0 (is.once from first place took.1 had.1))
        by (inr had) (inr too) = is.once first second place had.1 too.1

-- and where the row has no edges, each vertex has the edges that it had
pub given_rows : (old new : List ℕ) (rows : List RowValue) (from to place : ℕ) →
    GivesRow old new from to → IsBareAt old rows place from → place_of old to ≡ None →
    HasSameRows (rows_of (side old rows)) (rows_of (side new rows))
given_rows old new rows from to place gives bare none =
    same_rows old new rows rows
    (λ each. by each (to == each) (from == each) refl refl (gives each))
  where
    by : (each : ℕ) (b c : Bool) → (to == each) ≡ b → (from == each) ≡ c →
        place_of new each ≡ cond b (place_of old from) (cond c None (place_of old each)) →
        entries_at rows (place_of new each) ≡ entries_at rows (place_of old each)
    by each true c here other now =
        ap (entries_at rows) (now ∙ bare.there)
        ∙ bare.bare
        ∙ sym (ap (entries_at rows) (ap (place_of old) (sym (eqb-true to each here)) ∙ none))
    by each false true apart gone now =
        ap (entries_at rows) now
        ∙ sym bare.bare
        ∙ sym (ap (entries_at rows)
        (ap (place_of old) (sym (eqb-true from each gone)) ∙ bare.there))
    by each false false apart stays now = ap (entries_at rows) now

-- ---- the last row, which has no edges, goes

-- the place of the vertex whose slot was emptied
slot_gone : (slots : List ℕ) (vertex : ℕ) → vertex < length slots →
    place_of (slice_set slots vertex 0) vertex ≡ None
slot_gone slots vertex within = ap place_in (get_or-set_same slots vertex 0 0 within)

-- and of the others
slot_kept : (slots : List ℕ) (vertex each : ℕ) → (vertex ≡ each → ⊥) →
    place_of (slice_set slots vertex 0) each ≡ place_of slots each
slot_kept slots vertex each apart =
    ap place_in (get_or-set_other slots vertex each 0 0 (λ same. apart (sym same)))

-- a vertex that still has a row had that row before, and isn't the one that lost its own
kept_slot : (slots : List ℕ) (vertex each place : ℕ) → vertex < length slots →
    place_of (slice_set slots vertex 0) each ≡ Some place →
    (vertex ≡ each → ⊥) × (place_of slots each ≡ Some place)
kept_slot slots vertex each place within is = by (vertex == each) refl
  where
    by : (b : Bool) → (vertex == each) ≡ b →
        (vertex ≡ each → ⊥) × (place_of slots each ≡ Some place)
    by true here =
        let none : place_of (slice_set slots vertex 0) each ≡ None =
        ap (place_of (slice_set slots vertex 0)) (sym (eqb-true vertex each here))
        ∙ slot_gone slots vertex within in
        absurd cc
    by false apart =
        let other = eqb-false vertex each apart in
        (other, sym (slot_kept slots vertex each other) ∙ is)

-- a vertex with a row has a slot
pub has_slot : (slots : List ℕ) (vertex place : ℕ) → place_of slots vertex ≡ Some place →
    vertex < length slots
has_slot [] vertex place at = absurd cc
has_slot (number ∷ slots) zero place at = omega arith
has_slot (number ∷ slots) (suc vertex) place at =
    omega (arith, has_slot slots vertex place at)

-- each row that is left is still one vertex's
dropped_side : (slots : List ℕ) (count vertex : ℕ) → vertex < length slots →
    IsSide slots count → place_of slots vertex ≡ Some (count - 1) →
    IsSide (slice_set slots vertex 0) (count - 1)
dropped_side slots count vertex within is last = record {
  within = λ each place at.
      let kept = kept_slot slots vertex each place within at in
      below each place kept.0 kept.1;
  once = λ first second place one other.
      is.once first second place (kept_slot slots vertex first place within one).1
      (kept_slot slots vertex second place within other).1;
}
  where
    below : (each place : ℕ) → (vertex ≡ each → ⊥) → place_of slots each ≡ Some place →
        place < count - 1
    below each place apart at = by (nat_lt place (count - 1)) refl
      where
        by : (b : Bool) → nat_lt place (count - 1) ≡ b → place < count - 1
        by true under = ltb-true place (count - 1) under
        by false over =
            let same : place ≡ count - 1 =
            omega (arith, is.within each place at, ltb-false place (count - 1) over) in
            absurd (apart (is.once vertex each (count - 1) last (at ∙ ap Some same)))

-- and each vertex has the edges that it had
dropped_rows : (slots : List ℕ) (rows : List RowValue) (vertex : ℕ) → vertex < length slots →
    IsSide slots (length rows) → IsBareAt slots rows (length rows - 1) vertex →
    KeepsRows slots rows (slice_set slots vertex 0) (take (length rows - 1) rows)
dropped_rows slots rows vertex within is bare =
    same_rows slots (slice_set slots vertex 0) rows (take (length rows - 1) rows)
    (λ each. by each (place_of (slice_set slots vertex 0) each) refl (vertex == each) refl)
  where
    by : (each : ℕ) (found : Option ℕ) → place_of (slice_set slots vertex 0) each ≡ found →
        (b : Bool) → (vertex == each) ≡ b →
        entries_at (take (length rows - 1) rows) (place_of (slice_set slots vertex 0) each)
        ≡ entries_at rows (place_of slots each)
    by each found at true here =
        let same = eqb-true vertex each here in
        ap (λ n. entries_at (take (length rows - 1) rows) (place_of (slice_set slots vertex 0) n))
        (sym same)
        ∙ ap (entries_at (take (length rows - 1) rows)) (slot_gone slots vertex within)
        ∙ sym bare.bare
        ∙ sym (ap (entries_at rows) (ap (place_of slots) (sym same) ∙ bare.there))
    by each None at false apart =
        ap (entries_at (take (length rows - 1) rows)) at
        ∙ ap (entries_at rows) (sym at ∙ slot_kept slots vertex each (eqb-false vertex each apart))
    by each (Some place) at false apart =
        let kept = slot_kept slots vertex each (eqb-false vertex each apart) in
        let low = (dropped_side slots (length rows) vertex within is bare.there).within each place at in
        ap (entries_at (take (length rows - 1) rows)) at
        ∙ ap (λ (row : RowValue). row.entries) (get_or-take (length rows - 1) rows place no_row low)
        ∙ ap (entries_at rows) (sym at ∙ kept)

-- both, of the rows that are left
pub dropped : (slots : List ℕ) (rows left : List RowValue) (vertex count : ℕ) →
    count ≡ length rows → left ≡ take (count - 1) rows → IsSide slots (length rows) →
    IsBareAt slots rows (length rows - 1) vertex →
    IsSide (slice_set slots vertex 0) (length left)
    × KeepsRows slots rows (slice_set slots vertex 0) left
dropped slots rows left vertex count whole rest is bare = (
  subst (IsSide (slice_set slots vertex 0))
      (sym (ap length those ∙ length-take-le (length rows - 1) rows (omega arith)))
      (dropped_side slots (length rows) vertex within is bare.there),
  subst (λ (after : List RowValue). KeepsRows slots rows (slice_set slots vertex 0) after)
      (sym those) (dropped_rows slots rows vertex within is bare),
)
  where
    within : vertex < length slots
    within = has_slot slots vertex (length rows - 1) bare.there

    those : left ≡ take (length rows - 1) rows
    those = rest ∙ ap (λ n. take (n - 1) rows) whole

-- rows that hold what they held write the same
pub writes_same : (old mid new : List (List (HalfEdge × ℕ))) (vertex : ℕ) (half : HalfEdge)
    (value : Option ℕ) → Writes old mid vertex half value → HasSameRows mid new →
    Writes old new vertex half value
writes_same old mid new vertex half value writes same each other =
    ap (lookup (same_half other)) (same each) ∙ writes each other
