-- Edits of entries that stand between others.
use Rattle.std.proofs.Common.{◌≡◌, Bool, true, false, cond, List, [], ◌∷◌, ◌++◌, Option, Some, None, Ordering, refl, ap, ◌∙◌}
use Rattle.std.specs.Prelude.{All}
use Rattle.std.specs.BTreeMap.{insert_entry, is_at}
use Rattle.std.specs.Map.{lookup, remove_entry, set_value}
use Rattle.std.specs.Ordering.{is_eq, match_ordering}
use Rattle.std.specs.declared.cmp.Ordering.TheVariants.{Less, Equal, Greater}
use Rattle.std.proofs.lemmas.List.Elements.{All-head, All-tail, All-weaker}
use Rattle.shared_map.specs.Chunks.{IsAbove, IsBelow}

-- the test passes at no key of the entries
abbrev pub Misses : {K V : Type 0} → (K → Bool) → List (K × V) → Type 0
Misses test entries = All (λ entry. test entry.0 ≡ false) entries

pub misses_above : {K V : Type 0} (cmp : K → K → Ordering) (key : K) (entries : List (K × V)) →
    IsAbove cmp key entries → Misses (is_at (cmp key)) entries
misses_above {K} {V} cmp key entries above =
    All-weaker (λ (each : K × V). cmp key each.0 ≡ Greater)
    (λ (each : K × V). is_at (cmp key) each.0 ≡ false) (λ each is. ap is_eq is) entries above

pub misses_below : {K V : Type 0} (cmp : K → K → Ordering) (key : K) (entries : List (K × V)) →
    IsBelow cmp key entries → Misses (is_at (cmp key)) entries
misses_below {K} {V} cmp key entries below =
    All-weaker (λ (each : K × V). cmp key each.0 ≡ Less)
    (λ (each : K × V). is_at (cmp key) each.0 ≡ false) (λ each is. ap is_eq is) entries below

-- ---- an insertion

pub insert_past : {K V : Type 0} (cmp : K → K → Ordering) (key : K) (value : V)
    (before others : List (K × V)) → IsAbove cmp key before →
    insert_entry cmp (before ++ others) key value ≡ before ++ insert_entry cmp others key value
insert_past cmp key value [] others above = refl
insert_past {K} {V} cmp key value (entry ∷ rest) others above =
    rw (All-head (λ (each : K × V). cmp key each.0 ≡ Greater) entry rest above)
    (ap (λ (all : List (K × V)). entry ∷ all) (insert_past cmp key value rest others
    (All-tail (λ (each : K × V). cmp key each.0 ≡ Greater) entry rest above)))

insert_step : {K V : Type 0} (cmp : K → K → Ordering) (order : Ordering) (key : K) (value : V)
    (entry : K × V) (rest behind : List (K × V)) →
    insert_entry cmp (rest ++ behind) key value ≡ insert_entry cmp rest key value ++ behind →
    match_ordering order ((key, value) ∷ entry ∷ (rest ++ behind)) ((entry.0, value) ∷ (rest ++ behind))
    (entry ∷ insert_entry cmp (rest ++ behind) key value)
    ≡ match_ordering order ((key, value) ∷ entry ∷ rest) ((entry.0, value) ∷ rest)
    (entry ∷ insert_entry cmp rest key value) ++ behind
insert_step cmp Less key value entry rest behind further = refl
insert_step cmp Equal key value entry rest behind further = refl
insert_step {K} {V} cmp Greater key value entry rest behind further =
    ap (λ (all : List (K × V)). entry ∷ all) further

pub insert_before : {K V : Type 0} (cmp : K → K → Ordering) (key : K) (value : V)
    (here behind : List (K × V)) → IsBelow cmp key behind →
    insert_entry cmp (here ++ behind) key value ≡ insert_entry cmp here key value ++ behind
insert_before cmp key value [] [] below = refl
insert_before {K} {V} cmp key value [] (entry ∷ rest) below =
    rw (All-head (λ (each : K × V). cmp key each.0 ≡ Less) entry rest below) refl
insert_before cmp key value (entry ∷ rest) behind below =
    insert_step cmp (cmp key entry.0) key value entry rest behind
    (insert_before cmp key value rest behind below)

pub insert_between : {K V : Type 0} (cmp : K → K → Ordering) (key : K) (value : V)
    (before here behind : List (K × V)) → IsAbove cmp key before → IsBelow cmp key behind →
    insert_entry cmp (before ++ (here ++ behind)) key value
    ≡ before ++ (insert_entry cmp here key value ++ behind)
insert_between {K} {V} cmp key value before here behind above below =
    insert_past cmp key value before (here ++ behind) above
    ∙ ap (λ (all : List (K × V)). before ++ all) (insert_before cmp key value here behind below)

-- ---- a removal

pub remove_past : {K V : Type 0} (test : K → Bool) (before others : List (K × V)) →
    Misses test before → remove_entry test (before ++ others) ≡ before ++ remove_entry test others
remove_past test [] others misses = refl
remove_past {K} {V} test (entry ∷ rest) others misses =
    rw (All-head (λ (each : K × V). test each.0 ≡ false) entry rest misses)
    (ap (λ (all : List (K × V)). entry ∷ all) (remove_past test rest others
    (All-tail (λ (each : K × V). test each.0 ≡ false) entry rest misses)))

pub nothing_removed : {K V : Type 0} (test : K → Bool) (entries : List (K × V)) →
    Misses test entries → remove_entry test entries ≡ entries
nothing_removed test [] misses = refl
nothing_removed {K} {V} test (entry ∷ rest) misses =
    rw (All-head (λ (each : K × V). test each.0 ≡ false) entry rest misses)
    (ap (λ (all : List (K × V)). entry ∷ all) (nothing_removed test rest
    (All-tail (λ (each : K × V). test each.0 ≡ false) entry rest misses)))

remove_step : {K V : Type 0} (passes : Bool) (entry : K × V) (rest behind all less : List (K × V)) →
    all ≡ less ++ behind →
    cond passes (rest ++ behind) (entry ∷ all) ≡ cond passes rest (entry ∷ less) ++ behind
remove_step true entry rest behind all less further = refl
remove_step {K} {V} false entry rest behind all less further =
    ap (λ (others : List (K × V)). entry ∷ others) further

pub remove_before : {K V : Type 0} (test : K → Bool) (here behind : List (K × V)) →
    Misses test behind → remove_entry test (here ++ behind) ≡ remove_entry test here ++ behind
remove_before test [] behind misses = nothing_removed test behind misses
remove_before test (entry ∷ rest) behind misses =
    remove_step (test entry.0) entry rest behind (remove_entry test (rest ++ behind))
    (remove_entry test rest) (remove_before test rest behind misses)

pub remove_between : {K V : Type 0} (cmp : K → K → Ordering) (key : K)
    (before here behind : List (K × V)) → IsAbove cmp key before → IsBelow cmp key behind →
    remove_entry (is_at (cmp key)) (before ++ (here ++ behind))
    ≡ before ++ (remove_entry (is_at (cmp key)) here ++ behind)
remove_between {K} {V} cmp key before here behind above below =
    remove_past (is_at (cmp key)) before (here ++ behind) (misses_above cmp key before above)
    ∙ ap (λ (all : List (K × V)). before ++ all)
    (remove_before (is_at (cmp key)) here behind (misses_below cmp key behind below))

-- ---- a look-up

pub look_past : {K V : Type 0} (test : K → Bool) (before others : List (K × V)) →
    Misses test before → lookup test (before ++ others) ≡ lookup test others
look_past test [] others misses = refl
look_past {K} {V} test (entry ∷ rest) others misses =
    rw (All-head (λ (each : K × V). test each.0 ≡ false) entry rest misses)
    (look_past test rest others (All-tail (λ (each : K × V). test each.0 ≡ false) entry rest misses))

pub nothing_found : {K V : Type 0} (test : K → Bool) (entries : List (K × V)) →
    Misses test entries → lookup test entries ≡ None
nothing_found test [] misses = refl
nothing_found {K} {V} test (entry ∷ rest) misses =
    rw (All-head (λ (each : K × V). test each.0 ≡ false) entry rest misses)
    (nothing_found test rest (All-tail (λ (each : K × V). test each.0 ≡ false) entry rest misses))

pub look_before : {K V : Type 0} (test : K → Bool) (here behind : List (K × V)) →
    Misses test behind → lookup test (here ++ behind) ≡ lookup test here
look_before test [] behind misses = nothing_found test behind misses
look_before {K} {V} test (entry ∷ rest) behind misses =
    ap (λ (found : Option V). cond (test entry.0) (Some entry.1) found)
    (look_before test rest behind misses)

pub look_between : {K V : Type 0} (cmp : K → K → Ordering) (key : K)
    (before here behind : List (K × V)) → IsAbove cmp key before → IsBelow cmp key behind →
    lookup (is_at (cmp key)) (before ++ (here ++ behind)) ≡ lookup (is_at (cmp key)) here
look_between cmp key before here behind above below =
    look_past (is_at (cmp key)) before (here ++ behind) (misses_above cmp key before above)
    ∙ look_before (is_at (cmp key)) here behind (misses_below cmp key behind below)

-- ---- a value written

pub set_past : {K V : Type 0} (test : K → Bool) (before others : List (K × V)) (value : V) →
    Misses test before →
    set_value test (before ++ others) value ≡ before ++ set_value test others value
set_past test [] others value misses = refl
set_past {K} {V} test (entry ∷ rest) others value misses =
    rw (All-head (λ (each : K × V). test each.0 ≡ false) entry rest misses)
    (ap (λ (all : List (K × V)). entry ∷ all) (set_past test rest others value
    (All-tail (λ (each : K × V). test each.0 ≡ false) entry rest misses)))

pub nothing_set : {K V : Type 0} (test : K → Bool) (entries : List (K × V)) (value : V) →
    Misses test entries → set_value test entries value ≡ entries
nothing_set test [] value misses = refl
nothing_set {K} {V} test (entry ∷ rest) value misses =
    rw (All-head (λ (each : K × V). test each.0 ≡ false) entry rest misses)
    (ap (λ (all : List (K × V)). entry ∷ all) (nothing_set test rest value
    (All-tail (λ (each : K × V). test each.0 ≡ false) entry rest misses)))

set_step : {K V : Type 0} (passes : Bool) (entry : K × V) (value : V)
    (rest behind all less : List (K × V)) → all ≡ less ++ behind →
    cond passes ((entry.0, value) ∷ (rest ++ behind)) (entry ∷ all)
    ≡ cond passes ((entry.0, value) ∷ rest) (entry ∷ less) ++ behind
set_step true entry value rest behind all less further = refl
set_step {K} {V} false entry value rest behind all less further =
    ap (λ (others : List (K × V)). entry ∷ others) further

pub set_before : {K V : Type 0} (test : K → Bool) (here behind : List (K × V)) (value : V) →
    Misses test behind →
    set_value test (here ++ behind) value ≡ set_value test here value ++ behind
set_before test [] behind value misses = nothing_set test behind value misses
set_before test (entry ∷ rest) behind value misses =
    set_step (test entry.0) entry value rest behind (set_value test (rest ++ behind) value)
    (set_value test rest value) (set_before test rest behind value misses)

pub set_between : {K V : Type 0} (cmp : K → K → Ordering) (key : K) (value : V)
    (before here behind : List (K × V)) → IsAbove cmp key before → IsBelow cmp key behind →
    set_value (is_at (cmp key)) (before ++ (here ++ behind)) value
    ≡ before ++ (set_value (is_at (cmp key)) here value ++ behind)
set_between {K} {V} cmp key value before here behind above below =
    set_past (is_at (cmp key)) before (here ++ behind) value (misses_above cmp key before above)
    ∙ ap (λ (all : List (K × V)). before ++ all)
    (set_before (is_at (cmp key)) here behind value (misses_below cmp key behind below))
