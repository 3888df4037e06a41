-- The rows of an automaton, and the table in which they stand one after another.
use Rattle.std.proofs.Common.{◌≡◌, ℕ, zero, suc, ◌+◌, ◌*◌, ◌<◌, List, [], ◌∷◌, ◌++◌, length, take, drop, get_or, map, Option, Some, None, refl, ap, sym, subst, ◌∙◌, arith}
use Rattle.std.specs.Prelude.{All, Bool, IfSome}
use Rattle.std.specs.List.{flat_map}
use Rattle.std.proofs.lemmas.List.{get_or-take, get_or-drop, get_or_read, drop-drop, take_at, drop_at, length-append, length-map}
use Rattle.std.proofs.lemmas.List.Elements.{All-head, All-tail}
use Rattle.rpq_base.specs.declared.data.Label.{Label}
use Rattle.dfa_table.specs.DfaValue.{DfaValue, IsDfa, step_of}
use Rattle.dfa_table.specs.Befores.{list_at, AreBefores}
use Rattle.dfa_table.specs.Table.{rows_of, value_of_table, IsTable}
use Rattle.dfa_table.proofs.Listed.{HasBefores, found_before}

-- there are as many rows as were asked for
pub length-rows_of : (count width : ℕ) (steps : List (Option ℕ)) → length (rows_of width count steps) ≡ count
length-rows_of zero width steps = refl
length-rows_of (suc count) width steps = ap (λ n. suc n) (length-rows_of count width (drop width steps))

-- a row is a part of the table
row_at : (count width state : ℕ) (steps : List (Option ℕ)) → state < count →
    get_or (rows_of width count steps) state [] ≡ take width (drop (state * width) steps)
row_at zero width state steps below = absurd (omega arith)
row_at (suc count) width zero steps below = let start : zero * width ≡ zero = omega arith in rw start refl
row_at (suc count) width (suc state) steps below =
    let fewer : state < count = omega arith in
    let place : width + state * width ≡ suc state * width = grind arith in
    row_at count width state (drop width steps) fewer
    ∙ ap (take width) (drop-drop (state * width) width steps ∙ ap (λ n. drop n steps) place)

-- a step is one entry of the table
pub step_at : (count width state place : ℕ) (steps : List (Option ℕ)) → state < count → place < width →
    get_or (get_or (rows_of width count steps) state []) place None ≡ get_or steps (state * width + place) None
step_at count width state place steps below within =
    ap (λ row. get_or row place None) (row_at count width state steps below)
    ∙ (get_or-take width (drop (state * width) steps) place None within ∙ get_or-drop (state * width) steps place None)

-- rows of one width that are put one after another are the rows of that table
pub rows_of_joined : {R : Type 0} (items : R → List (Option ℕ)) (rows : List R) (width : ℕ) → All (λ row. length row ≡ width) (map items rows) →
    rows_of width (length rows) (flat_map items rows) ≡ map items rows
rows_of_joined items [] width even = refl
rows_of_joined items (row ∷ rows) width even =
    let first = All-head (λ (each : List (Option ℕ)). length each ≡ width) (items row) (map items rows) even in
    let others = All-tail (λ (each : List (Option ℕ)). length each ≡ width) (items row) (map items rows) even in
    ap (λ rest. take width (items row ++ flat_map items rows) ∷ rows_of width (length rows) rest) (drop_at (items row) (flat_map items rows) width first)
    ∙ (ap (λ front. front ∷ rows_of width (length rows) (flat_map items rows)) (take_at (items row) (flat_map items rows) width first)
    ∙ ap (λ rest. items row ∷ rest) (rows_of_joined items rows width others))

-- and that table has all their places
pub length_joined : {R : Type 0} (items : R → List (Option ℕ)) (rows : List R) (width : ℕ) → All (λ row. length row ≡ width) (map items rows) →
    length (flat_map items rows) ≡ length rows * width
length_joined items [] width even = let start : 0 ≡ 0 * width = omega arith in start
length_joined items (row ∷ rows) width even =
    let first = All-head (λ (each : List (Option ℕ)). length each ≡ width) (items row) (map items rows) even in
    let others = All-tail (λ (each : List (Option ℕ)). length each ≡ width) (items row) (map items rows) even in
    let more : length (items row) + length (flat_map items rows) ≡ suc (length rows) * width = grind (arith, first, length_joined items rows width others) in
    length-append (items row) (flat_map items rows) ∙ more

-- an entry of the table that was read is the step
pub step_read : (labels : List Label) (steps : List (Option ℕ)) (finals : List Bool) (dfa : DfaValue) (state place : ℕ) (found : Option ℕ) →
    value_of_table labels steps finals ≡ dfa → length steps ≡ length finals * length labels → state < length dfa.rows → place < length labels →
    found ≡ get_or steps (state * length labels + place) found → found ≡ step_of dfa state place
step_read labels steps finals dfa state place found is whole below within read =
    let rows : length (rows_of (length labels) (length finals) steps) ≡ length finals = length-rows_of (length finals) (length labels) steps in
    let same : length (rows_of (length labels) (length finals) steps) ≡ length dfa.rows = ap (λ (d : DfaValue). length d.rows) is in
    let few : state < length finals = omega arith in
    let inside : state * length labels + place < length steps = grind arith in
    get_or_read steps (state * length labels + place) found inside read None
    ∙ (sym (step_at (length finals) (length labels) state place steps few within)
    ∙ ap (λ (d : DfaValue). step_of d state place) is)

-- a step leads to a state, and not to the start
pub lands : (found : Option ℕ) (dfa : DfaValue) (state place : ℕ) → IsDfa dfa → found ≡ step_of dfa state place →
    IfSome found (λ next. (0 < next) × (next < length dfa.rows))
lands None dfa state place valid is = tt
lands (Some next) dfa state place valid is = valid.targets state place next (sym is)

-- the automaton of the table in which these rows stand one after another
pub value_of_joined : {R : Type 0} (items : R → List (Option ℕ)) (labels : List Label) (rows : List R) (steps : List (Option ℕ)) (finals : List Bool) →
    All (λ row. length row ≡ length labels) (map items rows) → length finals ≡ length (map items rows) → steps ≡ flat_map items rows →
    value_of_table labels steps finals ≡ record { labels = labels; rows = map items rows; finals = finals }
value_of_joined items labels rows steps finals even as_many joined =
    let count : length finals ≡ length rows = as_many ∙ length-map rows items in
    let same : rows_of (length labels) (length finals) steps ≡ map items rows =
    ap (λ (n : ℕ). rows_of (length labels) n steps) count
    ∙ (ap (λ (s : List (Option ℕ)). rows_of (length labels) (length rows) s) joined
    ∙ rows_of_joined items rows (length labels) even) in
    λ i. record { labels = labels; rows = same i; finals = finals }

-- that table is one of an automaton where the rows are, with the states before each state
pub table_of_joined : {R : Type 0} (items : R → List (Option ℕ)) (labels : List Label) (rows : List R) (steps : List (Option ℕ)) (finals : List Bool) (befores : List (List (List ℕ))) →
    IsDfa (record { labels = labels; rows = map items rows; finals = finals }) → steps ≡ flat_map items rows → AreBefores (map items rows) (length labels) befores →
    IsTable labels steps finals befores
table_of_joined items labels rows steps finals befores valid joined are =
    let same = value_of_joined items labels rows steps finals valid.even valid.finals joined in
    record {
      whole = ap length joined ∙ (length_joined items rows (length labels) valid.even ∙ ap (λ n. n * length labels) (sym (valid.finals ∙ length-map rows items)));
      valid = subst IsDfa (sym same) valid;
      back = subst (λ (d : DfaValue). AreBefores d.rows (length labels) befores) (sym same) are;
    }

-- what a look-up finds among the states before each state
pub found_in_table : (labels : List Label) (steps : List (Option ℕ)) (finals : List Bool) (befores : List (List (List ℕ))) (dfa : DfaValue) (label state : ℕ) (list : List ℕ) →
    value_of_table labels steps finals ≡ dfa → IsTable labels steps finals befores → list ≡ list_at (get_or befores label []) state →
    HasBefores dfa.rows label state list
found_in_table labels steps finals befores dfa label state list is table found =
    subst (λ (d : DfaValue). HasBefores d.rows label state list) is
    (found_before (value_of_table labels steps finals).rows (length labels) befores label state list table.valid.even table.back found)
