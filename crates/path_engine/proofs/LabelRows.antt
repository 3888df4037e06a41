-- The table of labels: how it is made, and what it says of the edges of entries.
use Rattle.std.proofs.Common.{◌≡◌, ℕ, ◌+◌, ◌<◌, Bool, true, false, cond, List, [], ◌∷◌, ◌++◌}
use Rattle.std.proofs.Common.{length, get_or, slice_index_or, take, Option, Some, None, option_map}
use Rattle.std.proofs.Common.{Vec, Global, refl, sym, ap, subst, ◌∙◌, ◌⊎◌, inl, inr, ⊎_elim, arith}
use Rattle.std.specs.Prelude.{Contains}
use Rattle.std.specs.BTreeMap.{IsEmpty, get, is_at}
use Rattle.std.specs.Map.{lookup}
use Rattle.std.specs.List.{All, position}
use Rattle.std.specs.Ordering.{is_eq}
use Rattle.std.proofs.lemmas.Bool.{false≢true}
use Rattle.std.proofs.lemmas.Cmp.{tied_itself}
use Rattle.std.proofs.lemmas.List.{get_or-map, take_more}
use Rattle.std.proofs.lemmas.List.Elements.{All-push, Contains-get_or}
use Rattle.std.proofs.lemmas.Option.{none-some, same_Some}
use Rattle.rpq_base.specs.Order.{label_cmp}
use Rattle.rpq_base.specs.Same.{same_label}
use Rattle.rpq_base.specs.declared.data.Act.TheVariants.{Insert, Delete}
use Rattle.rpq_base.specs.declared.data.Edge.{Edge}
use Rattle.rpq_base.specs.declared.data.Label.{Label}
use Rattle.rpq_base.proofs.InOrder.{is_equal}
use Rattle.rpq_base.proofs.Members.{next_one}
use Rattle.rpq_base.proofs.Orders.{label_cmp_exact, label_cmp_total}
use Rattle.rpq_base.proofs.Places.{label_at_place, no_place}
use Rattle.dfa_table.specs.DfaValue.{DfaValue, place_of}
use Rattle.index_laws.specs.Numbered.{AreNumbersOf}
use Rattle.query_file.specs.Compiled.{CompiledValue}
use Rattle.path_engine.specs.declared.ends.EdgeNumbers.{EdgeNumbers}
use Rattle.path_engine.specs.Ends.{AreEndsForEach, AreEndsIn, AreEndsOf}
use Rattle.path_engine.specs.Labels.{AddsRows, AreRows, IsStrange, IsTableOf, Table, row_at, row_for}

abbrev items_of : Option (Vec (Option ℕ) Global) → Option (List (Option ℕ))
items_of row = option_map (λ (each : Vec (Option ℕ) Global). each.items) row

-- ---- a table that is made

pub no_row : (table : Table) (label : Label) → IsEmpty table → row_at table label ≡ None
no_row table label empty =
    ap (λ (entries : List (Label × Vec (Option ℕ) Global)).
    items_of (lookup (is_at (label_cmp label)) entries)) empty

pub no_rows_yet : (queries : List CompiledValue) (table : Table) → IsEmpty table →
    AreRows queries table
no_rows_yet queries table empty = record {
  are = λ label row is. absurd (none-some row (sym (no_row table label empty) ∙ is));
  known = λ label row is strange. none-some row (sym (no_row table label empty) ∙ is);
}

pub none_added : (queries : List CompiledValue) (table : Table) → AddsRows queries [] table table
none_added queries table = record {
  rows = λ are. are;
  kept = λ label none. none;
  added = λ label none member. absurd (omega (arith, member.1));
}

-- what a label has after a row was put, by whether it is that row's label
after_put : (test : Bool) (row : Vec (Option ℕ) Global) (old new : Option (Vec (Option ℕ) Global)) →
    new ≡ cond test (Some row) old →
    ((test ≡ true) × (items_of new ≡ Some row.items)) ⊎ (items_of new ≡ items_of old)
after_put true row old new is = inl (refl, ap items_of is)
after_put false row old new is = inr (ap items_of is)

-- and the label itself
put_here : (test : Bool) (row : Vec (Option ℕ) Global) (old new : Option (Vec (Option ℕ) Global)) →
    test ≡ true → new ≡ cond test (Some row) old → items_of new ≡ Some row.items
put_here true row old new holds is = ap items_of is
put_here false row old new holds is = absurd (false≢true holds)

key_is : (key label : Label) → is_at (label_cmp key) label ≡ true → key ≡ label
key_is key label same =
    label_cmp_exact key label (is_equal (label_cmp key label) same)

is_key : (key label : Label) → key ≡ label → is_at (label_cmp key) label ≡ true
is_key key label same =
    ap (λ (each : Label). is_eq (label_cmp key each)) (sym same)
    ∙ ap is_eq (tied_itself label_cmp_total key)

-- one row more
module _ (queries : List CompiledValue) (key : Label) (row : Vec (Option ℕ) Global)
    (old new : Table) (is_row : row.items ≡ row_for queries key)
    (known : IsStrange queries key → ⊥)
    (put : (label : Label) → get label_cmp new label
    ≡ cond (is_at (label_cmp key) label) (Some row) (get label_cmp old label)) where
  cases : (label : Label) →
      ((is_at (label_cmp key) label ≡ true) × (row_at new label ≡ Some row.items))
      ⊎ (row_at new label ≡ row_at old label)
  cases label =
      after_put (is_at (label_cmp key) label) row (get label_cmp old label)
      (get label_cmp new label) (put label)

  row_put : AreRows queries old → AreRows queries new
  row_put rows = record {
    are = λ label found is. ⊎_elim
        (λ here.
        same_Some found row.items (sym is ∙ here.1)
        ∙ (is_row ∙ ap (row_for queries) (key_is key label here.0)))
        (λ other. rows.are label found (sym other ∙ is))
        (cases label);
    known = λ label found is strange. ⊎_elim
        (λ here. known (subst (IsStrange queries) (sym (key_is key label here.0)) strange))
        (λ other. rows.known label found (sym other ∙ is) strange)
        (cases label);
  }

  none_before : (label : Label) → row_at new label ≡ None → row_at old label ≡ None
  none_before label none = ⊎_elim
      (λ here. absurd (none-some row.items (sym none ∙ here.1)))
      (λ other. sym other ∙ none)
      (cases label)

  pub one_added : (labels : List Label) (place : ℕ) (first : Table) → place < length labels →
      key ≡ get_or labels place key → AddsRows queries (take place labels) first old →
      AddsRows queries (take (place + 1) labels) first new
  one_added labels place first inside is so_far = record {
    rows = λ are. row_put (so_far.rows are);
    kept = λ label none. so_far.kept label (none_before label none);
    added = λ label none member. ⊎_elim
        (λ before. so_far.added label (none_before label none) before)
        (λ same. none-some row.items (sym none
        ∙ put_here (is_at (label_cmp key) label) row (get label_cmp old label)
        (get label_cmp new label) (is_key key label same) (put label)))
        ((next_one labels place key inside is).cases label member);
  }

-- one label more
pub label_added : (queries : List CompiledValue) (labels : List Label) (place : ℕ)
    (label key : Label) (row : Vec (Option ℕ) Global) (first old new : Table) →
    place < length labels → label ≡ get_or labels place label → key ≡ label →
    row.items ≡ row_for queries label →
    All (λ (each : Label). IsStrange queries each → ⊥) labels →
    ((each : Label) → get label_cmp new each
    ≡ cond (is_at (label_cmp key) each) (Some row) (get label_cmp old each)) →
    AddsRows queries (take place labels) first old →
    AddsRows queries (take (place + 1) labels) first new
label_added queries labels place label key row first old new inside is same row_is known put
    so_far =
    one_added queries label row old new row_is
    (subst (λ (each : Label). IsStrange queries each → ⊥) (sym {A = Label} is)
    (known place label inside))
    (subst (λ (other : Label). (each : Label) → get label_cmp new each
    ≡ cond (is_at (label_cmp other) each) (Some row) (get label_cmp old each)) same put)
    labels place first inside is so_far

-- ---- the queries, one after another

lacks_by : (found : Option ℕ) (labels : List Label) (label : Label) →
    position (λ each. same_label each label) labels ≡ found → (Contains labels label → ⊥) →
    found ≡ None
lacks_by None labels label is never = refl
lacks_by (Some place) labels label is never =
    let here = label_at_place labels label place is in
    absurd (never (place, here.0, here.1))

-- an automaton lacks a label that isn't among its labels
lacks : (dfa : DfaValue) (label : Label) → (Contains dfa.labels label → ⊥) →
    place_of dfa label ≡ None
lacks dfa label never = lacks_by (place_of dfa label) dfa.labels label refl never

-- the labels of a query's automaton aren't strange
pub none_strange : (queries : List CompiledValue) (place : ℕ) (query : CompiledValue)
    (labels : List Label) → place < length queries → query ≡ get_or queries place query →
    labels ≡ query.dfa.labels → All (λ (label : Label). IsStrange queries label → ⊥) labels
none_strange queries place query labels inside is labels_are = λ k d below strange.
    let label = get_or labels k d in
    let member : Contains query.dfa.labels label =
    subst (λ (all : List Label). Contains all label) labels_are
    (Contains-get_or labels k d below) in
    let none : place_of query.dfa label ≡ None =
    subst (λ (each : CompiledValue). place_of each.dfa label ≡ None) (sym {A = CompiledValue} is)
    (strange place query inside) in
    no_place query.dfa.labels label none member

-- the rows of a query's labels came to those of the queries before it
pub query_added : (queries : List CompiledValue) (place : ℕ) (query : CompiledValue)
    (labels : List Label) (old new : Table) → place < length queries →
    query ≡ get_or queries place query → labels ≡ query.dfa.labels →
    AddsRows queries labels old new →
    ((label : Label) → row_at old label ≡ None → IsStrange (take place queries) label) →
    (label : Label) → row_at new label ≡ None → IsStrange (take (place + 1) queries) label
query_added queries place query labels old new inside is labels_are added so_far label none =
    let lacking : place_of query.dfa label ≡ None =
    lacks query.dfa label (λ member. added.added label none
    (subst (λ (all : List Label). Contains all label) (sym {A = List Label} labels_are) member)) in
    let more : take (place + 1) queries ≡ take place queries ++ query ∷ [] =
    take_more queries place query inside
    ∙ ap (λ (each : CompiledValue). take place queries ++ each ∷ []) (sym {A = CompiledValue} is) in
    subst (λ (all : List CompiledValue). IsStrange all label) (sym {A = List CompiledValue} more)
    (All-push (λ (each : CompiledValue). place_of each.dfa label ≡ None) (take place queries) query
    (so_far label (added.kept label none)) lacking)

-- ---- the edges of entries

module _ (queries : List CompiledValue) (table : Table) (is : IsTableOf queries table)
    (names : List (List ℕ)) (edge : Edge) where
  -- the label has no row
  strange_to : row_at table edge.label ≡ None → (number : ℕ) (query : CompiledValue) →
      number < length queries → query ≡ get_or queries number query →
      place_of query.dfa edge.label ≡ None
  strange_to none number query inside query_is =
      subst (λ (each : CompiledValue). place_of each.dfa edge.label ≡ None)
      (sym {A = CompiledValue} query_is) (is.others edge.label none number query inside)

  pub strange_insert : (until : Option ℕ) → row_at table edge.label ≡ None →
      AreEndsForEach names queries (Insert edge until) None
  strange_insert until none = λ number query inside query_is.
      strange_to none number query inside query_is

  pub strange_delete : row_at table edge.label ≡ None →
      AreEndsForEach names queries (Delete edge) None
  strange_delete none = λ number query inside query_is id has.
      let both : Some id.label ≡ None =
      sym has.label ∙ strange_to none number query inside query_is in absurd cc

  -- the label has this row
  ends_in : (row : List (Option ℕ)) (ends : EdgeNumbers) → row_at table edge.label ≡ Some row →
      AreEndsOf names edge row ends → (number : ℕ) (query : CompiledValue) →
      number < length queries → query ≡ get_or queries number query →
      AreEndsIn names number query.dfa edge ends
  ends_in row ends row_is are number query inside query_is = record {
    from = are.from;
    to = are.to;
    label = ap (λ (numbers : List (Option ℕ)). slice_index_or numbers number None)
        (are.labels ∙ is.rows.are edge.label row row_is)
        ∙ (get_or-map (λ (each : CompiledValue). place_of each.dfa edge.label) queries number query
        None inside
        ∙ ap (λ (each : CompiledValue). place_of each.dfa edge.label)
        (sym {A = CompiledValue} query_is));
  }

  pub known_insert : (until : Option ℕ) (row : List (Option ℕ)) (ends : EdgeNumbers) →
      row_at table edge.label ≡ Some row → AreEndsOf names edge row ends →
      AreEndsForEach names queries (Insert edge until) (Some ends)
  known_insert until row ends row_is are = λ number query inside query_is.
      ends_in row ends row_is are number query inside query_is

  pub known_delete : (row : List (Option ℕ)) (ends : EdgeNumbers) →
      row_at table edge.label ≡ Some row → AreEndsOf names edge row ends →
      AreEndsForEach names queries (Delete edge) (Some ends)
  known_delete row ends row_is are = λ number query inside query_is.
      ends_in row ends row_is are number query inside query_is

-- a vertex has no number
pub unnumbered_delete : (queries : List CompiledValue) (names : List (List ℕ)) (edge : Edge) →
    ((root vertex : ℕ) → AreNumbersOf names edge.from edge.to root vertex → ⊥) →
    AreEndsForEach names queries (Delete edge) None
unnumbered_delete queries names edge never = λ number query inside query_is id has.
    never id.from id.to (has.from, has.to)
