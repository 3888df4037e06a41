-- The sources of a vertex, source by source.
use Rattle.std.proofs.Common.{◌≡◌, ℕ, ◌+◌, ◌<◌, ◌≤◌, Bool, true, false, cond, List, [], ◌∷◌, ◌++◌, length, map, filter, take, refl, sym, ap, subst, ◌∙◌, arith}
use Rattle.std.specs.Prelude.{All, flat_map, get_or}
use Rattle.std.specs.List.{AllByRecursion}
use Rattle.std.specs.Map.{values_of}
use Rattle.std.specs.Global.{Global}
use Rattle.std.specs.declared.sync.Arc.{Arc}
use Rattle.shared_map.specs.Chunks.{entries_of}
use Rattle.std.specs.Ordering.{ordering_reverse}
use Rattle.std.specs.declared.cmp.Ordering.TheVariants.{Less}
use Rattle.std.proofs.lemmas.Cmp.{nat_list_cmp_total}
use Rattle.std.proofs.lemmas.List.{append-nil, get_or-map, length-map, map-append, length-append, take_more}
use Rattle.std.proofs.lemmas.List.Concat.{flat_map-append, get_or-flat_map}
use Rattle.std.proofs.lemmas.List.Folds.{length-flat_map-take}
use Rattle.std.proofs.lemmas.List.Elements.{All-get_or, filter-append}
use Rattle.std.proofs.lemmas.Map.Keys.{sorted_head, sorted_tail}
use Rattle.rpq_base.specs.Order.{name_cmp}
use Rattle.rpq_base.specs.Same.{same_name}
use Rattle.rpq_base.proofs.Equality.{names}
use Rattle.answer_rows.specs.Answers.{Answer, AreTargets, has_target, sources_of}
use Rattle.answer_rows.specs.BySource.{BySource, answer, answers, IsHeldRow}
use Rattle.answer_rows.specs.Listing.{source_line}
use Rattle.answer_rows.specs.declared.target.Target.{Target}
use Rattle.answer_rows.proofs.Places.{to_of, apart_greater}

pub sources_append : (rows others : List Answer) (to : List ℕ) →
    sources_of (rows ++ others) to ≡ sources_of rows to ++ sources_of others to
sources_append rows others to =
    let test : Answer → Bool = λ each. same_name each.to to in
    let from_of : Answer → List ℕ = λ each. each.from in
    ap (map from_of) (filter-append test rows others) ∙ map-append from_of (filter test rows) (filter test others)

-- names above another don't have it among them
none_above : (to : List ℕ) (row : List Target) → AllByRecursion (λ each. name_cmp to each ≡ Less) (map to_of row) →
    has_target row to ≡ false
none_above to [] above = refl
none_above to (first ∷ rest) above =
    rw (apart_greater first.to to (nat_list_cmp_total.antisymm first.to to ∙ ap ordering_reverse above.0)) (none_above to rest above.1)

-- a source is one of a vertex where its row has it
pub one_source : (from to : List ℕ) (row : List Target) → AreTargets row →
    sources_of (map (answer from) row) to ≡ cond (has_target row to) (from ∷ []) []
one_source from to [] sorted = refl
one_source from to (first ∷ rest) sorted =
    by (same_name first.to to) refl (one_source from to rest (sorted_tail name_cmp first.to (map to_of rest) sorted))
  where
    by : (same : Bool) → same_name first.to to ≡ same →
        sources_of (map (answer from) rest) to ≡ cond (has_target rest to) (from ∷ []) [] →
        sources_of (map (answer from) (first ∷ rest)) to ≡ cond (has_target (first ∷ rest) to) (from ∷ []) []
    by false e later = rw e later
    by true e later =
        let is : to ≡ first.to = sym ((names first.to to).0 e) in
        let none : has_target rest to ≡ false =
        ap (has_target rest) is ∙ none_above first.to rest (sorted_head name_cmp first.to (map to_of rest) sorted) in
        let rest_none : sources_of (map (answer from) rest) to ≡ [] =
        later ∙ ap (λ (there : Bool). cond there (from ∷ []) []) none in
        rw e (ap (λ (others : List (List ℕ)). from ∷ others) rest_none)

-- the sources of a vertex among more sources
pub more_sources : (sources more : BySource) (to : List ℕ) →
    sources_of (answers (sources ++ more)) to ≡ sources_of (answers sources) to ++ sources_of (answers more) to
more_sources sources more to =
    ap (λ (all : List Answer). sources_of all to)
    (flat_map-append (λ (source : List ℕ × List Target). map (answer source.0) source.1) sources more)
    ∙ sources_append (answers sources) (answers more) to

-- one source more
pub next_source : (sources : BySource) (from to : List ℕ) (row : List Target) → AreTargets row →
    sources_of (answers (sources ++ (from, row) ∷ [])) to
    ≡ sources_of (answers sources) to ++ cond (has_target row to) (from ∷ []) []
next_source sources from to row sorted =
    more_sources sources ((from, row) ∷ []) to
    ∙ ap (λ (more : List (List ℕ)). sources_of (answers sources) to ++ more)
    (sources_append (map (answer from) row) [] to ∙ append-nil (sources_of (map (answer from) row) to) ∙ one_source from to row sorted)

-- the row of a source among those with rows in order
pub row_at : (sources : BySource) (index : ℕ) (source : List ℕ × List Target) → index < length sources →
    source ≡ get_or sources index source → All AreTargets (values_of sources) → AreTargets source.1
row_at sources index source within is all =
    let many : index < length (values_of sources) = rw (length-map sources (λ (each : List ℕ × List Target). each.1)) within in
    let same : get_or (values_of sources) index source.1 ≡ source.1 =
    get_or-map (λ (each : List ℕ × List Target). each.1) sources index source source.1 within
    ∙ ap (λ (each : List ℕ × List Target). each.1) (sym is) in
    subst AreTargets same (All-get_or AreTargets (values_of sources) index source.1 many all)

-- the sources of a vertex among one source more
pub one_more : (sources : BySource) (index : ℕ) (source : List ℕ × List Target) (to : List ℕ) → index < length sources →
    source ≡ get_or sources index source → AreTargets source.1 →
    sources_of (answers (take (index + 1) sources)) to
    ≡ sources_of (answers (take index sources)) to ++ cond (has_target source.1 to) (source.0 ∷ []) []
one_more sources index source to within is sorted =
    let one : take (index + 1) sources ≡ take index sources ++ source ∷ [] =
    take_more sources index source within
    ∙ ap (λ (each : List ℕ × List Target). take index sources ++ each ∷ []) (sym is) in
    ap (λ (all : BySource). sources_of (answers all) to) one
    ∙ next_source (take index sources) source.0 to source.1 sorted

one_counted : (there : Bool) (from : List ℕ) → length (cond there (from ∷ []) []) ≡ cond there 1 0
one_counted true from = refl
one_counted false from = refl

pub counted_more : (sources : BySource) (index : ℕ) (source : List ℕ × List Target) (to : List ℕ) → index < length sources →
    source ≡ get_or sources index source → AreTargets source.1 →
    length (sources_of (answers (take (index + 1) sources)) to)
    ≡ length (sources_of (answers (take index sources)) to) + cond (has_target source.1 to) 1 0
counted_more sources index source to within is sorted =
    ap (λ (all : List (List ℕ)). length all) (one_more sources index source to within is sorted)
    ∙ length-append (sources_of (answers (take index sources)) to) (cond (has_target source.1 to) (source.0 ∷ []) [])
    ∙ ap (λ (n : ℕ). length (sources_of (answers (take index sources)) to) + n) (one_counted (has_target source.1 to) source.0)

pub at_most_one : (there : Bool) → cond there 1 0 ≤ 1
at_most_one true = omega arith
at_most_one false = omega arith

one_written : (there : Bool) (from : List ℕ) →
    flat_map source_line (cond there (from ∷ []) []) ≡ cond there (source_line from) []
one_written true from = append-nil (source_line from)
one_written false from = refl

pub written_more : (sources : BySource) (index : ℕ) (source : List ℕ × List Target) (to : List ℕ) → index < length sources →
    source ≡ get_or sources index source → AreTargets source.1 →
    flat_map source_line (sources_of (answers (take (index + 1) sources)) to)
    ≡ flat_map source_line (sources_of (answers (take index sources)) to) ++ cond (has_target source.1 to) (source_line source.0) []
written_more sources index source to within is sorted =
    let before = sources_of (answers (take index sources)) to in
    ap (flat_map source_line) (one_more sources index source to within is sorted)
    ∙ flat_map-append source_line before (cond (has_target source.1 to) (source.0 ∷ []) [])
    ∙ ap (λ (more : List ℕ). flat_map source_line before ++ more) (one_written (has_target source.1 to) source.0)

-- ---- in chunks

-- the rows of a chunk are in order
pub chunk_rows : (chunks : List (Arc (List (List ℕ × List Target)) Global)) (index : ℕ)
    (chunk : Arc (List (List ℕ × List Target)) Global) → index < length chunks → chunk ≡ get_or chunks index chunk →
    All IsHeldRow (values_of (entries_of chunks)) → All AreTargets (values_of chunk.value)
chunk_rows chunks index chunk within is all = λ place row below.
    let source : List ℕ × List Target = ([], row) in
    let value : Arc (List (List ℕ × List Target)) Global → List (List ℕ × List Target) = λ each. each.value in
    let row_of : List ℕ × List Target → List Target = λ each. each.1 in
    let front : ℕ = length (entries_of (take index chunks)) in
    let there : place < length chunk.value = rw (← length-map chunk.value row_of) below in
    let there_too : place < length (value (get_or chunks index chunk)) =
    subst (λ (each : Arc (List (List ℕ × List Target)) Global). place < length each.value) is there in
    let fits : front + length (value (get_or chunks index chunk)) ≤ length (entries_of chunks) =
    length-flat_map-take value chunks index chunk within in
    let far : front + place < length (entries_of chunks) = omega (arith, fits, there_too) in
    let far_too : front + place < length (values_of (entries_of chunks)) = rw (length-map (entries_of chunks) row_of) far in
    let here : get_or (values_of chunk.value) place row ≡ get_or (values_of (entries_of chunks)) (front + place) row =
    get_or-map row_of chunk.value place source row there
    ∙ ap (λ (each : Arc (List (List ℕ × List Target)) Global). row_of (get_or each.value place source)) is
    ∙ ap row_of (sym (get_or-flat_map value chunks index place chunk source within there_too))
    ∙ sym (get_or-map row_of (entries_of chunks) (front + place) source row far) in
    subst AreTargets (sym here) (All-get_or IsHeldRow (values_of (entries_of chunks)) (front + place) row far_too all).sorted
