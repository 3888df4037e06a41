use Rattle.std.proofs.Common.{rules, ◌≡◌, ◌<◌, ◌≤◌, List, length, Some, sym, ap, subst, ◌∙◌}
use Rattle.std.specs.BTreeMap.{is_at}
use Rattle.std.specs.List.Sorted.{IsStrictlySortedBy}
use Rattle.std.specs.Map.{keys_of, lookup}
use Rattle.shared_map.specs.Chunks.{IsChunkOf, entries_of}
use Rattle.shared_map.proofs.Listed.{Held, held_sorted, held_looked, held_looked_if, held_removed, held_kept, held_missing, held_emptied, same_place}
use Rattle.shared_map.proofs.Outcomes.{then_ok, then_err, some_not_none}
use Rattle.shared_map.proofs.list.take.Goals as goal

pub remove_from-requires-clause-sorted : goal.remove_from-requires-clause-sorted
remove_from-requires-clause-sorted g c =
    let place = c.chunk_of-place.result in
    let chunks = c.args.chunks.now.items in
    held_sorted g.K.Ord.cmp chunks place c.index_mut.result.now
    (subst (λ (all : List (Held g.row.K.Denot g.row.V.Denot)). 0 < length all → place < length all) c.deref.ensures.value
    c.chunk_of-place.ensures.within c.requires.some) c.index_mut.ensures.value c.requires.sorted

pub returns-then-len-gt1-clause-old : goal.returns-then-len-gt1-clause-old
returns-then-len-gt1-clause-old g c =
    let place = c.chunk_of-place.result in
    let chunks = c.args.chunks.now.items in
    held_looked_if g.K.Ord.cmp c.args.key.now chunks place c.index_mut.result.now
    (subst (λ (all : List (Held g.row.K.Denot g.row.V.Denot)). 0 < length all → place < length all) c.deref.ensures.value
    c.chunk_of-place.ensures.within c.requires.some) c.index_mut.ensures.value
    (subst (λ (all : List (Held g.row.K.Denot g.row.V.Denot)). IsChunkOf g.K.Ord.cmp c.args.key.now all place) c.deref.ensures.value
    c.chunk_of-place.ensures.place)
    c.remove_from.result c.remove_from.ensures.old

pub returns-then-len-gt1-clause-entries : goal.returns-then-len-gt1-clause-entries
returns-then-len-gt1-clause-entries g c =
    let place = c.chunk_of-place.result in
    let chunks = c.args.chunks.now.items in
    then_ok c.remove_from.result c.remove_from.ensures.entries
    (held_removed g.K.Ord.cmp c.args.key.now chunks place c.index_mut.result.now c.remove_from.new.chunk
    (subst (λ (all : List (Held g.row.K.Denot g.row.V.Denot)). 0 < length all → place < length all) c.deref.ensures.value
    c.chunk_of-place.ensures.within c.requires.some) c.index_mut.ensures.value
    (subst (λ (all : List (Held g.row.K.Denot g.row.V.Denot)). IsChunkOf g.K.Ord.cmp c.args.key.now all place) c.deref.ensures.value
    c.chunk_of-place.ensures.place))

pub returns-then-len-gt1-clause-unchanged : goal.returns-then-len-gt1-clause-unchanged
returns-then-len-gt1-clause-unchanged g c =
    let place = c.chunk_of-place.result in
    let chunks = c.args.chunks.now.items in
    then_err c.remove_from.result c.remove_from.ensures.unchanged
    (held_kept chunks place c.index_mut.result.now c.remove_from.new.chunk
    (subst (λ (all : List (Held g.row.K.Denot g.row.V.Denot)). 0 < length all → place < length all) c.deref.ensures.value
    c.chunk_of-place.ensures.within c.requires.some) c.index_mut.ensures.value)

pub get-requires : goal.get-requires
get-requires g c =
    let place = c.chunk_of-place.result in
    let chunks = c.args.chunks.now.items in
    subst (λ (entries : List (g.row.K.Denot × g.row.V.Denot)). IsStrictlySortedBy g.K.Ord.cmp (keys_of entries)) (sym c.deref-3.ensures)
    (held_sorted g.K.Ord.cmp chunks place c.index-2.result.now
    (subst (λ (all : List (Held g.row.K.Denot g.row.V.Denot)). 0 < length all → place < length all) c.deref.ensures.value
    c.chunk_of-place.ensures.within c.requires.some) c.index-2.ensures c.requires.sorted)

pub returns-in-None-clause-old : goal.returns-in-None-clause-old
returns-in-None-clause-old g c =
    let place = c.chunk_of-place.result in
    let chunks = c.args.chunks.now.items in
    c.in-None.ensures
    ∙ (ap (lookup (is_at (g.K.Ord.cmp c.args.key.now))) c.deref-3.ensures
    ∙ held_looked g.K.Ord.cmp c.args.key.now chunks place c.index-2.result.now
    (subst (λ (all : List (Held g.row.K.Denot g.row.V.Denot)). 0 < length all → place < length all) c.deref.ensures.value
    c.chunk_of-place.ensures.within c.requires.some) c.index-2.ensures
    (subst (λ (all : List (Held g.row.K.Denot g.row.V.Denot)). IsChunkOf g.K.Ord.cmp c.args.key.now all place) c.deref.ensures.value
    c.chunk_of-place.ensures.place))

pub returns-in-None-clause-entries : goal.returns-in-None-clause-entries
returns-in-None-clause-entries g c =
    let place = c.chunk_of-place.result in
    let chunks = c.args.chunks.now.items in
    held_missing g.K.Ord.cmp c.args.key.now chunks place c.index-2.result.now
    (subst (λ (all : List (Held g.row.K.Denot g.row.V.Denot)). 0 < length all → place < length all) c.deref.ensures.value
    c.chunk_of-place.ensures.within c.requires.some) c.index-2.ensures
    (subst (λ (all : List (Held g.row.K.Denot g.row.V.Denot)). IsChunkOf g.K.Ord.cmp c.args.key.now all place) c.deref.ensures.value
    c.chunk_of-place.ensures.place)
    (sym (c.in-None.ensures ∙ ap (lookup (is_at (g.K.Ord.cmp c.args.key.now))) c.deref-3.ensures))

pub returns-clause-old : goal.returns-clause-old
returns-clause-old g c =
    let place = c.chunk_of-place.result in
    let chunks = c.args.chunks.now.items in
    ap (λ (value : g.row.V.Denot). Some value) c.in_ok-old-in-Some.ensures
    ∙ (c.in-Some.ensures
    ∙ (ap (lookup (is_at (g.K.Ord.cmp c.args.key.now))) c.deref-3.ensures
    ∙ held_looked g.K.Ord.cmp c.args.key.now chunks place c.index-2.result.now
    (subst (λ (all : List (Held g.row.K.Denot g.row.V.Denot)). 0 < length all → place < length all) c.deref.ensures.value
    c.chunk_of-place.ensures.within c.requires.some) c.index-2.ensures
    (subst (λ (all : List (Held g.row.K.Denot g.row.V.Denot)). IsChunkOf g.K.Ord.cmp c.args.key.now all place) c.deref.ensures.value
    c.chunk_of-place.ensures.place)))

pub returns-clause-entries : goal.returns-clause-entries
returns-clause-entries g c =
    let place = c.chunk_of-place.result in
    let chunks = c.args.chunks.now.items in
    let within = subst (λ (all : List (Held g.row.K.Denot g.row.V.Denot)). 0 < length all → place < length all) c.deref.ensures.value
    c.chunk_of-place.ensures.within c.requires.some in
    let same : c.deref-2.result.now ≡ c.index-2.result.now.value =
    c.deref-2.ensures
    ∙ ap (λ (chunk : Held g.row.K.Denot g.row.V.Denot). chunk.value)
    (same_place chunks place c.index.result.now c.index-2.result.now within c.index.ensures c.index-2.ensures) in
    ap entries_of c.remove.ensures.items
    ∙ held_emptied g.K.Ord.cmp c.args.key.now chunks place c.index-2.result.now
    (subst (λ (all : List (Held g.row.K.Denot g.row.V.Denot)). 0 < length all → place < length all) c.deref.ensures.value
    c.chunk_of-place.ensures.within c.requires.some) c.index-2.ensures
    (subst (λ (all : List (Held g.row.K.Denot g.row.V.Denot)). IsChunkOf g.K.Ord.cmp c.args.key.now all place) c.deref.ensures.value
    c.chunk_of-place.ensures.place)
    (subst (λ (entries : List (g.row.K.Denot × g.row.V.Denot)). length entries ≤ 1) same (search rules))
    (some_not_none c.in-Some.value.now (lookup (is_at (g.K.Ord.cmp c.args.key.now)) c.index-2.result.now.value)
    (c.in-Some.ensures ∙ ap (lookup (is_at (g.K.Ord.cmp c.args.key.now))) c.deref-3.ensures))
