use Rattle.std.proofs.Common.{rules, ◌<◌, List, length, sym, ap, subst, ◌∙◌}
use Rattle.std.specs.BTreeMap.{is_at}
use Rattle.std.specs.List.Sorted.{IsStrictlySortedBy}
use Rattle.std.specs.Map.{keys_of, lookup}
use Rattle.shared_map.specs.Chunks.{IsChunkOf}
use Rattle.shared_map.proofs.Listed.{Held, held_sorted, held_looked}
use Rattle.shared_map.proofs.map.SharedMap.get.Goals as goal

pub get-requires : goal.get-requires
get-requires g c =
    let place = c.chunk_of-place.result in
    let chunks = c.self.inside.chunks.items in
    let within : place < length chunks = search rules in
    subst (λ (entries : List (g.row.K.Denot × g.row.V.Denot)). IsStrictlySortedBy g.K.Ord.cmp (keys_of entries)) (sym c.deref-2.ensures)
    (held_sorted g.K.Ord.cmp chunks place c.index.result.now within c.index.ensures c.self.invariant)

pub returns-clause-value : goal.returns-clause-value
returns-clause-value g c =
    let place = c.chunk_of-place.result in
    let chunks = c.self.inside.chunks.items in
    let within : place < length chunks = search rules in
    let test = is_at (g.K.Ord.cmp c.args.key.now) in
    c.get.ensures
    ∙ (ap (lookup test) c.deref-2.ensures
    ∙ (held_looked g.K.Ord.cmp c.args.key.now chunks place c.index.result.now within c.index.ensures
    (subst (λ (all : List (Held g.row.K.Denot g.row.V.Denot)). IsChunkOf g.K.Ord.cmp c.args.key.now all place) c.deref.ensures.value
    c.chunk_of-place.ensures.place)
    ∙ ap (lookup test) c.self.view_is))
