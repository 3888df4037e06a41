use Rattle.std.proofs.Common.{rules, ◌≡◌, ◌<◌, ◌⊎◌, List, Option, Result, length, refl, sym, ap, subst, ◌∙◌, MutBor}
use Rattle.std.specs.Prelude.{IsSome, OnErr, set}
use Rattle.std.specs.BTreeMap.{is_at}
use Rattle.std.specs.List.Sorted.{IsStrictlySortedBy}
use Rattle.std.specs.Map.{keys_of, lookup, set_value}
use Rattle.std.specs.Result.{is_ok}
use Rattle.std.specs.declared.alloc.AllocError.{AllocError}
use Rattle.shared_map.specs.Chunks.{IsChunkOf, entries_of}
use Rattle.shared_map.proofs.Listed.{Held, held_sorted, held_looked, held_set, held_kept, either, set_in_order}
use Rattle.shared_map.proofs.map.SharedMap.get_mut.Goals as goal

pub value_mut-requires-clause-sorted : goal.value_mut-requires-clause-sorted
value_mut-requires-clause-sorted g c =
    let cmp = g.K.Ord.cmp in
    let test = is_at (cmp c.args.key.now) in
    let place = c.chunk_of-place.result in
    let chunks = c.self.inside.chunks.items in
    let here = c.index_mut.result.now in
    let within : place < length chunks = search rules in
    let same : c.in-Ok.chunk.now ≡ here.value = either c.in-Ok.ensures.value in
    subst (λ (entries : List (g.row.K.Denot × g.row.V.Denot)). IsStrictlySortedBy cmp (keys_of entries)) (sym same)
    (held_sorted cmp chunks place here within c.index_mut.ensures.value c.self.invariant)

pub value_mut-requires-clause-there : goal.value_mut-requires-clause-there
value_mut-requires-clause-there g c =
    let cmp = g.K.Ord.cmp in
    let test = is_at (cmp c.args.key.now) in
    let place = c.chunk_of-place.result in
    let chunks = c.self.inside.chunks.items in
    let here = c.index_mut.result.now in
    let within : place < length chunks = search rules in
    let of : IsChunkOf cmp c.args.key.now chunks place =
    subst (λ (all : List (Held g.row.K.Denot g.row.V.Denot)). IsChunkOf cmp c.args.key.now all place) c.deref.ensures.value
    c.chunk_of-place.ensures.place in
    let same : c.in-Ok.chunk.now ≡ here.value = either c.in-Ok.ensures.value in
    subst (λ (found : Option g.row.V.Denot). IsSome found)
    (sym (ap (lookup test) same ∙ (held_looked cmp c.args.key.now chunks place here within c.index_mut.ensures.value of
    ∙ ap (lookup test) c.self.view_is)))
    c.requires

pub invariant_of-self-lent : goal.invariant_of-self-lent
invariant_of-self-lent g c =
    let cmp = g.K.Ord.cmp in
    let test = is_at (cmp c.args.key.now) in
    let place = c.chunk_of-place.result in
    let chunks = c.self.inside.chunks.items in
    let here = c.index_mut.result.now in
    let within : place < length chunks = search rules in
    let of : IsChunkOf cmp c.args.key.now chunks place =
    subst (λ (all : List (Held g.row.K.Denot g.row.V.Denot)). IsChunkOf cmp c.args.key.now all place) c.deref.ensures.value
    c.chunk_of-place.ensures.place in
    let same : c.in-Ok.chunk.now ≡ here.value = either c.in-Ok.ensures.value in
    let written : (w : g.row.V.Denot) → (c.make_mut.follows.lender (set_value test c.in-Ok.chunk.now w)).value ≡ set_value test here.value w =
    λ w. c.make_mut.follows.holds (set_value test c.in-Ok.chunk.now w) (ap is_ok c.in-Ok.is)
    ∙ ap (λ (entries : List (g.row.K.Denot × g.row.V.Denot)). set_value test entries w) same in
    λ w. set_in_order cmp test (entries_of chunks)
    (entries_of (set chunks place (c.make_mut.follows.lender (set_value test c.in-Ok.chunk.now w)))) w c.self.invariant
    (held_set cmp c.args.key.now w chunks place here (c.make_mut.follows.lender (set_value test c.in-Ok.chunk.now w)) within
    c.index_mut.ensures.value of (written w))

pub returns-in-Ok : goal.returns-in-Ok
returns-in-Ok g c =
    let cmp = g.K.Ord.cmp in
    let test = is_at (cmp c.args.key.now) in
    let place = c.chunk_of-place.result in
    let chunks = c.self.inside.chunks.items in
    let here = c.index_mut.result.now in
    let within : place < length chunks = search rules in
    let of : IsChunkOf cmp c.args.key.now chunks place =
    subst (λ (all : List (Held g.row.K.Denot g.row.V.Denot)). IsChunkOf cmp c.args.key.now all place) c.deref.ensures.value
    c.chunk_of-place.ensures.place in
    let same : c.in-Ok.chunk.now ≡ here.value = either c.in-Ok.ensures.value in
    let written : (w : g.row.V.Denot) → (c.make_mut.follows.lender (set_value test c.in-Ok.chunk.now w)).value ≡ set_value test here.value w =
    λ w. c.make_mut.follows.holds (set_value test c.in-Ok.chunk.now w) (ap is_ok c.in-Ok.is)
    ∙ ap (λ (entries : List (g.row.K.Denot × g.row.V.Denot)). set_value test entries w) same in (
      (
        refl,
        (λ w ok. held_set cmp c.args.key.now w chunks place here (c.make_mut.follows.lender (set_value test c.in-Ok.chunk.now w)) within
            c.index_mut.ensures.value of (written w)
            ∙ ap (λ (entries : List (g.row.K.Denot × g.row.V.Denot)). set_value test entries w) c.self.view_is),
        tt,
      ),
      record {
        writes_back = tt;
        value = c.value_mut.ensures.value
            ∙ (ap (lookup test) same ∙ (held_looked cmp c.args.key.now chunks place here within c.index_mut.ensures.value of
            ∙ ap (lookup test) c.self.view_is));
      },
    )

pub invariant_of-self : goal.invariant_of-self
invariant_of-self g c =
    let cmp = g.K.Ord.cmp in
    let test = is_at (cmp c.args.key.now) in
    let place = c.chunk_of-place.result in
    let chunks = c.self.inside.chunks.items in
    let here = c.index_mut.result.now in
    let within : place < length chunks = search rules in
    let left = c.make_mut.follows.lender-at-none in
    let same : left.value ≡ here.value =
    either (subst (λ (result : Result (MutBor (List (g.row.K.Denot × g.row.V.Denot))) AllocError). OnErr result ((left.value ≡ here.value) ⊎ (left.value ≡ here.value))) c.in-Err.is
    c.make_mut.follows.holds-at-none) in
    subst (λ (entries : List (g.row.K.Denot × g.row.V.Denot)). IsStrictlySortedBy cmp (keys_of entries))
    (sym (held_kept chunks place here left within c.index_mut.ensures.value same)) c.self.invariant

pub returns-in-Err : goal.returns-in-Err
returns-in-Err g c =
    let cmp = g.K.Ord.cmp in
    let test = is_at (cmp c.args.key.now) in
    let place = c.chunk_of-place.result in
    let chunks = c.self.inside.chunks.items in
    let here = c.index_mut.result.now in
    let within : place < length chunks = search rules in
    let left = c.make_mut.follows.lender-at-none in
    let same : left.value ≡ here.value =
    either (subst (λ (result : Result (MutBor (List (g.row.K.Denot × g.row.V.Denot))) AllocError). OnErr result ((left.value ≡ here.value) ⊎ (left.value ≡ here.value))) c.in-Err.is
    c.make_mut.follows.holds-at-none) in (
      (refl, (λ w ok. cc), held_kept chunks place here left within c.index_mut.ensures.value same ∙ c.self.view_is),
      record { writes_back = tt; value = tt },
    )
