use Rattle.std.proofs.Common.{List, Some, sym, ap, subst, slice_index_or, ◌∙◌}
use Rattle.std.specs.List.{remove}
use Rattle.std.specs.Map.{lookup}
use Rattle.std.specs.Result.{is_ok}
use Rattle.shared_map.specs.Chunks.{IsPlaceOf}
use Rattle.shared_map.proofs.Listed.{either, missing}
use Rattle.shared_map.proofs.Search.{found_value, remove_is}
use Rattle.std.specs.BTreeMap.{is_at}
use Rattle.shared_map.proofs.list.remove_from.Goals as goal

pub returns-in_ok-make_mut-in-Some-clause-old : goal.returns-in_ok-make_mut-in-Some-clause-old
returns-in_ok-make_mut-in-Some-clause-old g c =
    let entries = c.args.chunk.now.value in
    let key = c.args.key.now in
    let place = c.in-Some.place in
    let here : g.row.K.Denot × g.row.V.Denot = (key, c.remove.result) in
    let there = subst (λ (all : List (g.row.K.Denot × g.row.V.Denot)). IsPlaceOf g.K.Ord.cmp key all place) c.deref.ensures c.in-Some.ensures.place in
    let same = either c.in_ok-make_mut-in-Some.ensures.value in
    ap (λ (value : g.row.V.Denot). Some value)
    (c.remove.ensures.value here
    ∙ ap (λ (all : List (g.row.K.Denot × g.row.V.Denot)). (slice_index_or all place here).1) same)
    ∙ sym (found_value g.met.K.Ord.total entries place key here c.requires.sorted there.0 (there.1 here))

pub returns-in_ok-make_mut-in-Some-clause-entries : goal.returns-in_ok-make_mut-in-Some-clause-entries
returns-in_ok-make_mut-in-Some-clause-entries g c =
    let entries = c.args.chunk.now.value in
    let key = c.args.key.now in
    let place = c.in-Some.place in
    let here : g.row.K.Denot × g.row.V.Denot = (key, c.remove.result) in
    let there = subst (λ (all : List (g.row.K.Denot × g.row.V.Denot)). IsPlaceOf g.K.Ord.cmp key all place) c.deref.ensures c.in-Some.ensures.place in
    let same = either c.in_ok-make_mut-in-Some.ensures.value in
    c.make_mut.follows.holds c.remove.new.self (ap is_ok c.in_ok-make_mut-in-Some.was)
    ∙ (c.remove.ensures.entries
    ∙ (ap (λ (all : List (g.row.K.Denot × g.row.V.Denot)). remove all place) same
    ∙ remove_is g.met.K.Ord.total entries place key here c.requires.sorted there.0 (there.1 here)))

pub returns-in-None-clause-entries : goal.returns-in-None-clause-entries
returns-in-None-clause-entries g c =
    let test = is_at (g.K.Ord.cmp c.args.key.now) in
    sym (missing test c.args.chunk.now.value (ap (lookup test) (sym c.deref.ensures) ∙ c.in-None.ensures.none))
