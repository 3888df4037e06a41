use Rattle.std.proofs.Common.{sym, ap, subst, ◌∙◌, cond, None, get_or, length, ◌-◌, arith}
use Rattle.std.proofs.lemmas.Option.{slice_get-get_or}
use Rattle.std.specs.Option.{IfSome}
use Rattle.std.specs.Map.{lookup}
use Rattle.small_map.specs.Places.{ArePlaced}
use Rattle.small_map.proofs.Placed.{placed_less, told}
use Rattle.small_map.proofs.places.forget.Goals as goal

pub returns-in-Some : goal.returns-in-Some
returns-in-Some g c d =
    let placed : ArePlaced g.K.PartialEq.eq c.args.entries.now c.deref_mut.result.now.entries =
    subst (λ map. ArePlaced g.K.PartialEq.eq c.args.entries.now map.entries)
    (sym c.deref_mut.ensures.value)
    (subst (λ places. IfSome places (λ boxed. ArePlaced g.K.PartialEq.eq c.args.entries.now
    boxed.value.entries)) c.in-Some.is c.requires.kept) in
    let gone = get_or c.args.entries.now c.args.place c.index-entries-place.result in
    let last = get_or c.args.entries.now (length c.args.entries.now - 1)
    c.index-entries-entries.result in
    let end = slice_get-get_or c.args.entries.now (length c.args.entries.now - 1)
    c.index-entries-entries.result (omega (arith, c.requires.within)) in
    let put = told c.insert.result
    (lookup (g.K.PartialEq.eq last.0) c.deref_mut.result.now.entries)
    (length c.args.entries.now - 1) (placed (length c.args.entries.now - 1) last end)
    c.insert.ensures.absent c.insert.ensures.updates in
    placed_less g.met.K.Eq.laws c.args.entries.now c.deref_mut.result.now.entries
    c.swap_remove.new.self.entries c.args.place gone last placed
    (slice_get-get_or c.args.entries.now c.args.place c.index-entries-place.result
    c.requires.within) end
    (λ each. c.swap_remove.ensures.updates.0 each
    ∙ ap (cond (g.K.PartialEq.eq gone.0 each) None)
    (ap (λ map. lookup (g.K.PartialEq.eq each) map.entries) c.deref_mut-in-Some.ensures.value
    ∙ put.0 each)) d
