use Rattle.std.proofs.Common.{refl, sym, ap, subst}
use Rattle.std.specs.Option.{IfSome}
use Rattle.small_map.specs.Places.{ArePlaced}
use Rattle.small_map.proofs.Placed.{placed_more}
use Rattle.small_map.proofs.places.note.Goals as goal

pub returns-in_ok-insert-in-Some-clause-ok : goal.returns-in_ok-insert-in-Some-clause-ok
returns-in_ok-insert-in-Some-clause-ok g c value =
    placed_more g.met.K.Eq.laws c.args.entries.now c.deref_mut.result.now.entries
    c.insert.new.self.entries c.args.key value _
    (subst (λ map. ArePlaced g.K.PartialEq.eq c.args.entries.now map.entries)
    (sym c.deref_mut.ensures.value)
    (subst (λ places. IfSome places (λ boxed. ArePlaced g.K.PartialEq.eq c.args.entries.now
    boxed.value.entries)) c.in-Some.is c.requires.kept))
    c.requires.new refl (λ each. c.in_ok-insert-in-Some.ensures.updates.0 each)

pub returns-in_ok-new-in-None-clause-ok : goal.returns-in_ok-new-in-None-clause-ok
returns-in_ok-new-in-None-clause-ok g c value =
    subst (ArePlaced g.K.PartialEq.eq _) (ap (λ map. map.entries)
    (sym c.in_ok-new-in-None.ensures.ok))
    (placed_more g.met.K.Eq.laws c.args.entries.now c.in_ok-made-in-None.made.entries
    c.insert-in-None.new.self.entries c.args.key value _ c.in_ok-made-in-None.ensures
    c.requires.new refl (λ each. c.in_ok-insert-in-None.ensures.updates.0 each))
