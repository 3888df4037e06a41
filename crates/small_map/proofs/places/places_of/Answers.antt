use Rattle.std.proofs.Common.{refl, subst, arith}
use Rattle.std.proofs.lemmas.List.{take_all}
use Rattle.std.proofs.lemmas.Option.{slice_get_read}
use Rattle.small_map.specs.Places.{ArePlaced}
use Rattle.small_map.proofs.Placed.{placed_next}
use Rattle.small_map.proofs.places.places_of.Goals as goal

pub loop-place-preserved : goal.loop-place-preserved
loop-place-preserved g c =
    placed_next g.met.K.Eq.laws c.args.entries.now c.loop-place.places.entries
    c.insert.new.self.entries c.loop-place.place c.index-entries-place.result c.requires
    c.loop-place.invariant
    (slice_get_read c.args.entries.now _ c.loop-place.place c.index-entries-place.result refl
    c.loop-place-test.true c.index-entries-place.is)
    (λ each. c.in_ok-insert.ensures.updates.0 each)

pub returns : goal.returns
returns g c =
    subst (λ first. ArePlaced g.K.PartialEq.eq first c.loop-place.places.entries)
    (take_all c.loop-place.place c.args.entries.now (omega (arith, c.loop-place-test.false)))
    c.loop-place.invariant
