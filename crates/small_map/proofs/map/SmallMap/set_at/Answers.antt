use Rattle.std.proofs.Common.{◌≡◌, ◌<◌, Some, length, slice_get, slice_set, refl, sym, ap, subst, ◌∙◌}
use Rattle.std.specs.List.{IsDistinct}
use Rattle.std.proofs.lemmas.Option.{IfSome_then, slice_get_read}
use Rattle.small_map.proofs.Entries.{some_is_one, same_keys}
use Rattle.small_map.proofs.Placed.{placed_set}
use Rattle.small_map.proofs.map.SmallMap.set_at.Given.{Over}
use Rattle.small_map.proofs.map.SmallMap.set_at.Goals as goal

-- the entry that is changed stands at its place
stands : (g : Over) (c : goal.After-self-1 g) →
    slice_get c.self.inside.entries.items c.args.place ≡ Some c.index_mut.result.now
stands g c =
    slice_get_read c.self.inside.entries.items _ c.args.place c.index_mut.result.now refl
    (subst (λ entries. c.args.place < length entries) (sym c.self.view_is) c.requires)
    c.index_mut.ensures.value

pub invariant_of-self : goal.invariant_of-self
invariant_of-self g c = (
  subst (IsDistinct g.K.PartialEq.eq)
      (sym (same_keys c.self.inside.entries.items c.args.place c.index_mut.result.now
      c.args.value (stands g c))) c.self.invariant.0,
  IfSome_then c.self.inside.places c.self.invariant.1 (λ places placed.
      placed_set g.met.K.Eq.laws c.self.inside.entries.items places.value.entries c.args.place
      c.index_mut.result.now c.args.value placed (stands g c)),
)

pub returns : goal.returns
returns g c entry at =
    λ i. slice_set (c.self.view_is i) c.args.place (
      (some_is_one c.index_mut.result.now entry
          (sym (stands g c) ∙ ap (λ entries. slice_get entries c.args.place) c.self.view_is
          ∙ at) i).0,
      c.args.value,
    )
