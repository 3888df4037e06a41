use Rattle.std.proofs.Common.{◌≡◌, ◌<◌, Some, length, slice_get, refl, sym, ap, subst, ◌∙◌}
use Rattle.std.specs.List.{IsDistinct, swap_remove}
use Rattle.std.specs.Map.{keys_of}
use Rattle.std.specs.Option.{IfSome}
use Rattle.std.proofs.lemmas.Option.{slice_get_read}
use Rattle.small_map.specs.Places.{ArePlaced}
use Rattle.small_map.proofs.Entries.{some_is_one, once_less}
use Rattle.small_map.proofs.map.SmallMap.remove_at.Given.{Over}
use Rattle.small_map.proofs.map.SmallMap.remove_at.Goals as goal

-- the entry that is taken out stood at its place
stood : (g : Over) (c : goal.After-give_back g) →
    slice_get c.self.inside.entries.items c.args.place ≡ Some c.swap_remove.result
stood g c =
    slice_get_read c.self.inside.entries.items _ c.args.place c.swap_remove.result refl
    (subst (λ entries. c.args.place < length entries) (sym c.self.view_is) c.requires)
    c.swap_remove.ensures.value

-- the entries that are left
left : (g : Over) (c : goal.After-give_back g) → c.give_back.new.list.items
    ≡ swap_remove c.self.inside.entries.items c.args.place c.swap_remove.result
left g c = c.give_back.ensures ∙ c.swap_remove.ensures.items

pub invariant_of-self : goal.invariant_of-self
invariant_of-self g c = (
  subst (λ entries. IsDistinct g.K.PartialEq.eq (keys_of entries)) (sym (left g c))
      (once_less g.met.K.Eq.laws c.self.inside.entries.items c.args.place c.swap_remove.result
      c.self.invariant.0 (stood g c)),
  subst (λ entries. IfSome c.forget.new.places (λ places. ArePlaced g.K.PartialEq.eq entries
      places.value.entries))
      (ap (λ entries. swap_remove entries c.args.place c.swap_remove.result)
      c.deref.ensures.value ∙ sym (left g c))
      (c.forget.ensures c.swap_remove.result),
)

pub returns : goal.returns
returns g c entry at =
    left g c
    ∙ (λ i. swap_remove (c.self.view_is i) c.args.place (some_is_one c.swap_remove.result entry
    (sym (stood g c) ∙ ap (λ entries. slice_get entries c.args.place) c.self.view_is ∙ at) i))
