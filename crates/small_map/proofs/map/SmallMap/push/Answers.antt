use Rattle.std.proofs.Common.{◌≡◌, ◌++◌, ◌∷◌, [], sym, ap, subst, ◌∙◌}
use Rattle.std.specs.List.{IsDistinct}
use Rattle.std.specs.Map.{keys_of}
use Rattle.std.specs.Option.{IfSome}
use Rattle.small_map.specs.Places.{ArePlaced}
use Rattle.small_map.proofs.Entries.{once_more}
use Rattle.small_map.proofs.map.SmallMap.push.Given.{Over}
use Rattle.small_map.proofs.map.SmallMap.push.Goals as goal

-- the entries with the new one
with_new : (g : Over) (c : goal.After-push_reserved g) →
    c.push_reserved.new.self.items ≡ c.args.self.now ++ (c.args.key, c.args.value) ∷ []
with_new g c =
    c.push_reserved.ensures.items
    ∙ ap (λ entries. entries ++ (c.args.key, c.args.value) ∷ [])
    (c.make_room.ensures.same ∙ c.self.view_is)

pub invariant_of-self-2 : goal.invariant_of-self-2
invariant_of-self-2 g c = (
  subst (λ entries. IsDistinct g.K.PartialEq.eq (keys_of entries)) (sym (with_new g c))
      (once_more g.met.K.Eq.laws c.args.self.now c.args.key c.args.value
      (subst (λ entries. IsDistinct g.K.PartialEq.eq (keys_of entries)) c.self.view_is
      c.self.invariant.0)
      c.requires),
  subst (λ entries. IfSome c.note.new.places (λ places. ArePlaced g.K.PartialEq.eq entries
      places.value.entries))
      (ap (λ entries. entries ++ (c.args.key, c.args.value) ∷ []) c.deref.ensures.value
      ∙ sym c.push_reserved.ensures.items)
      (c.in_ok-note.ensures.ok c.args.value),
)
