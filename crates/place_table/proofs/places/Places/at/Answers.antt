use Rattle.std.proofs.Common.{◌<◌, List, length, ap, sym, subst, ◌∙◌, refl}
use Rattle.std.proofs.lemmas.Option.{slice_get_read}
use Rattle.delta_tree.proofs.Ids.{same_node_laws}
use Rattle.place_table.specs.Kept.{Placed, kept_at}
use Rattle.place_table.proofs.Found.{kept_there}
use Rattle.place_table.proofs.places.Places.at.Goals as goal

pub returns-clause-kept : goal.returns-clause-kept
returns-clause-kept c root =
    sym (ap (λ (l : List Placed). kept_at l root c.index.result.now.id) c.self.view_is)
    ∙ kept_there c.self.inside.hints c.self.inside.places.items c.self.invariant root
    c.index.result.now.id c.args.number c.index.result.now
    (slice_get_read c.self.inside.places.items (length c.self.inside.places.items) c.args.number
    c.index.result.now refl
    (subst (λ (l : List Placed). c.args.number < length l) (sym c.self.view_is) c.requires)
    c.index.ensures) (same_node_laws.refl c.index.result.now.id)
