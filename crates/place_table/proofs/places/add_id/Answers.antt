use Rattle.place_table.proofs.Linked.{no_id}
use Rattle.place_table.proofs.places.add_id.Goals as goal

pub returns-in-None : goal.returns-in-None
returns-in-None c =
    no_id c.args.ids.now.items c.args.place.now.id _ c.in-None.ensures
