use Rattle.std.proofs.Common.{rules}
use Rattle.name_table.proofs.Ranking.{are_places}
use Rattle.name_table.proofs.ranks.places_in.Goals as goal

pub returns : goal.returns
returns c =
    are_places c.args.order.now c.in_ok-places.places.items c.invert.new.inverse.items
    c.requires.all (c.in_ok-places.ensures.items_if_clones_equal (λ y is. search rules)) c.invert.ensures
