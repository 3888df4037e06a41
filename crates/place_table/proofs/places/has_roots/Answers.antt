use Rattle.place_table.proofs.Reached.{told_has, absent_has_none}
use Rattle.place_table.proofs.places.has_roots.Goals as goal

pub returns-in-Some : goal.returns-in-Some
returns-in-Some c =
    told_has c.args.hints.now c.args.places.now c.args.id c.in-Some.number c.index-places-number.result
    c.len.result c.requires c.in-Some.ensures c.index-places-number.is c.len.ensures.count

pub returns-in-None : goal.returns-in-None
returns-in-None c = (
  (λ told. absurd cc),
  (λ reached. absurd (absent_has_none c.args.places.now c.args.id c.in-None.ensures reached)),
)
