use Rattle.std.proofs.Common.{position, ap, ◌∙◌}
use Rattle.small_map.proofs.Placed.{scanned}
use Rattle.small_map.proofs.map.SmallMap.place_of.Goals as goal

pub returns-in-None-clause-place : goal.returns-in-None-clause-place
returns-in-None-clause-place g c =
    scanned g.K.PartialEq.eq c.args.self.now c.args.key.now c.scan.result
    (c.scan.ensures
    ∙ ap (position (λ entry. g.K.PartialEq.eq c.args.key.now entry.0))
    (c.deref-in-None.ensures.value ∙ c.self.view_is))
