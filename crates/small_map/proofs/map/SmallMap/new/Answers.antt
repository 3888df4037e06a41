use Rattle.std.proofs.Common.{sym, subst}
use Rattle.std.specs.List.{IsDistinct}
use Rattle.std.specs.Map.{keys_of}
use Rattle.small_map.proofs.Placed.{nothing_once}
use Rattle.small_map.proofs.map.SmallMap.new.Goals as goal

pub invariant_of-result : goal.invariant_of-result
invariant_of-result g c = (
  subst (λ entries. IsDistinct g.K.PartialEq.eq (keys_of entries)) (sym c.new.ensures.items)
      (nothing_once g.K.PartialEq.eq),
  tt,
)
