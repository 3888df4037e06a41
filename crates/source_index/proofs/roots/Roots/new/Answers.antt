use Rattle.std.proofs.Common.{nat_eq, sym, subst}
use Rattle.std.specs.List.{IsDistinct}
use Rattle.source_index.proofs.Few.{none_twice}
use Rattle.source_index.proofs.roots.Roots.new.Goals as goal

pub invariant_of-result : goal.invariant_of-result
invariant_of-result c = subst (IsDistinct nat_eq) (sym c.new.ensures.items) none_twice
