use Rattle.std.proofs.Common.{◌≡◌, ◌++◌, [], length, sym, ap, ap₂, subst, arith}
use Rattle.std.specs.List.{IsDistinct}
use Rattle.std.specs.Map.{keys_of}
use Rattle.edge_store.specs.Edges.{same_half}
use Rattle.edge_store.proofs.Bounds.{below_none}
use Rattle.edge_store.proofs.row.EdgeRow.new.Goals as goal

-- both parts are empty
none : (c : goal.After-new-2) → c.new.result.items ++ c.new-2.result.entries ≡ []
none c = ap₂ (λ few more. few ++ more) c.new.ensures.items c.new-2.ensures

pub invariant_of-result : goal.invariant_of-result
unfolding IsDistinct
invariant_of-result c = record {
  short = omega (arith, ap length c.new.ensures.items);
  once = subst (λ entries. IsDistinct same_half (keys_of entries)) (sym (none c)) tt;
  below = below_none (c.new.result.items ++ c.new-2.result.entries) 0 (ap length (none c));
}
