use Rattle.std.proofs.Common.{ℕ, List, subst, arith}
use Rattle.query_index.specs.RootList.{AreFlagged}
use Rattle.query_index.proofs.Flagged.{flagged_less, has_flag}
use Rattle.query_index.proofs.root_list.take_out.Goals as goal

pub index_mut-requires : goal.index_mut-requires
index_mut-requires c = omega (
  arith,
  has_flag c.pop.new.self.items c.loop-root.flags.items c.in-Some.root
      (subst (λ (roots : List ℕ). AreFlagged roots c.loop-root.flags.items)
      c.in-Some.ensures.items c.loop-root.invariant),
  c.loop-root.flags.ok.0,
)

pub loop-root-preserved : goal.loop-root-preserved
loop-root-preserved c =
    flagged_less c.pop.new.self.items c.loop-root.flags.items c.in-Some.root
    (subst (λ (roots : List ℕ). AreFlagged roots c.loop-root.flags.items)
    c.in-Some.ensures.items c.loop-root.invariant)
