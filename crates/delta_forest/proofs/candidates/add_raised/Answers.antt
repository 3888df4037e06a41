use Rattle.std.proofs.Common.{ℕ, List, subst}
use Rattle.dfa_table.specs.DfaValue.{step_of}
use Rattle.delta_forest.specs.Candidates.{IsRaisedAt, StartsBy}
use Rattle.delta_forest.proofs.Gathering.{ordered_like, raised_adds}
use Rattle.delta_forest.proofs.candidates.add_raised.Goals as goal

pub returns : goal.returns
returns c =
    let step = step_of c.args.dfa.now in
    let start = c.add_start.new.roots.items in
    let starts = subst (λ (before : List ℕ). StartsBy c.args.sources.now c.add_start.new.sources
    step c.args.edge before start) c.requires.none c.in_ok-add_start.ensures in
    record {
      starts = (start, starts);
      order = ordered_like c.put_in_order.new.roots.items c.add_held.new.roots.items
          (IsRaisedAt c.args.holders.now step c.args.edge) c.put_in_order.ensures
          (raised_adds c.args.holders.now step c.args.edge start c.add_held.new.roots.items
          starts.adds c.in_ok-add_held.ensures);
    }
