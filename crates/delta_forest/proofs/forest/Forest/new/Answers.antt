use Rattle.delta_forest.proofs.Indexed.{kept_new}
use Rattle.delta_forest.proofs.forest.Forest.new.Goals as goal

pub invariant_of-result : goal.invariant_of-result
invariant_of-result c =
    let state = c.in_ok-state.state in
    let new = c.in_ok-state.ensures in
    record {
      finals_are = c.in_ok-finals.ensures;
      kept = λ unbroken. kept_new c.args.dfa state.store state.calls
          state.index new.store new.sources new.holders;
    }
