use Rattle.delta_forest.proofs.Indexed.{kept_new}
use Rattle.delta_forest.proofs.forest.Forest.clear.Goals as goal

pub invariant_of-self : goal.invariant_of-self
invariant_of-self c =
    let state = c.clear_state.new.state in
    let new = c.clear_state.ensures in
    record {
      finals_are = c.self.invariant.finals_are;
      kept = λ unbroken. kept_new c.self.inside.dfa state.store
          state.calls state.index new.store new.sources new.holders;
    }
