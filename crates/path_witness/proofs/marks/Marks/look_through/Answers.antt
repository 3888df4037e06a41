use Rattle.std.proofs.Common.{sym, subst}
use Rattle.path_witness.specs.Marks.{MarksValue, StandsFor}
use Rattle.path_witness.proofs.Keeping.{keeps_left}
use Rattle.path_witness.proofs.marks.Marks.look_through.Goals as goal

pub returns-clause-stands : goal.returns-clause-stands
returns-clause-stands c history stands =
    let before : StandsFor _ history = subst (λ (marks : MarksValue). StandsFor marks history) (sym c.self.view_is) stands in
    record {
      counted = before.counted;
      time = before.time;
      kept = keeps_left _ history _ c.forget.new.rows.entries _ before.time c.forget.ensures before.kept;
    }
