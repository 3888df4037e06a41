use Rattle.std.proofs.Common.{sym, subst}
use Rattle.entry_steps.specs.Evaluator.{EvaluatorValue, IsFedOver, StandsInFor}
use Rattle.entry_steps.proofs.Feeding.{stands_in_place}
use Rattle.entry_steps.proofs.evaluator.Evaluator.stand_in.Goals as goal

pub returns-clause-fed : goal.returns-clause-fed
returns-clause-fed c = λ kept history fed alike counts.
    let own : EvaluatorValue = record {
      engine = c.self.inside.engine;
      options = c.self.inside.options;
      marks = c.self.inside.marks;
      joins = c.self.inside.joins;
      position = c.self.inside.position;
      workers = c.self.inside.workers;
    } in
    stands_in_place c.stands_for_alike.ensures own kept history c.args.position
    (subst (λ (old : EvaluatorValue). IsFedOver old kept) (sym c.self.view_is) fed)
    (subst (λ (old : EvaluatorValue). StandsInFor old kept history) (sym c.self.view_is) alike)
    counts
