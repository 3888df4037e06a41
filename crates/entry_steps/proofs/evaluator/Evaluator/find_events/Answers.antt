use Rattle.std.proofs.Common.{sym, subst}
use Rattle.entry_steps.specs.Evaluator.{EvaluatorValue, IsFedOver}
use Rattle.entry_steps.specs.declared.evaluator.Evaluator.TheInside.{Inside}
use Rattle.entry_steps.proofs.Feeding.{finds_by}
use Rattle.entry_steps.proofs.evaluator.Evaluator.find_events.Goals as goal

pub returns-clause-finds : goal.returns-clause-finds
returns-clause-finds g c = λ history fed.
    let of : Inside → EvaluatorValue = λ own. record {
      engine = own.engine;
      options = own.options;
      marks = own.marks;
      joins = own.joins;
      position = own.position;
      workers = own.workers;
    } in
    finds_by _ c.feed_entries.new.engine _ _ _ _ _ c.args.entries.now c.in_ok-found.found history
    c.feed_entries.ensures.queries c.in_ok-found.ensures.feeds c.in_ok-found.ensures.have_names
    (subst (λ (own : Inside). IsFedOver (of own) history)
    (sym c.self-inside.view_is)
    (subst (λ (old : EvaluatorValue). IsFedOver old history) (sym c.self.view_is) fed))
