use Rattle.std.proofs.Common.{sym, subst, arith}
use Rattle.entry_steps.specs.Evaluator.{EvaluatorValue, IsAhead}
use Rattle.entry_steps.proofs.Feeding.{MayTell, found_ahead, tells_steps}
use Rattle.entry_steps.proofs.Finding.{few_taken}
use Rattle.entry_steps.proofs.evaluator.Evaluator.tell.Goals as goal

pub tell_of-requires-clause-names : goal.tell_of-requires-clause-names
tell_of-requires-clause-names c =
    let given = c.requires.ahead in
    (subst (λ (old : EvaluatorValue). IsAhead given.0 old c.args.entries.now c.args.found)
    (sym c.self.view_is) given.1).finds.have_names

pub tell_of-requires-clause-room : goal.tell_of-requires-clause-room
tell_of-requires-clause-room c =
    let given = c.requires.ahead in
    let entries = c.args.entries.now in
    let ahead = subst (λ (old : EvaluatorValue). IsAhead given.0 old entries c.args.found)
    (sym c.self.view_is) given.1 in
    few_taken c.self.inside.options.paths _ c.self.inside.marks given.0 entries
    c.self.inside.position ahead.tells.marked ahead.finds.fed.counted (omega arith)

pub tell_of-requires-clause-found : goal.tell_of-requires-clause-found
tell_of-requires-clause-found c =
    let entries = c.args.entries.now in
    let given = c.requires.ahead in (
      c.self.inside.options,
      given.0,
      found_ahead _ given.0 entries c.args.found
          (subst (λ (old : EvaluatorValue). MayTell old entries) (sym c.self.view_is) (record {
            evaluable = c.requires.evaluable;
            forwards = c.requires.forwards;
            one = c.requires.one;
          }))
          (subst (λ (old : EvaluatorValue). IsAhead given.0 old entries c.args.found)
          (sym c.self.view_is) given.1),
    )

pub returns-clause-tells : goal.returns-clause-tells
returns-clause-tells c = λ before given.
    let entries = c.args.entries.now in
    let marks = c.tell_of.new.marks in
    let joins = c.tell_of.new.joins in
    let own : EvaluatorValue = record {
      engine = c.self.inside.engine;
      options = c.self.inside.options;
      marks = c.self.inside.marks;
      joins = c.self.inside.joins;
      position = c.self.inside.position;
      workers = c.self.inside.workers;
    } in
    let may = subst (λ (old : EvaluatorValue). MayTell old entries) (sym c.self.view_is) (record {
      evaluable = c.requires.evaluable;
      forwards = c.requires.forwards;
      one = c.requires.one;
    }) in
    let ahead = subst (λ (old : EvaluatorValue). IsAhead before old entries c.args.found)
    (sym c.self.view_is) given in
    tells_steps own before entries
    (record { found = c.args.found; beside = c.in_ok-beside.beside }) marks joins ahead
    (c.in_ok-beside.ensures own.options before (found_ahead own before entries c.args.found may
    ahead))
