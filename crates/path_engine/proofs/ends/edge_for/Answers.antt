use Rattle.std.proofs.Common.{Option, sym, subst, ◌∙◌}
use Rattle.path_engine.specs.declared.ends.EdgeNumbers.{EdgeNumbers}
use Rattle.path_engine.specs.Ends.{AreEndsFor}
use Rattle.path_engine.proofs.Choosing.{edge_by_numbers, edge_without_ends, edge_without_label}
use Rattle.path_engine.proofs.ends.edge_for.Goals as goal

pub returns-in-None : goal.returns-in-None
returns-in-None c = λ names dfa act are.
    edge_without_ends names c.args.number dfa act
    (subst (λ (ends : Option EdgeNumbers). AreEndsFor names c.args.number dfa act ends) c.in-None.is
    are)

pub returns-in-None-label_for : goal.returns-in-None-label_for
returns-in-None-label_for c = λ names dfa act are.
    edge_without_label names c.args.number dfa act c.in-Some.ends
    (sym c.label_for.ensures ∙ c.in-None-label_for.is)
    (subst (λ (ends : Option EdgeNumbers). AreEndsFor names c.args.number dfa act ends) c.in-Some.is
    are)

pub returns-in-Some-label_for : goal.returns-in-Some-label_for
returns-in-Some-label_for c = λ names dfa act are.
    edge_by_numbers names c.args.number dfa act c.in-Some.ends c.in-Some-label_for.label
    (sym c.label_for.ensures ∙ c.in-Some-label_for.is)
    (subst (λ (ends : Option EdgeNumbers). AreEndsFor names c.args.number dfa act ends) c.in-Some.is
    are)
