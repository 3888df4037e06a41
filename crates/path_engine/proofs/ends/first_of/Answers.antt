use Rattle.std.proofs.Common.{Some, sym, subst}
use Rattle.rpq_base.specs.declared.data.Act.{Act}
use Rattle.path_engine.specs.Ends.{AreFirstEndsForEach}
use Rattle.path_engine.proofs.LabelRows.{known_insert}
use Rattle.path_engine.proofs.ends.first_of.Goals as goal

pub returns-in_ok-number_ends-in-Some-clause-ends :
    goal.returns-in_ok-number_ends-in-Some-clause-ends
returns-in_ok-number_ends-in-Some-clause-ends c = λ queries table.
    let names = c.number_ends.new.names in
    let found = c.in_ok-number_ends-in-Some in
    subst (λ (act : Act). AreFirstEndsForEach names queries act (Some found.field-0))
    (sym {A = Act} c.in-Insert.is)
    (known_insert queries c.args.labels.now table names c.in-Insert.edge c.in-Insert.until
    c.in-Some.numbers.now found.field-0 c.in-Some.ensures.some found.ensures.ends)
