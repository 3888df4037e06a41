use Rattle.std.proofs.Common.{◌≡◌, ℕ, suc, List, length, map, Option, Vec, Global, ap, subst, sym, ◌∙◌, arith}
use Rattle.dfa_table.specs.DfaValue.{DfaValue, IsDfa}
use Rattle.dfa_table.specs.Discovery.{AreRows}
use Rattle.minimal_dfa.specs.Classes.{class_graph}
use Rattle.minimal_dfa.proofs.Quotient.{IsQuotient}
use Rattle.minimal_dfa.proofs.Theorem.{finals_told, table_is_dfa, table_is_quotient, words, quotient_is_least}
use Rattle.minimal_dfa.proofs.least.minimize.Goals as goal

pub new-requires-2 : goal.new-requires-2
new-requires-2 c =
    let items : Vec (Option ℕ) Global → List (Option ℕ) = λ row. row.items in
    let dfa = c.args.dfa.now in
    let nodes = c.in-Ok.found.nodes.items in
    let rows = map items c.in-Ok.found.rows.items in
    let are = subst (λ (d : DfaValue). AreRows (class_graph d) 512 0 nodes rows (length nodes)) c.in_ok-pairs.ensures c.in-Ok.ensures.rows in
    table_is_dfa dfa nodes c.in_ok-labels.labels.items rows c.in_ok-finals.finals.items c.labels.ensures.valid are
    (c.in_ok-labels.ensures ∙ c.labels.ensures.labels)
    (omega (arith, c.in_ok-finals.ensures.length, ap length c.deref.ensures.value))
    (finals_told dfa nodes c.deref.result.now c.in_ok-finals.finals.items c.deref.ensures.value c.in_ok-finals.ensures.each)

pub returns-clause-words : goal.returns-clause-words
returns-clause-words c = λ word.
    let items : Vec (Option ℕ) Global → List (Option ℕ) = λ row. row.items in
    let dfa = c.args.dfa.now in
    let nodes = c.in-Ok.found.nodes.items in
    let rows = map items c.in-Ok.found.rows.items in
    let are = subst (λ (d : DfaValue). AreRows (class_graph d) 512 0 nodes rows (length nodes)) c.in_ok-pairs.ensures c.in-Ok.ensures.rows in
    let each = finals_told dfa nodes c.deref.result.now c.in_ok-finals.finals.items c.deref.ensures.value c.in_ok-finals.ensures.each in
    let quotient = subst (IsQuotient dfa nodes) (sym c.in_ok-new.ensures)
    (table_is_quotient dfa nodes c.in_ok-labels.labels.items rows c.in_ok-finals.finals.items are (c.in_ok-labels.ensures ∙ c.labels.ensures.labels) each) in
    words dfa c.in_ok-new.field-0 nodes word quotient

pub returns-clause-least : goal.returns-clause-least
returns-clause-least c =
    let items : Vec (Option ℕ) Global → List (Option ℕ) = λ row. row.items in
    let dfa = c.args.dfa.now in
    let nodes = c.in-Ok.found.nodes.items in
    let labels = c.in_ok-labels.labels.items in
    let finals = c.in_ok-finals.finals.items in
    let rows = map items c.in-Ok.found.rows.items in
    let same = c.in_ok-labels.ensures ∙ c.labels.ensures.labels in
    let are = subst (λ (d : DfaValue). AreRows (class_graph d) 512 0 nodes rows (length nodes)) c.in_ok-pairs.ensures c.in-Ok.ensures.rows in
    let each = finals_told dfa nodes c.deref.result.now finals c.deref.ensures.value c.in_ok-finals.ensures.each in
    let many : length finals ≡ suc (length nodes) = omega (arith, c.in_ok-finals.ensures.length, ap length c.deref.ensures.value) in
    quotient_is_least dfa c.in_ok-new.field-0 nodes
    (subst (IsQuotient dfa nodes) (sym c.in_ok-new.ensures) (table_is_quotient dfa nodes labels rows finals are same each))
    (subst IsDfa (sym c.in_ok-new.ensures) (table_is_dfa dfa nodes labels rows finals c.labels.ensures.valid are same many each))
    c.requires
