use Rattle.std.proofs.Common.{◌≡◌, ℕ, Option, Vec, Global, map, sym, subst, arith}
use Rattle.std.proofs.lemmas.List.{length-map}
use Rattle.dfa_table.specs.Befores.{AreListed, AreBefores}
use Rattle.dfa_table.proofs.Listed.{befores_more}
use Rattle.dfa_table.proofs.befores.find_befores.Goals as goal

pub loop-label-preserved : goal.loop-label-preserved
loop-label-preserved c =
    let items = λ (row : Vec (Option ℕ) Global). row.items in
    let rows = map items c.args.rows.now in
    let one = c.in_ok-by_label.field-0 in
    befores_more rows c.loop-label.label c.loop-label.befores.items c.push.new.self.items one
    c.loop-label.invariant
    (subst (λ (n : ℕ). AreListed rows c.loop-label.label n one)
    (sym (length-map c.args.rows.now items)) c.in_ok-by_label.ensures)
    c.in_ok-push.ensures.items

pub returns : goal.returns
returns c =
    let items = λ (row : Vec (Option ℕ) Global). row.items in
    let all : c.loop-label.label ≡ c.args.labels =
    omega (arith, c.loop-label-test.false, c.loop-label.auto.label-end) in
    subst (λ (n : ℕ). AreBefores (map items c.args.rows.now) n c.loop-label.befores.items) all
    c.loop-label.invariant
