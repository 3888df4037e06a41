use Rattle.std.proofs.Common.{◌≡◌, ◌/◌, ◌%◌, sym, subst, arith}
use Rattle.std.specs.Prelude.{IfOk}
use Rattle.tuple_generator.proofs.Names.{vertex_short, vertex_long, short_name, long_name}
use Rattle.tuple_generator.proofs.generator.vertex.Goals as goal

pub named-requires : goal.named-requires
named-requires c = short_name (c.args.number % 10) (omega arith)

pub named-requires-else-tens-eq0 : goal.named-requires-else-tens-eq0
named-requires-else-tens-eq0 c = long_name (c.args.number / 10 % 10) (c.args.number % 10) (omega arith) (omega arith)

pub returns-then-tens-eq0 : goal.returns-then-tens-eq0
returns-then-tens-eq0 c =
    subst (λ text. IfOk c.named.result (λ name. name ≡ text)) (sym (vertex_short c.args.number (omega (arith, c.if-tens-eq0.true)))) c.named.ensures

pub returns-else-tens-eq0 : goal.returns-else-tens-eq0
returns-else-tens-eq0 c =
    subst (λ text. IfOk c.named-else-tens-eq0.result (λ name. name ≡ text)) (sym (vertex_long c.args.number (omega (arith, c.if-tens-eq0.false))))
    c.named-else-tens-eq0.ensures
