use Rattle.std.proofs.Common.{sym, ◌∙◌, arith}
use Rattle.std.proofs.lemmas.List.{length-map}
use Rattle.std.proofs.lemmas.Bool.{false≢true}
use Rattle.query_file.specs.Compiled.{CompiledValue}
use Rattle.query_file.proofs.Taken.{taken_is}
use Rattle.query_file.proofs.query.check_place.Goals as goal

pub returns-then-is_taken-clause-fault : goal.returns-then-is_taken-clause-fault
returns-then-is_taken-clause-fault c =
    (c.in_ok-copy.ensures, (taken_is c.args.name.now c.args.before.now).0 (sym c.is_taken.ensures ∙ c.if-is_taken.true))

pub returns-clause-new : goal.returns-clause-new
returns-clause-new c = λ has.
    let found = (taken_is c.args.name.now c.args.before.now).1 has in
    absurd (false≢true (sym c.if-is_taken.false ∙ c.is_taken.ensures ∙ found))

pub returns-then-before-ge-MAX_QUERIES-clause-fault : goal.returns-then-before-ge-MAX_QUERIES-clause-fault
returns-then-before-ge-MAX_QUERIES-clause-fault c = (
  λ has.
      let found = (taken_is c.args.name.now c.args.before.now).1 has in
      absurd (false≢true (sym c.if-is_taken.false ∙ c.is_taken.ensures ∙ found)),
  omega (arith, length-map c.args.before.now (λ (each : CompiledValue). each.def), c.if-before-ge-MAX_QUERIES.true),
)
