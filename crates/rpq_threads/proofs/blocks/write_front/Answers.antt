use Rattle.std.proofs.Common.{◌≡◌, [], ◌∙◌, rules, arith}
use Rattle.std.proofs.lemmas.Grind.{common_steps}
use Rattle.std.proofs.lemmas.List.{nil_from_length}
use Rattle.rpq_text.specs.Definitions.{definitions_of}
use Rattle.rpq_threads.proofs.Writing.{one_write}
use Rattle.rpq_threads.proofs.blocks.write_front.Goals as goal

pub returns-in-Ok-clause-blocks : goal.returns-in-Ok-clause-blocks
returns-in-Ok-clause-blocks g c =
    let none : c.args.circle.now.members ≡ [] =
    first_of (search (rules, nil_from_length), grind (arith, common_steps, nil_from_length)) in
    one_write g.O.Standing.seen c.args.circle.now c.args.entries.now c.args.steps.now
    (definitions_of c.args.queries.now) c.args.position c.deref.result.now c.put_text.result
    (g.K.Sink.written c.args.events.now) (g.K.Sink.written c.put_text.new.events) none
    c.requires.as_many (c.deref.ensures.value ∙ c.in-Ok.ensures) c.put_text.ensures.ok
    c.put_text.ensures.part c.put_text.ensures.cause
