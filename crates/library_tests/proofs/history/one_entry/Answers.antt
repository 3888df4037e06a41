use Rattle.std.proofs.Common.{rules, ◌∙◌}
use Rattle.stream_history.proofs.AllPasses.{all_three}
use Rattle.library_tests.proofs.history.one_entry.Goals as goal

pub finish-requires-clause-all : goal.finish-requires-clause-all
finish-requires-clause-all g c =
    let came = c.tells_and_refuses-tells in
    let reader = c.look-before.ensures.number ∙ c.three-engine.ensures.reader.1 in
    all_three came.new.engine came.new.stream c.look-after.new.pass came.ensures.engine.1
    came.ensures.stream.1 (c.look-after.ensures.number ∙ reader)
    c.shared_history-history.result.0.turns.passes c.push_reserved-3.new.self.items
    (search rules) (search rules)
