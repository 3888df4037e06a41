use Rattle.history_model.specs.Lines.{append_line, IsShut}
use Rattle.stream_history.specs.Journal.{JournalValue, with_line}
use Rattle.stream_history.proofs.Steps.{either_way, going_after}
use Rattle.library_tests.proofs.journal.write.Goals as goal

pub returns-clause-goes_on : goal.returns-clause-goes_on
returns-clause-goes_on c was =
    let before = c.args.journal.now in
    let line = append_line c.args.stream c.tick.result in
    either_way (λ (journal : JournalValue). IsShut journal.lines → ⊥) c.append.result before
    (with_line before line) c.append.new.self c.append.ensures.line c.append.ensures.unchanged was
    (going_after before.lines line (λ why same. cc) was)
