use Rattle.history_model.specs.Lines.{publish_line}
use Rattle.stream_history.specs.Journal.{JournalValue, IsOpen, with_view}
use Rattle.stream_history.proofs.Steps.{either_way, open_after, no_publish_ends}
use Rattle.library_tests.proofs.journal.publish.Goals as goal

pub returns-clause-open : goal.returns-clause-open
returns-clause-open c stream was =
    let before = c.args.journal.now in
    let view = c.in_ok-view.view.value in
    let other = no_publish_ends view.position stream in
    let still = open_after before (publish_line view.position) stream other was in
    let answer = c.publish.ensures in
    either_way (λ (journal : JournalValue). IsOpen journal stream) c.publish.result before
    (with_view before view) c.publish.new.self answer.line answer.unchanged was
    (record { is = still.is; goes_on = still.goes_on })
