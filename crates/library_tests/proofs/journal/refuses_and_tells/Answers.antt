use Rattle.std.proofs.Common.{arith}
use Rattle.history_model.specs.Lines.{IsStream}
use Rattle.stream_history.proofs.Steps.{open_at_first}
use Rattle.library_tests.proofs.journal.refuses_and_tells.Goals as goal

pub write-requires-2 : goal.write-requires-2
write-requires-2 g c =
    let first = c.small_history-journal.ensures in
    let is : IsStream 2 2 = (omega arith, omega arith) in
    c.write.ensures.open 2
    (open_at_first c.small_history-journal.result 2 2 first.lines first.streams is)

pub end-requires : goal.end-requires
end-requires g c =
    let first = c.small_history-journal.ensures in
    let is : IsStream 2 2 = (omega arith, omega arith) in
    c.publish-2.ensures.open 2
    (c.publish.ensures.open 2
    (c.write-2.ensures.open 2
    (c.write.ensures.open 2
    (open_at_first c.small_history-journal.result 2 2 first.lines first.streams is))))

pub write-requires-3 : goal.write-requires-3
write-requires-3 g c =
    let first = c.small_history-journal.ensures in
    let is : IsStream 2 1 = (omega arith, omega arith) in
    c.shut.ensures 1
    (c.end.ensures.open 1 (λ same. omega (arith, same))
    (c.publish-2.ensures.open 1
    (c.publish.ensures.open 1
    (c.write-2.ensures.open 1
    (c.write.ensures.open 1
    (open_at_first c.small_history-journal.result 2 1 first.lines first.streams is))))))

pub end-requires-2 : goal.end-requires-2
end-requires-2 g c =
    let first = c.small_history-journal.ensures in
    let is : IsStream 2 1 = (omega arith, omega arith) in
    c.write-3.ensures.open 1
    (c.shut.ensures 1
    (c.end.ensures.open 1 (λ same. omega (arith, same))
    (c.publish-2.ensures.open 1
    (c.publish.ensures.open 1
    (c.write-2.ensures.open 1
    (c.write.ensures.open 1
    (open_at_first c.small_history-journal.result 2 1 first.lines first.streams is)))))))
