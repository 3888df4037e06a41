use Rattle.std.proofs.Common.{rules, tests}
use Rattle.std.proofs.lemmas.Fn.{filter_same}
use Rattle.source_index.proofs.Noted.{is_present, noted_retained, present_retained}
use Rattle.source_index.proofs.queue.retain_present.Goals as goal

pub returns-clause-noted : goal.returns-clause-noted
returns-clause-noted c =
    let (kept, filtered, moved) = c.retain.ensures in
    noted_retained c.args.numbers.now.entries c.args.queue.now.items kept c.retain.new.self.items
    c.requires
    (filter_same _ (is_present c.args.numbers.now.entries) _
    (λ x b f' call. search (rules, tests)) _ _ filtered)
    moved

pub returns-clause-present : goal.returns-clause-present
returns-clause-present c =
    let (kept, filtered, moved) = c.retain.ensures in
    present_retained c.args.numbers.now.entries c.args.queue.now.items kept c.retain.new.self.items
    (filter_same _ (is_present c.args.numbers.now.entries) _
    (λ x b f' call. search (rules, tests)) _ _ filtered)
    moved
