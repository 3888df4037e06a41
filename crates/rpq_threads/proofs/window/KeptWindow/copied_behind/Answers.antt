use Rattle.std.proofs.Common.{◌≡◌, ℕ, ◌-◌, List, take, drop, length, ap, ◌∙◌, arith}
use Rattle.std.proofs.lemmas.Result.{IfOk-weaker}
use Rattle.rpq_base.specs.declared.data.Entry.{Entry}
use Rattle.rpq_threads.proofs.KeptFronts.{to_the_end, repeats_first, repeats_behind}
use Rattle.rpq_threads.proofs.window.KeptWindow.copied_behind.Goals as goal

pub returns-then-from-many : goal.returns-then-from-many
returns-then-from-many c =
    let own = c.args.self.now.entries.items in
    let from = c.args.from in
    let slice : List Entry = c.deref.result.now in
    let same : take 256 (take (length slice - from) (drop from slice)) ≡ take 256 (drop from own) =
    ap (λ (xs : List Entry). take 256 xs) (to_the_end from slice)
    ∙ ap (λ (xs : List Entry). take 256 (drop from xs)) c.deref.ensures.value in
    IfOk-weaker c.first_copied.result _ _
    (λ copies is. repeats_first own c.args.further.now copies.items from
    (omega (arith, c.if-from-many.true, c.len-many.ensures, c.args.self.now.entries.ok.0))
    (is ∙ same)) c.first_copied.ensures

pub returns-else-from-many : goal.returns-else-from-many
returns-else-from-many c =
    let own = c.args.self.now.entries.items in
    let from = c.args.from in
    let further = c.args.further.now in
    let many = c.len-many.result in
    let many_is : many ≡ length own =
    omega (arith, c.len-many.ensures, c.args.self.now.entries.ok.0) in
    let same : take 256 (take (length further - (from - many)) (drop (from - many) further))
    ≡ take 256 (drop (from - length own) further) =
    ap (λ (xs : List Entry). take 256 xs) (to_the_end (from - many) further)
    ∙ ap (λ (n : ℕ). take 256 (drop (from - n) further)) many_is in
    IfOk-weaker c.first_copied-else-from-many.result _ _
    (λ copies is. repeats_behind own further copies.items from
    (omega (arith, c.if-from-many.false, many_is)) c.requires (is ∙ same))
    c.first_copied-else-from-many.ensures
