use Rattle.std.proofs.Common.{◌≡◌, ℕ, ◌≤◌, ◌+◌, ◌-◌, min, List, take, drop, length, ap, ◌∙◌, arith}
use Rattle.std.specs.Global.{Vec}
use Rattle.std.proofs.lemmas.Result.{IfOk-weaker}
use Rattle.engine_loop.specs.Sources.{Repeats}
use Rattle.rpq_base.specs.declared.data.Entry.{Entry}
use Rattle.tuple_generator.specs.Generator.{generated_history}
use Rattle.generated_run.specs.Made.{MadeValue}
use Rattle.generated_run.proofs.Histories.{kept_many, they_repeat}
use Rattle.generated_run.proofs.entries.GeneratedEntriesEntrySource.again.Goals as goal

pub returns-clause-repeats : goal.returns-clause-repeats
returns-clause-repeats c =
    let law = c.history_is_of_first_stream.ensures in
    let count = c.args.self.now.count in
    let from = c.args.from in
    let to = c.args.self.now.before in
    let many = c.min.result in
    let items = c.deref.result.now in
    let counted = ap (λ (made : MadeValue). made.count) c.self.view_is in
    let first = ap (λ (made : MadeValue). made.before) c.self.view_is in
    let within : to ≤ count = omega (arith, counted, first, c.self.invariant.last) in
    let same : items ≡ generated_history count =
    c.deref.ensures.value ∙ (c.self.invariant.first ∙ ap generated_history counted) in
    let end : (from + many) - from ≡ min 256 (to - from) = omega (arith, c.min.ensures, first) in
    IfOk-weaker c.copy_all.result
    (λ (copies : Vec Entry). copies.items ≡ take ((from + many) - from) (drop from items))
    (λ (copies : Vec Entry). Repeats (take to (generated_history count)) from copies.items)
    (λ copies is. they_repeat law count from to 256 copies.items within
    (omega (arith, c.requires.some, kept_many law to count within)) (omega arith)
    (is ∙ (ap (λ (n : ℕ). take n (drop from items)) end
    ∙ ap (λ (all : List Entry). take (min 256 (to - from)) (drop from all)) same)))
    c.copy_all.ensures
