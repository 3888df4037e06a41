use Rattle.std.proofs.Common.{◌≡◌, ℕ, ◌<◌, true, nat_lt, drop, sym, ap, subst, arith}
use Rattle.std.proofs.lemmas.Bool.{ltb-true}
use Rattle.rpq_base.proofs.Outcomes.{on_err}
use Rattle.engine_loop.specs.Sources.{ComesNext}
use Rattle.tuple_generator.specs.Generator.{generated_history}
use Rattle.generated_run.specs.Made.{MadeValue}
use Rattle.generated_run.proofs.Histories.{history_goes_on, kept_next, they_come_next}
use Rattle.generated_run.proofs.entries.GeneratedEntriesEntrySource.next.Goals as goal

pub returns-in_err-make-clause-err : goal.returns-in_err-make-clause-err
returns-in_err-make-clause-err g c =
    let old = c.args.self.now.count in
    let new = c.make.new.self.count in
    let same = ap (λ (made : MadeValue). made.count) c.self.view_is in
    on_err c.from_residual.result
    (drop old (generated_history new), history_goes_on old new (omega (arith, same, c.make.ensures.more)))

pub returns-clause-more : goal.returns-clause-more
returns-clause-more g c = λ is.
    let old = c.args.self.now.count in
    let new = c.make.new.self.count in
    let same = ap (λ (made : MadeValue). made.count) c.self.view_is in
    let last = ap (λ (made : MadeValue). made.count) c.self-2.view_is in
    let first = ap (λ (made : MadeValue). made.before) c.self-2.view_is in
    let told : nat_lt c.self-2.inside.before c.len.result ≡ true = cc in
    let less = ltb-true c.self-2.inside.before c.len.result told in
    let before : c.make.new.self.before ≡ old = omega (
      arith,
      same,
      c.make.ensures.before,
      c.len-self-inside.ensures,
      c.self.inside.entries.ok.0,
    ) in
    let further : old < new = omega (
      arith,
      less,
      last,
      first,
      before,
      c.len.ensures,
      c.self-2.inside.entries.ok.0,
    ) in
    subst (λ (n : ℕ). ComesNext c.args.evaluator.now (generated_history old)
    (generated_history new) (drop n (generated_history new))) (sym before)
    (they_come_next c.history_is_of_first_stream.ensures c.args.evaluator.now old new
    c.at_once.result further (omega (arith, last, c.self-2.invariant.within, c.self-2.invariant.few))
    (omega (arith, same, c.in_ok-make.ensures.ok)) c.at_once.ensures.one)

pub returns-clause-kept : goal.returns-clause-kept
returns-clause-kept g c =
    let old = c.args.self.now in
    let new = c.make.new.self in
    let same = ap (λ (made : MadeValue). made.count) c.self.view_is in
    let before : new.before ≡ old.count = omega (
      arith,
      same,
      c.make.ensures.before,
      c.len-self-inside.ensures,
      c.self.inside.entries.ok.0,
    ) in
    kept_next old.before old.count new.before new.count before
    (omega (arith, same, c.make.ensures.more))
