use Rattle.std.proofs.Common.{◌≡◌, ◌≤◌, true, List, sym, subst, ◌∙◌, length}
use Rattle.std.specs.Prelude.{IfOk}
use Rattle.std.proofs.lemmas.Result.{IfOk-weaker}
use Rattle.entry_steps.proofs.Feeding.{ahead_by}
use Rattle.entry_steps.specs.Evaluator.{Finds, IsAhead, Tells}
use Rattle.entry_steps.specs.declared.unnamed_steps.UnnamedSteps.{UnnamedSteps}
use Rattle.rpq_base.specs.declared.data.Entry.{Entry}
use Rattle.engine_loop.specs.Loop.{answered}
use Rattle.engine_loop.proofs.Rebuilt.{evaluable_still, forwards_still, one_still}
use Rattle.engine_loop.proofs.finding.find_told.Goals as goal

-- the engine alone was fed, and is ahead of what is told
pub tell-requires-clause-ahead : goal.tell-requires-clause-ahead
tell-requires-clause-ahead g c =
    let old = c.args.evaluator.now in
    let mid = c.feed_with_rebuild.new.evaluator in
    let before = answered old (g.S.EntrySource.given c.args.source.now) in
    let finds = subst (λ (front : List Entry). Finds before mid front c.in_ok-found.found)
    (sym (c.front.ensures ∙ c.feed_with_rebuild.ensures.stays.has.same_front)) c.in_ok-found.ensures.finds in (
      before,
      ahead_by before old mid c.front.result.now c.in_ok-found.found c.requires.stands.tells
          c.feed_with_rebuild.ensures.keeps finds,
    )

pub tell-requires-clause-evaluable : goal.tell-requires-clause-evaluable
tell-requires-clause-evaluable g c =
    evaluable_still c.args.evaluator.now c.feed_with_rebuild.new.evaluator
    c.feed_with_rebuild.ensures.keeps c.requires.runs

pub tell-requires-clause-forwards : goal.tell-requires-clause-forwards
tell-requires-clause-forwards g c =
    forwards_still c.args.evaluator.now c.feed_with_rebuild.new.evaluator
    c.feed_with_rebuild.ensures.keeps c.requires.runs

pub tell-requires-clause-one : goal.tell-requires-clause-one
tell-requires-clause-one g c =
    one_still c.args.evaluator.now c.feed_with_rebuild.new.evaluator
    c.feed_with_rebuild.ensures.keeps c.requires.runs c.front.result.now
    (subst (λ (front : List Entry). c.args.evaluator.now.options.paths ≡ true → length front ≤ 1)
    (sym (c.front.ensures ∙ c.feed_with_rebuild.ensures.stays.has.same_front)) c.requires.comes.one)

pub returns-clause-told : goal.returns-clause-told
returns-clause-told g c =
    let old = c.args.evaluator.now in
    let mid = c.feed_with_rebuild.new.evaluator in
    let new = c.tell.new.self in
    let before = answered old (g.S.EntrySource.given c.args.source.now) in
    let same = c.front.ensures ∙ c.feed_with_rebuild.ensures.stays.has.same_front in
    let finds = subst (λ (front : List Entry). Finds before mid front c.in_ok-found.found)
    (sym same) c.in_ok-found.ensures.finds in
    let ahead = ahead_by before old mid c.front.result.now c.in_ok-found.found
    c.requires.stands.tells c.feed_with_rebuild.ensures.keeps finds in
    subst (λ (front : List Entry). IfOk c.tell.result (Tells before new front)) same
    (IfOk-weaker c.tell.result
    (λ (told : UnnamedSteps). (first : List Entry) →
    IsAhead first mid c.front.result.now c.in_ok-found.found →
    Tells first new c.front.result.now told) (Tells before new c.front.result.now)
    (λ told tells. tells before ahead) c.tell.ensures.tells)
