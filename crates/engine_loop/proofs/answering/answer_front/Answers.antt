use Rattle.std.proofs.Common.{List, Option, Some, None, sym, subst, ◌∙◌, length, ◌+◌, ◌≤◌, ◌^◌}
use Rattle.std.specs.List.{All}
use Rattle.entry_steps.specs.Evaluator.{StandsAfter, Tells}
use Rattle.history_model.specs.declared.line.Why.{Why}
use Rattle.rpq_base.specs.Plain.{IsPlain}
use Rattle.rpq_base.specs.declared.data.Entry.{Entry}
use Rattle.engine_loop.specs.Loop.{TakesMore, answered}
use Rattle.engine_loop.proofs.Taking.{front_is_short, took_none, took_front}
use Rattle.engine_loop.proofs.Taking.{along_then, handed_fault, setup_then}
use Rattle.engine_loop.proofs.answering.answer_front.Goals as goal

pub hand_over-requires-clause-tells : goal.hand_over-requires-clause-tells
hand_over-requires-clause-tells g c =
    let before = answered c.args.evaluator.now (g.S.EntrySource.given c.args.source.now) in (
      before,
      subst (λ (front : List Entry). Tells before c.find_told.new.evaluator front c.in-Ok.told)
          (sym (c.front.ensures ∙ c.find_told.ensures.stays.has.same_front)) c.in-Ok.ensures.told,
    )

pub hand_over-requires-clause-plain : goal.hand_over-requires-clause-plain
hand_over-requires-clause-plain g c =
    subst (All IsPlain) (sym (c.front.ensures ∙ c.find_told.ensures.stays.has.same_front))
    c.requires.comes.plain

pub hand_over-requires-clause-short : goal.hand_over-requires-clause-short
hand_over-requires-clause-short g c =
    subst (λ (front : List Entry). g.K.StepSink.taken c.args.sink.now + length front ≤ 2 ^ 61)
    (sym (c.front.ensures ∙ c.find_told.ensures.stays.has.same_front))
    (front_is_short g.S.EntrySource.given g.S.EntrySource.kept g.S.EntrySource.front g.S.EntrySource.feeds
    g.K.StepSink.taken g.K.StepSink.takes c.goes_on.ensures c.args.source.now
    c.args.evaluator.now c.args.sink.now c.requires)

pub returns-in_default-clause-takes : goal.returns-in_default-clause-takes
returns-in_default-clause-takes g c =
    took_none g.S.EntrySource.given g.S.EntrySource.kept g.S.EntrySource.front g.S.EntrySource.feeds
    g.K.StepSink.taken g.K.StepSink.takes c.goes_on.ensures c.args.source.now
    c.args.evaluator.now c.args.sink.now c.requires c.every_entry_has_a_step.ensures

pub returns-in_err-hand_over-clause-takes : goal.returns-in_err-hand_over-clause-takes
returns-in_err-hand_over-clause-takes g c =
    let old = c.args.evaluator.now in
    let source = c.args.source.now in
    let sink = c.args.sink.now in
    let before = answered old (g.S.EntrySource.given source) in
    let same = c.front.ensures ∙ c.find_told.ensures.stays.has.same_front in
    let tells = subst (λ (front : List Entry).
    Tells before c.find_told.new.evaluator front c.in-Ok.told) (sym same) c.in-Ok.ensures.told in
    handed_fault c.from_residual.result c.in_err-hand_over.field-0.0
    (λ (why : Option Why). TakesMore g.K.StepSink.takes old before (g.S.EntrySource.given source)
    why sink c.hand_over.new.sink) c.from_residual.ensures.1
    (took_front g.S.EntrySource.given g.S.EntrySource.kept g.S.EntrySource.front g.S.EntrySource.feeds
    g.K.StepSink.taken g.K.StepSink.takes c.goes_on.ensures source old sink c.requires
    c.find_told.new.evaluator c.find_told.ensures.keeps c.front.result.now same
    (Some c.in_err-hand_over.field-0.0) c.hand_over.new.sink
    (c.in_err-hand_over.ensures before tells))

pub returns-clause-along : goal.returns-clause-along
returns-clause-along g c =
    let given = g.S.EntrySource.given in
    let kept = g.S.EntrySource.kept in
    let front = g.S.EntrySource.front in
    let old = c.args.evaluator.now in
    let source = c.args.source.now in
    let sink = c.args.sink.now in
    let final = c.show.new.evaluator in
    let before = answered old (given source) in
    let same = c.front.ensures ∙ c.find_told.ensures.stays.has.same_front in
    let tells = subst (λ (all : List Entry).
    Tells before c.find_told.new.evaluator all c.in-Ok.told) (sym same) c.in-Ok.ensures.told in
    let did = took_front given kept front g.S.EntrySource.feeds g.K.StepSink.taken
    g.K.StepSink.takes c.goes_on.ensures source old sink c.requires c.find_told.new.evaluator
    c.find_told.ensures.keeps c.front.result.now same None c.hand_over.new.sink
    (c.in_ok-hand_over.ensures before tells) in
    let stayed = c.find_told.ensures.stays.has in
    let then = c.show.ensures.has in
    along_then given kept front g.S.EntrySource.feeds g.K.StepSink.taken g.K.StepSink.takes
    c.goes_on.ensures source old sink c.requires c.hand_over.new.sink did
    c.entries_stand_in.ensures c.show.new.source final
    (setup_then old c.find_told.new.evaluator final c.find_told.ensures.keeps
    c.show.ensures.shows.setup)
    (subst (StandsAfter final) stayed.same_given c.show.ensures.shows.stands)
    (then.same_given ∙ stayed.same_given) (then.same_kept ∙ stayed.same_kept)
    (then.same_front ∙ stayed.same_front) c.in-Ok-show.ensures.ok
