use Rattle.std.proofs.Common.{List, [], ◌∷◌, subst, refl}
use Rattle.rpq_model.specs.Query.{Query}
use Rattle.text_items.specs.Progress.{ReadsOn}
use Rattle.live_asks.specs.Items.{asking}
use Rattle.live_asks.specs.Progress.{EndsAsks}
use Rattle.stream_threads.proofs.Live.{serves_one, stops_at_item, ends_so}
use Rattle.stream_threads.proofs.reader_worker.answer_next.Goals as goal

pub returns-in-Ok-clause-ok : goal.returns-in-Ok-clause-ok
returns-in-Ok-clause-ok g c =
    let history = c.args.shared.now.history.now in
    let old = c.args.work.now.reader in
    let new = c.next_ask.new.reader in
    let item = c.in-Ok.item in
    serves_one g.S.Source.left g.K.Sink.written history c.args.work.now _
    c.fronts_are_legal.ensures item
    (subst (λ (queries : List Query). ReadsOn (asking queries) g.S.Source.left old new (item ∷ []))
    c.requires.queries c.in-Ok.ensures.ok) c.answer_item.ensures.seen c.next_ask.ensures.limit
    c.answer_item.result c.answer_item.ensures.ok

pub returns-in-Ok-clause-err : goal.returns-in-Ok-clause-err
returns-in-Ok-clause-err g c =
    let history = c.args.shared.now.history.now in
    let old = c.args.work.now.reader in
    let new = c.next_ask.new.reader in
    let item = c.in-Ok.item in
    stops_at_item g.S.Source.left g.K.Sink.written history c.args.work.now _
    c.fronts_are_legal.ensures item
    (subst (λ (queries : List Query). ReadsOn (asking queries) g.S.Source.left old new (item ∷ []))
    c.requires.queries c.in-Ok.ensures.ok) c.answer_item.ensures.seen c.next_ask.ensures.limit
    c.answer_item.result c.answer_item.ensures.err

pub returns-in-Err-clause-err : goal.returns-in-Err-clause-err
returns-in-Err-clause-err g c =
    let history = c.args.shared.now.history.now in
    let old = c.args.work.now.reader in
    let new = c.next_ask.new.reader in
    ends_so g.S.Source.left g.K.Sink.written history c.args.work.now _ c.fronts_are_legal.ensures
    c.in-Err.end c.last_end.result
    (subst (λ (queries : List Query). EndsAsks queries g.S.Source.left old new c.in-Err.end)
    c.requires.queries c.in-Err.ensures.err) refl c.last_end.ensures.last c.requires.serving.is
