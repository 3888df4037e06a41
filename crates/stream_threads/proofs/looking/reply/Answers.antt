use Rattle.std.proofs.Common.{◌≡◌, length, sym, ap, ◌∙◌, rules}
use Rattle.answer_view.specs.View.{ViewValue}
use Rattle.stream_threads.proofs.Replying.{as_many_rows, reply_is}
use Rattle.stream_threads.proofs.looking.reply.Goals as goal

pub reply_text-requires-clause-view : goal.reply_text-requires-clause-view
reply_text-requires-clause-view g c =
    let same : c.deref-2.result.now ≡ c.in_ok-view.view.value = search rules in
    ap (λ (view : ViewValue). length view.rows) same
    ∙ (as_many_rows c.args.shared.now.history.now c.look_for.new.pass.seen c.in_ok-view.view.value
    c.in_ok-view.ensures.shows ∙ sym (ap length c.requires.queries))

pub returns-clause-reply : goal.returns-clause-reply
returns-clause-reply g c =
    let found = c.in_ok-view.ensures in
    let view = c.in_ok-view.view.value in
    reply_is c.args.shared.now.history.now c.args.shared.now.queries.now c.look_for.new.pass.seen
    view c.args.ask c.position-position.result c.is_ended_at-ended.result c.in_ok-text.text.items
    c.requires.queries (search rules) (search rules) found.position found.shows
    (search rules) found.over
