use Rattle.std.proofs.Common.{List, ap, subst, ◌∙◌, rules}
use Rattle.rpq_model.specs.Query.{Query}
use Rattle.history_model.specs.Lines.{publish_line, entries, published}
use Rattle.stream_history.specs.Journal.{ShowsFront}
use Rattle.stream_history.proofs.Pushes.{published_push}
use Rattle.stream_history.proofs.Steps.{feeds_on, still_feeds, is_short, is_there, shows_front}
use Rattle.library_tests.proofs.history.publish.Goals as goal

pub plain_view-requires-clause-short : goal.plain_view-requires-clause-short
plain_view-requires-clause-short g c =
    is_short (entries c.after.new.pass.seen) c.in_ok-front.front.entries.items c.deref.result.now
    c.in_ok-front.ensures.entries c.deref.ensures.value

pub publish-requires-clause-there : goal.publish-requires-clause-there
publish-requires-clause-there g c =
    is_there (entries c.after.new.pass.seen) c.in_ok-front.front.entries.items c.deref.result.now
    c.in_ok-front.ensures.entries c.deref.ensures.value c.args.queries.now c.in_ok-view.view.value
    c.in_ok-view.ensures

pub publish-requires-clause-shows : goal.publish-requires-clause-shows
publish-requires-clause-shows g c =
    let all = entries c.after.new.pass.seen in
    let view = c.in_ok-view.view.value in
    subst (λ (queries : List Query). ShowsFront queries all view) c.requires.queries.0
    (shows_front all c.in_ok-front.front.entries.items c.deref.result.now
    c.in_ok-front.ensures.entries c.deref.ensures.value c.args.queries.now view
    c.in_ok-view.ensures)

pub returns-in-Ok-clause-feeds : goal.returns-in-Ok-clause-feeds
returns-in-Ok-clause-feeds g c =
    let history = c.args.history.now in
    let mid = c.after.new.pass in
    let feeds = still_feeds history c.args.pass.now mid c.requires.engine c.after.ensures.pass in
    feeds_on history mid c.publish.new.pass feeds (publish_line c.in_ok-view.view.value.position)
    c.publish.result (λ why same. cc) c.publish.ensures.line c.publish.ensures.refused

pub returns-in-Ok-clause-published : goal.returns-in-Ok-clause-published
returns-in-Ok-clause-published g c =
    let line = publish_line c.in_ok-view.view.value.position in
    ap published c.in-Ok.ensures.line.mine
    ∙ (published_push c.after.new.pass.mine line ∙ search rules)

pub returns-clause-feeds : goal.returns-clause-feeds
returns-clause-feeds g c =
    still_feeds c.args.history.now c.after.new.pass c.publish.new.pass
    (still_feeds c.args.history.now c.args.pass.now c.after.new.pass c.requires.engine
    c.after.ensures.pass) c.in-Err.ensures.refused

pub returns-clause-refused : goal.returns-clause-refused
returns-clause-refused g c =
    ap published (c.in-Err.ensures.refused.mine ∙ c.after.ensures.pass.mine)
