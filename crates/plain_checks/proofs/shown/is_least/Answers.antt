use Rattle.std.proofs.Common.{◌+◌, List, take, map, refl, subst}
use Rattle.std.proofs.lemmas.List.{take_all}
use Rattle.rpq_base.proofs.Members.{next_given}
use Rattle.rpq_model.specs.declared.live.Live.{Live}
use Rattle.rpq_model.specs.Live.{placed_entry}
use Rattle.plain_checks.proofs.Showing.{IsLeastSoFar, least_more, least_decides, not_least}
use Rattle.plain_checks.proofs.PathFinding.{element_given}
use Rattle.plain_checks.proofs.shown.is_least.Goals as goal

pub returns-then-deadline-until : goal.returns-then-deadline-until
returns-then-deadline-until c =
    let path = c.args.path.now in
    not_least c.args.window (map placed_entry path) (placed_entry c.each-item.result) c.args.until c.tuple_deadline-deadline.result
    (element_given placed_entry path c.loop-each.each-index c.each-item.result c.loop-each-test.true c.each-item.is)
    c.tuple_deadline-deadline.ensures c.if-deadline-until.true

pub loop-each-preserved : goal.loop-each-preserved
loop-each-preserved c =
    let path = c.args.path.now in
    let index = c.loop-each.each-index in
    let one = c.each-item.result in
    least_more c.args.window (map placed_entry (take index path)) (placed_entry one) (map placed_entry (take (index + 1) path)) c.args.until
    c.tuple_deadline-deadline.result c.loop-each.met _
    (next_given placed_entry path index one c.loop-each-test.true c.each-item.is) c.tuple_deadline-deadline.ensures
    c.if-deadline-until.false refl c.loop-each.invariant

pub returns : goal.returns
returns c =
    let path = c.args.path.now in
    least_decides c.args.window (map placed_entry path) c.args.until c.loop-each.met
    (subst (λ (some : List Live). IsLeastSoFar c.args.window (map placed_entry some) c.args.until c.loop-each.met)
    (take_all c.loop-each.each-index path c.loop-each-test.false) c.loop-each.invariant)
