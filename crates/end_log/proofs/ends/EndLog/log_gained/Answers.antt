use Rattle.std.proofs.lemmas.Result.{on_ok_weaker}
use Rattle.source_tree.specs.declared.change.Outcome.TheVariants.{Gained}
use Rattle.end_log.specs.Moves.{came}
use Rattle.end_log.proofs.Arrivals.{came_moves}
use Rattle.end_log.proofs.Logged.{many_listed, one_logged}
use Rattle.end_log.proofs.ends.EndLog.log_gained.Goals as goal

pub returns-then-finals-eq1 : goal.returns-then-finals-eq1
returns-then-finals-eq1 c =
    let table = c.args.table.now in
    let all = c.args.lifts.now in
    on_ok_weaker c.log_came.result
    (λ logs old reports. one_logged came Gained old table all (came_moves old table all reports)
    c.args.finals.now c.clear.new.self.items c.log_came.new.log.items c.if-finals-eq1.true
    c.clear.ensures.items logs)
    c.log_came.ensures

pub returns : goal.returns
returns c =
    let table = c.args.table.now in
    let all = c.args.lifts.now in
    let finals = c.args.finals.now in
    on_ok_weaker c.log_moved.result
    (λ logs old reports. logs finals old c.all_finals.ensures
    (many_listed came Gained old table all (came_moves old table all reports) c.args.dfa.now finals
    c.clear-2.new.self.items c.list_came.new.moved.items c.all_finals.ensures
    c.clear-2.ensures.items c.in_ok-list_came.ensures)
    c.clear.ensures.items)
    c.log_moved.ensures
