use Rattle.std.proofs.Common.{length, ◌-◌, take, drop, arith}
use Rattle.path_syntax.specs.Expression.{expression}
use Rattle.path_syntax.proofs.MarkedWords.{begun, moved, ended}
use Rattle.path_syntax.proofs.matcher.accepts.Goals as goal

pub loop-label-init : goal.loop-label-init
loop-label-init c =
    begun (expression c.args.expr.now) c.args.word.now c.first-item.result c.in_ok-marks.marks.items
    c.in-len1-up.len_at_least c.first-item.is c.in_ok-marks.ensures

pub loop-label-preserved : goal.loop-label-preserved
loop-label-preserved c =
    let rest = take (length c.args.word.now - 1) (drop 1 c.args.word.now) in
    moved (expression c.args.expr.now) c.loop-label.marks.items c.deref.result.now c.in_ok-marks-2.marks.items rest c.args.word.now
    c.loop-label.label-index c.label-item.result (omega arith) c.label-item.is c.deref.ensures.value c.in_ok-marks-2.ensures c.loop-label.invariant

pub returns : goal.returns
returns c =
    let rest = take (length c.args.word.now - 1) (drop 1 c.args.word.now) in
    record {
      answer = ended (expression c.args.expr.now) c.loop-label.marks.items c.deref-2.result.now rest c.args.word.now
          c.loop-label.label-index c.may_end.result (omega arith) c.deref-2.ensures.value c.may_end.ensures c.loop-label.invariant;
    }
