use Rattle.std.proofs.Common.{◌≡◌, ℕ, ◌+◌, Bool, false, List, [], ◌∷◌, ◌++◌, length, get_or, drop, Vec, Global, Bor, sym, ap, ◌∙◌, arith}
use Rattle.rpq_base.specs.declared.data.Edge.{Edge}
use Rattle.path_witness.specs.LastVisits.{are_last, cut_from}
use Rattle.path_witness.proofs.Visits.{as_many_flags, taken_more, skipped_more}
use Rattle.path_witness.proofs.loops.cut_between.Goals as goal
use Rattle.path_witness.proofs.loops.cut_between.Goals.{then-takes+in_ok-copy+in_ok-push, else-takes}

pub bounds-lasts-place : goal.bounds-lasts-place
bounds-lasts-place c = omega (arith, ap length c.requires, as_many_flags c.args.path.now, c.loop-place-test.true)

pub loop-place-preserved : goal.loop-place-preserved
loop-place-preserved c =
    let path = c.args.path.now in
    let end = c.args.end.now in
    let place = c.loop-place.place in
    let edge = c.index-path-place.result in
    let vertex = c.loop-place.vertex.now in
    let done = c.loop-place.cut.items in
    let flag = get_or c.args.lasts.now place false in
    let flag_is : flag ≡ get_or (are_last path) place false = ap (λ (flags : List Bool). get_or flags place false) c.requires in
    elim c.if-takes.branch [
      | then-takes+in_ok-copy+in_ok-push w ↦
          ap (λ (cut : Vec Edge Global). cut.items ++ cut_from c.if-takes.vertex.now end (drop (place + 1) path)) w.cut-is
          ∙ (ap (λ (cut : List Edge). cut ++ cut_from c.if-takes.vertex.now end (drop (place + 1) path)) w.in_ok-push.ensures.items
          ∙ (ap (λ (one : Edge). (done ++ one ∷ []) ++ cut_from c.if-takes.vertex.now end (drop (place + 1) path)) w.in_ok-copy.ensures
          ∙ (ap (λ (at : Bor (List ℕ)). (done ++ edge ∷ []) ++ cut_from at.now end (drop (place + 1) path)) w.vertex-is
          ∙ (taken_more path place edge flag vertex end done c.loop-place-test.true c.index-path-place.is flag_is (sym c.takes.ensures ∙ w.if-takes.true)
          ∙ c.loop-place.invariant))))
      | else-takes w ↦
          ap (λ (cut : Vec Edge Global). cut.items ++ cut_from c.if-takes.vertex.now end (drop (place + 1) path)) w.cut-is
          ∙ (ap (λ (at : Bor (List ℕ)). done ++ cut_from at.now end (drop (place + 1) path)) w.vertex-is
          ∙ (skipped_more path place edge flag vertex end done c.loop-place-test.true c.index-path-place.is flag_is (sym c.takes.ensures ∙ w.if-takes.false)
          ∙ c.loop-place.invariant))
    ]
