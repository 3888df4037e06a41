use Rattle.std.proofs.Common.{List, map, ap, ◌∙◌}
use Rattle.std.proofs.lemmas.List.{map_push}
use Rattle.rpq_model.specs.declared.live.Live.{Live}
use Rattle.rpq_model.specs.Live.{placed_entry}
use Rattle.plain_checks.proofs.PathFinding.{any_default, path_more, no_path}
use Rattle.plain_checks.proofs.shown.path_at.Goals as goal

pub returns-in-None-clause-none : goal.returns-in-None-clause-none
returns-in-None-clause-none c =
    let none = c.in-None.ensures.none in
    no_path (map placed_entry c.args.live.now) c.args.positions.now c.loop-index.index _ c.loop-index-test.true
    (any_default c.args.positions.now c.loop-index.index 0 _ c.loop-index-test.true) none

pub loop-index-preserved : goal.loop-index-preserved
loop-index-preserved c =
    let live = map placed_entry c.args.live.now in
    let at = c.in-Some.ensures.some in
    path_more live c.args.positions.now c.loop-index.index _ (map placed_entry c.loop-index.path.items) (map placed_entry c.push.new.self.items)
    (placed_entry c.in-Some.each) c.loop-index-test.true
    (any_default c.args.positions.now c.loop-index.index 0 _ c.loop-index-test.true) at
    (ap (λ (path : List Live). map placed_entry path) c.in_ok-push-in-Some.ensures.items ∙ map_push placed_entry c.loop-index.path.items c.in-Some.each)
    c.loop-index.invariant
