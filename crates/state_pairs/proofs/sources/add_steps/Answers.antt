use Rattle.std.proofs.Common.{◌+◌, ◌∙◌, subst, sym}
use Rattle.state_pairs.specs.Sources.{AddsSteps}
use Rattle.state_pairs.proofs.Stepped.{steps_more, steps_none}
use Rattle.state_pairs.proofs.sources.add_steps.Goals as goal
use Rattle.state_pairs.proofs.sources.add_steps.Goals.{in-Some+in_ok-add_source, in_default}

pub loop-label-preserved : goal.loop-label-preserved
loop-label-preserved g c =
    let graph = g.G.Graph.graph c.args.graph.now in
    let node = c.args.node in
    let before = c.args.lists.now in
    let label = c.loop-label.label in
    elim c.match-step.branch [
      | in-Some+in_ok-add_source w ↦
          subst (AddsSteps graph node (label + 1) before) (sym w.lists-is)
          (steps_more graph node label w.in-Some.next before c.loop-label.lists w.add_source.new.lists c.loop-label.invariant
          (sym c.step.ensures ∙ w.in-Some.is) w.in_ok-add_source.ensures)
      | in_default w ↦
          subst (AddsSteps graph node (label + 1) before) (sym w.lists-is)
          (steps_none graph node label before c.loop-label.lists c.loop-label.invariant (sym c.step.ensures ∙ w.in_default.is))
    ]
