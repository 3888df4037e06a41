use Rattle.std.proofs.Common.{◌↔◌, ℕ, List, OnOk, Contains, subst, ◌∙◌}
use Rattle.delta_tree.specs.Nodes.{node_id}
use Rattle.place_table.specs.Kept.{Placed}
use Rattle.place_table.specs.Reading.{HasRoots}
use Rattle.place_table.proofs.places.Places.add_states.Goals as goal

pub returns : goal.returns
returns c =
    subst (λ (places : List Placed). OnOk c.collect_states.result ((state : ℕ) →
    Contains c.collect_states.new.states.items state
    ↔ HasRoots places (node_id c.args.vertex state)))
    (c.deref.ensures.value ∙ c.self.view_is) c.collect_states.ensures
