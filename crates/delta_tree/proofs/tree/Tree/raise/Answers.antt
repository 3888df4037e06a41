use Rattle.std.proofs.Common.{refl, sym, ap, ◌∙◌, ◌≡◌, ◌≤◌, ℕ, true, Option, None, Some, option_map}
use Rattle.delta_tree.specs.Nodes.{Node, node_of}
use Rattle.delta_tree.specs.Changes.{is_enough}
use Rattle.std.proofs.lemmas.Bool.{leb-true}
use Rattle.delta_tree.proofs.tree.Tree.raise.Goals as goal

-- a node whose value is enough
enough : (found : Option Node) (number : ℕ) →
    is_enough (option_map (λ (node : Node). node.value) found) number ≡ true →
    (node : Node) × (found ≡ Some node) × (number ≤ node.value)
enough None number is = absurd cc
enough (Some node) number is = (node, refl, leb-true number node.value is)

-- src/tree.rt: `Ok(None)`
pub returns-then-is_enough-clause-stays : goal.returns-then-is_enough-clause-stays
returns-then-is_enough-clause-stays c = λ _. record {
  same = refl;
  enough = enough (node_of c.args.self.now c.args.step.to) c.args.value
      (ap (λ found. is_enough found c.args.value)
      (sym (c.value_at-before.ensures ∙ c.find-spot.ensures.value))
      ∙ (sym c.is_enough.ensures ∙ c.if-is_enough.true));
}
