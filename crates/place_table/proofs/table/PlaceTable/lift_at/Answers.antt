use Rattle.std.proofs.Common.{◌≡◌, ℕ, OnErr, refl, sym, subst}
use Rattle.delta_tree.specs.Changes.{CanHang, HasAsMuch, Lifts}
use Rattle.place_table.specs.Raises.{ChangesOneTree, HasNumber}
use Rattle.place_table.specs.Sound.{tree_kept}
use Rattle.place_table.specs.Table.{TableValue, tree_in}
use Rattle.place_table.proofs.Beside.{table_kept}
use Rattle.place_table.proofs.Raised.{trees_after, lifts_after, stays_after, others_after, counted_after, same_after, there_number, number_there}
use Rattle.place_table.proofs.table.PlaceTable.lift_at.Goals as goal

pub raise_node-requires-clause-there : goal.raise_node-requires-clause-there
raise_node-requires-clause-there c =
    number_there c.self.inside.puts c.self.inside.places c.args.step.to c.args.number
    (subst (λ (table : TableValue). HasNumber table c.args.step.to c.args.number)
    (sym c.self.view_is) c.requires.number)

pub invariant_of-self : goal.invariant_of-self
invariant_of-self c = record {
  trees = trees_after c.self.inside.puts c.raise_node.new.puts c.self.inside.places
      c.raise_node.new.places c.args.root c.args.step c.args.value c.self.invariant.trees
      (subst (λ (table : TableValue). CanHang (tree_in table c.args.root) c.args.step c.args.value)
      (sym c.self.view_is) c.requires.hangs) c.raise_node.result c.raise_node.ensures.raises
      c.raise_node.ensures.stays c.raise_node.ensures.same c.ranges.value.fits;
  noted = c.raise_node.ensures.noted;
}

pub returns-clause-lifts : goal.returns-clause-lifts
returns-clause-lifts c shift is =
    subst (λ (table : TableValue). Lifts (tree_in table c.args.root)
    (tree_kept c.raise_node.new.puts c.raise_node.new.places c.args.root) c.args.step c.args.value
    shift) c.self.view_is
    (lifts_after c.self.inside.puts c.raise_node.new.puts c.self.inside.places
    c.raise_node.new.places c.args.root c.args.step c.args.value c.self.invariant.trees
    (subst (λ (table : TableValue). CanHang (tree_in table c.args.root) c.args.step c.args.value)
    (sym c.self.view_is) c.requires.hangs) shift (c.raise_node.ensures.raises shift is))

pub returns-clause-stays : goal.returns-clause-stays
returns-clause-stays c is =
    subst (λ (table : TableValue). HasAsMuch (tree_in table c.args.root)
    (tree_kept c.raise_node.new.puts c.raise_node.new.places c.args.root) c.args.step.to
    c.args.value) c.self.view_is
    (stays_after c.self.inside.puts c.raise_node.new.puts c.self.inside.places
    c.raise_node.new.places c.args.root c.args.step c.args.value c.self.invariant.trees
    (subst (λ (table : TableValue). CanHang (tree_in table c.args.root) c.args.step c.args.value)
    (sym c.self.view_is) c.requires.hangs) (c.raise_node.ensures.stays is))

pub returns-clause-unchanged : goal.returns-clause-unchanged
returns-clause-unchanged c =
    subst (λ (table : TableValue). OnErr c.raise_node.result ((each : ℕ) →
    tree_kept c.raise_node.new.puts c.raise_node.new.places each ≡ tree_in table each))
    c.self.view_is
    (same_after c.self.inside.puts c.raise_node.new.puts c.self.inside.places
    c.raise_node.new.places c.args.root c.args.step c.args.value c.self.invariant.trees
    (subst (λ (table : TableValue). CanHang (tree_in table c.args.root) c.args.step c.args.value)
    (sym c.self.view_is) c.requires.hangs) c.raise_node.result c.raise_node.ensures.same)

pub returns-clause-beside : goal.returns-clause-beside
returns-clause-beside c =
    let hangs = subst (λ (table : TableValue). CanHang (tree_in table c.args.root) c.args.step
    c.args.value) (sym c.self.view_is) c.requires.hangs in
    subst (λ (table : TableValue). ChangesOneTree table (table_kept c.self.inside.root
    c.raise_node.new.puts c.raise_node.new.places c.self.inside.marks) c.args.root)
    c.self.view_is (record {
      others = others_after c.self.inside.puts c.raise_node.new.puts c.self.inside.places
          c.raise_node.new.places c.args.root c.args.step c.args.value c.self.invariant.trees hangs
          c.raise_node.result c.raise_node.ensures.raises c.raise_node.ensures.stays
          c.raise_node.ensures.same;
      counted = counted_after c.self.inside.puts c.raise_node.new.puts c.self.inside.places
          c.raise_node.new.places c.args.root c.args.step c.args.value c.self.invariant.trees hangs
          c.raise_node.result c.raise_node.ensures.raises c.raise_node.ensures.stays
          c.raise_node.ensures.same;
      shown = refl;
      marked = refl;
    })

pub returns-clause-number : goal.returns-clause-number
returns-clause-number c =
    there_number c.raise_node.new.puts c.raise_node.new.places c.args.step.to c.args.number
    c.raise_node.ensures.there
