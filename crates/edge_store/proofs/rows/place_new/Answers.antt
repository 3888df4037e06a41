use Rattle.std.proofs.Common.{◌∙◌, List, ℕ, length, subst, arith}
use Rattle.edge_store.specs.Row.{RowValue}
use Rattle.edge_store.specs.Rows.{IsBareAt}
use Rattle.edge_store.proofs.Numbered.{numbered_by, numbered_same}
use Rattle.edge_store.proofs.RowChanges.{same_slots, is_side_same, given_side, given_rows}
use Rattle.edge_store.proofs.rows.place_new.Goals as goal

pub returns-in_err-reach-clause-same : goal.returns-in_err-reach-clause-same
returns-in_err-reach-clause-same c =
    same_slots c.args.slots.now.items c.reach.new.slots.items c.args.rows.now.items
    c.reach.ensures.same

pub returns-in-Some-clause-side : goal.returns-in-Some-clause-side
returns-in-Some-clause-side c =
    given_side c.reach.new.slots.items c.give.new.slots.items (length c.args.rows.now.items)
    c.in-Some.owner c.args.vertex c.give.ensures.gives
    (is_side_same c.args.slots.now.items c.reach.new.slots.items (length c.args.rows.now.items)
    c.reach.ensures.same c.requires.side)

pub returns-in-Some-clause-same : goal.returns-in-Some-clause-same
returns-in-Some-clause-same c each =
    given_rows c.reach.new.slots.items c.give.new.slots.items c.args.rows.now.items
    c.in-Some.owner c.args.vertex c.in-Some.at c.give.ensures.gives
    (subst (λ (slots : List ℕ). IsBareAt slots c.args.rows.now.items c.in-Some.at c.in-Some.owner)
    c.deref.ensures.value
    (subst (λ (rows : List RowValue). IsBareAt c.deref.result.now rows c.in-Some.at c.in-Some.owner)
    c.deref-2.ensures.value c.in-Some.ensures))
    (c.reach.ensures.same c.args.vertex ∙ c.requires.none) each
    ∙ same_slots c.args.slots.now.items c.reach.new.slots.items c.args.rows.now.items
    c.reach.ensures.same each

pub returns-in-None-clause-same : goal.returns-in-None-clause-same
returns-in-None-clause-same c each =
    c.add.ensures.same each
    ∙ same_slots c.args.slots.now.items c.reach.new.slots.items c.args.rows.now.items
    c.reach.ensures.same each

pub returns-in_err-reach-clause-numbered : goal.returns-in_err-reach-clause-numbered
returns-in_err-reach-clause-numbered c =
    numbered_same c.args.slots.now.items c.reach.new.slots.items (length c.args.rows.now.items)
    c.reach.ensures.same c.reach.ensures.short c.requires.numbered

pub add-requires-clause-numbered : goal.add-requires-clause-numbered
add-requires-clause-numbered c =
    numbered_same c.args.slots.now.items c.reach.new.slots.items (length c.args.rows.now.items)
    c.reach.ensures.same c.reach.ensures.short c.requires.numbered

pub returns-in-Some-clause-numbered : goal.returns-in-Some-clause-numbered
returns-in-Some-clause-numbered c =
    numbered_by c.reach.new.slots.items c.give.new.slots.items (length c.args.rows.now.items)
    c.give.ensures.owners (omega (arith, c.give.ensures.len, c.reach.ensures.short))
    (numbered_same c.args.slots.now.items c.reach.new.slots.items (length c.args.rows.now.items)
    c.reach.ensures.same c.reach.ensures.short c.requires.numbered)
