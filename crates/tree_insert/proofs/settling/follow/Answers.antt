use Rattle.std.proofs.Common.{◌≡◌, List, inl, inr, length-append, [], ◌∷◌, ◌++◌, Option, Ok, Some, ◌≤◌, ◌+◌, length, refl, sym, ap, subst, ◌∙◌, arith}
use Rattle.std.proofs.lemmas.Result.{on_ok_weaker}
use Rattle.edge_store.specs.Edges.{value_of, outs_of}
use Rattle.dfa_table.specs.DfaValue.{step_of}
use Rattle.delta_tree.specs.declared.node.NodeId.{NodeId}
use Rattle.delta_tree.specs.declared.node.Shift.{Shift}
use Rattle.delta_tree.specs.declared.node.Try.{Try}
use Rattle.delta_tree.specs.declared.node.Node.{Node}
use Rattle.delta_tree.specs.Nodes.{TreeValue}
use Rattle.delta_tree.specs.Nodes as nodes
use Rattle.delta_tree.specs.Changes.{AreShifts, HasAsMuch, Lifts, put_node, shift_ids}
use Rattle.tree_insert.specs.Waiting.{Gains, SearchValue, target_of, try_of, with_shift}
use Rattle.tree_insert.specs.UnderWay.{AreFirm, AreOpen, AreServed, IsCounted, IsOpen, IsReady, IsServedFrom, IsUnderWay, Leaves}
use Rattle.rpq_base.proofs.Outcomes.{on_ok}
use Rattle.tree_insert.proofs.Nodes.{put_here, value_reached}
use Rattle.tree_insert.proofs.Shifts.{ids_push, shifts_more}
use Rattle.delta_tree.proofs.Trees.{put_keeps}
use Rattle.tree_insert.proofs.UnderWay.{gains_kind, rises_more, supported_more, open_more, open_gained, leaves_open, counted_more, counted_put, served_put, served_without}
use Rattle.tree_insert.proofs.settling.follow.Given.{Over}
use Rattle.tree_insert.proofs.settling.follow.Goals as goal
use Rattle.tree_insert.proofs.settling.follow.Goals.{After-offer_outs, In-Some, In_default}

-- ---- the raise

lifted : (g : Over) (c : In-Some g) → Lifts (g.T.PathTree.tree c.args.tree.now)
    (g.T.PathTree.tree c.raise.new.self) (try_of c.args.taken)
    c.args.taken.value c.in-Some.shift
lifted g c =
    subst (λ (step : Try). Lifts (g.T.PathTree.tree c.args.tree.now) (g.T.PathTree.tree
    c.raise.new.self) step c.args.taken.value
    c.in-Some.shift) c.step.ensures
    (c.raise.ensures.lifts c.in-Some.shift
    (c.in_ok-shift.was ∙ ap (λ (told : Option Shift). Ok told) c.in-Some.is))

-- the node that the try makes
abbrev new_node : (g : Over) (c : In-Some g) → Node
new_node g c = put_node (g.T.PathTree.tree c.args.tree.now) (try_of c.args.taken) c.args.taken.value

-- its place, with the value before
abbrev told : (g : Over) (c : In-Some g) → Shift
told g c = record {
  id = target_of c.args.taken;
  before = nodes.value_of (g.T.PathTree.tree c.args.tree.now) (target_of c.args.taken);
  after = Some c.args.taken.value;
}

-- the tree goes on to be one that comes by raises
under_more : (g : Over) (c : In-Some g) (first : TreeValue) →
    IsUnderWay (value_of c.args.store.now) (step_of c.args.dfa.now) first
    (g.T.PathTree.tree c.args.tree.now) →
    IsUnderWay (value_of c.args.store.now) (step_of c.args.dfa.now) first
    (g.T.PathTree.tree c.raise.new.self)
under_more g c first under =
    let old = (g.T.PathTree.tree c.args.tree.now) in
    let new = (g.T.PathTree.tree c.raise.new.self) in
    let to = target_of c.args.taken in
    let lifts = lifted g c in
    record {
      tree_is = put_keeps old new (try_of c.args.taken) c.args.taken.value under.tree_is
          lifts.raises lifts.node c.raise.ensures.root lifts.counted
          c.requires.taken.can.source c.requires.taken.can.is_step.some
          (record { leaves = refl; ends = refl })
          (omega arith);
      supported = supported_more (value_of c.args.store.now) (step_of c.args.dfa.now) old new to
          (new_node g c) under.supported lifts.node
          (record { edge = c.requires.taken.can.edge; leads = c.requires.taken.can.is_step.leads });
      rises = rises_more first old new to (new_node g c) under.rises lifts.node lifts.raises refl
          c.raise.ensures.root lifts.counted;
    }

-- and what could be taken still can be
opens_more : (g : Over) (c : In-Some g) →
    AreOpen (value_of c.args.store.now) c.args.dfa.now (g.T.PathTree.tree c.args.tree.now)
    c.args.search.now.waiting →
    AreOpen (value_of c.args.store.now) c.args.dfa.now (g.T.PathTree.tree c.raise.new.self)
    c.args.search.now.waiting
opens_more g c opens = open_more (value_of c.args.store.now) c.args.dfa.now
    (g.T.PathTree.tree c.args.tree.now)
    (g.T.PathTree.tree c.raise.new.self) (target_of c.args.taken) (new_node g c)
    c.args.search.now.waiting opens
    (lifted g c).node (lifted g c).raises c.raise.ensures.root

-- ---- the tries by the edges that leave its place

gained : (g : Over) (c : After-offer_outs g) (at : In-Some g) →
    c.in-Some.shift ≡ told g at →
    Gains (with_shift c.args.search.now (told g at)) c.offer_outs.new.search
    (Leaves (value_of c.args.store.now) c.args.dfa.now (told g at).id c.args.taken.value)
gained g c at is =
    subst (λ (shift : Shift). Gains (with_shift c.args.search.now shift) c.offer_outs.new.search
    (Leaves (value_of c.args.store.now) c.args.dfa.now shift.id c.args.taken.value)) is
    (subst (λ (old : SearchValue). Gains old c.offer_outs.new.search
    (Leaves (value_of c.args.store.now) c.args.dfa.now c.in-Some.shift.id c.args.taken.value))
    c.in_ok-add_shift.ensures.added c.offer_outs.ensures.gains)

-- ---- where nothing is raised

same : (g : Over) (c : In_default g) →
    HasAsMuch (g.T.PathTree.tree c.args.tree.now) (g.T.PathTree.tree c.raise.new.self)
    (target_of c.args.taken) c.args.taken.value
same g c =
    subst (λ (step : Try). HasAsMuch (g.T.PathTree.tree c.args.tree.now)
    (g.T.PathTree.tree c.raise.new.self) step.to c.args.taken.value)
    c.step.ensures
    (c.raise.ensures.stays (c.in_ok-shift.was ∙ ap (λ (told : Option Shift). Ok told)
    c.in_default.is))

pub returns-in_default-clause-ready : goal.returns-in_default-clause-ready
returns-in_default-clause-ready g c first ready =
    subst (λ tree. IsReady (value_of c.args.store.now) c.args.dfa.now first tree
    c.args.search.now.waiting) (sym (same g c).same) ready

pub returns-in_default-clause-served : goal.returns-in_default-clause-served
returns-in_default-clause-served g c served =
    let has = (same g c).enough in
    subst (λ tree. AreServed (value_of c.args.store.now) (step_of c.args.dfa.now) tree
    c.args.search.now.waiting) (sym (same g c).same)
    (served_without (value_of c.args.store.now) (step_of c.args.dfa.now)
    (g.T.PathTree.tree c.args.tree.now)
    c.args.taken c.args.search.now.waiting served
    (value_reached (g.T.PathTree.tree c.args.tree.now) (target_of c.args.taken) has.0
    c.args.taken.value has.1 has.2))

pub returns-in_default-clause-raises : goal.returns-in_default-clause-raises
returns-in_default-clause-raises g c =
    inl (refl, ap (λ (tree : TreeValue). tree.puts) (same g c).same)

pub returns-in_err-shift-clause-ready : goal.returns-in_err-shift-clause-ready
returns-in_err-shift-clause-ready g c first ready =
    subst (λ tree. IsReady (value_of c.args.store.now) c.args.dfa.now first tree
    c.args.search.now.waiting) (sym c.in_err-shift.ensures.unchanged) ready

-- ---- where the place isn't told

pub returns-in_err-add_shift-clause-counted : goal.returns-in_err-add_shift-clause-counted
returns-in_err-add_shift-clause-counted g c first start rises counted =
    let at = (goal.at.returns-in_err-add_shift-clause-counted g c).In-Some in
    subst (λ (search : SearchValue). IsCounted c.args.store.now first (g.T.PathTree.tree
    c.raise.new.self)
    (shift_ids search.shifts) search.level start c.args.steps.now)
    (sym c.in_err-add_shift.ensures.unchanged)
    (counted_put c.args.store.now first (g.T.PathTree.tree c.args.tree.now)
    (g.T.PathTree.tree c.raise.new.self)
    (shift_ids c.args.search.now.shifts) (target_of c.args.taken) (new_node g at)
    (lifted g at).node start (lifted g at).raises c.args.search.now.level c.args.steps.now counted)

pub returns-in_err-add_shift-clause-ready : goal.returns-in_err-add_shift-clause-ready
returns-in_err-add_shift-clause-ready g c first ready =
    let at = (goal.at.returns-in_err-add_shift-clause-ready g c).In-Some in record {
      under = under_more g at first ready.under;
      can = subst (λ (search : SearchValue). AreOpen (value_of c.args.store.now) c.args.dfa.now
          (g.T.PathTree.tree c.raise.new.self) search.waiting)
          (sym c.in_err-add_shift.ensures.unchanged)
          (opens_more g at ready.can);
    }

-- ---- where the target is raised

pub returns-clause-counted : goal.returns-clause-counted
returns-clause-counted g c first start rises counted =
    let at = (goal.at.returns-clause-counted g c).In-Some in
    let to = target_of c.args.taken in
    let old = c.args.search.now.shifts in
    let gains = gained g c at (lifted g at).shift in
    let level = c.requires.taken.level in
    subst (λ (shifts : List Shift). IsCounted c.args.store.now first (g.T.PathTree.tree
    c.raise.new.self)
    (shift_ids shifts) c.offer_outs.new.search.level start c.offer_outs.new.steps)
    (sym gains.shifts)
    (subst (λ (ids : List NodeId). IsCounted c.args.store.now first (g.T.PathTree.tree
    c.raise.new.self) ids
    c.offer_outs.new.search.level start c.offer_outs.new.steps) (sym (ids_push old (told g at)))
    (subst (λ level. IsCounted c.args.store.now first (g.T.PathTree.tree c.raise.new.self)
    (shift_ids old ++ to ∷ [])
    level start c.offer_outs.new.steps) (level ∙ sym gains.level)
    (counted_more c.args.store.now first (g.T.PathTree.tree c.args.tree.now)
    (g.T.PathTree.tree c.raise.new.self) (shift_ids old) to
    (new_node g at) (lifted g at).node start (lifted g at).raises c.args.steps.now
    c.offer_outs.new.steps
    (subst (λ level. IsCounted c.args.store.now first (g.T.PathTree.tree c.args.tree.now)
    (shift_ids old) level
    start c.args.steps.now) (sym level) counted)
    rises
    (subst (λ (shift : Shift). c.offer_outs.new.steps ≤ c.args.steps.now + length
    (outs_of c.args.store.now shift.id.vertex)) (lifted g at).shift
    c.offer_outs.ensures.counted))))

pub returns-clause-raises : goal.returns-clause-raises
returns-clause-raises g c =
    let at = (goal.at.returns-clause-raises g c).In-Some in
    let gains = gained g c at (lifted g at).shift in
    on_ok c.offer_outs.result
    (inr (omega (
      arith,
      ap (λ (shifts : List Shift). length shifts) gains.shifts,
      length-append c.args.search.now.shifts (told g at ∷ []),
    )))

pub returns-clause-shifts : goal.returns-clause-shifts
returns-clause-shifts g c =
    let at = (goal.at.returns-clause-shifts g c).In-Some in
    let old = c.args.search.now.shifts in
    on_ok_weaker c.offer_outs.result
    (λ _. λ first firm shifts.
    subst (AreShifts first (g.T.PathTree.tree c.raise.new.self)) (sym (gained g c at
    (lifted g at).shift).shifts)
    (shifts_more first (g.T.PathTree.tree c.args.tree.now) (g.T.PathTree.tree c.raise.new.self) old
    (target_of c.args.taken)
    (new_node g at) (lifted g at).node (lifted g at).raises
    (subst (λ level. AreFirm (g.T.PathTree.tree c.args.tree.now) level (shift_ids old))
    (sym c.requires.taken.level) firm)
    shifts))
    c.offer_outs.ensures.served

pub returns-clause-ready : goal.returns-clause-ready
returns-clause-ready g c first ready =
    let at = (goal.at.returns-clause-ready g c).In-Some in
    let values = value_of c.args.store.now in
    let to = target_of c.args.taken in
    let old = with_shift c.args.search.now (told g at) in
    record {
      under = under_more g at first ready.under;
      can = open_gained values c.args.dfa.now (g.T.PathTree.tree c.raise.new.self) old
          c.offer_outs.new.search
          (opens_more g at ready.can)
          (gains_kind old c.offer_outs.new.search
          (Leaves values c.args.dfa.now to c.args.taken.value)
          (IsOpen values c.args.dfa.now (g.T.PathTree.tree c.raise.new.self))
          (gained g c at (lifted g at).shift)
          (λ each leaves. leaves_open values c.args.dfa.now (g.T.PathTree.tree c.raise.new.self) to
          (new_node g at)
          each (put_here (g.T.PathTree.tree c.args.tree.now) (g.T.PathTree.tree c.raise.new.self) to
          (new_node g at) (lifted g at).node)
          leaves));
    }

pub returns-clause-served : goal.returns-clause-served
returns-clause-served g c =
    let at = (goal.at.returns-clause-served g c).In-Some in
    let values = value_of c.args.store.now in
    let step = step_of c.args.dfa.now in
    on_ok_weaker c.offer_outs.result
    (λ (outs : IsServedFrom values step (g.T.PathTree.tree c.raise.new.self)
    c.offer_outs.new.search.waiting
    c.in-Some.shift.id c.args.taken.value c.in-Some.shift.before).
    λ served.
    served_put values step (g.T.PathTree.tree c.args.tree.now) (g.T.PathTree.tree c.raise.new.self)
    c.args.taken (new_node g at)
    c.args.search.now.waiting c.offer_outs.new.search.waiting served (lifted g at).node refl
    (lifted g at).raises c.raise.ensures.root (gained g c at (lifted g at).shift).kept
    (subst (λ (shift : Shift). IsServedFrom values step (g.T.PathTree.tree c.raise.new.self)
    c.offer_outs.new.search.waiting shift.id c.args.taken.value shift.before)
    (lifted g at).shift outs))
    c.offer_outs.ensures.served
