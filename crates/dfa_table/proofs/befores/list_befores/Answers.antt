use Rattle.std.proofs.Common.{◌≡◌, ℕ, ◌+◌, List, Option, Vec, Global, length, map, sym, subst, ◌∙◌, arith}
use Rattle.std.proofs.lemmas.List.{length-map}
use Rattle.dfa_table.specs.Befores.{AreListed}
use Rattle.dfa_table.proofs.Listed.{listed_first, listed_more, listed_none}
use Rattle.dfa_table.proofs.befores.list_befores.Goals as goal
use Rattle.dfa_table.proofs.befores.list_befores.Goals.{in-Some+in_ok-add_before, in_default}

-- the rows as lists
abbrev rows_in : List (Vec (Option ℕ) Global) → List (List (Option ℕ))
rows_in rows = map (λ row. row.items) rows

pub loop-state-init : goal.loop-state-init
loop-state-init c =
    listed_first (rows_in c.args.rows.now) c.args.label (length c.args.rows.now) c.args.lists.now
    (sym (length-map c.args.rows.now (λ row. row.items))) c.requires.empty

pub add_before-requires : goal.add_before-requires
add_before-requires c = omega (
  arith,
  c.loop-state.invariant.as_many,
  c.requires.within c.loop-state.state c.args.label c.in-Some.next
      (sym c.step_at.ensures ∙ c.in-Some.is),
)

pub loop-state-preserved : goal.loop-state-preserved
loop-state-preserved c =
    let rows = rows_in c.args.rows.now in
    let label = c.args.label in
    let state = c.loop-state.state in
    elim c.match-step_at.branch [
      | in-Some+in_ok-add_before w ↦
          subst (AreListed rows label (state + 1)) (sym w.lists-is)
          (listed_more rows label state w.in-Some.next c.loop-state.lists w.add_before.new.lists
          c.loop-state.invariant (sym c.step_at.ensures ∙ w.in-Some.is)
          w.in_ok-add_before.ensures)
      | in_default w ↦
          subst (AreListed rows label (state + 1)) (sym w.lists-is)
          (listed_none rows label state c.loop-state.lists c.loop-state.invariant
          (sym c.step_at.ensures ∙ w.in_default.is))
    ]

pub returns : goal.returns
returns c =
    let all : c.loop-state.state ≡ length c.args.rows.now =
    omega (arith, c.loop-state-test.false, c.loop-state.auto.state-end) in
    subst (λ (n : ℕ). AreListed (rows_in c.args.rows.now) c.args.label n c.loop-state.lists) all
    c.loop-state.invariant
