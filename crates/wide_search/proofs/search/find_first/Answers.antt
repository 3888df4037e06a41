use Rattle.std.proofs.Common.{◌≡◌, ◌∙◌, ℕ, List, [], ◌∷◌, ◌++◌, refl, sym, ap, subst, arith}
use Rattle.std.proofs.lemmas.Bool.{true≢false}
use Rattle.std.proofs.lemmas.Result.{on_ok_weaker}
use Rattle.delta_tree.specs.Nodes.{node_id}
use Rattle.place_table.specs.declared.gain.Gain.{Gain}
use Rattle.place_table.specs.Table.{AreGainsAt}
use Rattle.wide_search.specs.Ready.{AreFirst}
use Rattle.wide_search.proofs.Begun.{first_of_gains, first_of_none, first_of_root}
use Rattle.wide_search.proofs.search.find_first.Goals as goal

pub returns : goal.returns
returns c =
    let graph = c.args.graph.now in
    let table = c.args.table.now in
    let gain : Gain =
    record { root = graph.edge.from; cap = c.args.value; before = graph.before } in
    let items : c.push.new.self.items ≡ gain ∷ [] =
    c.in_ok-push.ensures.items ∙ ap (λ (list : List Gain). list ++ gain ∷ []) c.clear.ensures.items
    in
    let zero : c.args.state ≡ 0 = omega (arith, c.if-state-gt0.false) in
    subst (AreFirst graph table c.args.state c.args.value) (sym items)
    (subst (λ (state : ℕ). AreFirst graph table state c.args.value (gain ∷ []))
    (sym zero)
    (first_of_root graph table c.args.value gain c.has_trees.ensures (c.owns.ensures.0 cc) refl
    refl))

pub returns-then-not-owns : goal.returns-then-not-owns
returns-then-not-owns c =
    let graph = c.args.graph.now in
    let table = c.args.table.now in
    let zero : c.args.state ≡ 0 = omega (arith, c.if-state-gt0.false) in
    subst (AreFirst graph table c.args.state c.args.value) (sym c.clear.ensures.items)
    (subst (λ (state : ℕ). AreFirst graph table state c.args.value [])
    (sym zero)
    (first_of_none graph table c.args.value c.has_trees.ensures (λ owned.
    true≢false (sym (c.owns.ensures.1 owned) ∙ c.if-not-owns.true))))

pub returns-then-state-gt0 : goal.returns-then-state-gt0
returns-then-state-gt0 c =
    let graph = c.args.graph.now in
    let table = c.args.table.now in
    on_ok_weaker c.gains_at.result
    (λ (has : (added : List Gain) × (c.gains_at.new.gains.items ≡ c.clear.new.self.items ++ added) ×
    AreGainsAt table (node_id graph.edge.from c.args.state) graph.before c.args.value added).
    let items : c.gains_at.new.gains.items ≡ has.0 =
    has.1 ∙ ap (λ (list : List Gain). list ++ has.0) c.clear.ensures.items in
    subst (AreFirst graph table c.args.state c.args.value) (sym items)
    (first_of_gains graph table c.args.state c.args.value has.0 c.if-state-gt0.true
    c.requires.others has.2))
    c.gains_at.ensures
