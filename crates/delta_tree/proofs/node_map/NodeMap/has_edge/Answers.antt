use Rattle.std.proofs.Common.{sym, ap, subst, ◌∙◌, ◌<◌, arith}
use Rattle.std.specs.List.{list_any}
use Rattle.std.proofs.lemmas.List.{take_all}
use Rattle.std.proofs.lemmas.Map.Keys.{any_passes_from_place}
use Rattle.delta_tree.specs.Paths.{hangs_by}
use Rattle.delta_tree.proofs.Joined.{stands_at, none_more}
use Rattle.delta_tree.proofs.node_map.NodeMap.has_edge.Goals as goal

pub hangs_at-requires : goal.hangs_at-requires
hangs_at-requires c =
    subst (λ n. c.loop-place.place < n) c.len-place-end.ensures.count c.loop-place-test.true

pub returns-then-hangs_at : goal.returns-then-hangs_at
returns-then-hangs_at c =
    let (each, stands) = stands_at c.args.self.now c.loop-place.place
    (subst (λ n. c.loop-place.place < n) c.len-place-end.ensures.count c.loop-place-test.true) in
    sym (any_passes_from_place (hangs_by c.args.edge) c.args.self.now c.loop-place.place each stands
    (sym (c.hangs_at.ensures each stands) ∙ c.if-hangs_at.true))

pub loop-place-preserved : goal.loop-place-preserved
loop-place-preserved c =
    let (each, stands) = stands_at c.args.self.now c.loop-place.place
    (subst (λ n. c.loop-place.place < n) c.len-place-end.ensures.count c.loop-place-test.true) in
    none_more (hangs_by c.args.edge) c.args.self.now c.loop-place.place each stands
    c.loop-place.invariant (sym (c.hangs_at.ensures each stands) ∙ c.if-hangs_at.false)

pub returns : goal.returns
returns c =
    sym c.loop-place.invariant
    ∙ ap (list_any (hangs_by c.args.edge)) (take_all c.loop-place.place c.args.self.now
    (omega (arith, c.loop-place-test.false, c.len-place-end.ensures.count)))
