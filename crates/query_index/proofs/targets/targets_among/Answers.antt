use Rattle.std.proofs.Common.{◌≡◌, ℕ, ◌+◌, ◌<◌, List, [], ◌∷◌, ◌++◌, length, filter, get_or, map, take, sym, ap, ◌∙◌}
use Rattle.std.proofs.lemmas.List.{map-append, take_all, take_more}
use Rattle.std.proofs.lemmas.List.Elements.{filter-append}
use Rattle.rpq_model.specs.declared.mode.Mode.{Mode}
use Rattle.source_tree.specs.declared.change.Reached.{Reached}
use Rattle.end_events.specs.Changes.{counts}
use Rattle.answer_rows.specs.declared.target.Target.{Target}
use Rattle.query_index.specs.Showing.{target_at, targets_among}
use Rattle.query_index.proofs.targets.targets_among.Goals as goal

-- one vertex more
targets_more : (mode : Mode) (names : List (List ℕ)) (root : ℕ) (reached : List Reached)
    (index : ℕ) (d : Reached) (old new : List Target) → index < length reached →
    old ≡ targets_among mode names root (take index reached) →
    new ≡ old ++ targets_among mode names root (get_or reached index d ∷ []) →
    new ≡ targets_among mode names root (take (index + 1) reached)
targets_more mode names root reached index d old new inside so_far is =
    let passes : Reached → _ = λ (each : Reached). counts mode root each.vertex in
    let one = get_or reached index d ∷ [] in
    is
    ∙ (ap (λ (targets : List Target). targets ++ targets_among mode names root one) so_far
    ∙ (sym (map-append (target_at names) (filter passes (take index reached)) (filter passes one))
    ∙ (ap (map (target_at names)) (sym (filter-append passes (take index reached) one))
    ∙ ap (targets_among mode names root) (sym (take_more reached index d inside)))))

pub loop-each-preserved : goal.loop-each-preserved
loop-each-preserved c =
    targets_more c.args.mode c.args.names.now c.args.root c.args.reached.now
    c.loop-each.each-index _ c.loop-each.targets.items c.add_target.new.targets.items
    c.loop-each-test.true c.loop-each.invariant c.in_ok-add_target.ensures

pub returns : goal.returns
returns c =
    c.loop-each.invariant
    ∙ ap (targets_among c.args.mode c.args.names.now c.args.root)
    (take_all c.loop-each.each-index c.args.reached.now c.loop-each-test.false)
