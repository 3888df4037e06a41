use Rattle.std.proofs.Common.{◌≡◌, List, ℕ, sym, ◌∙◌}
use Rattle.std.proofs.lemmas.Bool.{false≢true}
use Rattle.indexmap.proofs.MapLemmas.{OnOk-map}
use Rattle.join_bindings.specs.Overlaps.{StandsInBoth, Renews}
use Rattle.join_bindings.proofs.Sharing.{right_added, right_removed}
use Rattle.join_bindings.proofs.overlap.renew_at.Goals as goal

pub returns-then-stands_in_both : goal.returns-then-stands_in_both
returns-then-stands_in_both c =
    let sets = c.args.sets.now in
    let columns = c.args.columns in
    let vertex = c.args.vertex.now in
    let old : List (List ℕ) = c.args.vertices.now in
    let new : List (List ℕ) = c.add.new.self in
    OnOk-map c.add.result _ (Renews sets columns old new (λ each. vertex ≡ each)) (λ adds.
    right_added (StandsInBoth sets columns) old new vertex (c.stands_in_both.ensures.0 c.if-stands_in_both.true) adds) c.add.ensures

pub returns-else-stands_in_both : goal.returns-else-stands_in_both
returns-else-stands_in_both c =
    right_removed (StandsInBoth c.args.sets.now c.args.columns) c.args.vertices.now c.remove.new.self c.args.vertex.now
    (λ both. false≢true (sym c.if-stands_in_both.false ∙ c.stands_in_both.ensures.1 both)) c.remove.ensures
