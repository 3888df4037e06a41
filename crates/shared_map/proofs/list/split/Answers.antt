use Rattle.std.proofs.Common.{List, ◌++◌, ap, ◌∙◌}
use Rattle.std.specs.Prelude.{set}
use Rattle.shared_map.specs.Chunks.{entries_of}
use Rattle.shared_map.proofs.Listed.{Held, halved}
use Rattle.shared_map.proofs.list.split.Goals as goal

pub returns-clause-same : goal.returns-clause-same
returns-clause-same g c =
    let chunk = c.index.result.now in
    let left = c.in_ok-left-2.left in
    let right = c.in_ok-right.right in
    ap (λ (chunks : List (Held g.row.K.Denot g.row.V.Denot)). entries_of (set chunks c.args.place left)) c.in_ok-insert.ensures.items
    ∙ halved c.args.chunks.now.items c.args.place chunk left right c.requires.within
    (ap (λ (first : List (g.row.K.Denot × g.row.V.Denot)). first ++ right.value) c.in_ok-left-2.ensures.ok
    ∙ (ap (λ (second : List (g.row.K.Denot × g.row.V.Denot)). c.in_ok-left.left ++ second) c.in_ok-right.ensures.ok
    ∙ (c.in_ok-left.ensures
    ∙ (c.deref.ensures
    ∙ ap (λ (each : Held g.row.K.Denot g.row.V.Denot). each.value) c.index.ensures))))
