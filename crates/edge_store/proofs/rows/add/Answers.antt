use Rattle.std.proofs.Common.{◌≡◌, ◌+◌, ◌++◌, ◌∷◌, [], length, slice_set, ap, ◌∙◌, arith}
use Rattle.edge_store.specs.Edges.{row}
use Rattle.edge_store.specs.Rows.{rows_of, side}
use Rattle.edge_store.proofs.Numbered.{next_number}
use Rattle.edge_store.proofs.RowChanges.{rows_more}
use Rattle.edge_store.proofs.rows.add.Goals as goal

pub overflow_cast-at : goal.overflow_cast-at
overflow_cast-at c =
    omega (
      arith,
      c.len-at.ensures,
      c.args.rows.now.ok.0,
      next_number c.args.slots.now.items (length c.args.rows.now.items) c.args.vertex
          c.requires.numbered c.requires.none c.requires.reached,
    )

pub returns-in_err-push-clause-same : goal.returns-in_err-push-clause-same
returns-in_err-push-clause-same c each =
    ap (λ rows. row (rows_of (side c.args.slots.now.items rows)) each) c.in_err-push.ensures.items

pub returns-clause-same : goal.returns-clause-same
returns-clause-same c each =
    let slots = c.args.slots.now.items in
    let rows = c.args.rows.now.items in
    let count : c.len-at.result ≡ length rows =
    omega (arith, c.len-at.ensures, c.args.rows.now.ok.0) in
    ap (λ l. row (rows_of (side (slice_set slots c.args.vertex (c.len-at.result + 1)) l)) each)
    c.in_ok-push.ensures.items
    ∙ ap (λ n. row (rows_of (side (slice_set slots c.args.vertex (n + 1)) (rows ++ c.new.result ∷ [])))
    each) count
    ∙ rows_more slots rows c.args.vertex c.new.result c.requires.side c.requires.none
    c.requires.reached c.new.ensures each
