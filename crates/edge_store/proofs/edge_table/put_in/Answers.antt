use Rattle.std.proofs.Common.{IsOk, sym, subst, true≢false}
use Rattle.std.specs.Map.{lookup}
use Rattle.indexmap.specs.IndexMap.{spare}
use Rattle.edge_store.specs.Edges.{same_half}
use Rattle.edge_store.proofs.RowPlaces.{taken_in}
use Rattle.edge_store.proofs.edge_table.put_in.Goals as goal

pub unreachable-requires : goal.unreachable-requires
unreachable-requires c =
    true≢false (sym (subst IsOk c.in-Err.is
    (taken_in c.insert_full.result (lookup (same_half c.args.half) c.args.map.now.entries)
    (spare c.args.map.now) c.requires c.insert_full.ensures.absent c.insert_full.ensures.succeeds)))
