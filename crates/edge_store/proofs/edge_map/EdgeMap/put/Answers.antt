use Rattle.std.proofs.Common.{◌≡◌, ◌<◌, ◌⊎◌, [], true, is_some, Some, cond, sym, ap, subst, ◌∙◌}
use Rattle.std.specs.Map.{lookup}
use Rattle.std.specs.Option.{option_map_or}
use Rattle.indexmap.specs.IndexMap.{insert_entry}
use Rattle.edge_store.specs.Edges.{same_half}
use Rattle.edge_store.proofs.edge_map.EdgeMap.put.Goals as goal
use Rattle.edge_store.proofs.edge_map.EdgeMap.put.Goals.{After-deref_mut}

-- the edges before are those of the table
before : (c : After-deref_mut) → c.args.self.now.entries ≡ c.deref_mut.result.now.entries
before c =
    sym (ap (λ row. row.entries) c.self.view_is)
    ∙ ap (λ table. option_map_or (λ boxed. boxed.value.entries) table []) c.in-Some.is
    ∙ sym (ap (λ row. row.entries) c.deref_mut.ensures.value)

-- and so is the room
room : (c : After-deref_mut) → c.args.self.now.room ≡ c.deref_mut.result.now.room
room c =
    sym (ap (λ row. row.room) c.self.view_is)
    ∙ ap (λ table. option_map_or (λ boxed. boxed.value.room) table 0) c.in-Some.is
    ∙ sym (ap (λ row. row.room) c.deref_mut.ensures.value)

pub put-requires : goal.put-requires
put-requires c =
    let after = (goal.at.put-requires c).After-deref_mut in
    subst (λ entries. (is_some (lookup (same_half c.args.half) entries) ≡ true)
    ⊎ (0 < c.deref_mut.result.now.room)) (before after)
    (subst (λ n. (is_some (lookup (same_half c.args.half) c.args.self.now.entries) ≡ true) ⊎ (0 < n))
    (room after) c.requires)

pub returns-clause-entries : goal.returns-clause-entries
returns-clause-entries c =
    c.put.ensures.entries
    ∙ ap (λ entries. insert_entry same_half entries c.args.half c.args.value)
    (sym (before (goal.at.returns-clause-entries c).After-deref_mut))

pub returns-clause-update : goal.returns-clause-update
returns-clause-update c other =
    c.put.ensures.update other
    ∙ ap (λ entries. cond (same_half c.args.half other) (Some c.args.value)
    (lookup (same_half other) entries)) (sym (before (goal.at.returns-clause-update c).After-deref_mut))
