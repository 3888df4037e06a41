use Rattle.std.proofs.Common.{List, Some, sym, ap, ◌∙◌}
use Rattle.std.specs.List.{insert}
use Rattle.shared_map.proofs.Search.{value_seen, set_seen, no_value, gap_is_insert}
use Rattle.shared_map.proofs.chunk.Chunk.insert.Goals as goal

pub returns-in-Ok-clause-old : goal.returns-in-Ok-clause-old
returns-in-Ok-clause-old g c =
    ap (λ (value : g.row.V.Denot). Some value) c.replace.ensures.value
    ∙ value_seen g.met.K.Ord.total c.self.inside.entries.items c.args.self.now c.in-Ok.place c.args.key c.index_mut.result.now
    c.self.view_is c.index_mut.ensures.value c.requires c.in-Ok.ensures.within (c.in-Ok.ensures.place c.index_mut.result.now)

pub returns-in-Ok-clause-entries : goal.returns-in-Ok-clause-entries
returns-in-Ok-clause-entries g c =
    set_seen g.met.K.Ord.total c.self.inside.entries.items c.args.self.now c.in-Ok.place c.args.key c.args.value c.replace.new.dest
    c.index_mut.result.now c.self.view_is c.index_mut.ensures.value c.replace.ensures.after c.requires c.in-Ok.ensures.within
    (c.in-Ok.ensures.place c.index_mut.result.now)

pub returns-in_ok-insert-in-Err-clause-old : goal.returns-in_ok-insert-in-Err-clause-old
returns-in_ok-insert-in-Err-clause-old g c =
    sym (no_value g.met.K.Ord.total c.args.self.now c.in-Err.place c.args.key c.requires c.in-Err.ensures.within c.in-Err.ensures.place)

pub returns-in_ok-insert-in-Err-clause-entries : goal.returns-in_ok-insert-in-Err-clause-entries
returns-in_ok-insert-in-Err-clause-entries g c =
    c.in_ok-insert-in-Err.ensures.items
    ∙ (ap (λ (all : List (g.row.K.Denot × g.row.V.Denot)). insert all c.in-Err.place (c.args.key, c.args.value)) c.self.view_is
    ∙ gap_is_insert g.met.K.Ord.total c.args.self.now c.in-Err.place c.args.key c.args.value c.requires c.in-Err.ensures.within c.in-Err.ensures.place)
