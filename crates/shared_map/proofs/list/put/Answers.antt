use Rattle.shared_map.proofs.Listed.{held_sorted, held_looked_if, held_inserted, held_kept}
use Rattle.shared_map.proofs.Outcomes.{then_ok, then_err}
use Rattle.shared_map.proofs.list.put.Goals as goal

pub insert_in-requires : goal.insert_in-requires
insert_in-requires g c =
    held_sorted g.K.Ord.cmp c.args.chunks.now.items c.args.place c.index_mut.result.now c.requires.within c.index_mut.ensures.value
    c.requires.sorted

pub returns-clause-old : goal.returns-clause-old
returns-clause-old g c =
    held_looked_if g.K.Ord.cmp c.args.key c.args.chunks.now.items c.args.place c.index_mut.result.now c.requires.within
    c.index_mut.ensures.value c.requires.place c.insert_in.result c.insert_in.ensures.old

pub returns-clause-entries : goal.returns-clause-entries
returns-clause-entries g c =
    then_ok c.insert_in.result c.insert_in.ensures.entries
    (held_inserted g.K.Ord.cmp c.args.key c.args.value c.args.chunks.now.items c.args.place c.index_mut.result.now c.insert_in.new.chunk
    c.requires.within c.index_mut.ensures.value c.requires.place)

pub returns-clause-unchanged : goal.returns-clause-unchanged
returns-clause-unchanged g c =
    then_err c.insert_in.result c.insert_in.ensures.unchanged
    (held_kept c.args.chunks.now.items c.args.place c.index_mut.result.now c.insert_in.new.chunk c.requires.within c.index_mut.ensures.value)
