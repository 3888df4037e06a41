use Rattle.std.proofs.Common.{None}
use Rattle.place_table.proofs.Found.{puts_read}
use Rattle.place_table.proofs.Taken.{ids_read}
use Rattle.place_table.proofs.places.Places.take_at.Goals as goal

pub returns-then-len-eq0-clause-taken : goal.returns-then-len-eq0-clause-taken
returns-then-len-eq0-clause-taken c =
    puts_read c.self.inside.hints c.self.inside.places.items c.args.self.now c.args.number
    c.index_mut.result.now c.take.new.self c.args.root c.args.id None
    c.self.invariant c.self.view_is c.requires c.index_mut.ensures.value c.take.ensures.id
    c.take.ensures.taken

pub returns-then-len-eq0-clause-ids : goal.returns-then-len-eq0-clause-ids
returns-then-len-eq0-clause-ids c =
    ids_read c.self.inside.places.items c.args.self.now c.args.id c.args.number
    c.index_mut.result.now c.take.new.self c.self.view_is c.requires c.index_mut.ensures.value
    c.take.ensures.id

pub returns-else-len-eq0-clause-taken : goal.returns-else-len-eq0-clause-taken
returns-else-len-eq0-clause-taken c =
    puts_read c.self.inside.hints c.self.inside.places.items c.args.self.now c.args.number
    c.index_mut.result.now c.take.new.self c.args.root c.args.id None
    c.self.invariant c.self.view_is c.requires c.index_mut.ensures.value c.take.ensures.id
    c.take.ensures.taken

pub returns-else-len-eq0-clause-ids : goal.returns-else-len-eq0-clause-ids
returns-else-len-eq0-clause-ids c =
    ids_read c.self.inside.places.items c.args.self.now c.args.id c.args.number
    c.index_mut.result.now c.take.new.self c.self.view_is c.requires c.index_mut.ensures.value
    c.take.ensures.id
