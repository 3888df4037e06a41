use Rattle.std.proofs.Common.{get_or, subst}
use Rattle.path_engine.specs.declared.parts.Part.{Part}
use Rattle.path_engine.specs.Front.{HaveFed}
use Rattle.path_engine.proofs.front.feed_parts.Goals as goal

pub returns : goal.returns
returns g c place d below =
    let queries = c.args.queries.now in
    let names = c.args.names.now in
    let entries = c.args.entries.now in
    let olds = c.args.parts.now in
    let change = (c.for_each_mut.ensures place d below).1 in
    subst (λ (new : Part).
    HaveFed queries names entries (get_or olds place d).shares.items new.shares.items) change.left
    (subst (λ (old : Part).
    HaveFed queries names entries old.shares.items change.after_call.now.shares.items)
    change.argument_is change.call)
