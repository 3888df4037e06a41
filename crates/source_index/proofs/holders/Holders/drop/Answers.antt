use Rattle.std.proofs.Common.{sym, subst, ◌∙◌}
use Rattle.source_index.specs.Holders.{DropsHolder}
use Rattle.source_index.proofs.Indexed.{drops_at}
use Rattle.source_index.proofs.holders.Holders.drop.Goals as goal

pub returns-in-Some : goal.returns-in-Some
returns-in-Some c =
    let at = c.in-Some.ensures.at in
    subst (λ new. DropsHolder c.args.self.now new c.args.id c.args.root)
    (sym c.give_back.ensures)
    (drops_at c.args.self.now c.take_out.new.vertices c.swap_remove_index.new.self c.args.id
    c.args.root at.0 c.swap_remove_index.result
    (subst (λ old. DropsHolder old c.take_out.new.vertices.entries c.args.id c.args.root)
    c.self.view_is c.take_out.ensures.dropped)
    c.in-Some.ensures.bare (c.swap_remove_index.ensures.entry ∙ at.1)
    c.swap_remove_index.ensures.updates)

pub returns-in_default : goal.returns-in_default
returns-in_default c =
    subst (λ old. DropsHolder old c.take_out.new.vertices.entries c.args.id c.args.root)
    c.self.view_is c.take_out.ensures.dropped
