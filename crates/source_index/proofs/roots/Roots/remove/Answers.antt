use Rattle.std.proofs.Common.{◌≡◌, rules, sym, ap, subst, ◌∙◌}
use Rattle.source_index.specs.RootStorage.{roots_of}
use Rattle.source_index.specs.Roots.{DropsRoot}
use Rattle.source_index.proofs.Places.{drops_root}
use Rattle.source_index.proofs.roots.Roots.remove.Goals as goal

pub returns-in-Few : goal.returns-in-Few
returns-in-Few c =
    subst (λ old. DropsRoot old c.take_from_few.new.few.items c.args.root)
    (sym (ap roots_of c.in-Few.is) ∙ c.self.view_is) c.take_from_few.ensures.dropped

pub returns-then-len-gt-LEAST_MANY : goal.returns-then-len-gt-LEAST_MANY
returns-then-len-gt-LEAST_MANY c =
    subst (λ old. DropsRoot old c.swap_remove.new.self.keys c.args.root)
    (ap (λ many. many.keys) c.deref_mut.ensures.value
    ∙ sym (ap roots_of c.in-Many.is) ∙ c.self.view_is)
    (drops_root c.deref_mut.result.now.keys c.swap_remove.new.self.keys c.args.root
    c.swap_remove.ensures.updates.0)

pub returns-in_default : goal.returns-in_default
returns-in_default c =
    subst (λ old. DropsRoot old c.swap_remove.new.self.keys c.args.root)
    (ap (λ many. many.keys) c.deref_mut.ensures.value
    ∙ sym (ap roots_of c.in-Many.is) ∙ c.self.view_is)
    (drops_root c.deref_mut.result.now.keys c.swap_remove.new.self.keys c.args.root
    c.swap_remove.ensures.updates.0)

pub returns-in-Ok : goal.returns-in-Ok
returns-in-Ok c =
    let is : c.match-self-few.self ≡ c.in-Ok.few = search rules in
    subst (λ new. DropsRoot c.args.self.now new c.args.root)
    (sym (is ∙ c.in-Ok.ensures ∙ ap (λ many. many.keys) c.deref-in-Many.ensures))
    (subst (λ old. DropsRoot old c.swap_remove.new.self.keys c.args.root)
    (ap (λ many. many.keys) c.deref_mut.ensures.value
    ∙ sym (ap roots_of c.in-Many.is) ∙ c.self.view_is)
    (drops_root c.deref_mut.result.now.keys c.swap_remove.new.self.keys c.args.root
    c.swap_remove.ensures.updates.0))
