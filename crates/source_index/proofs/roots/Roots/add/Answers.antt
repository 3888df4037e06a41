use Rattle.std.proofs.Common.{sym, ap, subst, ◌∙◌}
use Rattle.source_index.specs.RootStorage.{roots_of}
use Rattle.source_index.specs.Roots.{AddsRoot}
use Rattle.source_index.proofs.Places.{on_ok, adds_root}
use Rattle.source_index.proofs.roots.Roots.add.Goals as goal

pub returns-then-len-lt-MOST_FEW-clause-added : goal.returns-then-len-lt-MOST_FEW-clause-added
returns-then-len-lt-MOST_FEW-clause-added c =
    on_ok c.add_to_few.result
    (subst (λ old. AddsRoot old c.add_to_few.new.few.items c.args.root)
    (sym (ap roots_of c.in-Few.is) ∙ c.self.view_is))
    c.add_to_few.ensures.added

pub returns-in_ok-many-in-Few-clause-added : goal.returns-in_ok-many-in-Few-clause-added
returns-in_ok-many-in-Few-clause-added c =
    subst (λ new. AddsRoot c.args.self.now new c.args.root) (sym c.many.view_is)
    (subst (λ old. AddsRoot old c.in_ok-many-in-Few.many c.args.root)
    (sym (ap roots_of c.in-Few.is) ∙ c.self.view_is) c.in_ok-many-in-Few.ensures)

pub returns-in_ok-insert-in-Many-clause-added : goal.returns-in_ok-insert-in-Many-clause-added
returns-in_ok-insert-in-Many-clause-added c =
    subst (λ old. AddsRoot old c.insert.new.self.keys c.args.root)
    (ap (λ many. many.keys) c.deref_mut.ensures.value
    ∙ sym (ap roots_of c.in-Many.is) ∙ c.self.view_is)
    (adds_root c.deref_mut.result.now.keys c.insert.new.self.keys c.args.root
    c.in_ok-insert-in-Many.ensures.updates.0)
