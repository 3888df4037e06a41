use Rattle.std.proofs.Common.{◌≡◌, ℕ, ◌<◌, List, length, set, Some, refl, sym, subst}
use Rattle.join_file.specs.declared.data.Term.{Term}
use Rattle.join_file.specs.declared.data.Term.TheVariants.{Variable}
use Rattle.join_bindings.specs.Partial.{Bound, IsOpen, Binds}
use Rattle.join_file.specs.Sound.{IsWithin}
use Rattle.join_bindings.proofs.Terms.{binds_open}
use Rattle.join_bindings.proofs.partial.PartialBinding.bind.Goals as goal

pub returns-in_ok-copy-in-Open : goal.returns-in_ok-copy-in-Open
returns-in_ok-copy-in-Open c =
    let place = c.in-Open.place in
    let items = c.self.inside.names.items in
    let name = c.args.name.now in
    let term_is : c.args.term.now ≡ Variable place = c.in-Open.ensures.open place refl in
    let open_ : IsOpen items place = subst (λ (bound : Bound). IsOpen bound place) c.deref.ensures.value (c.in-Open.ensures.free place refl) in
    let below : place < length items =
    subst (λ (bound : Bound). place < length bound) (sym c.self.view_is) (subst (IsWithin (length c.args.self)) term_is c.requires) in
    subst (λ (bound : Bound). Binds bound c.args.term.now name (set items place (Some c.in_ok-copy-in-Open.field-0))) c.self.view_is
    (subst (λ (term : Term). Binds items term name (set items place (Some c.in_ok-copy-in-Open.field-0))) (sym term_is)
    (subst (λ (copy : List ℕ). Binds items (Variable place) name (set items place (Some copy))) (sym c.in_ok-copy-in-Open.ensures)
    (binds_open items place name below open_)))
