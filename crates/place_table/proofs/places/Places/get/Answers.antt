use Rattle.std.proofs.Common.{sym, ◌∙◌, subst}
use Rattle.place_table.specs.Kept.{IsThere, IsAbsent}
use Rattle.place_table.proofs.Found.{found_read, absent_none}
use Rattle.place_table.proofs.places.Places.get.Goals as goal

pub returns-in-Some : goal.returns-in-Some
returns-in-Some c =
    c.get.ensures
    ∙ found_read c.self.inside.hints c.self.inside.places.items c.args.self.now c.args.root c.args.id
    c.in-Some.number c.index.result.now c.self.invariant c.self.view_is
    (subst (λ l. IsThere l c.args.id c.in-Some.number) c.deref.ensures.value c.in-Some.ensures)
    c.index.ensures

pub returns-in-None : goal.returns-in-None
returns-in-None c =
    sym (absent_none c.args.self.now c.args.root c.args.id
    (subst (λ l. IsAbsent l c.args.id) (c.deref.ensures.value ∙ c.self.view_is) c.in-None.ensures))
