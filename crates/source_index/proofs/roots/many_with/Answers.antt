use Rattle.std.proofs.Common.{true, cond, nat_eq, sym, ap, subst, ◌∙◌}
use Rattle.std.specs.List.{list_any}
use Rattle.source_index.specs.Roots.{AddsRoot}
use Rattle.source_index.proofs.Places.{adds_root}
use Rattle.source_index.proofs.roots.many_with.Goals as goal

pub returns : goal.returns
returns c =
    subst (λ many. AddsRoot c.args.few.now.items many.keys c.args.root)
    (sym c.in_ok-new.ensures.ok)
    (adds_root c.args.few.now.items c.insert.new.self.keys c.args.root
    (λ each. c.in_ok-insert.ensures.updates.0 each
    ∙ ap (cond (nat_eq c.args.root each) true) (c.in_ok-many.ensures.0 each
    ∙ ap (list_any (nat_eq each)) c.as_slice.ensures)))
