use Rattle.std.proofs.Common.{nat_eq, slice_get, sym, ap, subst, ◌∙◌, Contains}
use Rattle.std.specs.List.{IsDistinct}
use Rattle.source_index.specs.Roots.{AddsRoot}
use Rattle.source_index.proofs.Few.{distinct_push, adds_push, adds_present, is_at}
use Rattle.source_index.proofs.roots.add_to_few.Goals as goal

pub returns-in_ok-push-in-None-clause-once : goal.returns-in_ok-push-in-None-clause-once
returns-in_ok-push-in-None-clause-once c =
    subst (IsDistinct nat_eq) (sym c.in_ok-push-in-None.ensures.ok)
    (distinct_push c.args.few.now.items c.args.root
    (λ there. c.in-None.ensures.absent
    (subst (λ few. Contains few c.args.root) (sym c.as_slice.ensures) there))
    c.requires)

pub returns-in_ok-push-in-None-clause-added : goal.returns-in_ok-push-in-None-clause-added
returns-in_ok-push-in-None-clause-added c =
    subst (λ new. AddsRoot c.args.few.now.items new c.args.root) (sym c.in_ok-push-in-None.ensures.ok)
    (adds_push c.args.few.now.items c.args.root)

pub returns-in-Some-clause-added : goal.returns-in-Some-clause-added
returns-in-Some-clause-added c =
    adds_present c.args.few.now.items c.args.root
    (is_at c.args.few.now.items c.args.root c.in-Some.field-0
    (sym (ap (λ few. slice_get few c.in-Some.field-0) c.as_slice.ensures) ∙ c.in-Some.ensures.place))
