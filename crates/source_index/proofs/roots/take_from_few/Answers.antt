use Rattle.std.proofs.Common.{◌∷◌, slice_get, sym, ap, subst, ◌∙◌, IsPermutation}
use Rattle.source_index.proofs.Few.{distinct_left, drops_left, moved_out}
use Rattle.source_index.proofs.roots.take_from_few.Goals as goal

-- the others are left
left : (c : goal.After-swap_remove) →
    IsPermutation c.args.few.now.items (c.args.root ∷ c.swap_remove.new.self.items)
left c = subst (λ new. IsPermutation c.args.few.now.items (c.args.root ∷ new))
    (sym c.swap_remove.ensures.items)
    (moved_out c.args.few.now.items c.args.root c.in-Some.at c.swap_remove.result
    (sym (ap (λ few. slice_get few c.in-Some.at) c.as_slice.ensures) ∙ c.in-Some.ensures.place)
    c.swap_remove.ensures.value)

pub returns-in-Some-clause-once : goal.returns-in-Some-clause-once
returns-in-Some-clause-once c =
    distinct_left c.args.few.now.items c.swap_remove.new.self.items c.args.root (left c) c.requires

pub returns-in-Some-clause-dropped : goal.returns-in-Some-clause-dropped
returns-in-Some-clause-dropped c =
    drops_left c.args.few.now.items c.swap_remove.new.self.items c.args.root (left c) c.requires
