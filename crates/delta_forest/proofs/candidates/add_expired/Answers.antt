use Rattle.std.proofs.Common.{ap, subst, sym, ◌∙◌}
use Rattle.source_index.specs.Dues.{AllLater, DuesValue, due_of}
use Rattle.delta_forest.proofs.candidates.add_expired.Goals as goal

pub returns : goal.returns
returns c =
    let same = c.in_default.ensures.same in
    record {
      sorted = c.put_in_order.ensures.sorted;
      later = subst (λ (dues : DuesValue). AllLater dues c.args.now) (sym same)
          c.in_default.ensures.later;
      others = λ root unlisted.
          ap (λ (dues : DuesValue). due_of dues root) same
          ∙ c.loop-root.invariant root
          (λ member. unlisted ((c.put_in_order.ensures.exact root).1 member));
    }
