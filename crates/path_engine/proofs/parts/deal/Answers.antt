use Rattle.std.proofs.Common.{◌++◌, List, length, sym, ap, subst, ◌∙◌, arith}
use Rattle.std.proofs.lemmas.List.{append-nil}
use Rattle.std.specs.List.Sorted.{IsPermutation}
use Rattle.path_engine.specs.declared.front.Share.{Share}
use Rattle.path_engine.specs.declared.parts.Part.{Part}
use Rattle.path_engine.specs.Parts.{shares_in}
use Rattle.path_engine.proofs.Dealing.{dealt_more}
use Rattle.path_engine.proofs.Fronts.{nothing_left}
use Rattle.path_engine.proofs.parts.deal.Goals as goal

pub loop-share-init : goal.loop-share-init
loop-share-init c =
    let gives = c.into_iter-share-iterator.ensures.into_iter_gives in
    let rest : List Share = c.into_iter-share-iterator.result.rest.items in
    let sorted : List Share = c.sort_unstable_by_key.new.self.items in (
      tt,
      tt,
      omega (arith, gives.1, ap length gives.0),
      subst (λ (parts : List Part). IsPermutation c.args.shares.items (shares_in parts ++ rest))
          (sym {A = List Part} c.new-parts.ensures.items)
          (subst (IsPermutation c.args.shares.items) {x = sorted} {y = rest}
          (sym {A = List Share} gives.0) c.sort_unstable_by_key.ensures.permutation),
    )

pub loop-share-preserved : goal.loop-share-preserved
loop-share-preserved c =
    let was = c.loop-share.invariant in
    let steps = c.in-Some.ensures.steps in (
      tt,
      tt,
      omega (arith, was.2, steps.1, ap (λ (xs : List Share). length xs) steps.0),
      dealt_more c.args.shares.items (shares_in c.loop-share.parts.items)
          (shares_in c.put_share.new.parts.items) c.next.new.self.rest.items
          c.loop-share.share-iterator.rest.items c.in-Some.share was.3 steps.0
          c.in_ok-put_share.ensures,
    )

pub returns : goal.returns
returns c =
    let was = c.loop-share.invariant in
    let dealt = shares_in c.loop-share.parts.items in
    subst (IsPermutation c.args.shares.items)
    (ap (λ (rest : List Share). dealt ++ rest)
    (nothing_left c.loop-share.share-iterator.rest.items
    (omega (arith, was.2, c.in-None.ensures.steps.0))) ∙ append-nil dealt) was.3
