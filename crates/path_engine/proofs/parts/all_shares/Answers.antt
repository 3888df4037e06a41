use Rattle.std.proofs.Common.{◌++◌, List, length, sym, ap, ◌∙◌, append_assoc, arith}
use Rattle.std.proofs.lemmas.List.{append-nil}
use Rattle.path_engine.specs.declared.front.Share.{Share}
use Rattle.path_engine.specs.declared.parts.Part.{Part}
use Rattle.path_engine.specs.Parts.{shares_in}
use Rattle.path_engine.proofs.Fronts.{nothing_left}
use Rattle.path_engine.proofs.parts.all_shares.Goals as goal

pub loop-part-init : goal.loop-part-init
loop-part-init c =
    let gives = c.into_iter-part-iterator.ensures.into_iter_gives in
    let rest = c.into_iter-part-iterator.result.rest.items in (
      tt,
      tt,
      omega (arith, gives.1, ap length gives.0),
      ap (λ (shares : List Share). shares ++ shares_in rest) c.new-shares.ensures.items
          ∙ ap (λ (all : List Part). shares_in all) gives.0,
    )

pub loop-part-preserved : goal.loop-part-preserved
loop-part-preserved c =
    let was = c.loop-part.invariant in
    let steps = c.in-Some.ensures.steps in
    let shares = c.loop-part.shares.items in
    let rest = c.next.new.self.rest.items in
    let part = c.in-Some.part in (
      tt,
      tt,
      omega (arith, was.2, steps.1, ap (λ (xs : List Part). length xs) steps.0),
      ap (λ (all : List Share). all ++ shares_in rest) c.in_ok-put_all.ensures
          ∙ (append_assoc shares part.shares.items (shares_in rest)
          ∙ (ap (λ (all : List Part). shares ++ shares_in all) (sym steps.0) ∙ was.3)),
    )

pub returns : goal.returns
returns c =
    let was = c.loop-part.invariant in
    let shares = c.loop-part.shares.items in
    sym (append-nil shares)
    ∙ (ap (λ (all : List Part). shares ++ shares_in all)
    (sym (nothing_left c.loop-part.part-iterator.rest.items
    (omega (arith, was.2, c.in-None.ensures.steps.0)))) ∙ was.3)
