use Rattle.std.proofs.Common.{◌≡◌, ◌++◌, ◌∷◌, [], List, length, set, ap, arith}
use Rattle.std.specs.List.Sorted.{IsPermutation}
use Rattle.path_engine.specs.declared.parts.Part.{Part}
use Rattle.path_engine.specs.Parts.{shares_in}
use Rattle.path_engine.proofs.Dealing.{part_grew, part_more}
use Rattle.path_engine.proofs.Fronts.{on_ok}
use Rattle.path_engine.proofs.parts.put_share.Goals as goal

pub returns-in_ok-push : goal.returns-in_ok-push
returns-in_ok-push c =
    part_more c.args.parts.now.items c.push.new.self.items c.in_ok-part.part c.args.share
    c.in_ok-push.ensures.items c.in_ok-part.ensures

pub returns-else-count-most : goal.returns-else-count-most
returns-else-count-most c =
    let parts = c.args.parts.now.items in
    let place = c.lightest_of-lightest.result in
    let before = c.index_mut.result.now in
    let after = c.add_share.new.part in
    let share = c.args.share in
    on_ok (after.shares.items ≡ before.shares.items ++ share ∷ [])
    (IsPermutation (share ∷ shares_in parts) (shares_in (set parts place after)))
    (λ grew.
    part_grew parts place before after share
    (omega (
      arith,
      c.lightest_of-lightest.ensures,
      ap (λ (all : List Part). length all) c.deref.ensures.value,
    )) c.index_mut.ensures.value grew) c.add_share.result c.add_share.ensures
