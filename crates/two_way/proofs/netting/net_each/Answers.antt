use Rattle.std.proofs.Common.{◌≡◌, arith, ◌+◌, List, [], ◌∷◌, ◌++◌, Vec, Global, length, map, take, drop, sym, ap, subst, ◌∙◌}
use Rattle.std.proofs.lemmas.List.{map-append}
use Rattle.rpq_base.specs.declared.data.Event.{Event}
use Rattle.two_way.specs.Doubled.{doubled, doubled_by}
use Rattle.two_way.specs.Net.{IsNetOf, AreAllNet}
use Rattle.two_way.proofs.NetOfEach.{enough_left, next_left, all_net_next}
use Rattle.two_way.proofs.netting.net_each.Goals as goal

-- an entry's lists are there
pub split_at-requires : goal.split_at-requires
split_at-requires c =
    let entries = c.args.entries.now in
    let lists = c.args.lists.now in
    let index = c.loop-entry.entry-index in
    let entry = c.entry-item.result in
    let enough = enough_left entries lists index entry c.loop-entry-test.true c.entry-item.is c.requires.as_many in
    let left : length c.loop-entry.left.now ≡ length (drop (length (doubled (take index entries))) lists) =
    ap (λ (left : List (Vec Event Global)). length left) c.loop-entry.invariant.0 in
    omega (arith, enough, c.lists_of.ensures, left)

pub loop-entry-preserved : goal.loop-entry-preserved
loop-entry-preserved c =
    let entries = c.args.entries.now in
    let lists = c.args.lists.now in
    let index = c.loop-entry.entry-index in
    let entry = c.entry-item.result in
    let show = λ (own : Vec Event Global). own.items in
    let own = length (doubled_by entry) in
    let behind = length (doubled (take index entries)) in
    let front : c.split_at.result.0.now ≡ take own (drop behind lists) =
    c.split_at.ensures.front ∙ (ap (λ n. take n c.loop-entry.left.now) c.lists_of.ensures
    ∙ ap (λ (left : List (Vec Event Global)). take own left) c.loop-entry.invariant.0) in
    let back : c.split_at.result.1.now ≡ drop own (drop behind lists) =
    c.split_at.ensures.back ∙ (ap (λ n. drop n c.loop-entry.left.now) c.lists_of.ensures
    ∙ ap (λ (left : List (Vec Event Global)). drop own left) c.loop-entry.invariant.0) in
    let net = subst (λ (left : List (Vec Event Global)). IsNetOf (map show left) c.in_ok-net_of.field-0.items) front c.in_ok-net_of.ensures in
    let pushed : map show c.push.new.self.items ≡ map show c.loop-entry.netted.items ++ c.in_ok-net_of.field-0.items ∷ [] =
    ap (map show) c.in_ok-push.ensures.items ∙ map-append show c.loop-entry.netted.items (c.in_ok-net_of.field-0 ∷ []) in (
      back ∙ next_left entries lists index entry c.loop-entry-test.true c.entry-item.is,
      subst (AreAllNet (take (index + 1) entries) (map show lists)) (sym pushed)
          (all_net_next show entries lists index entry (map show c.loop-entry.netted.items) c.in_ok-net_of.field-0.items
          c.loop-entry-test.true c.entry-item.is c.loop-entry.invariant.1 net),
    )
