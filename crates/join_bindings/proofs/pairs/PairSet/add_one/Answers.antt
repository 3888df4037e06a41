use Rattle.std.proofs.Common.{◌≡◌, Bool, true, List, [], ◌∷◌, ◌++◌, ap, sym, ◌∙◌}
use Rattle.std.specs.Prelude.{◌↔◌, Contains, if◌then◌else◌}
use Rattle.rpq_base.specs.declared.data.Pair.{Pair}
use Rattle.join_bindings.specs.Pairs.{pair}
use Rattle.join_bindings.proofs.Rowing.{is_there, one_there}
use Rattle.join_bindings.proofs.pairs.PairSet.add_one.Goals as goal

pub returns-in_ok-push : goal.returns-in_ok-push
returns-in_ok-push c =
    let from = c.args.from.now in
    let to = c.args.to.now in
    let set : List Pair = c.args.self.now in
    let old : List Pair = c.args.found.now.items in
    let sides = is_there set c.self.inside.sources c.self.inside.targets from to c.self.invariant c.self.view_is in
    let has : (c.has.result ≡ true) ↔ Contains set (pair from to) = (
      (λ e. sides.0 (c.has.ensures.0 e)),
      (λ member. c.has.ensures.1 (sides.1 member)),
    ) in
    one_there set from to c.has.result has old c.push.new.self.items
    (c.in_ok-push.ensures.items ∙ sym (ap (λ (test : Bool). if test then old ++ pair from to ∷ [] else old) c.if-has.true))

pub returns-else-has : goal.returns-else-has
returns-else-has c =
    let from = c.args.from.now in
    let to = c.args.to.now in
    let set : List Pair = c.args.self.now in
    let old : List Pair = c.args.found.now.items in
    let sides = is_there set c.self.inside.sources c.self.inside.targets from to c.self.invariant c.self.view_is in
    let has : (c.has.result ≡ true) ↔ Contains set (pair from to) = (
      (λ e. sides.0 (c.has.ensures.0 e)),
      (λ member. c.has.ensures.1 (sides.1 member)),
    ) in
    one_there set from to c.has.result has old old
    (sym (ap (λ (test : Bool). if test then old ++ pair from to ∷ [] else old) c.if-has.false))
