use Rattle.std.proofs.Common.{◌≡◌, ◌+◌, ℕ, List, take, rules, sym, ap, subst, ◌∙◌}
use Rattle.std.specs.Prelude.{◌↔◌, Contains}
use Rattle.std.specs.BTreeSet.{insert_key}
use Rattle.std.proofs.lemmas.List.{take_all}
use Rattle.rpq_base.specs.Order.{name_cmp}
use Rattle.rpq_base.specs.declared.data.Pair.{Pair}
use Rattle.rpq_model.specs.Relations.{targets}
use Rattle.rpq_base.proofs.Members.{next_given}
use Rattle.plain_evaluator.proofs.Targets.{target_more}
use Rattle.plain_evaluator.proofs.closure.distinct_targets.Goals as goal

pub loop-pair-preserved : goal.loop-pair-preserved
loop-pair-preserved c =
    let pairs = c.args.pairs.now in
    let index = c.loop-pair.pair-index in
    let pair = c.pair-item.result in
    let found = c.loop-pair.found.keys in
    target_more (targets (take index pairs)) pair.to (targets (take (index + 1) pairs)) found c.insert.new.self.keys
    (next_given (λ (each : Pair). each.to) pairs index pair c.loop-pair-test.true c.pair-item.is)
    (c.in_ok-insert.ensures.keys ∙ ap (insert_key name_cmp found) c.in_ok-copy.ensures) c.loop-pair.invariant

pub returns : goal.returns
returns c =
    let pairs = c.args.pairs.now in
    let found = c.loop-pair.found.keys in
    let is : c.in_ok-collect.field-0.items ≡ found = search rules in
    subst (λ (all : List (List ℕ)). (vertex : List ℕ) → Contains all vertex ↔ Contains (targets pairs) vertex) (sym is)
    (subst (λ (firsts : List Pair). (vertex : List ℕ) → Contains found vertex ↔ Contains (targets firsts) vertex)
    (take_all c.loop-pair.pair-index pairs c.loop-pair-test.false) c.loop-pair.invariant)
