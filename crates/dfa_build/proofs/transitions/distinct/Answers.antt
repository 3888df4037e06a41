use Rattle.std.proofs.Common.{◌≡◌, ◌≤◌, List, [], length, Vec, Global, ap, subst, sym, ◌∙◌}
use Rattle.std.specs.Prelude.{◌↔◌, Contains}
use Rattle.std.proofs.lemmas.List.{take_all}
use Rattle.std.proofs.lemmas.Result.{IfOk-weaker}
use Rattle.rpq_base.specs.declared.data.Label.{Label}
use Rattle.rpq_base.proofs.Members.{with_all, distinct_members, distinct_few}
use Rattle.rpq_base.proofs.Orders.{label_cmp_exact}
use Rattle.rpq_base.specs.Order.{label_cmp}
use Rattle.dfa_build.proofs.transitions.distinct.Goals as goal

pub returns-clause-members : goal.returns-clause-members
returns-clause-members c =
    let labels = c.args.labels.now in
    let all : c.loop-label.found.keys ≡ with_all label_cmp [] labels = c.loop-label.invariant ∙ ap (with_all label_cmp []) (take_all c.loop-label.label-index labels c.loop-label-test.false) in
    IfOk-weaker c.in_order.result
    (λ (list : Vec Label Global). list.items ≡ c.loop-label.found.keys)
    (λ (list : Vec Label Global). (label : Label) → Contains list.items label ↔ Contains labels label)
    (λ list is label. let P : List Label → Type 0 = λ some. Contains some label ↔ Contains labels label in subst P (sym (is ∙ all)) (distinct_members label_cmp_exact labels label))
    c.in_order.ensures.labels

pub returns-clause-few : goal.returns-clause-few
returns-clause-few c =
    let labels = c.args.labels.now in
    let all : c.loop-label.found.keys ≡ with_all label_cmp [] labels = c.loop-label.invariant ∙ ap (with_all label_cmp []) (take_all c.loop-label.label-index labels c.loop-label-test.false) in
    IfOk-weaker c.in_order.result
    (λ (list : Vec Label Global). list.items ≡ c.loop-label.found.keys)
    (λ (list : Vec Label Global). length list.items ≤ length labels)
    (λ list is. let P : List Label → Type 0 = λ some. length some ≤ length labels in subst P (sym (is ∙ all)) (distinct_few label_cmp labels))
    c.in_order.ensures.labels
