use Rattle.std.proofs.Common.{sym, subst}
use Rattle.std.proofs.lemmas.Result.{on_ok_weaker}
use Rattle.rpq_base.proofs.Outcomes.{on_ok}
use Rattle.source_tree.specs.Taking.{KeepsNodes, WasOptimalBefore}
use Rattle.source_tree.specs.Telling.{HasChanged, Tells}
use Rattle.source_tree.specs.declared.change.Change.{Change}
use Rattle.source_tree.specs.declared.change.Change.TheVariants.{Raise, Expire}
use Rattle.source_tree.proofs.steps.change_tree.Goals as goal

-- ---- a raise

pub returns-in_ok-raise_edge-in-Raise-clause-optimal :
    goal.returns-in_ok-raise_edge-in-Raise-clause-optimal
returns-in_ok-raise_edge-in-Raise-clause-optimal c =
    on_ok c.report_search.result
    (c.in_ok-raise_edge-in-Raise.ensures.changed c.in-Raise.value).optimal

pub returns-in_ok-raise_edge-in-Raise-clause-keeps :
    goal.returns-in_ok-raise_edge-in-Raise-clause-keeps
returns-in_ok-raise_edge-in-Raise-clause-keeps c =
    on_ok c.report_search.result
    (subst (λ (change : Change). KeepsNodes change c.args.tree.now c.raise_edge.new.tree)
    (sym c.in-Raise.is)
    (c.in_ok-raise_edge-in-Raise.ensures.changed c.in-Raise.value).keeps)

pub returns-in_ok-raise_edge-in-Raise-clause-tells :
    goal.returns-in_ok-raise_edge-in-Raise-clause-tells
returns-in_ok-raise_edge-in-Raise-clause-tells c =
    let report = c.report_search.new.report in
    let old = c.args.tree.now in
    let new = c.raise_edge.new.tree in
    let raise = Raise c.in-Raise.edge c.in-Raise.value in
    on_ok_weaker c.report_search.result
    (λ tells. subst (λ (change : Change). Tells change c.args.product.now.finals old new
    report.moved.items report.log.items report.touched) (sym c.in-Raise.is)
    (tells raise old (c.in_ok-raise_edge-in-Raise.ensures.changed c.in-Raise.value).touches
    c.requires.held))
    c.report_search.ensures

-- ---- an expiry

expired : (c : goal.After-report_search-in-Expire) →
    HasChanged (Expire c.in-Expire.now) c.args.product.now c.args.tree.now c.expire.new.tree c.expire.new.search.shifts
expired c = c.in_ok-expire-in-Expire.ensures.changed c.args.product.now
    (subst (λ (change : Change). WasOptimalBefore change c.args.product.now c.args.tree.now)
    c.in-Expire.is c.requires.before)

pub returns-in_ok-expire-in-Expire-clause-optimal :
    goal.returns-in_ok-expire-in-Expire-clause-optimal
returns-in_ok-expire-in-Expire-clause-optimal c =
    on_ok c.report_search-in-Expire.result (expired c).optimal

pub returns-in_ok-expire-in-Expire-clause-keeps :
    goal.returns-in_ok-expire-in-Expire-clause-keeps
returns-in_ok-expire-in-Expire-clause-keeps c =
    on_ok c.report_search-in-Expire.result
    (subst (λ (change : Change). KeepsNodes change c.args.tree.now c.expire.new.tree)
    (sym c.in-Expire.is) (expired c).keeps)

pub returns-in_ok-expire-in-Expire-clause-tells :
    goal.returns-in_ok-expire-in-Expire-clause-tells
returns-in_ok-expire-in-Expire-clause-tells c =
    let report = c.report_search-in-Expire.new.report in
    let old = c.args.tree.now in
    let new = c.expire.new.tree in
    let expire = Expire c.in-Expire.now in
    on_ok_weaker c.report_search-in-Expire.result
    (λ tells. subst (λ (change : Change). Tells change c.args.product.now.finals old new
    report.moved.items report.log.items report.touched) (sym c.in-Expire.is)
    (tells expire old (expired c).touches c.requires.held))
    c.report_search-in-Expire.ensures
