use Rattle.std.proofs.Common.{◌≡◌, ℕ, [], ◌∷◌, Some, None, refl, ap, sym, subst, ◌∙◌}
use Rattle.std.proofs.lemmas.Bool.{both_ways}
use Rattle.source_table.specs.Sources.{GivesSource, source_in}
use Rattle.delta_forest.specs.Settling.{AreSettled, FindsMore}
use Rattle.delta_forest.specs.declared.index.Index.{Index}
use Rattle.delta_forest.proofs.Sources.{found_root}
use Rattle.delta_forest.proofs.Chains.{finds_at_source, settled_gone, settled_kept}
use Rattle.delta_forest.proofs.settling.settle.Goals as goal

pub returns-then-branch-clause-settled : goal.returns-then-branch-clause-settled
returns-then-branch-clause-settled c =
    let old = c.args.index.now in
    let source = c.in-Some.source.now in
    let found : source_in old.sources c.args.root ≡ Some source = sym c.in-Some.ensures.source in
    let root_is = found_root old.sources c.args.root source found in
    let new : Index = record {
      sources = c.remove.new.self;
      holders = c.follow.new.holders;
      dues = c.follow.new.dues;
    } in
    subst (λ (at : ℕ). AreSettled c.args.change old new (at ∷ [])) root_is
    (settled_gone c.args.change old new source.tree.root source
    (ap (λ (at : ℕ). source_in old.sources at) root_is ∙ found) c.follow.ensures.tree
    c.in_ok-follow.ensures.held c.in_ok-follow.ensures.due c.follow.ensures.same
    c.follow.ensures.others
    c.remove.ensures.apart
    (subst (λ (at : ℕ). GivesSource old.sources new.sources at None) (sym root_is)
    c.remove.ensures.gone)
    (c.in_ok-follow.ensures.bare.0 c.if-branch.true))

pub returns-then-branch-clause-found : goal.returns-then-branch-clause-found
returns-then-branch-clause-found c =
    let old = c.args.index.now in
    let source = c.in-Some.source.now in
    let found : source_in old.sources c.args.root ≡ Some source = sym c.in-Some.ensures.source in
    let root_is = found_root old.sources c.args.root source found in
    finds_at_source old.sources c.args.found.now c.follow.new.found source c.args.root found
    (subst (λ (at : ℕ). FindsMore c.args.found.now c.follow.new.found source at) root_is
    c.in_ok-follow.ensures.found)

pub returns-else-branch-clause-settled : goal.returns-else-branch-clause-settled
returns-else-branch-clause-settled c =
    let old = c.args.index.now in
    let source = c.in-Some.source.now in
    let found : source_in old.sources c.args.root ≡ Some source = sym c.in-Some.ensures.source in
    let root_is = found_root old.sources c.args.root source found in
    let new : Index = record {
      sources = old.sources;
      holders = c.follow.new.holders;
      dues = c.follow.new.dues;
    } in
    subst (λ (at : ℕ). AreSettled c.args.change old new (at ∷ [])) root_is
    (settled_kept c.args.change old new source.tree.root source
    (ap (λ (at : ℕ). source_in old.sources at) root_is ∙ found) c.follow.ensures.tree
    c.in_ok-follow.ensures.held c.in_ok-follow.ensures.due c.follow.ensures.same
    c.follow.ensures.others
    c.get.ensures.apart refl
    (λ bare. both_ways c.in_ok-follow.field-0 c.if-branch.false
    (c.in_ok-follow.ensures.bare.1 bare)))

pub returns-else-branch-clause-found : goal.returns-else-branch-clause-found
returns-else-branch-clause-found c =
    let old = c.args.index.now in
    let source = c.in-Some.source.now in
    let found : source_in old.sources c.args.root ≡ Some source = sym c.in-Some.ensures.source in
    let root_is = found_root old.sources c.args.root source found in
    finds_at_source old.sources c.args.found.now c.follow.new.found source c.args.root found
    (subst (λ (at : ℕ). FindsMore c.args.found.now c.follow.new.found source at) root_is
    c.in_ok-follow.ensures.found)
