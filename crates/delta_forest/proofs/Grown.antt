-- The sources that a change may touch, before they take it: those that were kept, and new ones.
use Rattle.std.proofs.Common.{◌≡◌, ℕ, ◌*◌, ◌^◌, ◌<◌, ◌≤◌, List, Some, None, sym, ap, subst, ◌∙◌, ⊎_elim, Contains, arith}
use Rattle.std.proofs.lemmas.Option.{none-some}
use Rattle.rpq_base.proofs.Members.{none_in}
use Rattle.edge_store.specs.declared.edge.EdgeId.{EdgeId}
use Rattle.edge_store.specs.Edges.{Edges, value_of as value_in}
use Rattle.dfa_table.specs.DfaValue.{DfaValue, step_of}
use Rattle.delta_tree.specs.Nodes.{IsTree}
use Rattle.tree_insert.specs.Trees.{IsOptimal}
use Rattle.tree_insert.proofs.Expiry.{bare_is_optimal}
use Rattle.source_tree.specs.declared.change.Change.{Change}
use Rattle.source_tree.specs.Ends.{SourceValue}
use Rattle.source_tree.specs.Product.{AreFinals, AreHeld, product_of}
use Rattle.source_index.specs.Holders.{HoldersValue, roots_at}
use Rattle.source_table.specs.Sources.{AreReady, source_in}
use Rattle.delta_forest.specs.Changes.{TakesChange}
use Rattle.delta_forest.specs.Keeping.{IsKept}
use Rattle.delta_forest.specs.Candidates.{AreCandidates, IsFresh}
use Rattle.delta_forest.specs.declared.index.Index.{Index}
use Rattle.delta_forest.proofs.Sources.{none_is_none}
use Rattle.delta_forest.proofs.Elsewhere.{no_node, was_optimal}

module _ {change : Change} {dfa : DfaValue} {calls : ℕ} {old : Edges}
    {index grown : Index} {roots : List ℕ} (kept : IsKept dfa old calls index)
    (are : AreCandidates change (step_of dfa) index grown roots) where
  -- no edge leaves a root without a source with a step from the start
  none_leaves : (root : ℕ) (edge : EdgeId) (value state : ℕ) → source_in index.sources root ≡ None →
      value_in old edge ≡ Some value → edge.from ≡ root → step_of dfa 0 edge.label ≡ Some state → ⊥
  none_leaves root edge value state none is from leads =
      none_is_none (source_in index.sources edge.from)
      (ap (λ (at : ℕ). source_in index.sources at) from ∙ none)
      (kept.sources edge value state is leads)

  pub grown_optimal : (root : ℕ) (source : SourceValue) →
      source_in grown.sources root ≡ Some source →
      IsOptimal (value_in old) (step_of dfa) source.tree
  grown_optimal root source found = ⊎_elim
      (λ (was : source_in index.sources root ≡ Some source). (kept.sound root source was).optimal)
      (λ (fresh : IsFresh roots index.sources root source).
      bare_is_optimal (value_in old) (step_of dfa) source.tree fresh.bare
      (λ edge value state is from leads.
      none_leaves root edge value state fresh.none is (from ∙ fresh.root_is) leads))
      (are.only root source found)

  pub grown_tree : (root : ℕ) (source : SourceValue) →
      source_in grown.sources root ≡ Some source → IsTree source.tree
  grown_tree root source found = ⊎_elim
      (λ (was : source_in index.sources root ≡ Some source). (kept.sound root source was).tree)
      (λ (fresh : IsFresh roots index.sources root source).
      λ id node is. absurd (none-some node (sym (no_node source.tree id fresh.bare) ∙ is)))
      (are.only root source found)

  pub grown_puts : (root : ℕ) (source : SourceValue) →
      source_in grown.sources root ≡ Some source → source.tree.puts ≤ calls * 2 ^ 64
  grown_puts root source found = ⊎_elim
      (λ (was : source_in index.sources root ≡ Some source). (kept.sound root source was).puts)
      (λ (fresh : IsFresh roots index.sources root source). omega (arith, fresh.puts))
      (are.only root source found)

  -- each node is held
  grown_held : (root : ℕ) (source : SourceValue) → source_in grown.sources root ≡ Some source →
      AreHeld grown.holders source.tree
  grown_held root source found id node there none = ⊎_elim
      (λ (was : source_in index.sources root ≡ Some source).
      none_in root (subst (λ (roots : List ℕ). Contains roots root)
      (sym (ap (λ (holders : HoldersValue). roots_at holders id) are.holders) ∙ none)
      ((kept.held root id).1
      (record { source = source; node = node; found = was; there = there }))))
      (λ (fresh : IsFresh roots index.sources root source).
      none-some node (sym (no_node source.tree id fresh.bare) ∙ there))
      (are.only root source found)

  -- each source is ready
  pub ready : (new : Edges) (finals : List ℕ) → AreFinals dfa finals → TakesChange change old new →
      calls < 2 ^ 60 →
      AreReady change (product_of new dfa finals grown.holders) roots grown.sources
  ready new finals exact takes few root source listed found = record {
    puts = let puts = grown_puts root source found in omega (arith, puts, few);
    before = was_optimal change old (product_of new dfa finals grown.holders) source.tree takes
        (grown_optimal root source found);
    finals = exact;
    held = grown_held root source found;
  }

  -- the sources of the roots that aren't listed were there
  pub was_there : (root : ℕ) (source : SourceValue) → source_in grown.sources root ≡ Some source →
      (Contains roots root → ⊥) → source_in index.sources root ≡ Some source
  was_there root source found unlisted = ⊎_elim
      (λ (was : source_in index.sources root ≡ Some source). was)
      (λ (fresh : IsFresh roots index.sources root source).
      absurd (unlisted fresh.listed))
      (are.only root source found)
