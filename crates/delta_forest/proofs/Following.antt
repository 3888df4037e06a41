-- The sources of a forest before and after a change.
use Rattle.std.proofs.Common.{◌≡◌, ℕ, List, Some, None, sym, subst, ◌∙◌, ◌⊎◌, inl, inr, ⊎_elim, Contains}
use Rattle.std.proofs.lemmas.Option.{same_Some}
use Rattle.edge_store.specs.Edges.{Edges, value_of as value_in}
use Rattle.dfa_table.specs.DfaValue.{DfaValue, step_of}
use Rattle.tree_insert.specs.Trees.{IsOptimal}
use Rattle.tree_insert.specs.Laws.{RaiseElsewhereKeepsOptimal}
use Rattle.tree_delete.specs.Laws.{RemovalElsewhereKeepsOptimal}
use Rattle.source_tree.specs.declared.change.Change.{Change}
use Rattle.source_tree.specs.Ends.{SourceValue}
use Rattle.source_tree.specs.Product.{product_of}
use Rattle.source_tree.specs.Taking.{HasTaken}
use Rattle.source_table.specs.Sources.{HaveTaken, roots_of, source_in}
use Rattle.delta_forest.specs.Changes.{TakesChange}
use Rattle.delta_forest.specs.Keeping.{IsKept}
use Rattle.delta_forest.specs.Candidates.{AreCandidates, IsElsewhere}
use Rattle.delta_forest.specs.Settling.{AreSettled}
use Rattle.delta_forest.specs.declared.index.Index.{Index}
use Rattle.delta_forest.proofs.Sources.{found_or_not, found_some, listed_or_not, none_is_none, same_roots, some_found}
use Rattle.delta_forest.proofs.Elsewhere.{still_optimal}
use Rattle.delta_forest.proofs.Grown.{grown_optimal, was_there}

-- an index that was kept follows a change: the store takes it, the sources that it may touch have
-- come in and take it, and then these are settled
pub record Follows (change : Change) (dfa : DfaValue) (finals : List ℕ) (calls : ℕ)
    (old new : Edges) (index grown : Index) (roots : List ℕ) (table : List SourceValue)
    (settled : Index) : Type 0 where
  pub takes : TakesChange change old new
  pub kept : IsKept dfa old calls index
  pub are : AreCandidates change (step_of dfa) index grown roots
  pub taken : HaveTaken change (product_of new dfa finals grown.holders) roots grown.sources table
  pub same : roots_of table ≡ roots_of grown.sources
  pub settles : AreSettled change
      (record { sources = table; holders = grown.holders; dues = grown.dues }) settled roots
  pub raises : RaiseElsewhereKeepsOptimal
  pub removes : RemovalElsewhereKeepsOptimal

module _ {change : Change} {dfa : DfaValue} {finals : List ℕ} {calls : ℕ} {old new : Edges}
    {index grown : Index} {roots : List ℕ} {table : List SourceValue} {settled : Index}
    (follows : Follows change dfa finals calls old new index grown roots table settled) where
  -- the source before the change, which took it, or is as it was
  pub record IsAfter (root : ℕ) (source : SourceValue) : Type 0 where
    pub before : SourceValue
    pub found : source_in grown.sources root ≡ Some before
    pub cases : (Contains roots root
        × HasTaken change (product_of new dfa finals grown.holders) before source)
        ⊎ ((Contains roots root → ⊥) × (before ≡ source))

  pub after : (root : ℕ) (source : SourceValue) → source_in table root ≡ Some source →
      IsAfter root source
  after root source found =
      let there = some_found (source_in grown.sources root)
      (sym (same_roots table grown.sources root follows.same)
      ∙ found_some (source_in table root) source found) in
      record {
        before = there.0;
        found = there.1;
        cases = ⊎_elim
            (λ (listed : Contains roots root).
            inl (listed, follows.taken.taken root there.0 source listed there.1 found))
            (λ (unlisted : Contains roots root → ⊥).
            inr (
              unlisted,
              same_Some there.0 source
                  (sym there.1 ∙ (sym (follows.taken.others root unlisted) ∙ found)),
            ))
            (listed_or_not roots root);
      }

  pub after_none : (root : ℕ) → source_in table root ≡ None → source_in index.sources root ≡ None
  after_none root none = ⊎_elim
      (λ (was : (source : SourceValue) × (source_in index.sources root ≡ Some source)).
      absurd (none_is_none (source_in table root) none
      (same_roots table grown.sources root follows.same
      ∙ found_some (source_in grown.sources root) was.0 (follows.are.stays root was.0 was.1))))
      (λ (is : source_in index.sources root ≡ None). is)
      (found_or_not (source_in index.sources root))

  -- a source whose root isn't listed was there before, and the change is elsewhere in its tree
  pub stood : (root : ℕ) (source : SourceValue) → source_in grown.sources root ≡ Some source →
      (Contains roots root → ⊥) → source_in index.sources root ≡ Some source
  stood = was_there follows.kept follows.are

  pub unlisted_elsewhere : (root : ℕ) (source : SourceValue) →
      source_in grown.sources root ≡ Some source → (Contains roots root → ⊥) →
      IsElsewhere change (step_of dfa) source.tree
  unlisted_elsewhere root source found unlisted =
      follows.are.elsewhere root source (stood root source found unlisted) unlisted

  pub after_optimal : (root : ℕ) (source : SourceValue) → source_in table root ≡ Some source →
      IsOptimal (value_in new) (step_of dfa) source.tree
  after_optimal root source found =
      let was = after root source found in ⊎_elim
      (λ (both : Contains roots root
      × HasTaken change (product_of new dfa finals grown.holders) was.before source).
      both.1.optimal)
      (λ (both : (Contains roots root → ⊥) × (was.before ≡ source)).
      subst (λ (each : SourceValue). IsOptimal (value_in new) (step_of dfa) each.tree) both.1
      (still_optimal change old new (step_of dfa) was.before.tree follows.raises follows.removes
      follows.takes
      (follows.kept.sound root was.before (stood root was.before was.found both.0)).tree
      (grown_optimal follows.kept follows.are root was.before was.found)
      (unlisted_elsewhere root was.before was.found both.0)))
      was.cases
