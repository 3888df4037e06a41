-- What a change leaves as it is in the trees of a forest.
use Rattle.std.proofs.Common.{◌≡◌, ℕ, ◌≤◌, Bool, List, Some, sym, subst, ◌∙◌, ⊎_elim, Contains, arith}
use Rattle.std.proofs.lemmas.Option.{same_Some}
use Rattle.edge_store.specs.Edges.{Edges}
use Rattle.dfa_table.specs.DfaValue.{DfaValue, step_of}
use Rattle.delta_tree.specs.Nodes.{TreeValue}
use Rattle.source_tree.specs.declared.change.Change.{Change}
use Rattle.source_tree.specs.declared.change.EndChange.{EndChange}
use Rattle.source_tree.specs.Ends.{SourceValue}
use Rattle.source_tree.specs.Product.{product_of}
use Rattle.source_tree.specs.Taking.{HasTaken, KeepsNodes}
use Rattle.delta_forest.specs.Forest.{ForestValue, tree_of}
use Rattle.delta_forest.specs.Changes.{KeepsTrees}
use Rattle.delta_forest.specs.Keeping.{forest_with}
use Rattle.delta_forest.specs.Candidates.{IsElsewhere}
use Rattle.delta_forest.specs.declared.index.Index.{Index}
use Rattle.delta_forest.proofs.Sources.{tree_source}
use Rattle.delta_forest.proofs.Elsewhere.{keeps_itself}
use Rattle.delta_forest.proofs.Following.{Follows, after, unlisted_elsewhere}

module _ {change : Change} {dfa : DfaValue} {finals : List ℕ} {calls : ℕ} {old new : Edges}
    {index grown : Index} {roots : List ℕ} {table : List SourceValue} {settled : Index}
    (follows : Follows change dfa finals calls old new index grown roots table settled)
    (number count : ℕ) (broken spoiled : Bool) (olds news : List ℕ)
    (old_log new_log : List EndChange) where
  abbrev before_it : ForestValue
  before_it = forest_with dfa old index.sources number broken olds old_log

  abbrev after_it : ForestValue
  after_it = forest_with dfa new settled.sources count spoiled news new_log

  -- a tree before and after, of one source
  trees : (root : ℕ) (first second : TreeValue) (kind : TreeValue → TreeValue → Type 0) →
      ((before source : SourceValue) →
      HasTaken change (product_of new dfa finals grown.holders) before source →
      kind before.tree source.tree) →
      ((source : SourceValue) → IsElsewhere change (step_of dfa) source.tree →
      kind source.tree source.tree) →
      tree_of before_it root ≡ Some first → tree_of after_it root ≡ Some second →
      kind first second
  trees root first second kind taking staying was is =
      let one = tree_source index.sources root first was in
      let other = tree_source settled.sources root second is in
      let found = follows.settles.only root other.0 other.1 in
      let at = after follows root other.0 found in
      let here = same_Some at.before one.0 (sym at.found ∙ follows.are.stays root one.0 one.1) in
      subst (λ (tree : TreeValue). kind first tree) other.2
      (subst (λ (tree : TreeValue). kind tree other.0.tree) one.2
      (subst (λ (each : SourceValue). kind each.tree other.0.tree) here (⊎_elim
      (λ (both : Contains roots root
      × HasTaken change (product_of new dfa finals grown.holders) at.before other.0).
      taking at.before other.0 both.1)
      (λ (both : (Contains roots root → ⊥) × (at.before ≡ other.0)).
      subst (λ (each : SourceValue). kind at.before.tree each.tree) both.1
      (staying at.before (unlisted_elsewhere follows root at.before at.found both.0)))
      at.cases)))

  pub keeps_trees : KeepsTrees change before_it after_it
  keeps_trees = record {
    puts = λ root first second was is.
        trees root first second (λ one other. one.puts ≤ other.puts)
        (λ before source took. took.later.puts) (λ source elsewhere. omega arith) was is;
    nodes = λ root first second was is.
        trees root first second (KeepsNodes change)
        (λ before source took. took.keeps)
        (λ source elsewhere. keeps_itself change (step_of dfa) source.tree elsewhere) was is;
  }
