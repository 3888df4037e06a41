-- A forest that is kept is indexed.
use Rattle.std.proofs.Common.{◌≡◌, ◌≢◌, ℕ, Bool, List, [], sym, ap, subst, ◌∙◌, ◌==◌}
use Rattle.std.specs.Prelude.{option_map, Some, None}
use Rattle.std.specs.List.{IsDistinct}
use Rattle.std.specs.List.Sorted.{IsStrictlySortedBy}
use Rattle.std.proofs.lemmas.Option.{none-some}
use Rattle.std.proofs.lemmas.List.Elements.{All-map}
use Rattle.std.proofs.lemmas.Simd.{map-map}
use Rattle.rpq_base.proofs.Members.{none_in}
use Rattle.edge_store.specs.Edges.{Edges, IsEmpty, value_of as value_in}
use Rattle.dfa_table.specs.DfaValue.{DfaValue, step_of}
use Rattle.delta_tree.specs.Nodes.{TreeValue}
use Rattle.tree_insert.specs.Trees.{IsOptimal}
use Rattle.source_tree.specs.declared.change.EndChange.{EndChange}
use Rattle.source_tree.specs.declared.change.Reached.{Reached}
use Rattle.source_tree.specs.Ends.{AreReached, SourceValue, end_in}
use Rattle.source_index.specs.Holders.{HoldersValue, Holds}
use Rattle.source_table.specs.Sources.{AreApart, source_in}
use Rattle.delta_forest.specs.Forest.{ForestValue, IsEnd, IsIndexed, tree_in}
use Rattle.delta_forest.specs.Changes.{AreReachedFrom}
use Rattle.source_tree.specs.Product.{AreFinals}
use Rattle.delta_forest.specs.Keeping.{IsKept, forest_with, trees_of}
use Rattle.delta_forest.specs.declared.index.Index.{Index}
use Rattle.delta_forest.proofs.Ends.{end_from, ends_are_one}
use Rattle.delta_forest.proofs.Sources.{all_sources, found_kept, found_some, none_kept, some_found, tree_found}

pub indexed : (dfa : DfaValue) (store : Edges) (calls number : ℕ) (index : Index)
    (broken : Bool) (touched : List ℕ) (log : List EndChange) →
    IsKept dfa store calls index →
    IsIndexed (forest_with dfa store index.sources number broken touched log)
indexed dfa store calls number index broken touched log kept = record {
  optimal = All-map (IsOptimal (value_in store) (step_of dfa))
      (λ (each : SourceValue). each.tree) index.sources
      (all_sources index.sources
      (λ (each : SourceValue). IsOptimal (value_in store) (step_of dfa) each.tree) kept.apart
      (λ root source found. (kept.sound root source found).optimal));
  apart = subst (λ (roots : List ℕ). IsDistinct (λ (first second : ℕ). first == second) roots)
      (sym (map-map (λ (tree : TreeValue). tree.root) (λ (each : SourceValue). each.tree)
      index.sources)) kept.apart;
  sources = λ edge value state is leads.
      let there = some_found (source_in index.sources edge.from)
      (kept.sources edge value state is leads) in
      found_some (tree_in (trees_of index.sources) edge.from) there.0.tree
      (tree_found index.sources edge.from
      ∙ ap (option_map (λ (each : SourceValue). each.tree)) there.1);
  some = All-map (λ (tree : TreeValue). tree.nodes ≢ [])
      (λ (each : SourceValue). each.tree) index.sources
      (all_sources index.sources (λ (each : SourceValue). each.tree.nodes ≢ []) kept.apart
      kept.some);
}

none_apart : AreApart []
unfolding IsDistinct
none_apart = tt

-- a forest without edges and sources is kept
pub kept_new : (dfa : DfaValue) (store : Edges) (calls : ℕ) (index : Index) →
    IsEmpty store → index.sources ≡ [] → index.holders ≡ [] → IsKept dfa store calls index
kept_new dfa store calls index empty sources holders = record {
  apart = subst AreApart (sym sources) none_apart;
  sound = λ root source found. absurd (gone root source found);
  some = λ root source found. absurd (gone root source found);
  sources = λ edge value state is leads. absurd (none-some value (sym (empty edge) ∙ is));
  held = λ root id. (
    (λ holds. absurd (none_in root
        (subst (λ (all : HoldersValue). Holds all id root) holders holds))),
    (λ has. absurd (gone root has.source has.found)),
  );
  due = λ root source found. absurd (gone root source found);
}
  where
    gone : (root : ℕ) (source : SourceValue) → source_in index.sources root ≡ Some source → ⊥
    gone root source found =
        none-some source (sym (ap (λ (all : List SourceValue). source_in all root) sources) ∙ found)

-- ---- the vertices that a root reaches

pub reached_none : (dfa : DfaValue) (store : Edges) (sources : List SourceValue) (calls : ℕ)
    (broken : Bool) (touched : List ℕ) (log : List EndChange) (root : ℕ) →
    source_in sources root ≡ None →
    AreReachedFrom (forest_with dfa store sources calls broken touched log) root []
unfolding IsStrictlySortedBy
reached_none dfa store sources calls broken touched log root none = record {
  exact = λ vertex value. (
    (λ member. absurd (none_in (reached_at vertex value) member)),
    (λ end. absurd (none-some value
        (sym (none_kept sources root none vertex end.is.0) ∙ end.is.2))),
  );
  sorted = tt;
}
  where
    reached_at : ℕ → ℕ → Reached
    reached_at vertex value = record { vertex = vertex; value = value }

pub reached_some : (dfa : DfaValue) (finals : List ℕ) (store : Edges) (calls : ℕ) (index : Index)
    (broken : Bool) (touched : List ℕ) (log : List EndChange) (root : ℕ) (source : SourceValue)
    (reached : List Reached) → AreFinals dfa finals → IsKept dfa store calls index →
    source_in index.sources root ≡ Some source → AreReached finals source.tree reached →
    AreReachedFrom (forest_with dfa store index.sources calls broken touched log) root reached
reached_some dfa finals store calls index broken touched log root source reached are kept found is =
    record {
      exact = λ vertex value. (
        (λ member. subst (IsEnd forest root vertex)
            ((is.exact vertex value).0 member) (end vertex)),
        (λ has. (is.exact vertex value).1
            (ends_are_one forest root vertex (end_in finals source.tree vertex) (Some value)
            (end vertex) has)),
      );
      sorted = is.sorted;
    }
  where
    forest : ForestValue
    forest = forest_with dfa store index.sources calls broken touched log

    end : (vertex : ℕ) → IsEnd forest root vertex (end_in finals source.tree vertex)
    end vertex = end_from forest finals root vertex source.tree are
        (kept.sound root source found).tree
        (λ state. found_kept index.sources root source found vertex state)
