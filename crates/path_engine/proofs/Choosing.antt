-- The edge of an act, by numbers.
use Rattle.std.proofs.Common.{◌≡◌, ℕ, slice_index_or, List, Some, None, sym, ◌∙◌}
use Rattle.rpq_base.specs.declared.data.Act.{Act}
use Rattle.rpq_base.specs.declared.data.Act.TheVariants.{Insert, Delete, Tick}
use Rattle.dfa_table.specs.DfaValue.{DfaValue}
use Rattle.query_index.specs.Answering.{IsEdgeFor}
use Rattle.path_engine.specs.Ends.{AreEndsFor}
use Rattle.path_engine.specs.declared.ends.EdgeNumbers.{EdgeNumbers}

pub edge_without_ends : (names : List (List ℕ)) (number : ℕ) (dfa : DfaValue) (act : Act) →
    AreEndsFor names number dfa act None → IsEdgeFor names dfa act None
edge_without_ends names number dfa (Insert edge until) are = are
edge_without_ends names number dfa (Delete edge) are = are
edge_without_ends names number dfa Tick are = tt

pub edge_without_label : (names : List (List ℕ)) (number : ℕ) (dfa : DfaValue) (act : Act)
    (ends : EdgeNumbers) → slice_index_or ends.labels.now number None ≡ None →
    AreEndsFor names number dfa act (Some ends) → IsEdgeFor names dfa act None
edge_without_label names number dfa (Insert edge until) ends none are = sym are.label ∙ none
edge_without_label names number dfa (Delete edge) ends none are = λ id has.
    let both : Some id.label ≡ None = sym has.label ∙ (sym are.label ∙ none) in absurd cc
edge_without_label names number dfa Tick ends none are = tt

pub edge_by_numbers : (names : List (List ℕ)) (number : ℕ) (dfa : DfaValue) (act : Act)
    (ends : EdgeNumbers) (label : ℕ) → slice_index_or ends.labels.now number None ≡ Some label →
    AreEndsFor names number dfa act (Some ends) →
    IsEdgeFor names dfa act (Some (record { from = ends.from; label = label; to = ends.to }))
edge_by_numbers names number dfa (Insert edge until) ends label is are =
    record { from = are.from; label = sym are.label ∙ is; to = are.to }
edge_by_numbers names number dfa (Delete edge) ends label is are =
    record { from = are.from; label = sym are.label ∙ is; to = are.to }
edge_by_numbers names number dfa Tick ends label is are = tt
