-- How an entry is answered for one query.
use Rattle.std.specs.Prelude.{◌≡◌, ℕ, ◌+◌, ◌^◌, ◌≤◌, List, [], ◌∷◌, ◌++◌, map, All}
use Rattle.std.specs.Prelude.{Option, Some, None}
use Rattle.rpq_base.specs.declared.data.Act.{Act}
use Rattle.rpq_base.specs.declared.data.Act.TheVariants.{Insert, Delete, Tick}
use Rattle.rpq_base.specs.declared.data.Entry.{Entry}
use Rattle.rpq_base.specs.declared.data.Event.{Event}
use Rattle.end_events.specs.declared.numbered_event.NumberedEvent.{NumberedEvent}
use Rattle.end_events.specs.Named.{named, HasNames}
use Rattle.dfa_table.specs.DfaValue.{DfaValue, place_of}
use Rattle.rpq_model.specs.Events.{AreEvents}
use Rattle.rpq_model.specs.Query.{path_query}
use Rattle.edge_store.specs.declared.edge.EdgeId.{EdgeId}
use Rattle.index_laws.specs.Numbered.{HasNumbers}
use Rattle.query_file.specs.Compiled.{CompiledValue}
use Rattle.query_index.specs.Index.{IsForestFor, IsIndexFor}
use Rattle.query_index.specs.IndexValue.{IndexValue}
use Rattle.query_index.specs.Keeping.{KeepsForest}

-- the act's edge by the numbers of an automaton; none where an insert's label is strange to it,
-- where a delete's edge has no numbers, or where there is no edge
abbrev pub IsEdgeFor : List (List ℕ) → DfaValue → Act → Option EdgeId → Type 0
IsEdgeFor names dfa (Insert edge until) (Some id) = HasNumbers names dfa edge id
IsEdgeFor names dfa (Insert edge until) None = place_of dfa edge.label ≡ None
IsEdgeFor names dfa (Delete edge) (Some id) = HasNumbers names dfa edge id
IsEdgeFor names dfa (Delete edge) None = (id : EdgeId) → HasNumbers names dfa edge id → ⊥
IsEdgeFor names dfa Tick id = Unit {0}

-- the index is that of the query over some history, and was fed few entries
pub record HasHistory (query : CompiledValue) (names : List (List ℕ)) (index : IndexValue)
    : Type 0 where
  pub history : List Entry
  pub fed : ℕ
  pub short : fed ≤ 2 ^ 30
  pub is : IsIndexFor query history fed names index

-- the entry was answered for the query with this number: over each history of which the index was
-- that of the query, it is so over the history with the entry, fed one more, and so is its forest;
-- and these are the events, by the numbers of names
pub record HasAnswered (names : List (List ℕ)) (entry : Entry) (number : ℕ)
    (query : CompiledValue) (old new : IndexValue) (own : List NumberedEvent) : Type 0 where
  pub stands : (history : List Entry) (fed : ℕ) → IsIndexFor query history fed names old →
      IsIndexFor query (history ++ entry ∷ []) (fed + 1) names new
  pub forest : (history : List Entry) (fed : ℕ) → IsIndexFor query history fed names old →
      IsForestFor query (history ++ entry ∷ []) names new.forest
  pub events : (history : List Entry) (fed : ℕ) → IsIndexFor query history fed names old →
      AreEvents (path_query query.def) number history (history ++ entry ∷ [])
      (map (named names) own)
  pub keeps : KeepsForest entry.tuple.act names old.forest new.forest
  pub numbers : All (λ (event : Event). event.query ≡ number) (map (named names) own)
  pub have_names : All (HasNames names) own
