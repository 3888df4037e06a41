-- The numbers of the edges of entries, for all queries. No public contract cites this file.
use Rattle.std.specs.Prelude.{◌≡◌, ℕ, ◌<◌, List, length, slice_index_or, Option, Some, None}
use Rattle.std.specs.List.{AllZip}
use Rattle.rpq_base.specs.declared.data.Edge.{Edge}
use Rattle.rpq_base.specs.declared.data.Act.{Act}
use Rattle.rpq_base.specs.declared.data.Act.TheVariants.{Insert, Delete, Tick}
use Rattle.rpq_base.specs.declared.data.Entry.{Entry}
use Rattle.dfa_table.specs.DfaValue.{DfaValue, place_of}
use Rattle.name_table.specs.Names.{number_of}
use Rattle.edge_store.specs.declared.edge.EdgeId.{EdgeId}
use Rattle.index_laws.specs.Numbered.{HasNumbers}
use Rattle.query_file.specs.Compiled.{CompiledValue}
use Rattle.path_engine.specs.declared.ends.EdgeNumbers.{EdgeNumbers}

-- the numbers of the edge's vertices, and these of its label
pub record AreEndsOf (names : List (List ℕ)) (edge : Edge) (numbers : List (Option ℕ))
    (ends : EdgeNumbers) : Type 0 where
  pub from : number_of names edge.from ≡ Some ends.from
  pub to : number_of names edge.to ≡ Some ends.to
  pub labels : ends.labels.now ≡ numbers

-- the numbers of the edge's vertices, and what they say of its label to the query with this number,
-- which has this automaton
pub record AreEndsIn (names : List (List ℕ)) (number : ℕ) (dfa : DfaValue) (edge : Edge)
    (ends : EdgeNumbers) : Type 0 where
  pub from : number_of names edge.from ≡ Some ends.from
  pub to : number_of names edge.to ≡ Some ends.to
  pub label : slice_index_or ends.labels.now number None ≡ place_of dfa edge.label

-- the numbers of the act's edge, as they are for the query with this number, which has this
-- automaton; none where an insert's label is strange to the automaton, where a vertex or the label
-- of a delete has no number, or where there is no edge
abbrev pub AreEndsFor : List (List ℕ) → ℕ → DfaValue → Act → Option EdgeNumbers → Type 0
AreEndsFor names number dfa (Insert edge until) (Some ends) = AreEndsIn names number dfa edge ends
AreEndsFor names number dfa (Insert edge until) None = place_of dfa edge.label ≡ None
AreEndsFor names number dfa (Delete edge) (Some ends) = AreEndsIn names number dfa edge ends
AreEndsFor names number dfa (Delete edge) None = (id : EdgeId) → HasNumbers names dfa edge id → ⊥
AreEndsFor names number dfa Tick ends = Unit {0}

-- they are so for each of these queries
abbrev pub AreEndsForEach : List (List ℕ) → List CompiledValue → Act → Option EdgeNumbers → Type 0
AreEndsForEach names queries act ends = (number : ℕ) (query : CompiledValue) →
    number < length queries → query ≡ slice_index_or queries number query →
    AreEndsFor names number query.dfa act ends

-- the numbers of an insert's edge, and anything for another act: more names leave this so
abbrev pub AreFirstEnds : List (List ℕ) → ℕ → DfaValue → Act → Option EdgeNumbers → Type 0
AreFirstEnds names number dfa (Insert edge until) ends =
    AreEndsFor names number dfa (Insert edge until) ends
AreFirstEnds names number dfa (Delete edge) ends = Unit {0}
AreFirstEnds names number dfa Tick ends = Unit {0}

-- they are so for each of these queries
abbrev pub AreFirstEndsForEach : List (List ℕ) → List CompiledValue → Act → Option EdgeNumbers →
    Type 0
AreFirstEndsForEach names queries act ends = (number : ℕ) (query : CompiledValue) →
    number < length queries → query ≡ slice_index_or queries number query →
    AreFirstEnds names number query.dfa act ends

-- and for each entry
abbrev pub AreAllFirstEnds : List (List ℕ) → List CompiledValue → List Entry →
    List (Option EdgeNumbers) → Type 0
AreAllFirstEnds names queries entries ends =
    AllZip (λ (entry : Entry) (own : Option EdgeNumbers).
    AreFirstEndsForEach names queries entry.tuple.act own) entries ends

-- the numbers of each entry's edge, for each query
abbrev pub AreAllEndsFor : List (List ℕ) → List CompiledValue → List Entry →
    List (Option EdgeNumbers) → Type 0
AreAllEndsFor names queries entries ends =
    AllZip (λ (entry : Entry) (own : Option EdgeNumbers).
    AreEndsForEach names queries entry.tuple.act own) entries ends
