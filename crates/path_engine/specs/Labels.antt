-- The labels of all queries, with the numbers that they have in the queries' automata. No public
-- contract cites this file.
use Rattle.std.specs.Prelude.{◌≡◌, ℕ, List, map, option_map, All, Contains, Option, Some, None}
use Rattle.std.specs.BTreeMap.{BTreeMap, get}
use Rattle.std.specs.Global.{Global}
use Rattle.std.specs.declared.vec.Vec.{Vec}
use Rattle.rpq_base.specs.Order.{label_cmp}
use Rattle.rpq_base.specs.declared.data.Label.{Label}
use Rattle.dfa_table.specs.DfaValue.{place_of}
use Rattle.query_file.specs.Compiled.{CompiledValue}

-- a row of numbers for each of some labels
abbrev pub Table : Type 0
Table = BTreeMap Label (Vec (Option ℕ) Global)

-- the row of the label, if the table has it
abbrev pub row_at : Table → Label → Option (List (Option ℕ))
row_at table label =
    option_map (λ (row : Vec (Option ℕ) Global). row.items) (get label_cmp table label)

-- for each query the number that the label has in its automaton, if it has one
abbrev pub row_for : List CompiledValue → Label → List (Option ℕ)
row_for queries label = map (λ (query : CompiledValue). place_of query.dfa label) queries

-- the label is strange to the automata of all these queries
abbrev pub IsStrange : List CompiledValue → Label → Type 0
IsStrange queries label = All (λ (query : CompiledValue). place_of query.dfa label ≡ None) queries

-- each row is that of its label, which isn't strange
pub record AreRows (queries : List CompiledValue) (table : Table) : Type 0 where
  pub are : (label : Label) (row : List (Option ℕ)) → row_at table label ≡ Some row →
      row ≡ row_for queries label
  pub known : (label : Label) (row : List (Option ℕ)) → row_at table label ≡ Some row →
      IsStrange queries label → ⊥

-- and each label that isn't strange has its row
pub record IsTableOf (queries : List CompiledValue) (table : Table) : Type 0 where
  pub rows : AreRows queries table
  pub others : (label : Label) → row_at table label ≡ None → IsStrange queries label

-- the rows of these labels came to the others
pub record AddsRows (queries : List CompiledValue) (labels : List Label) (old new : Table)
    : Type 0 where
  pub rows : AreRows queries old → AreRows queries new
  pub kept : (label : Label) → row_at new label ≡ None → row_at old label ≡ None
  pub added : (label : Label) → row_at new label ≡ None → Contains labels label → ⊥
