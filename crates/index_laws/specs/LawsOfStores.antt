-- What stores of histories are meant to be, as laws.
use Rattle.std.specs.Prelude.{◌≡◌, ◌≢◌, ℕ, ◌<◌, ◌≤◌, List, [], ◌∷◌, ◌++◌, Option, Some, None}
use Rattle.rpq_base.specs.declared.data.Edge.{Edge}
use Rattle.rpq_base.specs.declared.data.Act.TheVariants.{Delete}
use Rattle.rpq_base.specs.declared.data.Entry.{Entry}
use Rattle.rpq_model.specs.Window.{WindowValue, Inserts}
use Rattle.rpq_model.specs.WindowLaws.{IsTupleDeadline}
use Rattle.edge_store.specs.Edges.{raised, above}
use Rattle.index_laws.specs.Store.{clock_after, IsStoreOf}

-- each history has a store, and an edge has one value in it
pub record HistoriesHaveStores : Type 0 where
  pub some : (window : WindowValue) (history : List Entry) → 0 < window.slide →
      (store : Edge → Option ℕ) × IsStoreOf window history store
  pub one : (window : WindowValue) (history : List Entry) (store other : Edge → Option ℕ) →
      IsStoreOf window history store → IsStoreOf window history other →
      (edge : Edge) → store edge ≡ other edge

-- the stores of a history without its last entry and with it
pub record AreOneApart (window : WindowValue) (history : List Entry) (last : Entry)
    (before after : Edge → Option ℕ) : Type 0 where
  pub slide : 0 < window.slide
  pub was : IsStoreOf window history before
  pub is : IsStoreOf window (history ++ last ∷ []) after

-- what the last entry does to the value of an edge
pub record IsValueStep (window : WindowValue) (history : List Entry) (last : Entry) (edge : Edge)
    (before after : Option ℕ) : Type 0 where
  -- inserted, with a deadline above the new clock: a value that this clock reaches is gone, and
  -- then the value is raised to the deadline
  pub insert : (deadline : ℕ) →
      Inserts last.tuple.act edge → IsTupleDeadline window last.tuple deadline →
      clock_after history last < deadline →
      after ≡ Some (raised (above (clock_after history last) before) deadline)
  -- inserted late: a value that the clock reaches is gone
  pub late : (deadline : ℕ) →
      Inserts last.tuple.act edge → IsTupleDeadline window last.tuple deadline →
      deadline ≤ clock_after history last → after ≡ above (clock_after history last) before
  -- deleted: any value is gone
  pub delete : last.tuple.act ≡ Delete edge → after ≡ None
  -- neither inserted nor deleted: as where it is inserted late
  pub other : (Inserts last.tuple.act edge → ⊥) → last.tuple.act ≢ Delete edge →
      after ≡ above (clock_after history last) before

-- before the first entry no edge has a value, and each entry makes such a step
pub record StoreSteps : Type 0 where
  pub nothing : (window : WindowValue) (store : Edge → Option ℕ) (edge : Edge) →
      IsStoreOf window [] store → store edge ≡ None
  pub step : (window : WindowValue) (history : List Entry) (last : Entry)
      (before after : Edge → Option ℕ) (edge : Edge) →
      AreOneApart window history last before after →
      IsValueStep window history last edge (before edge) (after edge)
