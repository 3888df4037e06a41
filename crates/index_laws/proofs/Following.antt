-- A store of edges follows a history.
use Rattle.std.proofs.Common.{◌≡◌, ◌≢◌, ℕ, Bool, cond, List, [], ◌∷◌, ◌++◌, Option, Some, None, sym}
use Rattle.std.proofs.Common.{ap, subst, ◌∙◌, ⊎_elim, refl}
use Rattle.std.proofs.lemmas.Bool.{false_from_ne_true}
use Rattle.rpq_base.specs.declared.data.Edge.{Edge}
use Rattle.rpq_base.specs.declared.data.Act.{Act}
use Rattle.rpq_base.specs.declared.data.Act.TheVariants.{Insert, Delete, Tick}
use Rattle.rpq_base.specs.declared.data.Entry.{Entry}
use Rattle.dfa_table.specs.DfaValue.{DfaValue, place_of}
use Rattle.rpq_model.specs.Window.{WindowValue, Inserts, inserted_edge}
use Rattle.rpq_model.proofs.LiveEdges.{one_inserted, inserts_no_delete, inserts_no_tick}
use Rattle.name_table.specs.Names.{KeepsNumbers}
use Rattle.edge_store.specs.declared.edge.EdgeId.{EdgeId}
use Rattle.edge_store.specs.Edges.{Edges, value_of, IsEmpty, Updates, raised, above, same_edge}
use Rattle.index_laws.specs.Store.{clock_after, IsStoreOf}
use Rattle.index_laws.specs.Numbered.{HasNumbers, IsByNumbers}
use Rattle.index_laws.specs.Index.{HoldsStoreOf}
use Rattle.index_laws.specs.LawsOfStores.{AreOneApart, IsValueStep}
use Rattle.index_laws.specs.LawsOfNumbers.{AreOthersKept, StayByNumbers}
use Rattle.index_laws.specs.LawsOfIndexes.{IsExpired, IsDue, IsLate, ChangesNone, StoresFollow}
use Rattle.index_laws.proofs.Stores.{histories_have_stores}
use Rattle.index_laws.proofs.Steps.{no_deadline, store_steps}
use Rattle.index_laws.proofs.ByNumbers.{by_numbers_steps}
use Rattle.index_laws.proofs.Told.{edges_or_not, same_id_decides}

-- what an update does to the edge, and to others
updated_at : (old new : Edges) (id : EdgeId) (value : Option ℕ) → Updates old new id value →
    value_of new id ≡ value
updated_at old new id value updates =
    updates id
    ∙ ap (λ (test : Bool). cond test value (value_of old id)) ((same_id_decides id id).1 refl)

updated_elsewhere : (old new : Edges) (id : EdgeId) (value : Option ℕ) → Updates old new id value →
    (other : EdgeId) → other ≢ id → value_of new other ≡ value_of old other
updated_elsewhere old new id value updates other differ =
    let apart = false_from_ne_true (same_edge id other)
    (λ e. differ (sym ((same_id_decides id other).0 e))) in
    updates other ∙ ap (λ (test : Bool). cond test value (value_of old other)) apart

module _ (window : WindowValue) (history : List Entry) (last : Entry) (names : List (List ℕ))
    (dfa : DfaValue) (expired : Edges) (is : IsExpired window history last names dfa expired) where
  abbrev now : ℕ
  now = clock_after history last

  -- the store of the history, and what of it is above the new clock
  abbrev store : Edge → Option ℕ
  store = is.holds.store

  abbrev kept : Edge → Option ℕ
  kept edge = above now (store edge)

  kept_by_numbers : IsByNumbers names dfa kept (value_of expired)
  kept_by_numbers =
      (by_numbers_steps.steps names dfa store (value_of is.before) is.holds.numbers).expire kept
      (value_of expired) now (λ edge. refl) is.expires

  -- what changes of it keep it so
  changes : StayByNumbers names dfa kept (value_of expired)
  changes = by_numbers_steps.steps names dfa kept (value_of expired) kept_by_numbers

  -- the store with the last entry
  abbrev IsStored : (Edge → Option ℕ) → Type 0
  IsStored stored = IsStoreOf window (history ++ last ∷ []) stored

  stored_now : (stored : Edge → Option ℕ) × IsStored stored
  stored_now = histories_have_stores.some window (history ++ last ∷ []) is.slide

  apart : (stored : Edge → Option ℕ) → IsStored stored →
      AreOneApart window history last store stored
  apart stored stored_is = record { slide = is.slide; was = is.holds.is; is = stored_is }

  step : (stored : Edge → Option ℕ) → IsStored stored → (edge : Edge) →
      IsValueStep window history last edge (store edge) (stored edge)
  step stored stored_is edge =
      store_steps.step window history last store stored edge (apart stored stored_is)

  -- other edges than the last entry's
  other_inserted : (stored : Edge → Option ℕ) → IsStored stored → (edge : Edge) →
      Inserts last.tuple.act edge → AreOthersKept edge kept stored
  other_inserted stored stored_is edge inserts other differ =
      (step stored stored_is other).other
      (λ also. differ (one_inserted last.tuple.act other edge also inserts))
      (λ deletes. inserts_no_delete last.tuple.act edge other inserts deletes)

  other_deleted : (stored : Edge → Option ℕ) → IsStored stored → (edge : Edge) →
      last.tuple.act ≡ Delete edge → AreOthersKept edge kept stored
  other_deleted stored stored_is edge deletes other differ =
      (step stored stored_is other).other
      (λ inserts. inserts_no_delete last.tuple.act other edge inserts deletes)
      (λ also. let same : Delete edge ≡ Delete other = sym deletes ∙ also in
      let edges : other ≡ edge = cc in differ edges)

  -- an edge with numbers gets the value that it has in the store
  changed : (stored : Edge → Option ℕ) → IsStored stored → (after : Edges) (edge : Edge)
      (id : EdgeId) (value : Option ℕ) → HasNumbers names dfa edge id →
      Updates expired after id value → stored edge ≡ value → AreOthersKept edge kept stored →
      HoldsStoreOf window (history ++ last ∷ []) names dfa after
  changed stored stored_is after edge id value has updates value_is others = record {
    store = stored;
    is = stored_is;
    numbers = changes.change stored (value_of after) edge id has
        (updated_at expired after id value updates ∙ sym value_is) others
        (updated_elsewhere expired after id value updates);
  }

  pub insert : (after : Edges) (edge : Edge) (id : EdgeId) (deadline : ℕ) →
      Inserts last.tuple.act edge → HasNumbers names dfa edge id →
      IsDue window history last deadline →
      Updates expired after id (Some (raised (value_of expired id) deadline)) →
      HoldsStoreOf window (history ++ last ∷ []) names dfa after
  insert after edge id deadline inserts has due updates =
      let stored = stored_now.0 in
      let stored_is = stored_now.1 in
      let value = (step stored stored_is edge).insert deadline inserts due.is due.above in
      let old = kept_by_numbers.same edge id has in
      changed stored stored_is after edge id (Some (raised (value_of expired id) deadline)) has
      updates
      (value ∙ ap (λ (each : Option ℕ). Some (raised each deadline)) (sym old))
      (other_inserted stored stored_is edge inserts)

  pub delete : (after : Edges) (edge : Edge) (id : EdgeId) →
      last.tuple.act ≡ Delete edge → HasNumbers names dfa edge id →
      Updates expired after id None →
      HoldsStoreOf window (history ++ last ∷ []) names dfa after
  delete after edge id deletes has updates =
      let stored = stored_now.0 in
      let stored_is = stored_now.1 in
      changed stored stored_is after edge id None has updates
      ((step stored stored_is edge).delete deletes)
      (other_deleted stored stored_is edge deletes)

  -- the expiry is all that the entry does
  held : (stored : Edge → Option ℕ) → IsStored stored →
      IsByNumbers names dfa stored (value_of expired) →
      HoldsStoreOf window (history ++ last ∷ []) names dfa expired
  held stored stored_is numbers = record { store = stored; is = stored_is; numbers = numbers }

  only_expired : (stored : Edge → Option ℕ) → IsStored stored →
      ((edge : Edge) → stored edge ≡ kept edge) →
      HoldsStoreOf window (history ++ last ∷ []) names dfa expired
  only_expired stored stored_is as_kept =
      let before = by_numbers_steps.steps names dfa store (value_of is.before) is.holds.numbers in
      held stored stored_is (before.expire stored (value_of expired) now as_kept is.expires)

  late_insert : (edge : Edge) (deadline : ℕ) → Inserts last.tuple.act edge →
      IsLate window history last deadline →
      HoldsStoreOf window (history ++ last ∷ []) names dfa expired
  late_insert edge deadline inserts late =
      let stored = stored_now.0 in
      let stored_is = stored_now.1 in
      let at_edge = (step stored stored_is edge).late deadline inserts late.is late.reached in
      only_expired stored stored_is (λ other. ⊎_elim
      (λ same. subst (λ (each : Edge). stored each ≡ kept each) (sym same) at_edge)
      (λ differ. other_inserted stored stored_is edge inserts other differ)
      (edges_or_not other edge))

  foreign_insert : (edge : Edge) → Inserts last.tuple.act edge →
      place_of dfa edge.label ≡ None →
      HoldsStoreOf window (history ++ last ∷ []) names dfa expired
  foreign_insert edge inserts lacks =
      let stored = stored_now.0 in
      let stored_is = stored_now.1 in
      held stored stored_is
      (changes.foreign stored edge lacks (other_inserted stored stored_is edge inserts))

  absent_delete : (edge : Edge) → last.tuple.act ≡ Delete edge →
      ((id : EdgeId) → HasNumbers names dfa edge id → ⊥) →
      HoldsStoreOf window (history ++ last ∷ []) names dfa expired
  absent_delete edge deletes has_none =
      let stored = stored_now.0 in
      let stored_is = stored_now.1 in
      held stored stored_is
      (changes.absent stored edge has_none ((step stored stored_is edge).delete deletes)
      (other_deleted stored stored_is edge deletes))

  by_act : (act : Act) → last.tuple.act ≡ act → ChangesNone window history last names dfa →
      HoldsStoreOf window (history ++ last ∷ []) names dfa expired
  by_act (Insert edge until) act_is none =
      let inserts : Inserts last.tuple.act edge = ap inserted_edge act_is in
      ⊎_elim
      (λ lacks. foreign_insert edge inserts lacks)
      (λ late. late_insert edge late.0 inserts late.1)
      (none.insert edge inserts)
  by_act (Delete edge) act_is none = absent_delete edge act_is (none.delete edge act_is)
  by_act Tick act_is none =
      let stored = stored_now.0 in
      let stored_is = stored_now.1 in
      only_expired stored stored_is (λ edge.
      (step stored stored_is edge).other
      (λ inserts. inserts_no_tick last.tuple.act edge inserts act_is)
      (λ deletes. let both : Tick ≡ Delete edge = sym act_is ∙ deletes in cc))

  pub other : ChangesNone window history last names dfa →
      HoldsStoreOf window (history ++ last ∷ []) names dfa expired
  other changes_none = by_act last.tuple.act refl changes_none

-- at first
start : (window : WindowValue) (names : List (List ℕ)) (dfa : DfaValue) (edges : Edges) →
    IsEmpty edges → HoldsStoreOf window [] names dfa edges
start window names dfa edges empty = record {
  store = λ edge. None;
  is = λ edge number has. no_deadline window edge number has;
  numbers = by_numbers_steps.nothing names dfa (λ edge. None) (value_of edges) (λ edge. refl) empty;
}

more_names : (window : WindowValue) (history : List Entry) (names more : List (List ℕ))
    (dfa : DfaValue) (edges : Edges) → KeepsNumbers names more →
    HoldsStoreOf window history names dfa edges → HoldsStoreOf window history more dfa edges
more_names window history names more dfa edges keeps holds = record {
  store = holds.store;
  is = holds.is;
  numbers = (by_numbers_steps.steps names dfa holds.store (value_of edges) holds.numbers).more_names
      more keeps;
}

pub stores_follow : StoresFollow
stores_follow = record {
  start = start;
  more_names = more_names;
  step = λ window history last names dfa expired is. record {
    insert = insert window history last names dfa expired is;
    delete = delete window history last names dfa expired is;
    other = other window history last names dfa expired is;
  };
}
