-- An index follows its history: by the changes that an entry makes.
use Rattle.std.proofs.Common.{◌≡◌, ℕ, ◌+◌, ◌<◌, ◌≤◌, max, false, List, [], ◌∷◌, ◌++◌, Option, Some, None}
use Rattle.std.proofs.Common.{refl, sym, ap, subst, ◌∙◌, inl, inr, ⊎_elim, arith}
use Rattle.std.specs.Prelude.{◌↔◌}
use Rattle.std.proofs.lemmas.Option.{same_Some}
use Rattle.rpq_base.specs.declared.data.Edge.{Edge}
use Rattle.rpq_base.specs.declared.data.Act.{Act}
use Rattle.rpq_base.specs.declared.data.Act.TheVariants.{Insert, Delete, Tick}
use Rattle.rpq_base.specs.declared.data.Entry.{Entry}
use Rattle.rpq_base.specs.OwnEnds.{own_end}
use Rattle.path_syntax.specs.Laws.{nonempty}
use Rattle.dfa_table.specs.DfaValue.{DfaValue}
use Rattle.dfa_table.specs.Runs.{Accepts}
use Rattle.rpq_model.specs.Query.{language_of}
use Rattle.rpq_model.specs.Window.{WindowValue, inserted_edge}
use Rattle.rpq_model.specs.WindowLaws.{IsDeadline, IsDeadlineOf, IsTupleDeadline}
use Rattle.rpq_model.proofs.Ticks.{clock_more}
use Rattle.window_clock.specs.Clock.{IsDeadlineOf as IsClockDeadlineOf}
use Rattle.edge_store.specs.Edges.{Expires}
use Rattle.source_tree.specs.declared.change.Change.{Change}
use Rattle.source_tree.specs.declared.change.Change.TheVariants.{Raise, Remove, Expire}
use Rattle.source_tree.specs.declared.change.EndChange.{EndChange}
use Rattle.delta_forest.specs.Forest.{ForestValue, IsIndexed, kept}
use Rattle.delta_forest.specs.Laws.{KeptIsBest}
use Rattle.index_laws.specs.Store.{clock_after}
use Rattle.index_laws.specs.Numbered.{HasNumbers}
use Rattle.index_laws.specs.Index.{HoldsStoreOf, IsIndexOf}
use Rattle.index_laws.specs.LawsOfIndexes.{IndexKeepsBests, IsExpired, TakesEntry, StoresFollow}
use Rattle.query_file.specs.Compiled.{CompiledValue, IsCompiled}
use Rattle.query_file.proofs.Verdicts.{accepted_of}
use Rattle.query_index.specs.IndexValue.{IndexValue}
use Rattle.query_index.specs.Index.{IsForestFor, IsIndexFor}
use Rattle.query_index.specs.Stepping.{HasStepped, MayHaveApplied, Suits}
use Rattle.query_index.specs.Shown.{HaveNames}
use Rattle.query_index.proofs.Untouched.{rows_after}

-- a forest over the query's automaton that holds the store of the history is an index of it
pub index_of : KeptIsBest → (query : CompiledValue) (history : List Entry)
    (names : List (List ℕ)) (forest : ForestValue) → 0 < query.def.window.slide →
    IsCompiled query → forest.dfa ≡ query.dfa →
    HoldsStoreOf query.def.window history names forest.dfa forest.store → IsIndexed forest →
    IsIndexOf query.def history names forest.dfa (kept forest)
index_of best query history names forest some compiled automaton holds indexed = record {
  slide = some;
  accepted = accepted_of query compiled;
  words = λ word. subst (λ (dfa : DfaValue).
      Accepts dfa word ↔ nonempty (language_of query.def) word) (sym automaton)
      (compiled.automaton.accepts word);
  edges = forest.store;
  holds = holds;
  bests = best forest indexed;
}

-- what an engine holds for a query is an index of it
pub is_index : KeptIsBest → (query : CompiledValue) (history : List Entry) (fed : ℕ)
    (names : List (List ℕ)) (index : IndexValue) → 0 < query.def.window.slide → IsCompiled query →
    IsIndexFor query history fed names index →
    IsIndexOf query.def history names index.forest.dfa (kept index.forest)
is_index best query history fed names index some compiled is =
    index_of best query history names index.forest some compiled is.automaton is.holds is.indexed

-- and its forest keeps the bests of the store
pub forest_for : KeptIsBest → IndexKeepsBests → (query : CompiledValue) (history : List Entry) (fed : ℕ)
    (names : List (List ℕ)) (index : IndexValue) → 0 < query.def.window.slide → IsCompiled query →
    IsIndexFor query history fed names index → IsForestFor query history names index.forest
forest_for best keeps query history fed names index some compiled is = record {
  automaton = is.automaton;
  bests = λ store store_is.
      keeps query.def history names index.forest.dfa (kept index.forest) store
      (is_index best query history fed names index some compiled is) store_is;
}

-- a forest after a change that there may be
pub record IsWell (old new : ForestValue) : Type 0 where
  pub dfa : new.dfa ≡ old.dfa
  pub indexed : IsIndexed new
  pub unbroken : new.broken ≡ false
  pub calls : new.calls ≤ old.calls + 1

pub well : (change : Option Change) (old new : ForestValue) (log : List EndChange) →
    IsIndexed old → old.broken ≡ false → MayHaveApplied change old new log → IsWell old new
well None old new log indexed unbroken same = record {
  dfa = ap (λ (forest : ForestValue). forest.dfa) same.0;
  indexed = subst IsIndexed (sym same.0) indexed;
  unbroken = ap (λ (forest : ForestValue). forest.broken) same.0 ∙ unbroken;
  calls = omega (arith, ap (λ (forest : ForestValue). forest.calls) same.0);
}
well (Some change) old new log indexed unbroken applied = record {
  dfa = applied.dfa;
  indexed = applied.indexed;
  unbroken = applied.unbroken;
  calls = omega (arith, applied.calls);
}

module _ (follow : StoresFollow) (query : CompiledValue) (history : List Entry) (fed : ℕ)
    (names : List (List ℕ)) (entry : Entry) (old new : IndexValue) (first second : List EndChange)
    (some : 0 < query.def.window.slide) (was : IsIndexFor query history fed names old)
    (stepped : HasStepped names entry old new first second) where
  abbrev window : WindowValue
  window = query.def.window

  abbrev middle : ForestValue
  middle = stepped.middle

  now_is : new.clock.clock ≡ clock_after history entry
  now_is =
      stepped.time
      ∙ (ap (λ (now : ℕ). max now entry.tuple.time) was.time ∙ sym (clock_more history entry))

  middle_holds : HoldsStoreOf window history names middle.dfa old.forest.store
  middle_holds =
      subst (λ (dfa : DfaValue). HoldsStoreOf window history names dfa old.forest.store)
      (sym stepped.expired.dfa) was.holds

  -- any entry at this clock leaves the middle forest's edges without those that it reaches
  pub expired_by : (other : Entry) → clock_after history other ≡ new.clock.clock →
      IsExpired window history other names middle.dfa middle.store
  expired_by other same = record {
    slide = some;
    before = old.forest.store;
    holds = middle_holds;
    expires = subst (λ (now : ℕ). Expires old.forest.store middle.store now) (sym same)
        stepped.expired.store;
  }

  takes : TakesEntry window history entry names middle.dfa middle.store
  takes =
      follow.step window history entry names middle.dfa middle.store
      (expired_by entry (sym now_is))

  size_is : new.clock.size ≡ window.size
  size_is = stepped.window.size ∙ was.size

  slide_is : new.clock.slide ≡ window.slide
  slide_is = stepped.window.slide ∙ was.slide

  abbrev seen : WindowValue
  seen = record { size = new.clock.size; slide = new.clock.slide }

  same_window : seen ≡ window
  same_window = λ i. record { size = size_is i; slide = slide_is i }

  deadline_of : (time : ℕ) (until : Option ℕ) (deadline : ℕ) →
      IsClockDeadlineOf new.clock time until deadline → IsDeadlineOf window time until deadline
  deadline_of time until deadline is =
      let here : IsDeadline seen time is.0 =
      record { multiple = is.1.multiple; reached = is.1.reached; least = is.1.least } in
      (is.0, subst (λ (w : WindowValue). IsDeadline w time is.0) same_window here, is.2)

  -- where the entry inserts an edge with this end of its own
  deadline_is : (edge : Edge) (until : Option ℕ) (deadline : ℕ) →
      entry.tuple.act ≡ Insert edge until →
      IsClockDeadlineOf new.clock entry.tuple.time until deadline →
      IsTupleDeadline window entry.tuple deadline
  deadline_is edge until deadline act_is is =
      subst (λ (end : Option ℕ). IsDeadlineOf window entry.tuple.time end deadline)
      (sym (ap own_end act_is)) (deadline_of entry.tuple.time until deadline is)

  abbrev Holds : ForestValue → Type 0
  Holds forest = HoldsStoreOf window (history ++ entry ∷ []) names middle.dfa forest.store

  unchanged : new.forest ≡ middle → Holds middle → Holds new.forest
  unchanged same holds = subst Holds (sym same) holds

  past_or_strange : (edge other : Edge) (until : Option ℕ) → edge ≡ other →
      Suits names middle.dfa new.clock entry.tuple.time (Insert edge until) None →
      Suits names middle.dfa new.clock entry.tuple.time (Insert other until) None
  past_or_strange edge other until same suits =
      subst (λ (each : Edge).
      Suits names middle.dfa new.clock entry.tuple.time (Insert each until) None) same suits

  by_act : (act : Act) → entry.tuple.act ≡ act → (change : Option Change) →
      Suits names middle.dfa new.clock entry.tuple.time act change →
      MayHaveApplied change middle new.forest second → Holds new.forest
  by_act (Insert edge until) act_is None suits same =
      unchanged same.0 (takes.other (record {
        insert = λ other inserts.
            ⊎_elim (λ lacks. inl lacks)
            (λ past. inr (
              past.0,
              record {
                is = deadline_is edge until past.0 act_is past.1.deadline;
                reached = subst (λ (now : ℕ). past.0 ≤ now) now_is past.1.reached;
              },
            ))
            (past_or_strange edge other until
            (same_Some edge other (sym (ap inserted_edge act_is) ∙ inserts)) suits);
        delete = λ other deletes id has.
            let both : Insert edge until ≡ Delete other = sym act_is ∙ deletes in absurd cc;
      }))
  by_act (Insert edge until) act_is (Some (Raise id value)) suits applied =
      takes.insert new.forest.store edge id value (ap inserted_edge act_is) suits.numbers
      (record {
        is = deadline_is edge until value act_is suits.deadline;
        above = subst (λ (now : ℕ). now < value) now_is suits.above;
      })
      applied.store
  by_act (Insert edge until) act_is (Some (Remove id)) suits applied = absurd suits
  by_act (Insert edge until) act_is (Some (Expire now)) suits applied = absurd suits
  by_act (Delete edge) act_is None suits same =
      unchanged same.0 (takes.other (record {
        insert = λ other inserts.
            let both : None ≡ Some other = sym (ap inserted_edge act_is) ∙ inserts in absurd cc;
        delete = λ other deletes id has.
            let both : Delete edge ≡ Delete other = sym act_is ∙ deletes in
            let edges : other ≡ edge = cc in
            suits id (subst (λ (each : Edge). HasNumbers names middle.dfa each id) edges has);
      }))
  by_act (Delete edge) act_is (Some (Remove id)) suits applied =
      takes.delete new.forest.store edge id act_is suits applied.store
  by_act (Delete edge) act_is (Some (Raise id value)) suits applied = absurd suits
  by_act (Delete edge) act_is (Some (Expire now)) suits applied = absurd suits
  by_act Tick act_is None suits same =
      unchanged same.0 (takes.other (record {
        insert = λ other inserts.
            let both : None ≡ Some other = sym (ap inserted_edge act_is) ∙ inserts in absurd cc;
        delete = λ other deletes id has.
            let both : Tick ≡ Delete other = sym act_is ∙ deletes in absurd cc;
      }))
  by_act Tick act_is (Some change) suits applied = absurd suits

  pub well_after : IsWell middle new.forest
  well_after =
      well stepped.change middle new.forest second stepped.expired.indexed
      stepped.expired.unbroken stepped.changed

  automaton_after : new.forest.dfa ≡ query.dfa
  automaton_after = well_after.dfa ∙ (stepped.expired.dfa ∙ was.automaton)

  holds_after : HoldsStoreOf window (history ++ entry ∷ []) names new.forest.dfa new.forest.store
  holds_after =
      subst (λ (dfa : DfaValue).
      HoldsStoreOf window (history ++ entry ∷ []) names dfa new.forest.store)
      (sym well_after.dfa)
      (by_act entry.tuple.act refl stepped.change stepped.suits stepped.changed)

  -- the forest afterwards is an index over the history with the entry
  pub index_after : KeptIsBest → IsCompiled query →
      IsIndexOf query.def (history ++ entry ∷ []) names new.forest.dfa (kept new.forest)
  index_after best compiled =
      index_of best query (history ++ entry ∷ []) names new.forest some compiled automaton_after
      holds_after well_after.indexed

  -- and what the engine holds is that of this history, where what the forest keeps has names
  pub follows : HaveNames names new.forest → IsIndexFor query (history ++ entry ∷ []) (fed + 1) names new
  follows named = record {
    size = size_is;
    slide = slide_is;
    time = now_is;
    automaton = automaton_after;
    holds = holds_after;
    indexed = well_after.indexed;
    unbroken = well_after.unbroken;
    few = omega (arith, well_after.calls, stepped.expired.calls, was.few);
    rows = rows_after query.def.mode names old new (well_after.dfa ∙ stepped.expired.dfa) named
        stepped.shown stepped.fresh was.rows;
  }
