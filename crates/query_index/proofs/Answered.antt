-- An entry, answered for one query.
use Rattle.std.proofs.Common.{◌≡◌, ℕ, ◌+◌, ◌<◌, max, Bool, true, false, List, [], ◌∷◌, ◌++◌, map, length, Option, Some, None}
use Rattle.std.proofs.Common.{refl, sym, ap, subst, ◌∙◌}
use Rattle.std.specs.Prelude.{◌↔◌, IfOk, Result, Ok, Err, Vec}
use Rattle.std.specs.Global.{Global}
use Rattle.rpq_base.specs.declared.memory.Memory.{Memory}
use Rattle.std.specs.List.{All}
use Rattle.std.proofs.lemmas.List.Elements.{All-nil, All-append, All-map}
use Rattle.rpq_base.specs.declared.data.Act.TheVariants.{Delete, Tick}
use Rattle.rpq_base.specs.declared.data.Entry.{Entry}
use Rattle.rpq_base.specs.declared.data.Event.{Event}
use Rattle.end_events.specs.declared.numbered_event.NumberedEvent.{NumberedEvent}
use Rattle.end_events.specs.Named.{named, HasNames}
use Rattle.rpq_base.specs.declared.data.Pair.{Pair}
use Rattle.path_syntax.specs.Laws.{nonempty}
use Rattle.dfa_table.specs.DfaValue.{DfaValue}
use Rattle.dfa_table.specs.Runs.{Accepts}
use Rattle.rpq_model.specs.declared.mode.Mode.{Mode}
use Rattle.rpq_model.specs.Events.{event, AreEvents}
use Rattle.rpq_model.specs.Query.{language_of, path_query}
use Rattle.rpq_model.proofs.Ticks.{clock_more}
use Rattle.source_tree.specs.declared.change.Change.{Change}
use Rattle.source_tree.specs.declared.change.EndChange.{EndChange}
use Rattle.delta_forest.specs.Forest.{ForestValue, kept}
use Rattle.end_events.specs.Changes.{Ends, AreChangesOf, AreNamed, AreEventsBetween}
use Rattle.index_laws.specs.Store.{clock_after}
use Rattle.index_laws.specs.Index.{IsIndexOf}
use Rattle.query_file.specs.Compiled.{CompiledValue, IsCompiled}
use Rattle.query_file.proofs.Verdicts.{accepted_of}
use Rattle.query_index.specs.IndexValue.{IndexValue}
use Rattle.query_index.specs.Index.{IsForestFor, IsIndexFor}
use Rattle.query_index.specs.Laws.{Laws}
use Rattle.query_index.specs.Answering.{HasAnswered, HasHistory}
use Rattle.query_index.specs.Stepping.{HasStepped, MayHaveApplied}
use Rattle.query_index.specs.Shown.{HaveNames}
use Rattle.query_index.proofs.Stepping.{is_index, index_after, follows, expired_by, forest_for}
use Rattle.query_index.proofs.Telling.{HaveEnds, are_changes, are_events, ends_of, have_names}
use Rattle.query_index.proofs.Telling.{log_named, no_changes}
use Rattle.query_index.proofs.Kept.{keeps_forest}

abbrev pub have_ends : Laws → HaveEnds
have_ends laws forest indexed root vertex = laws.have forest root vertex

each_is_of : (pairs : List Pair) (query : ℕ) (added : Bool) →
    All (λ (e : Event). e.query ≡ query) (map (event query added) pairs)
each_is_of pairs query added =
    All-map (λ (e : Event). e.query ≡ query) (event query added) pairs (λ k d within. refl)

numbers_are : (number : ℕ) (mode : Mode) (names : List (List ℕ)) (first last : Ends)
    (events : List Event) → AreEventsBetween number mode names first last events →
    All (λ (e : Event). e.query ≡ number) events
numbers_are number mode names first last events between =
    subst (All (λ (e : Event). e.query ≡ number)) (sym between.are)
    (All-append (λ (e : Event). e.query ≡ number) (map (event number false) between.lost)
    (map (event number true) between.gained) (each_is_of between.lost number false)
    (each_is_of between.gained number true))

-- the entry that lets the time of another pass
abbrev pub tick_for : Entry → Entry
tick_for entry = record { stream = 1; tuple = record { time = entry.tuple.time; act = Tick } }

module _ (laws : Laws) (names : List (List ℕ)) (entry : Entry) (query : CompiledValue)
    (old new : IndexValue) (first second : List EndChange) (some : 0 < query.def.window.slide)
    (compiled : IsCompiled query) (stepped : HasStepped names entry old new first second) where
  abbrev middle : ForestValue
  middle = stepped.middle

  module _ (history : List Entry) (fed : ℕ) (was : IsIndexFor query history fed names old) where
    abbrev tick : Entry
    tick = tick_for entry

    same_clock : clock_after history tick ≡ new.clock.clock
    same_clock =
        clock_more history tick
        ∙ sym (stepped.time ∙ ap (λ (now : ℕ). max now entry.tuple.time) was.time)

    -- between both changes the forest is that of the history with a tick
    middle_index : IsIndexOf query.def (history ++ tick ∷ []) names middle.dfa (kept middle)
    middle_index = record {
      slide = some;
      accepted = accepted_of query compiled;
      words = λ word. subst (λ (dfa : DfaValue).
          Accepts dfa word ↔ nonempty (language_of query.def) word)
          (sym (stepped.expired.dfa ∙ was.automaton)) (compiled.automaton.accepts word);
      edges = middle.store;
      holds = (laws.follow.step query.def.window history tick names middle.dfa middle.store
          (expired_by laws.follow query history fed names entry old new first second some was stepped
          tick same_clock)).other (record {
            insert = λ edge inserts. let both : None ≡ Some edge = inserts in absurd cc;
            delete = λ edge deletes id has. let both : Tick ≡ Delete edge = deletes in absurd cc;
          });
      bests = laws.best middle stepped.expired.indexed;
    }

    index_before : IsIndexOf query.def history names old.forest.dfa (kept old.forest)
    index_before = is_index laws.best query history fed names old some compiled was

    index_then : IsIndexOf query.def (history ++ entry ∷ []) names new.forest.dfa (kept new.forest)
    index_then =
        index_after laws.follow query history fed names entry old new first second some was stepped
        laws.best compiled

    new_names : HaveNames names new.forest
    new_names =
        have_names laws.keeps query.def (history ++ entry ∷ []) names new.forest index_then

    pub after : IsIndexFor query (history ++ entry ∷ []) (fed + 1) names new
    after =
        follows laws.follow query history fed names entry old new first second some was stepped
        new_names

    pub forest_after : IsForestFor query (history ++ entry ∷ []) names new.forest
    forest_after =
        forest_for laws.best laws.keeps query (history ++ entry ∷ []) (fed + 1) names new some compiled
        after

    old_names : HaveNames names old.forest
    old_names = was.rows.named

    middle_names : HaveNames names middle
    middle_names = have_names laws.keeps query.def (history ++ tick ∷ []) names middle middle_index

    pub first_named : AreNamed names first
    first_named =
        log_named laws.have names old.forest middle first old_names middle_names
        stepped.expired.changed

    by_change : (change : Option Change) → MayHaveApplied change middle new.forest second →
        AreNamed names second
    by_change None same =
        subst (AreNamed names) (sym same.1)
        (All-nil (λ (each : EndChange).
        (each.root < length names)
        × (each.vertex < length names)))
    by_change (Some change) applied =
        log_named laws.have names middle new.forest second middle_names new_names applied.changed

    pub second_named : AreNamed names second
    second_named = by_change stepped.change stepped.changed

    -- the ends before, between and after
    abbrev pub start : Ends
    start = ends_of laws.one (have_ends laws) old.forest was.indexed

    abbrev pub between : Ends
    between = ends_of laws.one (have_ends laws) middle stepped.expired.indexed

    abbrev pub last : Ends
    last = ends_of laws.one (have_ends laws) new.forest after.indexed

    first_changes : AreChangesOf start between first
    first_changes =
        are_changes laws.one (have_ends laws) old.forest middle was.indexed
        stepped.expired.indexed first stepped.expired.changed

    changes_by : (change : Option Change) → MayHaveApplied change middle new.forest second →
        AreChangesOf between last second
    changes_by None same =
        subst (AreChangesOf between last) (sym same.1)
        (no_changes laws.one (have_ends laws) middle new.forest stepped.expired.indexed
        after.indexed same.0)
    changes_by (Some change) applied =
        are_changes laws.one (have_ends laws) middle new.forest stepped.expired.indexed
        after.indexed second applied.changed

    second_changes : AreChangesOf between last second
    second_changes = changes_by stepped.change stepped.changed

    pub events_are : (number : ℕ) (events : List Event) →
        AreEventsBetween number query.def.mode names start last events →
        AreEvents (path_query query.def) number history (history ++ entry ∷ []) events
    events_are number events are =
        are_events laws.answers query.def (accepted_of query compiled) names history
        (history ++ entry ∷ []) old.forest new.forest start last number events
        (laws.tells query.def history names old.forest.dfa (kept old.forest) index_before)
        (laws.tells query.def (history ++ entry ∷ []) names new.forest.dfa (kept new.forest)
        index_then)
        (λ root vertex. (laws.have old.forest root vertex).1)
        (λ root vertex. (laws.have new.forest root vertex).1) are

  pub answered : (number : ℕ) (events : List NumberedEvent) → HasHistory query names old →
      ((start middle last : Ends) → AreChangesOf start middle first →
      AreChangesOf middle last second →
      AreEventsBetween number query.def.mode names start last (map (named names) events)) →
      All (HasNames names) events → HasAnswered names entry number query old new events
  answered number events has are have = record {
    stands = λ history fed was. after history fed was;
    forest = λ history fed was. forest_after history fed was;
    events = λ history fed was.
        events_are history fed was number (map (named names) events)
        (are (start history fed was) (between history fed was) (last history fed was)
        (first_changes history fed was) (second_changes history fed was));
    keeps = keeps_forest laws.best names new.clock entry.tuple.time old.forest middle new.forest
        first second has.is.indexed (after has.history has.fed has.is).indexed stepped.expired
        entry.tuple.act stepped.change stepped.suits stepped.changed;
    numbers = numbers_are number query.def.mode names (start has.history has.fed has.is)
        (last has.history has.fed has.is) (map (named names) events)
        (are (start has.history has.fed has.is) (between has.history has.fed has.is)
        (last has.history has.fed has.is) (first_changes has.history has.fed has.is)
        (second_changes has.history has.fed has.is));
    have_names = have;
  }

  -- where events came out
  pub answered_if : (number : ℕ) (mode : Mode) (firsts seconds : List EndChange) →
      firsts ≡ first → seconds ≡ second → HasHistory query names old →
      mode ≡ query.def.mode →
      (result : Result (Vec NumberedEvent Global) Memory) →
      ((start middle last : Ends) → AreChangesOf start middle firsts →
      AreChangesOf middle last seconds →
      IfOk result (λ events.
      AreEventsBetween number mode names start last (map (named names) events.items))) →
      IfOk result (λ events. All (HasNames names) events.items) →
      IfOk result (λ events. HasAnswered names entry number query old new events.items)
  answered_if number mode firsts seconds first_is second_is has mode_is (Ok events) given have =
      answered number events.items has
      (λ start middle last one two.
      subst (λ (each : Mode).
      AreEventsBetween number each names start last (map (named names) events.items)) mode_is
      (given start middle last (subst (AreChangesOf start middle) (sym first_is) one)
      (subst (AreChangesOf middle last) (sym second_is) two)))
      have
  answered_if number mode firsts seconds first_is second_is has mode_is (Err fault) given have = tt
