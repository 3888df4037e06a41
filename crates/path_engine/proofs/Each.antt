-- An entry, answered for each query.
use Rattle.std.proofs.Common.{◌≡◌, ℕ, zero, suc, ◌+◌, ◌<◌, ◌≤◌, ◌^◌, List, [], ◌∷◌, ◌++◌, length, map, get_or, take, drop}
use Rattle.std.proofs.Common.{sym, ap, subst, ◌∙◌, arith}
use Rattle.std.specs.List.{All, AllZip}
use Rattle.std.proofs.lemmas.List.{take_all, take_more, drop_all, append-nil, map-append}
use Rattle.std.proofs.lemmas.List.Elements.{All-nil, All-append}
use Rattle.std.proofs.lemmas.Slice.Zip.{all_zipped_more}
use Rattle.rpq_base.specs.declared.data.Entry.{Entry}
use Rattle.rpq_base.specs.declared.data.Event.{Event}
use Rattle.end_events.specs.declared.numbered_event.NumberedEvent.{NumberedEvent}
use Rattle.end_events.specs.Named.{named, HasNames}
use Rattle.rpq_model.specs.QueryEvents.{AreEventsUnder}
use Rattle.rpq_model.specs.Window.{clock}
use Rattle.name_table.specs.Names.{KeepsNumbers}
use Rattle.delta_forest.specs.Forest.{ForestValue}
use Rattle.query_file.specs.Compiled.{CompiledValue}
use Rattle.query_index.specs.IndexValue.{IndexValue}
use Rattle.query_index.specs.IndexLaws.{MoreNamesKeepIndexes}
use Rattle.query_index.specs.Index.{IsIndexFor}
use Rattle.query_index.specs.Answering.{HasHistory}
use Rattle.path_engine.specs.Front.{HaveAnswered}
use Rattle.path_engine.specs.Keeping.{AreForestsFor}
use Rattle.query_index.specs.Keeping.{KeepsForest}

-- each query has its index over the history, which was fed so many entries
abbrev pub AreIndexes : List Entry → ℕ → List (List ℕ) → List CompiledValue → List IndexValue → Type 0
AreIndexes history fed names queries indexes =
    AllZip (λ query index. IsIndexFor query history fed names index) queries indexes

abbrev pub HaveHistories : List (List ℕ) → List CompiledValue → List IndexValue → Type 0
HaveHistories names queries indexes =
    AllZip (λ query index. HasHistory query names index) queries indexes

pub have_histories : (history : List Entry) (fed : ℕ) (names : List (List ℕ))
    (queries : List CompiledValue) (indexes : List IndexValue) → fed ≤ 2 ^ 30 →
    AreIndexes history fed names queries indexes → HaveHistories names queries indexes
have_histories history fed names [] [] short are = tt
have_histories history fed names [] (index ∷ indexes) short are = absurd are
have_histories history fed names (query ∷ queries) [] short are = absurd are
have_histories history fed names (query ∷ queries) (index ∷ indexes) short are = (
  record { history = history; fed = fed; short = short; is = are.0 },
  have_histories history fed names queries indexes short are.1,
)

-- the clock of the first index is that of the history
pub first_clock : (history : List Entry) (fed : ℕ) (names : List (List ℕ))
    (queries : List CompiledValue) (indexes : List IndexValue) (first : IndexValue) →
    1 ≤ length queries → AreIndexes history fed names queries indexes →
    first ≡ get_or indexes 0 first → first.clock.clock ≡ clock history
first_clock history fed names [] indexes first some are is = absurd (omega (arith, some))
first_clock history fed names (query ∷ queries) [] first some are is = absurd are
first_clock history fed names (query ∷ queries) (index ∷ indexes) first some are is =
    ap (λ (each : IndexValue). each.clock.clock) is ∙ are.0.time

-- more names get numbers
pub more_named : MoreNamesKeepIndexes → (history : List Entry) (fed : ℕ) (names more : List (List ℕ))
    (queries : List CompiledValue) (indexes : List IndexValue) → KeepsNumbers names more →
    AreIndexes history fed names queries indexes → AreIndexes history fed more queries indexes
more_named law history fed names more [] [] keeps are = tt
more_named law history fed names more [] (index ∷ indexes) keeps are = absurd are
more_named law history fed names more (query ∷ queries) [] keeps are = absurd are
more_named law history fed names more (query ∷ queries) (index ∷ indexes) keeps are = (
  law query history fed names more index keeps are.0,
  more_named law history fed names more queries indexes keeps are.1,
)

-- ---- what was answered

pub each_stands : (names : List (List ℕ)) (entry : Entry) (history : List Entry) (fed number : ℕ)
    (queries : List CompiledValue) (olds news : List IndexValue) (events : List NumberedEvent) →
    AreIndexes history fed names queries olds →
    HaveAnswered names entry number queries olds news events →
    AreIndexes (history ++ entry ∷ []) (fed + 1) names queries news
each_stands names entry history fed number [] [] [] events are answered = tt
each_stands names entry history fed number [] [] (new ∷ news) events are answered = absurd answered
each_stands names entry history fed number [] (old ∷ olds) news events are answered = absurd are
each_stands names entry history fed number (query ∷ queries) [] news events are answered = absurd are
each_stands names entry history fed number (query ∷ queries) (old ∷ olds) [] events are answered =
    absurd answered
each_stands names entry history fed number (query ∷ queries) (old ∷ olds) (new ∷ news) events are
    answered = (
      answered.2.stands history fed are.0,
      each_stands names entry history fed (number + 1) queries olds news answered.1 are.1 answered.3,
    )

-- by names, events of two lists are those of the one and of the other
named_both : (names : List (List ℕ)) (events own others : List NumberedEvent) →
    events ≡ own ++ others →
    map (named names) events ≡ map (named names) own ++ map (named names) others
named_both names events own others are =
    ap (map (named names)) are ∙ map-append (named names) own others

pub each_events : (names : List (List ℕ)) (entry : Entry) (history : List Entry) (fed number : ℕ)
    (queries : List CompiledValue) (olds news : List IndexValue) (events : List NumberedEvent) →
    AreIndexes history fed names queries olds →
    HaveAnswered names entry number queries olds news events →
    AreEventsUnder number (map (λ (each : CompiledValue). each.def) queries) history
    (history ++ entry ∷ []) (map (named names) events)
each_events names entry history fed number [] [] [] events are answered =
    ap (map (named names)) {x = events} {y = []} answered
each_events names entry history fed number [] [] (new ∷ news) events are answered = absurd answered
each_events names entry history fed number [] (old ∷ olds) news events are answered = absurd are
each_events names entry history fed number (query ∷ queries) [] news events are answered = absurd are
each_events names entry history fed number (query ∷ queries) (old ∷ olds) [] events are answered =
    absurd answered
each_events names entry history fed number (query ∷ queries) (old ∷ olds) (new ∷ news) events are
    answered = (
      map (named names) answered.0,
      map (named names) answered.1,
      answered.2.events history fed are.0,
      each_events names entry history fed (number + 1) queries olds news answered.1 are.1 answered.3,
      named_both names events answered.0 answered.1 answered.4,
    )

abbrev pub forest_of : IndexValue → ForestValue
forest_of index = index.forest

pub each_keeps : (names : List (List ℕ)) (entry : Entry) (number : ℕ)
    (queries : List CompiledValue) (olds news : List IndexValue) (events : List NumberedEvent) →
    HaveAnswered names entry number queries olds news events →
    AllZip (KeepsForest entry.tuple.act names) (map forest_of olds) (map forest_of news)
each_keeps names entry number [] [] [] events answered = tt
each_keeps names entry number [] [] (new ∷ news) events answered = absurd answered
each_keeps names entry number [] (old ∷ olds) news events answered = absurd answered
each_keeps names entry number (query ∷ queries) [] news events answered = absurd answered
each_keeps names entry number (query ∷ queries) (old ∷ olds) [] events answered = absurd answered
each_keeps names entry number (query ∷ queries) (old ∷ olds) (new ∷ news) events answered = (
  answered.2.keeps,
  each_keeps names entry (number + 1) queries olds news answered.1 answered.3,
)

pub each_forests : (names : List (List ℕ)) (entry : Entry) (history : List Entry) (fed number : ℕ)
    (queries : List CompiledValue) (olds news : List IndexValue) (events : List NumberedEvent) →
    AreIndexes history fed names queries olds →
    HaveAnswered names entry number queries olds news events →
    AreForestsFor queries (history ++ entry ∷ []) names (map forest_of news)
each_forests names entry history fed number [] [] [] events are answered = tt
each_forests names entry history fed number [] [] (new ∷ news) events are answered = absurd answered
each_forests names entry history fed number [] (old ∷ olds) news events are answered = absurd are
each_forests names entry history fed number (query ∷ queries) [] news events are answered = absurd are
each_forests names entry history fed number (query ∷ queries) (old ∷ olds) [] events are answered =
    absurd answered
each_forests names entry history fed number (query ∷ queries) (old ∷ olds) (new ∷ news) events are
    answered = (
      (answered.2.forest history fed are.0, (answered.2.stands history fed are.0).indexed),
      each_forests names entry history fed (number + 1) queries olds news answered.1 are.1 answered.3,
    )

pub each_numbers : (names : List (List ℕ)) (entry : Entry) (number : ℕ)
    (queries : List CompiledValue) (olds news : List IndexValue) (events : List NumberedEvent) →
    HaveAnswered names entry number queries olds news events →
    All (λ (e : Event). e.query < number + length queries) (map (named names) events)
each_numbers names entry number [] [] [] events answered =
    subst (λ (own : List NumberedEvent).
    All (λ (e : Event). e.query < number + length {A = CompiledValue} []) (map (named names) own))
    (sym {A = List NumberedEvent} answered)
    (All-nil (λ (e : Event). e.query < number + length {A = CompiledValue} []))
each_numbers names entry number [] [] (new ∷ news) events answered = absurd answered
each_numbers names entry number [] (old ∷ olds) news events answered = absurd answered
each_numbers names entry number (query ∷ queries) [] news events answered = absurd answered
each_numbers names entry number (query ∷ queries) (old ∷ olds) [] events answered = absurd answered
each_numbers names entry number (query ∷ queries) (old ∷ olds) (new ∷ news) events answered =
    let later = each_numbers names entry (number + 1) queries olds news answered.1 answered.3 in
    subst (All (λ (e : Event). e.query < number + length (query ∷ queries)))
    (sym {A = List Event} (named_both names events answered.0 answered.1 answered.4))
    (All-append (λ (e : Event). e.query < number + length (query ∷ queries))
    (map (named names) answered.0) (map (named names) answered.1)
    (λ k d within. omega (arith, answered.2.numbers k d within))
    (λ k d within. omega (arith, later k d within)))

pub each_named : (names : List (List ℕ)) (entry : Entry) (number : ℕ)
    (queries : List CompiledValue) (olds news : List IndexValue) (events : List NumberedEvent) →
    HaveAnswered names entry number queries olds news events → All (HasNames names) events
each_named names entry number [] [] [] events answered =
    subst (All (HasNames names)) (sym {A = List NumberedEvent} answered) (All-nil (HasNames names))
each_named names entry number [] [] (new ∷ news) events answered = absurd answered
each_named names entry number [] (old ∷ olds) news events answered = absurd answered
each_named names entry number (query ∷ queries) [] news events answered = absurd answered
each_named names entry number (query ∷ queries) (old ∷ olds) [] events answered = absurd answered
each_named names entry number (query ∷ queries) (old ∷ olds) (new ∷ news) events answered =
    subst (All (HasNames names)) (sym {A = List NumberedEvent} answered.4)
    (All-append (HasNames names) answered.0 answered.1 answered.2.have_names
    (each_named names entry (number + 1) queries olds news answered.1 answered.3))

-- ---- lists in step

-- one more on both sides
pub zip_more : {A B : Type 0} (R : A → B → Type 0) (xs : List A) (ys : List B) (place : ℕ) (x : A)
    (y : B) → place < length xs → x ≡ get_or xs place x → AllZip R (take place xs) ys → R x y →
    AllZip R (take (place + 1) xs) (ys ++ y ∷ [])
zip_more {A} R xs ys place x y inside is so_far here =
    let more : take (place + 1) xs ≡ take place xs ++ x ∷ [] =
    take_more xs place x inside ∙ ap (λ (each : A). take place xs ++ each ∷ []) (sym is) in
    subst (λ (zs : List A). AllZip R zs (ys ++ y ∷ [])) (sym more)
    (all_zipped_more R (take place xs) ys x y so_far here)

-- at one place
pub zip_at : {A B : Type 0} (R : A → B → Type 0) (xs : List A) (ys : List B) (place : ℕ) (x : A)
    (y : B) → AllZip R xs ys → place < length xs → x ≡ get_or xs place x →
    y ≡ get_or ys place y → R x y
zip_at R [] ys place x y all inside x_is y_is = absurd (omega (arith, inside))
zip_at R (first ∷ xs) [] place x y all inside x_is y_is = absurd all
zip_at {A} R (first ∷ xs) (second ∷ ys) zero x y all inside x_is y_is =
    subst (λ (each : A). R each y) (sym x_is) (subst (R first) (sym y_is) all.0)
zip_at R (first ∷ xs) (second ∷ ys) (suc place) x y all inside x_is y_is =
    zip_at R xs ys place x y all.1 (omega (arith, inside)) x_is y_is

-- through a map on the left
pub zip_map : {A B C : Type 0} (v : A → C) (R : C → B → Type 0) (xs : List A) (ys : List B) →
    AllZip (λ x y. R (v x) y) xs ys → AllZip R (map v xs) ys
zip_map v R [] [] all = tt
zip_map v R [] (y ∷ ys) all = absurd all
zip_map v R (x ∷ xs) [] all = absurd all
zip_map v R (x ∷ xs) (y ∷ ys) all = (all.0, zip_map v R xs ys all.1)

-- what a vector is whose elements were all written
pub written_back : {A : Type 0} (xs items : List A) (len : ℕ) → length xs ≡ length items →
    len ≡ length items → take len (xs ++ drop (length xs) items) ≡ xs
written_back {A} xs items len same len_is =
    ap (λ (rest : List A). take len (xs ++ rest))
    (drop_all (length xs) items (omega (arith, same)))
    ∙ (ap (take len) (append-nil xs) ∙ take_all len xs (omega (arith, same, len_is)))
