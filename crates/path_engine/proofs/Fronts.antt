-- A front of entries, answered for each query.
use Rattle.std.proofs.Common.{◌≡◌, ℕ, zero, suc, ◌+◌, ◌*◌, ◌<◌, ◌≤◌, ◌^◌, false, List, [], ◌∷◌, ◌++◌, length, map, get_or, take}
use Rattle.std.proofs.Common.{set, refl, sym, ap, ap₂, subst, ◌∙◌, append_assoc, arith, length-append, length-take-le, Option, Some, None}
use Rattle.std.specs.List.{All, AllZip}
use Rattle.std.specs.Prelude.{IfOk, OnOk, Result, Ok, Err}
use Rattle.std.proofs.Common.{⊎_elim, get_or-set_other, get_or-set_same}
use Rattle.std.proofs.lemmas.Bool.{cases_lt, cases_order}
use Rattle.std.proofs.Common.{Vec, Global}
use Rattle.std.proofs.lemmas.List.{get_or-map, get_or_push, get_or_append_left, length-map, map-append}
use Rattle.std.proofs.lemmas.List.Elements.{AllZip-get_or}
use Rattle.std.proofs.lemmas.Slice.Zip.{AllZip-long}
use Rattle.std.proofs.lemmas.List.{append-nil}
use Rattle.rpq_base.specs.declared.data.Act.{Act}
use Rattle.rpq_base.specs.declared.data.Act.TheVariants.{Insert, Delete, Tick}
use Rattle.rpq_base.specs.declared.data.Entry.{Entry}
use Rattle.rpq_base.specs.declared.data.Event.{Event}
use Rattle.end_events.specs.declared.numbered_event.NumberedEvent.{NumberedEvent}
use Rattle.end_events.specs.Named.{named, named_lists, HasNames, HaveAllNames}
use Rattle.rpq_model.specs.QueryEvents.{AreAllEventsFrom}
use Rattle.dfa_table.specs.DfaValue.{DfaValue}
use Rattle.name_table.specs.Names.{KeepsNumbers}
use Rattle.query_file.specs.Compiled.{CompiledValue}
use Rattle.query_index.specs.IndexValue.{IndexValue}
use Rattle.query_index.specs.IndexLaws.{MoreNamesKeepIndexes}
use Rattle.path_engine.specs.declared.ends.EdgeNumbers.{EdgeNumbers}
use Rattle.path_engine.specs.declared.front.Share.{Share}
use Rattle.path_engine.specs.Engine.{EngineValue, StandsFor, definitions, forests}
use Rattle.query_index.specs.Index.{IsIndexFor}
use Rattle.path_engine.specs.Ends.{AreEndsFor}
use Rattle.query_index.specs.Answering.{HasAnswered, HasHistory}
use Rattle.path_engine.specs.Ends.{AreAllEndsFor, AreAllFirstEnds, AreFirstEnds}
use Rattle.path_engine.specs.Front.{AreGathered, AreInPlace, AreReady, HasAnsweredAll, HasFed}
use Rattle.path_engine.specs.Front.{HasHistoryFor, HaveAnsweredAll, HaveFed, IsFed, joined, put_at}
use Rattle.path_engine.specs.Feeding.{FeedsFront}
use Rattle.path_engine.specs.Keeping.{BringsNoName, KeepForestsThrough}
use Rattle.path_engine.proofs.Each.{AreIndexes, each_events, each_forests, each_keeps}
use Rattle.path_engine.proofs.Each.{each_named, each_numbers, each_stands, forest_of, more_named}

pub on_ok : {T E : Type 0} (P Q : Type 0) → (P → Q) → (result : Result T E) → OnOk result P →
    OnOk result Q
on_ok P Q gives (Ok x) given = gives given
on_ok P Q gives (Err e) given = tt

-- ---- joined lists

pub joined_nothing : (owns : List (List NumberedEvent)) → joined owns [] ≡ owns
joined_nothing [] = refl
joined_nothing (own ∷ owns) = refl

pub joined_assoc : (xs ys zs : List (List NumberedEvent)) →
    joined (joined xs ys) zs ≡ joined xs (joined ys zs)
joined_assoc [] ys zs = refl
joined_assoc (x ∷ xs) [] zs = refl
joined_assoc (x ∷ xs) (y ∷ ys) [] = refl
joined_assoc (x ∷ xs) (y ∷ ys) (z ∷ zs) =
    ap₂ (λ (own : List NumberedEvent) (owns : List (List NumberedEvent)). own ∷ owns) (append_assoc x y z)
    (joined_assoc xs ys zs)

-- at least as long as the other
joined_covers : (xs ys : List (List NumberedEvent)) → length ys ≤ length (joined xs ys)
joined_covers [] ys = omega arith
joined_covers (x ∷ xs) [] = omega arith
joined_covers (x ∷ xs) (y ∷ ys) = omega (arith, joined_covers xs ys)

-- ---- more events at a place

pub put_last : (xs : List (List NumberedEvent)) (own : List NumberedEvent) →
    put_at (length xs) xs own ≡ xs ++ own ∷ []
put_last [] own = refl
put_last (x ∷ xs) own = ap (λ (rest : List (List NumberedEvent)). x ∷ rest) (put_last xs own)

pub put_past : (place : ℕ) (xs : List (List NumberedEvent)) (own : List NumberedEvent) → length xs ≤ place →
    put_at place xs own ≡ xs ++ own ∷ []
put_past place [] own past = refl
put_past zero (x ∷ xs) own past = absurd (omega (arith, past))
put_past (suc place) (x ∷ xs) own past =
    ap (λ (rest : List (List NumberedEvent)). x ∷ rest) (put_past place xs own (omega (arith, past)))

pub joined_more : (xs ys : List (List NumberedEvent)) (own : List NumberedEvent) →
    joined xs (ys ++ own ∷ []) ≡ put_at (length ys) (joined xs ys) own
joined_more [] ys own = sym (put_last ys own)
joined_more (x ∷ xs) [] own =
    ap (λ (rest : List (List NumberedEvent)). (x ++ own) ∷ rest) (joined_nothing xs)
joined_more (x ∷ xs) (y ∷ ys) own =
    ap (λ (rest : List (List NumberedEvent)). (x ++ y) ∷ rest) (joined_more xs ys own)

abbrev pub items_of : List (Vec NumberedEvent Global) → List (List NumberedEvent)
items_of owns = map (λ (own : Vec NumberedEvent Global). own.items) owns

pub put_inside : (place : ℕ) (xs : List (Vec NumberedEvent Global)) (x new : Vec NumberedEvent Global)
    (own : List NumberedEvent) → place < length xs → x ≡ get_or xs place x →
    new.items ≡ x.items ++ own → items_of (set xs place new) ≡ put_at place (items_of xs) own
put_inside place [] x new own inside is grew = absurd (omega (arith, inside))
put_inside zero (first ∷ xs) x new own inside is grew =
    ap (λ (one : List NumberedEvent). one ∷ items_of xs)
    (grew ∙ ap (λ (each : Vec NumberedEvent Global). each.items ++ own) is)
put_inside (suc place) (first ∷ xs) x new own inside is grew =
    ap (λ (rest : List (List NumberedEvent)). first.items ∷ rest)
    (put_inside place xs x new own (omega (arith, inside)) is grew)

pub items_push : (xs all : List (Vec NumberedEvent Global)) (x : Vec NumberedEvent Global) →
    all ≡ xs ++ x ∷ [] → items_of all ≡ items_of xs ++ x.items ∷ []
items_push xs all x is =
    ap items_of is ∙ map-append (λ (own : Vec NumberedEvent Global). own.items) xs (x ∷ [])

pub yielded_more : (yielded rest old all : List (Vec NumberedEvent Global)) (x : Vec NumberedEvent Global) →
    yielded ++ old ≡ all → old ≡ x ∷ rest → (yielded ++ x ∷ []) ++ rest ≡ all
yielded_more yielded rest old all x whole is =
    append_assoc yielded (x ∷ []) rest
    ∙ (ap (λ (xs : List (Vec NumberedEvent Global)). yielded ++ xs) (sym is) ∙ whole)

pub yielded_all : (yielded rest all : List (Vec NumberedEvent Global)) →
    yielded ++ rest ≡ all → length rest ≡ 0 → yielded ≡ all
yielded_all yielded [] all whole none = sym (append-nil yielded) ∙ whole
yielded_all yielded (x ∷ rest) all whole none = absurd (omega (arith, none))

pub nothing_left : {A : Type 0} (rest : List A) → length rest ≡ 0 → rest ≡ []
nothing_left [] none = refl
nothing_left (x ∷ rest) none = absurd (omega (arith, none))

-- ---- lists in step

pub zip_both : {A B : Type 0} (R : A → B → Type 0) (xs : List A) (ys : List B) (place : ℕ) (x : A)
    (y : B) → AllZip R xs ys → place < length xs → R (get_or xs place x) (get_or ys place y)
zip_both R [] ys place x y all inside = absurd (omega (arith, inside))
zip_both R (first ∷ xs) [] place x y all inside = absurd all
zip_both R (first ∷ xs) (second ∷ ys) zero x y all inside = all.0
zip_both R (first ∷ xs) (second ∷ ys) (suc place) x y all inside =
    zip_both R xs ys place x y all.1 (omega (arith, inside))

-- the numbers of the entries' edges, for one of the queries
pub ends_at : (names : List (List ℕ)) (queries : List CompiledValue) (entries : List Entry)
    (ends : List (Option EdgeNumbers)) (number : ℕ) (query : CompiledValue) →
    number < length queries →
    query ≡ get_or queries number query → AreAllEndsFor names queries entries ends →
    AllZip (λ (entry : Entry) (own : Option EdgeNumbers).
    AreEndsFor names number query.dfa entry.tuple.act own) entries ends
ends_at names queries [] [] number query inside is all = tt
ends_at names queries [] (own ∷ ends) number query inside is all = absurd all
ends_at names queries (entry ∷ entries) [] number query inside is all = absurd all
ends_at names queries (entry ∷ entries) (own ∷ ends) number query inside is all = (
  all.0 number query inside is,
  ends_at names queries entries ends number query inside is all.1,
)

-- ---- one query, entry after entry

pub answered_all_long : (names : List (List ℕ)) (entries : List Entry) (number : ℕ)
    (query : CompiledValue) (old new : IndexValue) (owns : List (List NumberedEvent)) →
    HasAnsweredAll names entries number query old new owns → length owns ≡ length entries
answered_all_long names [] number query old new [] answered = refl
answered_all_long names [] number query old new (own ∷ owns) answered = absurd answered
answered_all_long names (entry ∷ entries) number query old new [] answered = absurd answered
answered_all_long names (entry ∷ entries) number query old new (own ∷ owns) answered =
    ap suc (answered_all_long names entries number query answered.0 new owns answered.2)

-- one entry more
pub one_more : (names : List (List ℕ)) (entries : List Entry) (entry : Entry) (number : ℕ)
    (query : CompiledValue) (old middle new : IndexValue) (owns : List (List NumberedEvent)) (own : List NumberedEvent) →
    HasAnsweredAll names entries number query old middle owns →
    HasAnswered names entry number query middle new own →
    HasAnsweredAll names (entries ++ entry ∷ []) number query old new (owns ++ own ∷ [])
one_more names [] entry number query old middle new [] own answered has = (
  new,
  subst (λ (index : IndexValue). HasAnswered names entry number query index new own)
      {x = middle} {y = old} answered has,
  refl,
)
one_more names [] entry number query old middle new (first ∷ owns) own answered has =
    absurd answered
one_more names (first ∷ entries) entry number query old middle new [] own answered has =
    absurd answered
one_more names (first ∷ entries) entry number query old middle new (one ∷ owns) own answered has = (
  answered.0,
  answered.1,
  one_more names entries entry number query answered.0 middle new owns own answered.2 has,
)

-- what was fed after no entry, and after one and then more
fed_none : (fed : ℕ) → fed ≡ fed + 0
fed_none fed = omega arith

fed_more : (fed more : ℕ) → fed + 1 + more ≡ fed + suc more
fed_more fed more = omega arith

-- the index is that of the history with the entries behind
pub all_stands : (names : List (List ℕ)) (entries : List Entry) (number : ℕ)
    (query : CompiledValue) (old new : IndexValue) (owns : List (List NumberedEvent))
    (history : List Entry) (fed : ℕ) → HasAnsweredAll names entries number query old new owns →
    IsIndexFor query history fed names old →
    IsIndexFor query (history ++ entries) (fed + length entries) names new
all_stands names [] number query old new [] history fed answered is =
    subst (λ (h : List Entry). IsIndexFor query h (fed + 0) names new) (sym (append-nil history))
    (subst (λ (count : ℕ). IsIndexFor query history count names new) (fed_none fed)
    (subst (IsIndexFor query history fed names) (sym {A = IndexValue} answered) is))
all_stands names [] number query old new (own ∷ owns) history fed answered is = absurd answered
all_stands names (entry ∷ entries) number query old new [] history fed answered is = absurd answered
all_stands names (entry ∷ entries) number query old new (own ∷ owns) history fed answered is =
    subst (λ (h : List Entry). IsIndexFor query h (fed + suc (length entries)) names new)
    (append_assoc history (entry ∷ []) entries)
    (subst (λ (count : ℕ).
    IsIndexFor query ((history ++ entry ∷ []) ++ entries) count names new)
    (fed_more fed (length entries))
    (all_stands names entries number query answered.0 new owns (history ++ entry ∷ []) (fed + 1)
    answered.2 (answered.1.stands history fed is)))

-- before the entry at this place the index is that of a history
pub history_at : (names : List (List ℕ)) (entries : List Entry) (place number : ℕ)
    (query : CompiledValue) (old new : IndexValue) (owns : List (List NumberedEvent)) →
    HasHistoryFor (length entries) query names old → place < length entries →
    HasAnsweredAll names (take place entries) number query old new owns →
    HasHistory query names new
history_at names entries place number query old new owns has inside answered = record {
  history = has.history ++ take place entries;
  fed = has.fed + length (take place entries);
  short = omega (arith, has.short, inside, length-take-le place entries (omega (arith, inside)));
  is = all_stands names (take place entries) number query old new owns has.history has.fed answered
      has.is;
}

-- ---- a query beside others

pub beside : (names : List (List ℕ)) (entries : List Entry) (number : ℕ) (query : CompiledValue)
    (old new : IndexValue) (queries : List CompiledValue) (olds news : List IndexValue)
    (owns others : List (List NumberedEvent)) →
    HasAnsweredAll names entries number query old new owns →
    HaveAnsweredAll names entries (number + 1) queries olds news others →
    HaveAnsweredAll names entries number (query ∷ queries) (old ∷ olds) (new ∷ news)
    (joined owns others)
beside names [] number query old new queries olds news [] [] has have =
    ap₂ (λ (index : IndexValue) (indexes : List IndexValue). index ∷ indexes) has have
beside names [] number query old new queries olds news (own ∷ owns) others has have = absurd has
beside names [] number query old new queries olds news [] (other ∷ others) has have = absurd have
beside names (entry ∷ entries) number query old new queries olds news [] others has have =
    absurd has
beside names (entry ∷ entries) number query old new queries olds news (own ∷ owns) [] has have =
    absurd have
beside names (entry ∷ entries) number query old new queries olds news (own ∷ owns)
    (other ∷ others) has have = (
      has.0 ∷ have.0,
      (own, other, has.1, have.1, refl),
      beside names entries number query has.0 new queries have.0 news owns others has.2 have.2,
    )

-- no query has no events
abbrev pub nothing_for : List Entry → List (List NumberedEvent)
nothing_for entries = map (λ _. []) entries

pub no_query : (names : List (List ℕ)) (entries : List Entry) (number : ℕ) →
    HaveAnsweredAll names entries number [] [] [] (nothing_for entries)
no_query names [] number = refl
no_query names (entry ∷ entries) number = ([], refl, no_query names entries number)

pub joined_with_nothing : (entries : List Entry) (events : List (List NumberedEvent)) →
    length entries ≤ length events → joined events (nothing_for entries) ≡ events
joined_with_nothing [] events less = joined_nothing events
joined_with_nothing (entry ∷ entries) [] less = absurd (omega (arith, less))
joined_with_nothing (entry ∷ entries) (own ∷ owns) less =
    ap₂ (λ (one : List NumberedEvent) (more : List (List NumberedEvent)). one ∷ more) (append-nil own)
    (joined_with_nothing entries owns (omega (arith, less)))

-- ---- shares

abbrev pub index_of : Share → IndexValue
index_of share = share.index

ready_at : (more : ℕ) (names : List (List ℕ)) (queries : List CompiledValue)
    (shares : List Share) (place : ℕ) (query : CompiledValue) (d : Share) →
    AllZip (λ (each : CompiledValue) (index : IndexValue). HasHistoryFor more each names index)
    queries (map index_of shares) → place < length shares → query ≡ get_or queries place query →
    HasHistoryFor more query names (get_or shares place d).index
ready_at more names [] [] place query d have below is = absurd (omega (arith, below))
ready_at more names [] (share ∷ shares) place query d have below is = absurd have
ready_at more names (first ∷ queries) [] place query d have below is = absurd have
ready_at more names (first ∷ queries) (share ∷ shares) zero query d have below is =
    subst (λ (each : CompiledValue). HasHistoryFor more each names share.index) (sym is) have.0
ready_at more names (first ∷ queries) (share ∷ shares) (suc place) query d have below is =
    ready_at more names queries shares place query d have.1 (omega (arith, below)) is

-- each share is ready for the query in its place
pub are_ready : (more : ℕ) (names : List (List ℕ)) (queries : List CompiledValue)
    (shares : List Share) →
    AllZip (λ (query : CompiledValue) (index : IndexValue). HasHistoryFor more query names index)
    queries (map index_of shares) → AreInPlace shares → AreReady more queries names shares
are_ready more names queries shares have own k d below =
    let long : length (map index_of shares) ≡ length queries =
    AllZip-long
    (λ (query : CompiledValue) (index : IndexValue). HasHistoryFor more query names index) queries
    (map index_of shares) have in
    record {
      inside = omega (arith, own k d below, below, long, length-map shares index_of);
      index = λ query is.
          ready_at more names queries shares k query d have below
          (subst (λ (place : ℕ). query ≡ get_or queries place query) (own k d below) is);
    }

-- one share more, with the next number
pub in_place_more : (shares all : List Share) (share : Share) → all ≡ shares ++ share ∷ [] →
    share.place ≡ length shares → AreInPlace shares → AreInPlace all
in_place_more shares all share is next own k d below =
    subst (λ (each : List Share). (get_or each k d).place ≡ k) (sym is)
    (⊎_elim
    (λ less.
    ap (λ (each : Share). each.place) (get_or_append_left shares (share ∷ []) d k less)
    ∙ own k d less)
    (λ more.
    let last : length shares ≡ k =
    omega (
      arith,
      more,
      below,
      ap (λ (each : List Share). length each) is,
      length-append shares (share ∷ []),
    ) in
    ap (λ (each : Share). each.place) (get_or_push shares share d k last) ∙ (next ∙ last))
    (cases_lt k (length shares)))

-- there are as many shares as queries
pub as_many_shares : (more : ℕ) (names : List (List ℕ)) (queries : List CompiledValue)
    (indexes : List IndexValue) (shares : List Share) →
    AllZip (λ (query : CompiledValue) (index : IndexValue). HasHistoryFor more query names index)
    queries indexes → map index_of shares ≡ indexes → length shares ≡ length queries
as_many_shares more names queries indexes shares have is =
    sym (length-map shares index_of)
    ∙ (ap (λ (all : List IndexValue). length all) is
    ∙ AllZip-long
    (λ (query : CompiledValue) (index : IndexValue). HasHistoryFor more query names index) queries
    indexes have)

-- one more element of a list was written
pub each_more : {A : Type 0} (R : ℕ → A → A → Type 0) (olds news : List A) (place : ℕ) (new : A) →
    place < length news → ((d : A) → R place (get_or olds place d) new) →
    ((k : ℕ) (d : A) → k < place → R k (get_or olds k d) (get_or news k d)) → (k : ℕ) (d : A) →
    k < place + 1 → R k (get_or olds k d) (get_or (set news place new) k d)
each_more {A} R olds news place new inside here before k d below =
    ⊎_elim
    (λ (same : k ≡ place).
    subst (λ (at : ℕ). R at (get_or olds at d) (get_or (set news place new) at d)) (sym same)
    (subst (R place (get_or olds place d)) (sym (get_or-set_same news place new d inside)) (here d)))
    (λ other.
    subst (R k (get_or olds k d))
    (sym (get_or-set_other news place k new d
    (λ same. ⊎_elim (λ less. omega (arith, same, less)) (λ more. omega (arith, same, more)) other)))
    (before k d
    (⊎_elim (λ less. less) (λ more. absurd (omega (arith, below, more))) other)))
    (cases_order k place)

-- where a result is there
if_ok_is : {A E : Type 0} (P : A → Type 0) (result : Result A E) (x : A) → result ≡ Ok x →
    IfOk result P → P x
if_ok_is {A} {E} P result x is given =
    subst (λ (each : Result A E). IfOk each P) {x = result} {y = Ok x} is given

-- the queries from this number on took the entries into their shares
abbrev pub Fed : List (List ℕ) → List Entry → ℕ → List CompiledValue → List Share → List Share →
    Type 0
Fed names entries number queries olds news = (k : ℕ) (query : CompiledValue) (d : Share) →
    k < length olds → query ≡ get_or queries k query →
    HasFed names entries (number + k) query (get_or olds k d) (get_or news k d)

fed_first : (names : List (List ℕ)) (entries : List Entry) (number : ℕ) (query : CompiledValue)
    (queries : List CompiledValue) (old new : Share) (olds news : List Share)
    (owns : Vec (Vec NumberedEvent Global) Global) →
    Fed names entries number (query ∷ queries) (old ∷ olds) (new ∷ news) → new.owns ≡ Ok owns →
    HasAnsweredAll names entries number query old.index new.index (items_of owns.items)
fed_first names entries number query queries old new olds news owns fed is =
    let here : number + 0 ≡ number = omega arith in
    if_ok_is (λ (each : Vec (Vec NumberedEvent Global) Global).
    HasAnsweredAll names entries number query old.index new.index (items_of each.items)) new.owns
    owns is
    (subst (λ (at : ℕ). HasFed names entries at query old new) here
    (fed 0 query old (omega arith) refl))

fed_rest : (names : List (List ℕ)) (entries : List Entry) (number : ℕ) (query : CompiledValue)
    (queries : List CompiledValue) (old new : Share) (olds news : List Share) →
    Fed names entries number (query ∷ queries) (old ∷ olds) (new ∷ news) →
    Fed names entries (number + 1) queries olds news
fed_rest names entries number query queries old new olds news fed k each d below is =
    let next : number + suc k ≡ number + 1 + k = omega arith in
    subst (λ (at : ℕ). HasFed names entries at each (get_or olds k d) (get_or news k d)) next
    (fed (suc k) each d (omega (arith, below)) is)

fed_all : (names : List (List ℕ)) (entries : List Entry) (queries : List CompiledValue)
    (olds news : List Share) → AreInPlace olds → HaveFed queries names entries olds news →
    Fed names entries 0 queries olds news
fed_all names entries queries olds news own have k query d below is =
    let one = AllZip-get_or (IsFed queries names entries) olds news k d d have below in
    let at : (get_or olds k d).place ≡ 0 + k = omega (arith, own k d below) in
    subst (λ (place : ℕ). HasFed names entries place query (get_or olds k d) (get_or news k d)) at
    (one.fed query
    (subst (λ (place : ℕ). query ≡ get_or queries place query) (sym (own k d below)) is))

gathered_rest : (names : List (List ℕ)) (entries : List Entry) (number : ℕ)
    (queries : List CompiledValue) (olds news : List Share) (before events : List (List NumberedEvent)) →
    length entries ≤ length before → length queries ≡ length olds → length news ≡ length olds →
    Fed names entries number queries olds news → AreGathered before news events →
    (later : List (List NumberedEvent)) × HaveAnsweredAll names entries number queries
    (map index_of olds) (map index_of news) later × (events ≡ joined before later)
gathered_rest names entries number [] [] [] before events covers many as_many fed are = (
  nothing_for entries,
  no_query names entries number,
  are ∙ sym {A = List (List NumberedEvent)} (joined_with_nothing entries before covers),
)
gathered_rest names entries number [] [] (new ∷ news) before events covers many as_many fed are =
    absurd (omega (arith, as_many))
gathered_rest names entries number [] (old ∷ olds) news before events covers many as_many fed are =
    absurd (omega (arith, many))
gathered_rest names entries number (query ∷ queries) [] news before events covers many as_many fed
    are = absurd (omega (arith, many))
gathered_rest names entries number (query ∷ queries) (old ∷ olds) [] before events covers many
    as_many fed are = absurd (omega (arith, as_many))
gathered_rest names entries number (query ∷ queries) (old ∷ olds) (new ∷ news) before events covers
    many as_many fed are =
    let owns : List (List NumberedEvent) = items_of are.0.items in
    let has = fed_first names entries number query queries old new olds news are.0 fed are.1 in
    let long = answered_all_long names entries number query old.index new.index owns has in
    let rest = gathered_rest names entries (number + 1) queries olds news (joined before owns)
    events (omega (arith, long, joined_covers before owns)) (omega (arith, many))
    (omega (arith, as_many))
    (fed_rest names entries number query queries old new olds news fed) are.2 in (
      joined owns rest.0,
      beside names entries number query old.index new.index queries (map index_of olds)
          (map index_of news) owns rest.0 has rest.1,
      rest.2 ∙ joined_assoc before owns rest.0,
    )

-- the events of all shares are those of the queries
pub gathered : (names : List (List ℕ)) (entries : List Entry) (queries : List CompiledValue)
    (olds news : List Share) (events : List (List NumberedEvent)) → 1 ≤ length queries →
    length queries ≡ length olds → AreInPlace olds →
    HaveFed queries names entries olds news → AreGathered [] news events →
    HaveAnsweredAll names entries 0 queries (map index_of olds) (map index_of news) events
gathered names entries [] olds news events some many own have are = absurd (omega (arith, some))
gathered names entries (query ∷ queries) [] news events some many own have are =
    absurd (omega (arith, many))
gathered names entries (query ∷ queries) (old ∷ olds) [] events some many own have are =
    absurd have
gathered names entries (query ∷ queries) (old ∷ olds) (new ∷ news) events some many own have
    are =
    let fed = fed_all names entries (query ∷ queries) (old ∷ olds) (new ∷ news) own have in
    let as_many = AllZip-long (IsFed (query ∷ queries) names entries) olds news have.1 in
    let owns : List (List NumberedEvent) = items_of are.0.items in
    let has = fed_first names entries 0 query queries old new olds news are.0 fed are.1 in
    let long = answered_all_long names entries 0 query old.index new.index owns has in
    let rest = gathered_rest names entries (0 + 1) queries olds news owns events (omega (arith, long))
    (omega (arith, many)) (omega (arith, as_many))
    (fed_rest names entries 0 query queries old new olds news fed) are.2 in
    subst (HaveAnsweredAll names entries 0 (query ∷ queries) (map index_of (old ∷ olds))
    (map index_of (new ∷ news))) (sym {A = List (List NumberedEvent)} rest.2)
    (beside names entries 0 query old.index new.index queries (map index_of olds)
    (map index_of news) owns rest.0 has rest.1)

-- ---- what was answered

pub front_stands : (names : List (List ℕ)) (entries : List Entry) (history : List Entry) (fed : ℕ)
    (queries : List CompiledValue) (olds news : List IndexValue) (events : List (List NumberedEvent)) →
    AreIndexes history fed names queries olds →
    HaveAnsweredAll names entries 0 queries olds news events →
    AreIndexes (history ++ entries) (fed + length entries) names queries news
front_stands names [] history fed queries olds news [] are answered =
    subst (λ (h : List Entry). AreIndexes h (fed + 0) names queries news) (sym (append-nil history))
    (subst (λ (count : ℕ). AreIndexes history count names queries news) (fed_none fed)
    (subst (AreIndexes history fed names queries) (sym {A = List IndexValue} answered) are))
front_stands names [] history fed queries olds news (own ∷ events) are answered = absurd answered
front_stands names (entry ∷ entries) history fed queries olds news [] are answered = absurd answered
front_stands names (entry ∷ entries) history fed queries olds news (own ∷ events) are answered =
    subst (λ (h : List Entry). AreIndexes h (fed + suc (length entries)) names queries news)
    (append_assoc history (entry ∷ []) entries)
    (subst (λ (count : ℕ).
    AreIndexes ((history ++ entry ∷ []) ++ entries) count names queries news)
    (fed_more fed (length entries))
    (front_stands names entries (history ++ entry ∷ []) (fed + 1) queries answered.0 news events
    (each_stands names entry history fed 0 queries olds answered.0 own are answered.1) answered.2))

pub front_events : (names : List (List ℕ)) (entries : List Entry) (history : List Entry) (fed : ℕ)
    (queries : List CompiledValue) (olds news : List IndexValue) (events : List (List NumberedEvent)) →
    AreIndexes history fed names queries olds →
    HaveAnsweredAll names entries 0 queries olds news events →
    AreAllEventsFrom (map (λ (each : CompiledValue). each.def) queries) history entries
    (map (map (named names)) events)
front_events names [] history fed queries olds news [] are answered = tt
front_events names [] history fed queries olds news (own ∷ events) are answered = absurd answered
front_events names (entry ∷ entries) history fed queries olds news [] are answered = absurd answered
front_events names (entry ∷ entries) history fed queries olds news (own ∷ events) are answered = (
  each_events names entry history fed 0 queries olds answered.0 own are answered.1,
  front_events names entries (history ++ entry ∷ []) (fed + 1) queries answered.0 news events
      (each_stands names entry history fed 0 queries olds answered.0 own are answered.1) answered.2,
)

-- with each entry the forests keep what they have, and then they are those of the history with it
pub front_keeps : (names : List (List ℕ)) (entries : List Entry) (history : List Entry) (fed : ℕ)
    (queries : List CompiledValue) (olds news : List IndexValue) (events : List (List NumberedEvent)) →
    AreIndexes history fed names queries olds →
    HaveAnsweredAll names entries 0 queries olds news events →
    KeepForestsThrough entries queries names history (map forest_of olds) (map forest_of news)
front_keeps names [] history fed queries olds news [] are answered =
    ap (map forest_of) {x = news} {y = olds} answered
front_keeps names [] history fed queries olds news (own ∷ events) are answered = absurd answered
front_keeps names (entry ∷ entries) history fed queries olds news [] are answered = absurd answered
front_keeps names (entry ∷ entries) history fed queries olds news (own ∷ events) are answered = (
  map forest_of answered.0,
  each_keeps names entry 0 queries olds answered.0 own answered.1,
  each_forests names entry history fed 0 queries olds answered.0 own are answered.1,
  front_keeps names entries (history ++ entry ∷ []) (fed + 1) queries answered.0 news events
      (each_stands names entry history fed 0 queries olds answered.0 own are answered.1) answered.2,
)

all_more : {A : Type 0} (P : A → Type 0) (x : A) (xs : List A) → P x → All P xs → All P (x ∷ xs)
all_more P x xs one more zero d within = one
all_more P x xs one more (suc k) d within = more k d (omega (arith, within))

pub front_numbers : (names : List (List ℕ)) (entries : List Entry)
    (queries : List CompiledValue) (olds news : List IndexValue) (events : List (List NumberedEvent)) →
    HaveAnsweredAll names entries 0 queries olds news events →
    All (λ (own : List Event). All (λ (e : Event). e.query < length queries) own)
    (map (map (named names)) events)
front_numbers names [] queries olds news [] answered = λ k d within. absurd (omega (arith, within))
front_numbers names [] queries olds news (own ∷ events) answered = absurd answered
front_numbers names (entry ∷ entries) queries olds news [] answered = absurd answered
front_numbers names (entry ∷ entries) queries olds news (own ∷ events) answered =
    let one = each_numbers names entry 0 queries olds answered.0 own answered.1 in
    let more = front_numbers names entries queries answered.0 news events answered.2 in
    all_more (λ (each : List Event). All (λ (e : Event). e.query < length queries) each)
    (map (named names) own) (map (map (named names)) events)
    (λ k d within. omega (arith, one k d within)) more

pub front_named : (names : List (List ℕ)) (entries : List Entry)
    (queries : List CompiledValue) (olds news : List IndexValue) (events : List (List NumberedEvent)) →
    HaveAnsweredAll names entries 0 queries olds news events → All (All (HasNames names)) events
front_named names [] queries olds news [] answered = λ k d within. absurd (omega (arith, within))
front_named names [] queries olds news (own ∷ events) answered = absurd answered
front_named names (entry ∷ entries) queries olds news [] answered = absurd answered
front_named names (entry ∷ entries) queries olds news (own ∷ events) answered =
    all_more (All (HasNames names)) own events
    (each_named names entry 0 queries olds answered.0 own answered.1)
    (front_named names entries queries answered.0 news events answered.2)

-- ---- the lists of a front

-- by names
pub lists_named : (names : List (List ℕ)) (lists : List (Vec NumberedEvent Global)) →
    map (map (named names)) (items_of lists) ≡ named_lists names lists
lists_named names [] = refl
lists_named names (own ∷ lists) =
    ap (λ (rest : List (List Event)). map (named names) own.items ∷ rest) (lists_named names lists)

pub lists_have_names : (names : List (List ℕ)) (lists : List (Vec NumberedEvent Global)) →
    All (All (HasNames names)) (items_of lists) → HaveAllNames names lists
lists_have_names names lists all = λ k d within.
    subst (All (HasNames names))
    (get_or-map (λ (own : Vec NumberedEvent Global). own.items) lists k d d.items within)
    (all k d.items
    (omega (arith, within, length-map lists (λ (own : Vec NumberedEvent Global). own.items))))

-- ---- names that grew

pub ends_of_more : (names more : List (List ℕ)) (number : ℕ) (dfa : DfaValue) (act : Act)
    (ends : Option EdgeNumbers) → KeepsNumbers names more → AreFirstEnds names number dfa act ends →
    AreFirstEnds more number dfa act ends
ends_of_more names more number dfa (Insert edge until) (Some ends) keeps are = record {
  from = keeps edge.from ends.from are.from;
  to = keeps edge.to ends.to are.to;
  label = are.label;
}
ends_of_more names more number dfa (Insert edge until) None keeps are = are
ends_of_more names more number dfa (Delete edge) ends keeps are = tt
ends_of_more names more number dfa Tick ends keeps are = tt

pub all_ends_more : (names more : List (List ℕ)) (queries : List CompiledValue)
    (entries : List Entry) (ends : List (Option EdgeNumbers)) → KeepsNumbers names more →
    AreAllFirstEnds names queries entries ends → AreAllFirstEnds more queries entries ends
all_ends_more names more queries [] [] keeps are = tt
all_ends_more names more queries [] (own ∷ ends) keeps are = absurd are
all_ends_more names more queries (entry ∷ entries) [] keeps are = absurd are
all_ends_more names more queries (entry ∷ entries) (own ∷ ends) keeps are = (
  (λ number query inside is.
      ends_of_more names more number query.dfa entry.tuple.act own keeps
      (are.0 number query inside is)),
  all_ends_more names more queries entries ends keeps are.1,
)

-- ---- the engine

-- the indexes over some history, by the numbers of more names
pub histories_for : MoreNamesKeepIndexes → (engine : EngineValue) (history : List Entry)
    (names : List (List ℕ)) (more : ℕ) → StandsFor engine history →
    engine.position + more ≤ 2 ^ 30 → KeepsNumbers engine.names names →
    AllZip (λ (query : CompiledValue) (index : IndexValue). HasHistoryFor more query names index)
    engine.queries engine.indexes
histories_for law engine history names more stands short kept =
    are_for history engine.position names more engine.queries engine.indexes short
    (more_named law history engine.position engine.names names engine.queries engine.indexes kept
    stands.indexes)
  where
    are_for : (history : List Entry) (fed : ℕ) (names : List (List ℕ)) (more : ℕ)
        (queries : List CompiledValue) (indexes : List IndexValue) → fed + more ≤ 2 ^ 30 →
        AreIndexes history fed names queries indexes →
        AllZip (λ (query : CompiledValue) (index : IndexValue). HasHistoryFor more query names index)
        queries indexes
    are_for history fed names more [] [] short are = tt
    are_for history fed names more [] (index ∷ indexes) short are = absurd are
    are_for history fed names more (query ∷ queries) [] short are = absurd are
    are_for history fed names more (query ∷ queries) (index ∷ indexes) short are = (
      record { history = history; fed = fed; short = short; is = are.0 },
      are_for history fed names more queries indexes short are.1,
    )

module _ (law : MoreNamesKeepIndexes) (old new : EngineValue) (entries : List Entry)
    (events : List (List NumberedEvent))
    (queries : new.queries ≡ old.queries) (position : new.position ≡ old.position + length entries)
    (unspent : new.spent ≡ false) (kept : KeepsNumbers old.names new.names)
    (grown : length new.names ≤ length old.names + 2 * length entries)
    (answered : HaveAnsweredAll new.names entries 0 old.queries old.indexes new.indexes events)
  where
    over : (history : List Entry) → StandsFor old history →
        AreIndexes history old.position new.names old.queries old.indexes
    over history stands =
        more_named law history old.position old.names new.names old.queries old.indexes kept
        stands.indexes

    pub front_fed_stands : (history : List Entry) → StandsFor old history →
        StandsFor new (history ++ entries)
    front_fed_stands history stands = record {
      unspent = unspent;
      few_names = omega (arith, grown, stands.few_names, position);
      indexes = subst (λ (fed : ℕ).
          AreIndexes (history ++ entries) fed new.names new.queries new.indexes) (sym position)
          (subst (λ (each : List CompiledValue).
          AreIndexes (history ++ entries) (old.position + length entries) new.names each new.indexes)
          (sym queries)
          (front_stands new.names entries history old.position old.queries old.indexes new.indexes
          events (over history stands) answered));
    }

    front_fed_events : (history : List Entry) → StandsFor old history →
        AreAllEventsFrom (definitions old) history entries (map (map (named new.names)) events)
    front_fed_events history stands =
        front_events new.names entries history old.position old.queries old.indexes new.indexes
        events (over history stands) answered

    front_fed_keeps : (history : List Entry) → StandsFor old history →
        KeepForestsThrough entries old.queries new.names history (forests old) (forests new)
    front_fed_keeps history stands =
        front_keeps new.names entries history old.position old.queries old.indexes new.indexes
        events (over history stands) answered

    front_fed_numbers :
        All (λ (own : List Event). All (λ (e : Event). e.query < length old.queries) own)
        (map (map (named new.names)) events)
    front_fed_numbers =
        front_numbers new.names entries old.queries old.indexes new.indexes events answered

    -- all of it
    pub front_fed :
        (All (λ (each : Entry). BringsNoName each.tuple.act old.queries) entries →
        new.names ≡ old.names) → FeedsFront old entries new (map (map (named new.names)) events)
    front_fed same = record {
      stands = front_fed_stands;
      events = front_fed_events;
      keeps = front_fed_keeps;
      known = kept;
      names = same;
      numbers = front_fed_numbers;
      position = position;
    }
