-- How the entries of a front are answered. No public contract cites this file.
use Rattle.std.specs.Prelude.{◌≡◌, ℕ, zero, suc, ◌+◌, ◌^◌, ◌<◌, ◌≤◌}
use Rattle.std.specs.Prelude.{List, [], ◌∷◌, ◌++◌, length, map, slice_index_or}
use Rattle.std.specs.Prelude.{Ok, IfOk}
use Rattle.std.specs.Global.{Global}
use Rattle.std.specs.declared.vec.Vec.{Vec}
use Rattle.std.specs.List.{All, AllZip}
use Rattle.rpq_base.specs.declared.data.Entry.{Entry}
use Rattle.end_events.specs.declared.numbered_event.NumberedEvent.{NumberedEvent}
use Rattle.query_file.specs.Compiled.{CompiledValue}
use Rattle.query_index.specs.Answering.{HasAnswered}
use Rattle.query_index.specs.Index.{IsIndexFor}
use Rattle.query_index.specs.IndexValue.{IndexValue}
use Rattle.path_engine.specs.declared.front.Share.{Share}

-- the index is that of the query over some history, and was fed few entries with so many more
pub record HasHistoryFor (more : ℕ) (query : CompiledValue) (names : List (List ℕ))
    (index : IndexValue) : Type 0 where
  pub history : List Entry
  pub fed : ℕ
  pub short : fed + more ≤ 2 ^ 30
  pub is : IsIndexFor query history fed names index

-- the entry was answered for each of these queries, the first of which has this number
abbrev pub HaveAnswered : List (List ℕ) → Entry → ℕ → List CompiledValue → List IndexValue →
    List IndexValue → List NumberedEvent → Type 0
HaveAnswered names entry number [] [] [] events = events ≡ []
HaveAnswered names entry number [] [] (new ∷ news) events = ⊥
HaveAnswered names entry number [] (old ∷ olds) news events = ⊥
HaveAnswered names entry number (query ∷ queries) [] news events = ⊥
HaveAnswered names entry number (query ∷ queries) (old ∷ olds) [] events = ⊥
HaveAnswered names entry number (query ∷ queries) (old ∷ olds) (new ∷ news) events =
    (own others : List NumberedEvent) × HasAnswered names entry number query old new own
    × HaveAnswered names entry (number + 1) queries olds news others × (events ≡ own ++ others)

-- the entries were answered one after another for the query with this number, and these are the
-- events of each
abbrev pub HasAnsweredAll : List (List ℕ) → List Entry → ℕ → CompiledValue → IndexValue → IndexValue →
    List (List NumberedEvent) → Type 0
HasAnsweredAll names [] number query old new [] = new ≡ old
HasAnsweredAll names [] number query old new (own ∷ owns) = ⊥
HasAnsweredAll names (entry ∷ entries) number query old new [] = ⊥
HasAnsweredAll names (entry ∷ entries) number query old new (own ∷ owns) =
    (middle : IndexValue) × HasAnswered names entry number query old middle own
    × HasAnsweredAll names entries number query middle new owns

-- they were answered one after another for each of these queries, the first of which has this
-- number, and these are the events of each entry
abbrev pub HaveAnsweredAll : List (List ℕ) → List Entry → ℕ → List CompiledValue → List IndexValue →
    List IndexValue → List (List NumberedEvent) → Type 0
HaveAnsweredAll names [] number queries olds news [] = news ≡ olds
HaveAnsweredAll names [] number queries olds news (events ∷ rest) = ⊥
HaveAnsweredAll names (entry ∷ entries) number queries olds news [] = ⊥
HaveAnsweredAll names (entry ∷ entries) number queries olds news (events ∷ rest) =
    (middles : List IndexValue) × HaveAnswered names entry number queries olds middles events
    × HaveAnsweredAll names entries number queries middles news rest

-- the events of each entry, those of the one list before those of the other; where the one list
-- ends, the rest of the other
abbrev pub joined : List (List NumberedEvent) → List (List NumberedEvent) →
    List (List NumberedEvent)
joined [] more = more
joined (own ∷ owns) [] = own ∷ owns
joined (own ∷ owns) (other ∷ others) = (own ++ other) ∷ joined owns others

-- more events at the end of those at this place, or as the last where there is no such place
abbrev pub put_at : ℕ → List (List NumberedEvent) → List NumberedEvent → List (List NumberedEvent)
put_at place [] own = own ∷ []
put_at zero (first ∷ rest) own = (first ++ own) ∷ rest
put_at (suc place) (first ∷ rest) own = first ∷ put_at place rest own

-- the share is of one of the queries and has its index, which may take so many entries
pub record IsReady (more : ℕ) (queries : List CompiledValue) (names : List (List ℕ))
    (share : Share) : Type 0 where
  pub inside : share.place < length queries
  pub index : (query : CompiledValue) → query ≡ slice_index_or queries share.place query →
      HasHistoryFor more query names share.index

-- so is each of the shares
abbrev pub AreReady : ℕ → List CompiledValue → List (List ℕ) → List Share → Type 0
AreReady more queries names shares = All (IsReady more queries names) shares

-- the share at each place is of the query with this number
abbrev pub AreInPlace : List Share → Type 0
AreInPlace shares = (k : ℕ) (d : Share) → k < length shares →
    (slice_index_or shares k d).place ≡ k

-- the query with this number took the entries into the index of the share, and these are the events
-- of each, unless memory ran out
abbrev pub HasFed : List (List ℕ) → List Entry → ℕ → CompiledValue → Share → Share → Type 0
HasFed names entries number query old new =
    IfOk new.owns (λ owns. HasAnsweredAll names entries number query old.index new.index
    (map (λ own. own.items) owns.items))

-- the query of the share took the entries into it
pub record IsFed (queries : List CompiledValue) (names : List (List ℕ)) (entries : List Entry)
    (old new : Share) : Type 0 where
  pub place : new.place ≡ old.place
  pub fed : (query : CompiledValue) → query ≡ slice_index_or queries old.place query →
      HasFed names entries old.place query old new

-- so did the query of each of the shares
abbrev pub HaveFed : List CompiledValue → List (List ℕ) → List Entry → List Share →
    List Share → Type 0
HaveFed queries names entries olds news = AllZip (IsFed queries names entries) olds news

-- each share has events of each entry, and these are those before with those of the shares behind,
-- one share after another
abbrev pub AreGathered : List (List NumberedEvent) → List Share → List (List NumberedEvent) → Type 0
AreGathered before [] events = events ≡ before
AreGathered before (share ∷ shares) events =
    (owns : Vec (Vec NumberedEvent Global) Global) × (share.owns ≡ Ok owns)
    × AreGathered (joined before (map (λ own. own.items) owns.items)) shares events
