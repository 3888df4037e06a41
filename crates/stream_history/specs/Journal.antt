-- A journal, as contracts see it, and what each call makes of it.
use Rattle.std.specs.Prelude.{◌≡◌, ℕ, ◌-◌, ◌*◌, ◌≤◌, ◌^◌, List, [], ◌∷◌, ◌++◌, length, take, max}
use Rattle.std.specs.Prelude.{replicate}
use Rattle.std.specs.List.{All}
use Rattle.rpq_base.specs.Plain.{IsPlain}
use Rattle.rpq_base.specs.declared.data.Entry.{Entry}
use Rattle.rpq_model.specs.Query.{Query}
use Rattle.answer_view.specs.View.{ViewValue, IsViewOf}
use Rattle.history_model.specs.declared.line.Line.{Line}
use Rattle.history_model.specs.Lines.{publish_line, entries, published, IsStream, HasEnded, IsShut}
use Rattle.history_model.specs.Legal.{IsLegal}
use Rattle.history_model.specs.World.{Terms}
use Rattle.stream_history.specs.declared.fault.PublishFault.{PublishFault}
use Rattle.stream_history.specs.declared.fault.PublishFault.TheVariants.{Behind}

-- what the history was made with, its lines, how many of the first entries are gone from memory,
-- and the view that was published last
pub record JournalValue : Type 0 where
  pub terms : Terms
  pub lines : List Line
  pub base : ℕ
  pub view : ViewValue

-- the limits: 1 to 64 queries, 1 to 64 streams, and a cap from 1 to 2^61
pub record AreTerms (terms : Terms) : Type 0 where
  pub some_queries : 1 ≤ length terms.queries
  pub few_queries : length terms.queries ≤ 64
  pub some_streams : 1 ≤ terms.streams
  pub few_streams : terms.streams ≤ 64
  pub some_entries : 1 ≤ terms.cap
  pub few_entries : terms.cap ≤ 2 ^ 61

-- a history with these terms keeps all its entries; one with a greater cap may forget the first
abbrev pub KeepsAll : Terms → Type 0
KeepsAll terms = terms.cap ≤ 2 ^ 30

-- position 0, clock 0, and no answer of any of so many queries
abbrev pub empty_view : ℕ → ViewValue
empty_view queries = record { position = 0; clock = 0; rows = replicate queries [] }

-- the view is that of the queries after as many of the entries as its position says
abbrev pub ShowsFront : List Query → List Entry → ViewValue → Type 0
ShowsFront queries history view = IsViewOf queries (take view.position history) view

-- what is true of every journal: its lines are legal, the labels of its entries point forwards, its
-- view is that of the entries that were published last, and where it keeps all its entries, none is
-- gone
pub record IsSound (journal : JournalValue) : Type 0 where
  pub terms : AreTerms journal.terms
  pub legal : IsLegal journal.terms.streams journal.terms.cap journal.lines
  pub plain : All IsPlain (entries journal.lines)
  pub position : journal.view.position ≡ published journal.lines
  pub view : ShowsFront journal.terms.queries (entries journal.lines) journal.view
  pub whole : KeepsAll journal.terms → journal.base ≡ 0

-- the number is that of a stream that hasn't ended
pub record IsOpen (journal : JournalValue) (stream : ℕ) : Type 0 where
  pub is : IsStream journal.terms.streams stream
  pub goes_on : HasEnded journal.lines stream → ⊥

-- this is the cap, as many entries are there, and nothing is shut
pub record IsFullAt (journal : JournalValue) (cap : ℕ) : Type 0 where
  pub cap_is : cap ≡ journal.terms.cap
  pub goes_on : IsShut journal.lines → ⊥
  pub full : length (entries journal.lines) ≡ cap

-- the fault tells the position that was published last, and the view isn't beyond it
pub record IsBehind (journal : JournalValue) (view : ViewValue) (fault : PublishFault) :
    Type 0 where
  pub last : fault ≡ Behind (published journal.lines)
  pub behind : view.position ≤ published journal.lines

-- the journal with no lines
abbrev pub first_journal : Terms → ViewValue → JournalValue
first_journal terms view = record { terms = terms; lines = []; base = 0; view = view }

-- the journal with one line more
abbrev pub with_line : JournalValue → Line → JournalValue
with_line journal line = record journal { lines = journal.lines ++ line ∷ [] }

-- the journal after the view was published
abbrev pub with_view : JournalValue → ViewValue → JournalValue
with_view journal view = record (with_line journal (publish_line view.position)) { view = view }

-- the journal after so many first entries were given up: it has the same lines, and no more entries
-- are gone than that or than were before, and at most twice as many are there as were to stay
pub record Forgets (count : ℕ) (before after : JournalValue) : Type 0 where
  pub same : after ≡ record before { base = after.base }
  pub rises : before.base ≤ after.base
  pub bounded : after.base ≤ max before.base count
  pub few : length (entries before.lines) - after.base
      ≤ 2 * (length (entries before.lines) - count)
