-- What the definition of legal lines is meant to say, as laws.
use Rattle.std.specs.Prelude.{◌≡◌, ℕ, ◌≤◌, ◌==◌, ◌↔◌, List, [], ◌∷◌, ◌++◌, length, All}
use Rattle.std.specs.Prelude.{filter}
use Rattle.rpq_base.specs.declared.data.Entry.{Entry}
use Rattle.history_model.specs.declared.line.Why.{Why}
use Rattle.history_model.specs.declared.line.Call.{Call}
use Rattle.history_model.specs.declared.line.Line.{Line}
use Rattle.history_model.specs.Lines.{calls, lines_by, entries, published, IsStream, AllEnded}
use Rattle.history_model.specs.Lines.{IsShutFor, IsShut}
use Rattle.history_model.specs.Legal.{HasItsTuple, IsLegal}
use Rattle.history_model.specs.Follow.{MayFollow}
use Rattle.history_model.specs.Joined.{lines_of}

-- legality goes line by line: no lines are legal, and one line more is legal exactly where the
-- lines before it are and it may follow them
pub record LegalByLines : Type 0 where
  pub none : (streams cap : ℕ) → IsLegal streams cap []
  pub next : (streams cap : ℕ) (lines : List Line) (line : Line) →
      IsLegal streams cap (lines ++ line ∷ [])
      ↔ (IsLegal streams cap lines × MayFollow streams cap lines line)

-- what legal lines tell: each entry is of a stream, no more is published than appended, and a
-- history that is shut is so for one reason; a stream's own lines have its entries, in order, and
-- what the engine's own lines publish is what all do
pub record AreSound (streams : ℕ) (lines : List Line) : Type 0 where
  pub appended : All (λ entry. IsStream streams entry.stream) (entries lines)
  pub behind : published lines ≤ length (entries lines)
  pub reason : (why other : Why) → IsShutFor lines why → IsShutFor lines other → why ≡ other
  pub own_entries : (stream : ℕ) →
      entries (lines_by stream lines) ≡ filter (λ entry. entry.stream == stream) (entries lines)
  pub own_publishes : published (lines_by 0 lines) ≡ published lines

abbrev pub LegalIsSound : Type 0
LegalIsSound = (streams cap : ℕ) (lines : List Line) → IsLegal streams cap lines →
    AreSound streams lines

-- what lines that begin legal lines tell of all of them: they are legal, and what they publish
-- isn't taken back; where they are shut nothing more is appended or published, and where all
-- streams have ended nothing more is appended
pub record IsFront (streams cap : ℕ) (front lines : List Line) : Type 0 where
  pub legal : IsLegal streams cap front
  pub rises : published front ≤ published lines
  pub shut : IsShut front → (entries lines ≡ entries front) × (published lines ≡ published front)
  pub ended : AllEnded streams front → entries lines ≡ entries front

abbrev pub FrontsAreLegal : Type 0
FrontsAreLegal = (streams cap : ℕ) (front rest : List Line) → IsLegal streams cap (front ++ rest) →
    IsFront streams cap front (front ++ rest)

-- what holds for good once no one waits any more: where all streams have ended and all entries are
-- published, the position is the number of all entries ever, and nothing more is published; nor is
-- anything after a shut
pub record EndsWaits (streams : ℕ) (front lines : List Line) : Type 0 where
  pub whole : AllEnded streams front → published front ≡ length (entries front) →
      (published front ≡ length (entries lines)) × (published lines ≡ published front)
  pub shut : IsShut front → published lines ≡ published front

abbrev pub WaitsEnd : Type 0
WaitsEnd = (streams cap : ℕ) (front rest : List Line) → IsLegal streams cap (front ++ rest) →
    EndsWaits streams front (front ++ rest)

-- lines are told by their calls and their entries
pub record LinesAreJoined : Type 0 where
  pub whole : (lines : List Line) → All HasItsTuple lines →
      lines_of (calls lines) (entries lines) ≡ lines
  pub heads : (given : List Call) (told : List Entry) → calls (lines_of given told) ≡ given
