-- The files of a run that are read whole: what they hold, and what can be wrong with them.
use Rattle.std.specs.Prelude.{◌≡◌, ◌≢◌, ℕ, ◌<◌, ◌≤◌, Bool, List, [], ◌∷◌, length, map, Option, Some}
use Rattle.std.specs.Prelude.{option_map, unwrap_or, IfSome, MatchOption, Ok, Err}
use Rattle.std.specs.Io.KnownBytes.{prepend_known}
use Rattle.rpq_model.specs.Query.{Query}
use Rattle.query_file.specs.declared.fault.QueryFault.{QueryFault}
use Rattle.query_file.specs.declared.fault.QueryKind.TheVariants.{Memory}
use Rattle.query_file.specs.Queries.{QueriesOf}
use Rattle.join_file.specs.declared.fault.JoinFileFault.{JoinFileFault}
use Rattle.join_file.specs.declared.fault.JoinFileFaultKind.TheVariants.{Memory as MemoryOfJoins}
use Rattle.join_file.specs.Joins.{JoinValue}
use Rattle.join_file.specs.JoinsFile.{joins}
use Rattle.ask_text.specs.declared.ask.Ask.{Ask}
use Rattle.ask_text.specs.declared.fault.AskFault.{AskFault}
use Rattle.ask_text.specs.declared.fault.AskKind.TheVariants.{Memory as MemoryOfAsks}
use Rattle.ask_text.specs.Asks.{asks}
use Rattle.rpq_words.specs.declared.settings.Settings.{Settings}
use Rattle.rpq_words.specs.Views.{asks_of, from_of, joins_of, streams_of, two_way_of}
use Rattle.saved_window.specs.Then.{join_known}
use Rattle.rpq_text.specs.Limits.{file_limit}

-- a queries file has these bytes, which are not too many, and these queries, which may take edges
-- backwards where the first value is `true`
abbrev pub HasQueries : Bool → List ℕ → List Query → Type 0
HasQueries two_way bytes queries =
    (length bytes < file_limit) × QueriesOf two_way bytes (Ok queries)

-- a queries file has these bytes, which are not too many, and this fault
abbrev pub HasFault : Bool → List ℕ → QueryFault → Type 0
HasFault two_way bytes fault =
    (length bytes < file_limit) × QueriesOf two_way bytes (Err fault)

-- the bytes of a queries file, where they are told, give queries, and this holds of them
abbrev pub ForQueries : Bool → Option (List ℕ) → (List Query → Type 0) → Type 0
ForQueries two_way file P =
    IfSome file (λ bytes. (queries : List Query) × HasQueries two_way bytes queries × P queries)

-- the bytes of a queries file, where they are told, give queries
abbrev pub IsQueriesFile : Bool → Option (List ℕ) → Type 0
IsQueriesFile two_way file =
    IfSome file (λ bytes. (queries : List Query) × HasQueries two_way bytes queries)

-- the bytes of a queries file, where they are told, have this fault, which isn't out of memory
abbrev pub IsFaultyFile : Bool → Option (List ℕ) → QueryFault → Type 0
IsFaultyFile two_way file fault =
    (fault.kind ≢ Memory) × IfSome file (λ bytes. HasFault two_way bytes fault)

-- a joins file over these queries has these bytes, which are not too many, and these joins
abbrev pub HasJoins : List Query → List ℕ → List JoinValue → Type 0
HasJoins queries bytes found = (length bytes < file_limit) × (joins queries bytes ≡ Ok found)

-- a joins file over these queries has these bytes, which are not too many, and this fault
abbrev pub HasJoinsFault : List Query → List ℕ → JoinFileFault → Type 0
HasJoinsFault queries bytes fault =
    (length bytes < file_limit) × (joins queries bytes ≡ Err fault)

-- the joins of a run over these queries, where the bytes of the joins file are told, and this holds
-- of them; where no joins file is named there is none
abbrev pub ForJoins : Settings → (List ℕ → Option (List ℕ)) → List Query
    → (List JoinValue → Type 0) → Type 0
ForJoins given holds queries P = MatchOption (joins_of given) (P []) (λ name. IfSome (holds name)
    (λ bytes. (found : List JoinValue) × HasJoins queries bytes found × P found))

-- what is evaluated in a run: its queries and the joins over them, where the bytes of their files
-- are told, and this holds of them
abbrev pub ForJoined : Settings → (List ℕ → Option (List ℕ))
    → (List Query → List JoinValue → Type 0) → Type 0
ForJoined given holds P = ForQueries (two_way_of given) (holds given.queries)
    (λ queries. ForJoins given holds queries (P queries))

-- an asks file about these queries has these bytes, which are not too many, and these sessions
abbrev pub HasSessions : List Query → List ℕ → List (List Ask) → Type 0
HasSessions queries bytes sessions =
    (length bytes < file_limit) × (asks queries bytes ≡ Ok sessions)

-- an asks file about these queries has these bytes, which are not too many, and this fault
abbrev pub HasAskFault : List Query → List ℕ → AskFault → Type 0
HasAskFault queries bytes fault = (length bytes < file_limit) × (asks queries bytes ≡ Err fault)

-- the sessions of a run about these queries, where the bytes of the asks file are told, and this
-- holds of them; where no asks file is named there is none
abbrev pub ForSessions : Settings → (List ℕ → Option (List ℕ)) → List Query
    → (List (List Ask) → Type 0) → Type 0
ForSessions given holds queries P = MatchOption (asks_of given) (P []) (λ name. IfSome (holds name)
    (λ bytes. (sessions : List (List Ask)) × HasSessions queries bytes sessions × P sessions))

-- what is asked in a run: its queries and its sessions, where the bytes of their files are told,
-- and this holds of them
abbrev pub ForAsked : Settings → (List ℕ → Option (List ℕ))
    → (List Query → List (List Ask) → Type 0) → Type 0
ForAsked given holds P = ForQueries (two_way_of given) (holds given.queries)
    (λ queries. ForSessions given holds queries (P queries))

-- what is read of the saved window with which a run begins: no byte where none is named
abbrev pub from_content : Settings → (List ℕ → Option (List ℕ)) → Option (List ℕ)
from_content given holds = unwrap_or (option_map holds (from_of given)) (Some [])

-- what is read as each stream: what its file holds, and as the first stream before that what the
-- saved window holds
abbrev pub with_first : Option (List ℕ) → List (Option (List ℕ)) → List (Option (List ℕ))
with_first first [] = []
with_first first (file ∷ files) = join_known first file ∷ files

abbrev pub stream_contents : Settings → (List ℕ → Option (List ℕ)) → List (Option (List ℕ))
stream_contents given holds = with_first (from_content given holds) (map holds (streams_of given))

-- the queries file has no fault, nor has the joins file, if there is one
abbrev pub AreUnderstoodJoins : Settings → (List ℕ → Option (List ℕ)) → Type 0
AreUnderstoodJoins given holds = ForJoined given holds (λ queries found. Unit {0})

-- the files that are read whole have no fault
pub record AreUnderstoodFiles (given : Settings) (holds : List ℕ → Option (List ℕ)) : Type 0 where
  pub joins : AreUnderstoodJoins given holds
  pub asks : ForAsked given holds (λ queries sessions. Unit {0})

-- the bytes of a joins file, where they are told, have this fault, which isn't out of memory, over
-- the queries of the queries file, where its bytes are told
abbrev pub AreFaultyJoins : Bool → Option (List ℕ) → Option (List ℕ) → JoinFileFault → Type 0
AreFaultyJoins two_way queries_file file fault = (fault.kind ≢ MemoryOfJoins)
    × ForQueries two_way queries_file
    (λ queries. IfSome file (λ bytes. HasJoinsFault queries bytes fault))

-- the bytes of an asks file, where they are told, have this fault, which isn't out of memory, about
-- the queries of the queries file, where its bytes are told
abbrev pub AreFaultyAsks : Bool → Option (List ℕ) → Option (List ℕ) → AskFault → Type 0
AreFaultyAsks two_way queries_file file fault = (fault.kind ≢ MemoryOfAsks)
    × ForQueries two_way queries_file
    (λ queries. IfSome file (λ bytes. HasAskFault queries bytes fault))

-- the bytes of a file, where they are told, are too many
abbrev pub IsTooLong : Option (List ℕ) → Type 0
IsTooLong file = IfSome file (λ bytes. file_limit ≤ length bytes)

-- of a file some bytes were taken, and these are left
abbrev pub IsRestOf : Option (List ℕ) → Option (List ℕ) → Type 0
IsRestOf file left = (bytes : List ℕ) × (file ≡ prepend_known bytes left)

-- a queries file that isn't too long and has no fault
pub record IsFaultless (two_way : Bool) (bytes : List ℕ) : Type 0 where
  pub short : length bytes < file_limit
  pub no_fault : (fault : QueryFault) → QueriesOf two_way bytes (Err fault) → ⊥

-- a joins file that isn't too long and has no fault over the queries of this queries file, whose
-- bytes are told
pub record AreFaultlessJoins (two_way : Bool) (queries_file : Option (List ℕ)) (bytes : List ℕ)
    : Type 0 where
  pub short : length bytes < file_limit
  pub no_fault : (fault : JoinFileFault)
      → ForQueries two_way queries_file (λ queries. joins queries bytes ≡ Err fault) → ⊥

-- an asks file that isn't too long and has no fault about the queries of this queries file, whose
-- bytes are told
pub record AreFaultlessAsks (two_way : Bool) (queries_file : Option (List ℕ)) (bytes : List ℕ)
    : Type 0 where
  pub short : length bytes < file_limit
  pub no_fault : (fault : AskFault)
      → ForQueries two_way queries_file (λ queries. asks queries bytes ≡ Err fault) → ⊥
