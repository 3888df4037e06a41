-- What the lines of an asks file give, by their parts: which fields are an ask, and which faults
-- they have.
use Rattle.std.specs.Prelude.{◌≡◌, ◌≢◌, ℕ, ◌≤◌, ◌<◌, ◌⊎◌, ◌↔◌, List, [], ◌∷◌, ◌++◌, length, map}
use Rattle.std.specs.Prelude.{codes}
use Rattle.std.specs.Prelude.{Some, None, Ok, Err, Contains, slice_get}
use Rattle.text_parts.specs.Numbers.{IsDigitText, number_of}
use Rattle.rpq_base.specs.Names.{IsName}
use Rattle.rpq_base.specs.declared.data.TheConstants.{MAX_TIME}
use Rattle.rpq_model.specs.Query.{Query}
use Rattle.ask_text.specs.declared.ask.Ask.{Ask}
use Rattle.ask_text.specs.declared.ask.Ask.TheVariants.{Answers, From, Pair, Count, Wait, Until}
use Rattle.ask_text.specs.declared.ask.Ask.TheVariants.{Stats, Clock, Ends, To}
use Rattle.ask_text.specs.declared.fault.AskKind.{AskKind}
use Rattle.ask_text.specs.declared.fault.AskKind.TheVariants.{Shape, UnknownQuery, BadName, Number}
use Rattle.ask_text.specs.declared.fault.AskKind.TheVariants.{TooMany, Memory}
use Rattle.ask_text.specs.Asks.{Sessions, all, after_fields}

-- the names of the queries
abbrev pub names : List Query → List (List ℕ)
names queries = map (λ query. query.name) queries

-- the query of this number, from 0, has the name, and none before it has
pub record IsFirstNamed (queries : List Query) (number : ℕ) (name : List ℕ) : Type 0 where
  pub has : slice_get (names queries) number ≡ Some name
  pub first : (other : ℕ) → other < number → slice_get (names queries) other ≢ Some name

-- a field that writes a position
pub record IsPositionText (number : ℕ) (text : List ℕ) : Type 0 where
  pub digits : IsDigitText text
  pub value : number_of text ≡ number
  pub range : number ≤ MAX_TIME

-- the fields of an ask: its word, the name of its query, and its vertices; or the position; or its
-- word alone
abbrev pub IsAskOf : List Query → Ask → List (List ℕ) → Type 0
IsAskOf queries (Answers query) fields =
    (name : List ℕ) × (fields ≡ codes "answers" ∷ name ∷ []) × IsFirstNamed queries query name
IsAskOf queries (From query from) fields =
    (name : List ℕ) × (fields ≡ codes "from" ∷ name ∷ from ∷ [])
    × IsFirstNamed queries query name × IsName from
IsAskOf queries (Pair query from to) fields =
    (name : List ℕ) × (fields ≡ codes "pair" ∷ name ∷ from ∷ to ∷ [])
    × IsFirstNamed queries query name × IsName from × IsName to
IsAskOf queries (Count query) fields =
    (name : List ℕ) × (fields ≡ codes "count" ∷ name ∷ []) × IsFirstNamed queries query name
IsAskOf queries (Wait number) fields =
    (text : List ℕ) × (fields ≡ codes "wait" ∷ text ∷ []) × IsPositionText number text
IsAskOf queries (Until query from to) fields =
    (name : List ℕ) × (fields ≡ codes "until" ∷ name ∷ from ∷ to ∷ [])
    × IsFirstNamed queries query name × IsName from × IsName to
IsAskOf queries Stats fields = fields ≡ codes "stats" ∷ []
IsAskOf queries Clock fields = fields ≡ codes "clock" ∷ []
IsAskOf queries (Ends query from) fields =
    (name : List ℕ) × (fields ≡ codes "ends" ∷ name ∷ from ∷ [])
    × IsFirstNamed queries query name × IsName from
IsAskOf queries (To query to) fields =
    (name : List ℕ) × (fields ≡ codes "to" ∷ name ∷ to ∷ [])
    × IsFirstNamed queries query name × IsName to

-- the fields of the line that begins a session
abbrev pub session_fields : List (List ℕ)
session_fields = codes "session" ∷ []

-- the word of an ask about no query, of one about the answers of a query as a whole, of one about a
-- vertex, and of one about a pair
abbrev pub IsLoneWord : List ℕ → Type 0
IsLoneWord word = (word ≡ codes "stats") ⊎ (word ≡ codes "clock")

abbrev pub IsQueryWord : List ℕ → Type 0
IsQueryWord word = (word ≡ codes "answers") ⊎ (word ≡ codes "count")

abbrev pub IsVertexWord : List ℕ → Type 0
IsVertexWord word = (word ≡ codes "from") ⊎ ((word ≡ codes "ends") ⊎ (word ≡ codes "to"))

abbrev pub IsPairWord : List ℕ → Type 0
IsPairWord word = (word ≡ codes "pair") ⊎ (word ≡ codes "until")

-- the fields have the word and the number of fields of an ask
abbrev pub IsForm : List (List ℕ) → Type 0
IsForm (word ∷ []) = IsLoneWord word
IsForm (word ∷ name ∷ []) = IsQueryWord word ⊎ (word ≡ codes "wait")
IsForm (word ∷ name ∷ vertex ∷ []) = IsVertexWord word
IsForm (word ∷ name ∷ from ∷ to ∷ []) = IsPairWord word
IsForm others = ⊥

-- this field should be the name of a query
abbrev pub HasQuery : List (List ℕ) → List ℕ → Type 0
HasQuery (word ∷ name ∷ []) field = IsQueryWord word × (field ≡ name)
HasQuery (word ∷ name ∷ vertex ∷ []) field = IsVertexWord word × (field ≡ name)
HasQuery (word ∷ name ∷ from ∷ to ∷ []) field = IsPairWord word × (field ≡ name)
HasQuery others field = ⊥

-- this field should be a vertex
abbrev pub HasVertex : List (List ℕ) → List ℕ → Type 0
HasVertex (word ∷ name ∷ vertex ∷ []) field = IsVertexWord word × (field ≡ vertex)
HasVertex (word ∷ name ∷ from ∷ to ∷ []) field =
    IsPairWord word × ((field ≡ from) ⊎ (field ≡ to))
HasVertex others field = ⊥

-- this field should be a position
abbrev pub HasPosition : List (List ℕ) → List ℕ → Type 0
HasPosition (word ∷ text ∷ []) field = (word ≡ codes "wait") × (field ≡ text)
HasPosition others field = ⊥

-- the fields of an ask have the fault of this kind, whichever others they have
abbrev pub HasAskFault : List Query → List (List ℕ) → AskKind → Type 0
HasAskFault queries fields Shape = IsForm fields → ⊥
HasAskFault queries fields UnknownQuery =
    (name : List ℕ) × HasQuery fields name × (Contains (names queries) name → ⊥)
HasAskFault queries fields BadName =
    (vertex : List ℕ) × HasVertex fields vertex × (IsName vertex → ⊥)
HasAskFault queries fields Number =
    (text : List ℕ) × HasPosition fields text × ((number : ℕ) → IsPositionText number text → ⊥)
HasAskFault queries fields TooMany = ⊥
HasAskFault queries fields Memory = ⊥

-- the fields of a line behind these sessions have the fault of this kind, whichever others they
-- have: those of `session` where 64 stand before; others where none stands before, where they are
-- no ask, and where 1,024 asks of the session stand before
abbrev pub HasFault : List Query → Sessions → List (List ℕ) → AskKind → Type 0
HasFault queries sessions fields TooMany =
    ((fields ≡ session_fields) × (64 ≤ length (all sessions)))
    ⊎ ((fields ≢ session_fields)
    × ((asks : List Ask) × (sessions.current ≡ Some asks) × (1024 ≤ length asks)))
HasFault queries sessions fields Shape =
    (fields ≢ session_fields)
    × ((sessions.current ≡ None) ⊎ HasAskFault queries fields Shape)
HasFault queries sessions fields UnknownQuery = HasAskFault queries fields UnknownQuery
HasFault queries sessions fields BadName = HasAskFault queries fields BadName
HasFault queries sessions fields Number = HasAskFault queries fields Number
HasFault queries sessions fields Memory = ⊥

-- the number of the kind: of the faults of a line the one of the least number is told
abbrev pub number_of_kind : AskKind → ℕ
number_of_kind Shape = 1
number_of_kind UnknownQuery = 2
number_of_kind BadName = 3
number_of_kind Number = 4
number_of_kind TooMany = 5
number_of_kind Memory = 6

-- the fields have the fault, and none of a lesser number
pub record IsFirstFault (queries : List Query) (sessions : Sessions) (fields : List (List ℕ))
    (kind : AskKind) : Type 0 where
  pub has : HasFault queries sessions fields kind
  pub least : (other : AskKind) → HasFault queries sessions fields other →
      number_of_kind kind ≤ number_of_kind other

-- the fields begin a session, or are an ask of the session that goes on; and there is room for it
abbrev pub IsAfter : List Query → Sessions → List (List ℕ) → Sessions → Type 0
IsAfter queries sessions fields next =
    ((fields ≡ session_fields) × (length (all sessions) < 64)
    × (next ≡ record { over = all sessions; current = Some [] }))
    ⊎ ((ask : Ask) × (asks : List Ask) × IsAskOf queries ask fields
    × (sessions.current ≡ Some asks) × (length asks < 1024)
    × (next ≡ record { over = sessions.over; current = Some (asks ++ ask ∷ []) }))

-- what a line with these fields gives behind these sessions
pub record IsReadByParts (queries : List Query) (sessions : Sessions) (fields : List (List ℕ))
    : Type 0 where
  pub good : (next : Sessions) → after_fields queries sessions fields ≡ Ok next →
      IsAfter queries sessions fields next
  pub fault : (kind : AskKind) → (after_fields queries sessions fields ≡ Err kind)
      ↔ IsFirstFault queries sessions fields kind

abbrev pub LineByParts : Type 0
LineByParts = (queries : List Query) (sessions : Sessions) (fields : List (List ℕ)) →
    IsReadByParts queries sessions fields
