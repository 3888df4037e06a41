-- Some asks files with what they give, and some replies.
use Rattle.std.specs.Prelude.{◌≡◌, ℕ, ◌<◌, false, true, List, [], ◌∷◌, ◌++◌, codes, Ok, Err}
use Rattle.rpq_model.specs.Query.{Query}
use Rattle.answer_view.specs.View.{ViewValue}
use Rattle.ask_text.specs.declared.ask.Ask.{Ask}
use Rattle.ask_text.specs.declared.ask.Ask.TheVariants.{Answers, From, Pair, Count, Wait, Until}
use Rattle.ask_text.specs.declared.ask.Ask.TheVariants.{Stats, Clock, Ends, To}
use Rattle.ask_text.specs.declared.fault.AskKind.TheVariants.{Shape, UnknownQuery, BadName, Number}
use Rattle.ask_text.specs.Asks.{asks, fault_at}
use Rattle.ask_text.specs.Ranges.{ended_at}
use Rattle.ask_text.specs.Replies.{replies}
use Rattle.ask_text.specs.Reply.{reply}

-- files over one query of the name q
pub record AskExamples : Type 0 where
  pub empty : asks [] (codes "\n# no session\n") ≡ Ok []
  pub no_asks : asks [] (codes "session\n session \n") ≡ Ok ([] ∷ [] ∷ [])
  pub all_six : (query : Query) → query.name ≡ codes "q" →
      asks (query ∷ [])
      (codes "session\nwait 2\nanswers q\nfrom q x\npair q x z\ncount q\nuntil q z x\n")
      ≡ Ok ((Wait 2 ∷ Answers 0 ∷ From 0 (codes "x") ∷ Pair 0 (codes "x") (codes "z") ∷ Count 0
      ∷ Until 0 (codes "z") (codes "x") ∷ []) ∷ [])
  pub other_four : (query : Query) → query.name ≡ codes "q" →
      asks (query ∷ []) (codes "session\nstats\nclock\nends q x\nto q z\n")
      ≡ Ok ((Stats ∷ Clock ∷ Ends 0 (codes "x") ∷ To 0 (codes "z") ∷ []) ∷ [])
  pub blanks : (query : Query) → query.name ≡ codes "q" →
      asks (query ∷ []) (codes "# one\n\nsession\r\n\tfrom  q\ty ")
      ≡ Ok ((From 0 (codes "y") ∷ []) ∷ [])
  pub before : (queries : List Query) →
      asks queries (codes "answers q") ≡ Err (fault_at 1 Shape)
  pub unknown : (query : Query) → query.name ≡ codes "q" →
      asks (query ∷ []) (codes "session\ncount zz") ≡ Err (fault_at 2 UnknownQuery)
  pub counted : (queries : List Query) →
      asks queries (codes "# one\n\nsession\ncount q x") ≡ Err (fault_at 4 Shape)
  pub lone : (queries : List Query) → asks queries (codes "session\nclock q") ≡ Err (fault_at 2 Shape)
  pub no_source : (query : Query) → query.name ≡ codes "q" →
      asks (query ∷ []) (codes "session\nto q " ++ 127 ∷ []) ≡ Err (fault_at 2 BadName)
  pub no_name : (query : Query) → query.name ≡ codes "q" →
      asks (query ∷ []) (codes "session\nuntil q x " ++ 127 ∷ []) ≡ Err (fault_at 2 BadName)
  pub first_fault : (query : Query) → query.name ≡ codes "q" →
      asks (query ∷ []) (codes "session\nfrom zz " ++ 127 ∷ []) ≡ Err (fault_at 2 UnknownQuery)
  pub beyond : (queries : List Query) →
      asks queries (codes "session\nwait 4611686018427387904") ≡ Err (fault_at 2 Number)

-- the replies of the view at position 2 and clock 2 whose one query has the pair of x and z, until
-- 110
abbrev pub one_pair : ViewValue
one_pair = record {
  position = 2;
  clock = 2;
  rows = (record { from = codes "x"; to = codes "z"; until = 110 } ∷ []) ∷ [];
}

-- the view at position 0 whose one query has no pair
abbrev pub no_pairs : ViewValue
no_pairs = record { position = 0; clock = 0; rows = [] ∷ [] }

pub record ReplyExamples : Type 0 where
  pub answers : (query : Query) → query.name ≡ codes "q" →
      reply (query ∷ []) one_pair (Answers 0) false ≡ codes "@2 answers q 1\nx z\n"
  pub from : (query : Query) → query.name ≡ codes "q" →
      reply (query ∷ []) one_pair (From 0 (codes "x")) false ≡ codes "@2 from q x 1\nz\n"
  pub no_row : (query : Query) → query.name ≡ codes "q" →
      reply (query ∷ []) one_pair (From 0 (codes "z")) false ≡ codes "@2 from q z 0\n"
  pub pair : (query : Query) → query.name ≡ codes "q" →
      reply (query ∷ []) one_pair (Pair 0 (codes "x") (codes "z")) false
      ≡ codes "@2 pair q x z yes\n"
  pub no_pair : (query : Query) → query.name ≡ codes "q" →
      reply (query ∷ []) one_pair (Pair 0 (codes "z") (codes "x")) false
      ≡ codes "@2 pair q z x no\n"
  pub count : (query : Query) → query.name ≡ codes "q" →
      reply (query ∷ []) one_pair (Count 0) false ≡ codes "@2 count q 1\n"
  pub count_none : (query : Query) → query.name ≡ codes "q" →
      reply (query ∷ []) no_pairs (Count 0) false ≡ codes "@0 count q 0\n"
  pub until : (query : Query) → query.name ≡ codes "q" →
      reply (query ∷ []) one_pair (Until 0 (codes "x") (codes "z")) false
      ≡ codes "@2 until q x z 110\n"
  pub none : (query : Query) → query.name ≡ codes "q" →
      reply (query ∷ []) one_pair (Until 0 (codes "z") (codes "x")) false
      ≡ codes "@2 until q z x none\n"
  pub stats : (query : Query) → query.name ≡ codes "q" →
      reply (query ∷ []) one_pair Stats false ≡ codes "@2 stats 1\nq 1\n"
  pub clock : (queries : List Query) →
      reply queries one_pair Clock false ≡ codes "@2 clock 2\n"
  pub no_clock : (queries : List Query) →
      reply queries no_pairs Clock false ≡ codes "@0 clock 0\n"
  pub ends : (query : Query) → query.name ≡ codes "q" →
      reply (query ∷ []) one_pair (Ends 0 (codes "x")) false ≡ codes "@2 ends q x 1\nz 110\n"
  pub no_ends : (query : Query) → query.name ≡ codes "q" →
      reply (query ∷ []) one_pair (Ends 0 (codes "z")) false ≡ codes "@2 ends q z 0\n"
  pub to : (query : Query) → query.name ≡ codes "q" →
      reply (query ∷ []) one_pair (To 0 (codes "z")) false ≡ codes "@2 to q z 1\nx\n"
  pub no_source : (query : Query) → query.name ≡ codes "q" →
      reply (query ∷ []) one_pair (To 0 (codes "x")) false ≡ codes "@2 to q x 0\n"
  pub wait : (queries : List Query) →
      reply queries one_pair (Wait 2) false ≡ codes "@2 wait 2\n"
  pub ended : (queries : List Query) →
      reply queries one_pair (Wait 3) true ≡ codes "@2 wait 3 ended\n"
  pub sessions : replies ([] ∷ (codes "@0 count q 0\n" ∷ codes "@0 wait 0\n" ∷ []) ∷ [])
      ≡ codes "session 1\nsession 2\n@0 count q 0\n@0 wait 0\n"

-- the last reply of a run at the view of one pair, whose position is 2
abbrev pub last_reply : List Query → Ask → List ℕ
last_reply queries ask = reply queries one_pair ask (ended_at ask 2)

-- a wait is told as ended where its position didn't come; where it did, it isn't; and no other ask
-- is
pub record EndedExamples : Type 0 where
  pub beyond : (queries : List Query) →
      last_reply queries (Wait 3) ≡ codes "@2 wait 3 ended\n"
  pub there : (queries : List Query) → last_reply queries (Wait 2) ≡ codes "@2 wait 2\n"
  pub before : (queries : List Query) → last_reply queries (Wait 1) ≡ codes "@2 wait 1\n"
  pub others : (ask : Ask) (position : ℕ) → ended_at ask position ≡ true →
      (number : ℕ) × (ask ≡ Wait number) × (position < number)
