-- A small history, and what is saved of it.
use Rattle.std.specs.Prelude.{◌≡◌, ℕ, false, List, [], ◌∷◌, ◌++◌, Some, None, codes}
use Rattle.text_parts.specs.Lines.{line_feed}
use Rattle.rpq_base.specs.TupleValue.{TupleValue}
use Rattle.rpq_base.specs.declared.data.Edge.{Edge}
use Rattle.rpq_base.specs.declared.data.Act.{Act}
use Rattle.rpq_base.specs.declared.data.Act.TheVariants.{Insert, Delete, Tick}
use Rattle.rpq_base.specs.declared.data.Entry.{Entry}
use Rattle.rpq_model.specs.Query.{Query}
use Rattle.saved_window.specs.Saved.{saved, first_stream}
use Rattle.saved_window.specs.SavedText.{saved_text}

-- an edge with the label "r"
abbrev pub edge : List ℕ → List ℕ → Edge
edge from to = record { from = from; label = record { name = codes "r"; back = false }; to = to }

-- a tuple, and an entry of the second stream with it
abbrev pub at : ℕ → Act → TupleValue
at time act = record { time = time; act = act }

abbrev pub entry : TupleValue → Entry
entry tuple = record { stream = 2; tuple = tuple }

-- an edge of time 3, one of time 12 that is deleted, one of time 14 with an end of its own that the
-- clock passes, one of time 13 with an end that it doesn't, and the clock moves to 20
abbrev pub some_history : List Entry
some_history =
    entry (at 3 (Insert (edge (codes "a") (codes "b")) None))
    ∷ entry (at 12 (Insert (edge (codes "b") (codes "c")) None))
    ∷ entry (at 14 (Insert (edge (codes "c") (codes "d")) (Some 20)))
    ∷ entry (at 13 (Insert (edge (codes "d") (codes "e")) (Some 30)))
    ∷ entry (at 15 (Delete (edge (codes "b") (codes "c"))))
    ∷ entry (at 20 Tick) ∷ []

-- one edge, and no later time
abbrev pub one_insert : TupleValue
one_insert = at 7 (Insert (edge (codes "a") (codes "b")) None)

-- the one edge that is still seen, with its end, and the clock
abbrev pub some_saved : List TupleValue
some_saved = at 13 (Insert (edge (codes "d") (codes "e")) (Some 30)) ∷ at 20 Tick ∷ []

-- two entries more: another edge, and the end of the one that was still seen
abbrev pub two_more : List Entry
two_more =
    entry (at 21 (Insert (edge (codes "e") (codes "f")) None))
    ∷ entry (at 22 (Delete (edge (codes "d") (codes "e")))) ∷ []

-- the other edge, and the clock
abbrev pub saved_then : List TupleValue
saved_then = at 21 (Insert (edge (codes "e") (codes "f")) None) ∷ at 22 Tick ∷ []

-- what is saved for a query whose window has size 10 and slide 5, and the text of it; for no query
-- the clock alone is saved; where a saved tuple has the time of the clock, no tick is; of no entry
-- nothing; and with two entries more behind the history, or behind what was saved of it, the same
pub record IsSavedSo (query : Query) : Type 0 where
  pub tuples : saved (query ∷ []) some_history ≡ some_saved
  pub text : saved_text some_saved
      ≡ codes "13 d r e + until 30" ++ line_feed ∷ codes "20" ++ line_feed ∷ []
  pub no_query : saved [] some_history ≡ at 20 Tick ∷ []
  pub no_tick : saved (query ∷ []) (entry one_insert ∷ []) ≡ one_insert ∷ []
  pub no_entry : saved (query ∷ []) [] ≡ []
  pub more : saved (query ∷ []) (some_history ++ two_more) ≡ saved_then
  pub saved_more : saved (query ∷ []) (first_stream some_saved ++ two_more) ≡ saved_then

abbrev pub SavedExample : Type 0
SavedExample =
    (query : Query) → query.window ≡ record { size = 10; slide = 5 } → IsSavedSo query
