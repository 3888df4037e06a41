-- Two paths of which the one that lasts longer shows an answer.
use Rattle.std.specs.Prelude.{◌≡◌, ℕ, false, List, [], ◌∷◌, None, codes}
use Rattle.rpq_base.specs.declared.data.Label.{Label}
use Rattle.rpq_base.specs.declared.data.Act.TheVariants.{Insert}
use Rattle.rpq_base.specs.declared.data.Entry.{Entry}
use Rattle.rpq_base.specs.declared.data.Pair.{Pair}
use Rattle.rpq_model.specs.declared.mode.Mode.TheVariants.{Arbitrary}
use Rattle.rpq_model.specs.Query.{Query, language_of}
use Rattle.path_witness.specs.Shows.{Shown, Shows}

-- a label that points forwards
abbrev pub label : List ℕ → Label
label name = record { name = name; back = false }

-- an insert of the first stream
abbrev pub insert : ℕ → List ℕ → List ℕ → List ℕ → Entry
insert time from name to = record {
  stream = 1;
  tuple = record {
    time = time;
    act = Insert (record { from = from; label = label name; to = to }) None;
  };
}

-- two ways from x to u, of which the second came later, and one from there to z
abbrev pub some_history : List Entry
some_history =
    insert 1 (codes "x") (codes "a") (codes "y")
    ∷ insert 6 (codes "x") (codes "a") (codes "w")
    ∷ insert 7 (codes "y") (codes "b") (codes "u")
    ∷ insert 8 (codes "w") (codes "b") (codes "u")
    ∷ insert 9 (codes "u") (codes "c") (codes "z")
    ∷ []

abbrev pub some_pair : Pair
some_pair = record { from = codes "x"; to = codes "z" }

abbrev pub some_word : List Label
some_word = label (codes "a") ∷ label (codes "b") ∷ label (codes "c") ∷ []

-- by the later way, whose least deadline is 20
abbrev pub by_later_way : Shown
by_later_way = record { until = 20; positions = 2 ∷ 4 ∷ 5 ∷ [] }

-- by the earlier way, whose least deadline is 15
abbrev pub by_earlier_way : Shown
by_earlier_way = record { until = 15; positions = 1 ∷ 3 ∷ 5 ∷ [] }

-- the later way shows the answer, and the earlier one, which is a path as well, doesn't
pub record IsShownSo (query : Query) : Type 0 where
  pub later : Shows query some_history some_pair by_later_way
  pub earlier : Shows query some_history some_pair by_earlier_way → ⊥

-- for each query that takes all paths, has the word in its language, and whose window has size 10
-- and slide 5
abbrev pub ShownExample : Type 0
ShownExample = (query : Query) → query.window ≡ record { size = 10; slide = 5 } →
    query.mode ≡ Arbitrary → language_of query some_word → IsShownSo query
