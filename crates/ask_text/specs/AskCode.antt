-- How the logic stores an ask, which no contract cites.
use Rattle.std.specs.Prelude.{◌≡◌, ℕ, Bool, true, false, List, ◌⊎◌, refl}
use Rattle.std.proofs.Common.{inl, inr}
use Rattle.std.specs.Coded.{Coded, code_by, coded×, coded⊎, coded_ℕ, coded_bool, coded_list}
use Rattle.ask_text.specs.declared.ask.Ask.{Ask}
use Rattle.ask_text.specs.declared.ask.Ask.TheVariants.{Answers, From, Pair, Count, Wait, Until}
use Rattle.ask_text.specs.declared.ask.Ask.TheVariants.{Stats, Clock, Ends, To}

-- a name
abbrev pub Text : Type 0
Text = List ℕ

-- the parts of an ask: of all pairs or of their number; of two vertices, whether or until; of one
-- vertex, its targets or they with their ends; of one vertex, its sources; a position; or of no
-- query, the numbers of pairs or the clock
abbrev pub Parts : Type 0
Parts =
    (Bool × ℕ) ⊎ ((Bool × (ℕ × (Text × Text)))
    ⊎ ((Bool × (ℕ × Text)) ⊎ ((ℕ × Text) ⊎ (ℕ ⊎ Bool))))

abbrev pub parts_of : Ask → Parts
parts_of (Answers query) = inl (true, query)
parts_of (Count query) = inl (false, query)
parts_of (Pair query from to) = inr (inl (true, (query, (from, to))))
parts_of (Until query from to) = inr (inl (false, (query, (from, to))))
parts_of (From query from) = inr (inr (inl (true, (query, from))))
parts_of (Ends query from) = inr (inr (inl (false, (query, from))))
parts_of (To query to) = inr (inr (inr (inl (query, to))))
parts_of (Wait number) = inr (inr (inr (inr (inl number))))
parts_of Stats = inr (inr (inr (inr (inr true))))
parts_of Clock = inr (inr (inr (inr (inr false))))

abbrev pub ask_of : Parts → Ask
ask_of (inl (true, query)) = Answers query
ask_of (inl (false, query)) = Count query
ask_of (inr (inl (true, (query, (from, to))))) = Pair query from to
ask_of (inr (inl (false, (query, (from, to))))) = Until query from to
ask_of (inr (inr (inl (true, (query, from))))) = From query from
ask_of (inr (inr (inl (false, (query, from))))) = Ends query from
ask_of (inr (inr (inr (inl (query, to))))) = To query to
ask_of (inr (inr (inr (inr (inl number))))) = Wait number
ask_of (inr (inr (inr (inr (inr true))))) = Stats
ask_of (inr (inr (inr (inr (inr false))))) = Clock

pub ask_of_parts : (ask : Ask) → ask_of (parts_of ask) ≡ ask
ask_of_parts (Answers query) = refl
ask_of_parts (Count query) = refl
ask_of_parts (Pair query from to) = refl
ask_of_parts (Until query from to) = refl
ask_of_parts (From query from) = refl
ask_of_parts (Ends query from) = refl
ask_of_parts (To query to) = refl
ask_of_parts (Wait number) = refl
ask_of_parts Stats = refl
ask_of_parts Clock = refl

abbrev pub text_code : Coded Text
text_code = coded_list coded_ℕ

abbrev pub ask_code : Coded Ask
ask_code =
    code_by Parts
    (coded⊎ (coded× coded_bool coded_ℕ)
    (coded⊎ (coded× coded_bool (coded× coded_ℕ (coded× text_code text_code)))
    (coded⊎ (coded× coded_bool (coded× coded_ℕ text_code))
    (coded⊎ (coded× coded_ℕ text_code) (coded⊎ coded_ℕ coded_bool)))))
    parts_of ask_of ask_of_parts
