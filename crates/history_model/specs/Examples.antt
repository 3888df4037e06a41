-- Some lines, what they say, and which lists of them are legal.
use Rattle.std.specs.Prelude.{◌≡◌, ℕ, List, [], ◌∷◌, Option, Some, None, take}
use Rattle.rpq_base.specs.declared.data.Tuple.{Tuple}
use Rattle.rpq_base.specs.declared.data.Act.TheVariants.{Tick}
use Rattle.history_model.specs.declared.line.Why.TheVariants.{Write, Memory}
use Rattle.history_model.specs.declared.line.CallAct.{CallAct}
use Rattle.history_model.specs.declared.line.CallAct.TheVariants.{Append, EndStream, Publish, Shut}
use Rattle.history_model.specs.declared.line.Line.{Line}
use Rattle.history_model.specs.Lines.{append_line, end_line, publish_line, shut_line, entries}
use Rattle.history_model.specs.Lines.{lines_by, published, HasEnded, AllEnded, IsShutFor, IsShut}
use Rattle.history_model.specs.Legal.{IsLegal}

-- a tuple of this time
abbrev pub tick : ℕ → Tuple
tick time = record { time = time; act = Tick }

-- the lines of two streams that append a tuple each and end, the second after a shut
abbrev pub some_lines : List Line
some_lines =
    append_line 1 (tick 8) ∷ publish_line 1 ∷ end_line 1 ∷ append_line 2 (tick 7)
    ∷ publish_line 2 ∷ shut_line Write ∷ end_line 2 ∷ []

-- what these lines say, and what the first of them say
pub record LineExamples : Type 0 where
  pub both : entries some_lines
      ≡ record { stream = 1; tuple = tick 8 } ∷ record { stream = 2; tuple = tick 7 } ∷ []
  pub own : lines_by 1 some_lines ≡ append_line 1 (tick 8) ∷ end_line 1 ∷ []
  pub last : published some_lines ≡ 2
  pub first : published (take 4 some_lines) ≡ 1
  pub none : published (take 1 some_lines) ≡ 0
  pub ended : AllEnded 2 some_lines
  pub one_ended : HasEnded (take 6 some_lines) 1
  pub one_open : HasEnded (take 6 some_lines) 2 → ⊥
  pub shut : IsShutFor some_lines Write
  pub other_reason : IsShutFor some_lines Memory → ⊥
  pub not_shut : IsShut (take 5 some_lines) → ⊥

-- a line of any kind
abbrev pub any_line : ℕ → CallAct → Option Tuple → Line
any_line by act tuple = record { call = record { by = by; act = act }; tuple = tuple }

-- an append at a time that doesn't matter
abbrev pub some_append : ℕ → Line
some_append stream = append_line stream (tick 9)

-- these lines are legal where there are two streams and two entries are taken; and others aren't
pub record LegalExamples : Type 0 where
  pub whole : IsLegal 2 2 some_lines
  pub append_by_none : IsLegal 2 2 (some_append 0 ∷ []) → ⊥
  pub append_by_third : IsLegal 2 2 (some_append 3 ∷ []) → ⊥
  pub end_by_none : IsLegal 2 2 (end_line 0 ∷ []) → ⊥
  pub end_by_third : IsLegal 2 2 (end_line 3 ∷ []) → ⊥
  pub publish_by_stream : IsLegal 2 2 (some_append 1 ∷ any_line 1 (Publish 1) None ∷ []) → ⊥
  pub shut_by_stream : IsLegal 2 2 (any_line 1 (Shut Memory) None ∷ []) → ⊥
  pub append_without_tuple : IsLegal 2 2 (any_line 1 Append None ∷ []) → ⊥
  pub end_with_tuple : IsLegal 2 2 (any_line 1 EndStream (Some (tick 9)) ∷ []) → ⊥
  pub append_after_end : IsLegal 2 2 (end_line 1 ∷ some_append 1 ∷ []) → ⊥
  pub second_end : IsLegal 2 2 (end_line 1 ∷ end_line 2 ∷ end_line 1 ∷ []) → ⊥
  pub append_after_shut : IsLegal 2 2 (shut_line Write ∷ some_append 1 ∷ []) → ⊥
  pub publish_after_shut :
      IsLegal 2 2 (some_append 1 ∷ shut_line Memory ∷ publish_line 1 ∷ []) → ⊥
  pub second_shut : IsLegal 2 2 (shut_line Write ∷ end_line 1 ∷ shut_line Memory ∷ []) → ⊥
  pub third_entry : IsLegal 2 2 (some_append 1 ∷ some_append 1 ∷ some_append 2 ∷ []) → ⊥
  pub publish_of_nothing : IsLegal 2 2 (some_append 1 ∷ publish_line 0 ∷ []) → ⊥
  pub publish_ahead : IsLegal 2 2 (some_append 1 ∷ publish_line 2 ∷ []) → ⊥
  pub publish_twice : IsLegal 2 2 (some_append 1 ∷ publish_line 1 ∷ publish_line 1 ∷ []) → ⊥
  pub publish_behind :
      IsLegal 2 2 (some_append 1 ∷ some_append 2 ∷ publish_line 2 ∷ publish_line 1 ∷ []) → ⊥
