-- Answers as a list of sources and targets, and sources as lines.
use Rattle.std.specs.Prelude.{ℕ, List, ◌++◌, map, codes}
use Rattle.std.specs.Borrow.{Bor}
use Rattle.answer_rows.specs.Answers.{Answer}
use Rattle.answer_rows.specs.BySource.{answer}
use Rattle.answer_rows.specs.declared.target.Target.{Target}

-- the answers that a list of sources and targets tells
abbrev pub listed : List (Bor (List ℕ) × Bor Target) → List Answer
listed list = map (λ each. answer each.0.now each.1.now) list

-- a source with a line feed behind it
abbrev pub source_line : List ℕ → List ℕ
source_line from = from ++ codes "\n"
