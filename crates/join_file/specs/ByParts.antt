-- What a joins file gives, by its parts: without going through it line by line.
use Rattle.std.specs.Prelude.{◌≡◌, ℕ, ◌+◌, Bool, true, not, ◌||◌, List, ◌∷◌, ◌++◌, length, take}
use Rattle.std.specs.Prelude.{filter}
use Rattle.std.specs.Prelude.{Some, slice_get, Ok, Err}
use Rattle.text_parts.specs.Lines.{lines, is_blank_line, is_comment}
use Rattle.text_parts.specs.Fields.{fields}
use Rattle.rpq_model.specs.Query.{Query}
use Rattle.join_file.specs.declared.fault.JoinFileFault.{JoinFileFault}
use Rattle.join_file.specs.Joins.{JoinValue}
use Rattle.join_file.specs.JoinLine.{join_of_fields}
use Rattle.join_file.specs.JoinsFile.{joins}

-- whether a line is neither blank nor a comment
abbrev pub is_join_line : List ℕ → Bool
is_join_line line = not (is_blank_line line || is_comment line)

-- the lines that are neither blank nor comments
abbrev pub join_lines_of : List (List ℕ) → List (List ℕ)
join_lines_of all = filter is_join_line all

-- the joins of these lines: one for each that is neither blank nor a comment, in their order; each
-- is that of its line behind the joins before it
pub record AreJoinsOf (queries : List Query) (all : List (List ℕ)) (found : List JoinValue)
    : Type 0 where
  pub as_many : length found ≡ length (join_lines_of all)
  pub each : (place : ℕ) (line : List ℕ) (join : JoinValue) →
      slice_get (join_lines_of all) place ≡ Some line → slice_get found place ≡ Some join →
      join_of_fields queries (take place found) (fields line) ≡ Ok join

-- the fault is that of a line; the lines in front of it have none, and give these joins
pub record HasFaultAt (queries : List Query) (all : List (List ℕ)) (fault : JoinFileFault)
    : Type 0 where
  pub front : List (List ℕ)
  pub line : List ℕ
  pub rest : List (List ℕ)
  pub found : List JoinValue
  pub split : all ≡ front ++ line ∷ rest
  pub good : AreJoinsOf queries front found
  pub is_one : is_join_line line ≡ true
  pub number : fault.line ≡ length front + 1
  pub first : join_of_fields queries found (fields line) ≡ Err fault.kind

-- a file gives the joins of its lines, or the fault of its first line that has one
pub record JoinsByParts : Type 0 where
  pub ok : (queries : List Query) (bytes : List ℕ) (found : List JoinValue) →
      joins queries bytes ≡ Ok found → AreJoinsOf queries (lines bytes) found
  pub err : (queries : List Query) (bytes : List ℕ) (fault : JoinFileFault) →
      joins queries bytes ≡ Err fault → HasFaultAt queries (lines bytes) fault
