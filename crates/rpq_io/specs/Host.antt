-- Sources, sinks and files of the host.
use Rattle.std.specs.Prelude.{ℕ, Bool, ◌||◌, List, [], ◌∷◌, ◌++◌, Result, Ok, Err}
use Rattle.rpq_io.specs.Names.{is_noted}
use Rattle.rpq_io.specs.declared.file_id.FileId.{FileId}
use Rattle.rpq_io.specs.declared.fault.OpenFault.{OpenFault}
use Rattle.rpq_io.specs.declared.fault.OpenFault.TheVariants.{Failed, Memory}

-- a source over a reader of std: whether it told its end, and how many reads failed
pub record HostReader (R : Type 0) : Type 0 where
  pub reader : R
  pub has_told_end : Bool
  pub fault_count : ℕ

-- a sink over a writer of std: how many writes failed
pub record HostWriter (W : Type 0) : Type 0 where
  pub writer : W
  pub fault_count : ℕ

-- the names that were opened: to read, to read in vain, to write, and to write in vain
pub record OpenedNames : Type 0 where
  pub read_names : List (List ℕ)
  pub unread_names : List (List ℕ)
  pub made_names : List (List ℕ)
  pub unmade_names : List (List ℕ)

-- these names, and the regular files that were opened, to read or to write
pub record OpenedFiles : Type 0 where
  pub names : OpenedNames
  pub files : List FileId

-- whether a name was opened before, to read or to write
abbrev pub was_opened : List ℕ → OpenedNames → Bool
was_opened name names = is_noted name names.read_names || is_noted name names.made_names

-- the names after an opening to read with this answer
abbrev pub after_reading : {A : Type 0} → OpenedNames → List ℕ → Result A OpenFault → OpenedNames
after_reading names name (Ok _) = record names { read_names = names.read_names ++ name ∷ [] }
after_reading names name (Err Failed) = record names {
  unread_names = names.unread_names ++ name ∷ [];
}
after_reading names name (Err Memory) = names

-- the names after an opening to write with this answer
abbrev pub after_making : {A : Type 0} → OpenedNames → List ℕ → Result A OpenFault → OpenedNames
after_making names name (Ok _) = record names { made_names = names.made_names ++ name ∷ [] }
after_making names name (Err Failed) = record names {
  unmade_names = names.unmade_names ++ name ∷ [];
}
after_making names name (Err Memory) = names
