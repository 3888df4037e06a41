-- Which files were opened.
use Rattle.std.specs.Prelude.{◌≡◌, ◌↔◌, ℕ, ◌==◌, nat_lt, Bool, false, ◌&&◌, List, [], ◌∷◌, ◌++◌}
use Rattle.std.specs.Prelude.{Option, Some, None, IfSome, IsSome}
use Rattle.std.specs.Fs.{IsFile}
use Rattle.std.specs.List.{list_any}
use Rattle.std.specs.declared.fs.attrs.FileType.{FileType}
use Rattle.rpq_io.specs.declared.file_id.FileId.{FileId}
use Rattle.rpq_io.specs.declared.host_file.HostFile.{HostFile}
use Rattle.rpq_io.specs.declared.place.Place.{Place}
use Rattle.rpq_io.specs.declared.place.Place.TheVariants.{File, Output, Errors}

-- regular files in the order in which they were opened, and how many more can be noted without new
-- memory
pub record FileRoom : Type 0 where
  pub files : List FileId
  pub room : ℕ

-- whether both are the same file: the device and the number are the same, and the number is told
abbrev pub same_file : FileId → FileId → Bool
same_file file other =
    file.device == other.device && file.number == other.number && nat_lt 0 other.number

-- whether a file is among these
abbrev pub is_among : FileId → List FileId → Bool
is_among file files = list_any (λ noted. same_file noted file) files

-- these files, and then one more if it is a regular one
abbrev pub noted_file : Option FileId → List FileId → List FileId
noted_file (Some file) files = files ++ file ∷ []
noted_file None files = files

-- what the system told of a file that was opened: which regular file it is, exactly if it is one
abbrev pub IsTold : FileType → Option FileId → Type 0
IsTold kind id = IsSome id ↔ IsFile kind

-- this file was opened: the system told which it is, and it is noted if it is a regular one
pub record NotesFile {F : Type 0} (opened : HostFile F) (old new : List FileId) : Type 0 where
  pub told : IsTold opened.kind opened.id
  pub noted : new ≡ noted_file opened.id old

-- a file was opened to be written there, and noted so; if it is a regular one, it is none of those
-- before
abbrev pub NotesOther : {F O E : Type 0} → Place (HostFile F) O E → List FileId → List FileId
    → Type 0
NotesOther (File opened) old new =
    NotesFile opened old new × IfSome opened.id (λ file. is_among file old ≡ false)
NotesOther (Output writer) old new = ⊥
NotesOther (Errors writer) old new = ⊥
