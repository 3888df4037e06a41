-- Sources, sinks and files in memory, and what each call does to them.
use Rattle.std.specs.Prelude.{ℕ, ◌-◌, ◌==◌, min, Bool, false, List, []}
use Rattle.std.specs.Prelude.{◌∷◌, ◌++◌, length, take, drop, Option, find, bytes_eq}
use Rattle.std.specs.Prelude.{Result, Ok, Err}
use Rattle.rpq_io.specs.Counts.{raised}
use Rattle.rpq_io.specs.Script.{CallScript, new_script, after_call}
use Rattle.rpq_io.specs.declared.fault.OpenFault.{OpenFault}
use Rattle.rpq_io.specs.declared.fault.OpenFault.TheVariants.{Failed, Memory}

-- a source: the bytes left, whether it told its end, the most bytes of a read, which reads fail,
-- and how many did
pub record MemoryReader : Type 0 where
  pub left_bytes : List ℕ
  pub has_told_end : Bool
  pub piece : ℕ
  pub script : CallScript
  pub fault_count : ℕ

-- a source of these bytes that wasn't read yet
abbrev pub new_reader : List ℕ → ℕ → List ℕ → MemoryReader
new_reader bytes piece fails = record {
  left_bytes = bytes;
  has_told_end = false;
  piece = piece;
  script = new_script fails;
  fault_count = 0;
}

-- how many bytes a read takes that has this much room
abbrev pub read_count : MemoryReader → ℕ → ℕ
read_count reader room = min (min (length reader.left_bytes) reader.piece) room

-- the source after a read with this answer
abbrev pub after_read : {E : Type 0} → MemoryReader → Result ℕ E → MemoryReader
after_read reader (Ok count) = record {
  left_bytes = drop count reader.left_bytes;
  has_told_end = count == 0;
  piece = reader.piece;
  script = after_call reader.script;
  fault_count = reader.fault_count;
}
after_read reader (Err _) = record {
  left_bytes = reader.left_bytes;
  has_told_end = reader.has_told_end;
  piece = reader.piece;
  script = after_call reader.script;
  fault_count = raised reader.fault_count;
}

-- a sink: the bytes written, the most that it holds, the most bytes of a write, which writes fail,
-- and how many did
pub record MemoryWriter : Type 0 where
  pub written_bytes : List ℕ
  pub room : ℕ
  pub piece : ℕ
  pub script : CallScript
  pub fault_count : ℕ

-- a sink on which nothing was written yet
abbrev pub new_writer : ℕ → ℕ → List ℕ → MemoryWriter
new_writer room piece fails = record {
  written_bytes = [];
  room = room;
  piece = piece;
  script = new_script fails;
  fault_count = 0;
}

-- how many bytes a write takes of this many
abbrev pub write_count : MemoryWriter → ℕ → ℕ
write_count writer given = min (min given writer.piece) (writer.room - length writer.written_bytes)

-- whether no room is left
abbrev pub is_full : MemoryWriter → Bool
is_full writer = writer.room - length writer.written_bytes == 0

-- the sink after a write of these bytes with this answer
abbrev pub after_write : {E : Type 0} → MemoryWriter → List ℕ → Result ℕ E → MemoryWriter
after_write writer from (Ok count) = record {
  written_bytes = writer.written_bytes ++ take count from;
  room = writer.room;
  piece = writer.piece;
  script = after_call writer.script;
  fault_count = writer.fault_count;
}
after_write writer from (Err _) = record {
  written_bytes = writer.written_bytes;
  room = writer.room;
  piece = writer.piece;
  script = after_call writer.script;
  fault_count = raised writer.fault_count;
}

-- a file, and how a source that is opened on it gives its bytes
pub record FileBytes : Type 0 where
  pub name : List ℕ
  pub bytes : List ℕ
  pub piece : ℕ
  pub fails : List ℕ

-- files; what sinks opened on them are like; which openings fail; and the names that were opened:
-- to read, to read in vain, to write, and to write in vain
pub record MemoryDisk : Type 0 where
  pub files : List FileBytes
  pub room : ℕ
  pub piece : ℕ
  pub sink_fails : List ℕ
  pub openings : CallScript
  pub read_names : List (List ℕ)
  pub unread_names : List (List ℕ)
  pub made_names : List (List ℕ)
  pub unmade_names : List (List ℕ)

-- the file of this name, if there is one
abbrev pub file_named : List ℕ → List FileBytes → Option FileBytes
file_named name files = find (λ file. bytes_eq file.name name) files

-- the source that is opened on a file
abbrev pub reader_of : FileBytes → MemoryReader
reader_of file = new_reader file.bytes file.piece file.fails

-- the files after an opening to read with this answer: out of memory counts no call
abbrev pub after_source : {A : Type 0} → MemoryDisk → List ℕ → Result A OpenFault → MemoryDisk
after_source disk name (Ok _) = record disk {
  openings = after_call disk.openings;
  read_names = disk.read_names ++ name ∷ [];
}
after_source disk name (Err Failed) = record disk {
  openings = after_call disk.openings;
  unread_names = disk.unread_names ++ name ∷ [];
}
after_source disk name (Err Memory) = disk

-- the files after an opening to write with this answer
abbrev pub after_sink : {A : Type 0} → MemoryDisk → List ℕ → Result A OpenFault → MemoryDisk
after_sink disk name (Ok _) = record disk {
  openings = after_call disk.openings;
  made_names = disk.made_names ++ name ∷ [];
}
after_sink disk name (Err Failed) = record disk {
  openings = after_call disk.openings;
  unmade_names = disk.unmade_names ++ name ∷ [];
}
after_sink disk name (Err Memory) = disk
