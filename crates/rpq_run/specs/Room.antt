-- Room for what a run leaves. Only private contracts cite this file.
use Rattle.std.specs.Prelude.{◌≡◌, ◌≤◌, ℕ, [], vec_capacity}
use Rattle.rpq_run.specs.declared.room.EndRoom.{EndRoom}
use Rattle.rpq_run.specs.declared.room.SourceRoom.{SourceRoom}

-- the list is empty, and has room for a member
pub record IsRoom {S : Type 0} (room : SourceRoom S) : Type 0 where
  pub empty : room.sources.items ≡ []
  pub capacity : 1 ≤ vec_capacity room.sources

-- the lists are empty, and have room for so many sources, and for the ends of so many readers
pub record IsEndRoom {S : Type 0} (streams readers : ℕ) (room : EndRoom S) : Type 0 where
  pub no_source : room.sources.items ≡ []
  pub sources : streams ≤ vec_capacity room.sources
  pub no_end : room.ends.items ≡ []
  pub ends : readers ≤ vec_capacity room.ends
