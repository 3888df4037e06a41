-- What is left of a history for a later run.
use Rattle.std.specs.Prelude.{◌≡◌, ℕ, List, ◌++◌, All, Option, Some, None}
use Rattle.std.specs.Global.{Vec}
use Rattle.rpq_base.specs.Plain.{IsPlain}
use Rattle.rpq_base.specs.declared.data.Entry.{Entry}
use Rattle.rpq_model.specs.Query.{Query}
use Rattle.history_model.specs.World.{Terms}
use Rattle.history_model.specs.declared.line.Why.{Why}
use Rattle.saved_window.specs.Saved.{saved}
use Rattle.stream_history.specs.Journal.{KeepsAll}

-- the entries serve a later run as the history does: the same is saved of both, whatever follows,
-- and their labels point forwards
pub record ServesAs (queries : List Query) (history entries : List Entry) : Type 0 where
  pub saves : (later : List Entry) →
      saved queries (entries ++ later) ≡ saved queries (history ++ later)
  pub plain : All IsPlain entries

-- what the engine of a run leaves of the entries that it was given: nothing where the history keeps
-- all; else entries that serve as the history does, unless the run was cut off
abbrev pub IsLeftOf : Terms → List Entry → Option Why → Option (Vec Entry) → Type 0
IsLeftOf terms history why None = KeepsAll terms
IsLeftOf terms history why (Some window) =
    why ≡ None → ServesAs terms.queries history window.items

-- what a run leaves of its history, of which so many first entries are gone: either nothing beside
-- it, and none is gone; or entries that serve as the history does, unless the run was cut off
abbrev pub IsWindowFor : List Query → List Entry → ℕ → Option Why → Option (Vec Entry) → Type 0
IsWindowFor queries history gone why None = gone ≡ 0
IsWindowFor queries history gone why (Some window) =
    why ≡ None → ServesAs queries history window.items
