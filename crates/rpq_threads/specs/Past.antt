-- What stands in the place of the entries that the engine was given. Only private contracts cite
-- this file.
use Rattle.std.specs.Prelude.{◌≡◌, ℕ, ◌+◌, ◌≤◌, ◌⊎◌, List, [], ◌++◌, drop, Option, Some, None}
use Rattle.std.specs.Global.{Vec}
use Rattle.rpq_base.specs.declared.data.Entry.{Entry}
use Rattle.rpq_model.specs.Query.{Query}
use Rattle.engine_loop.specs.declared.source.AfterShrink.{AfterShrink}
use Rattle.engine_loop.specs.declared.source.AfterShrink.TheVariants.{GoOn, Rebuild}
use Rattle.history_model.specs.World.{Terms}
use Rattle.saved_window.specs.Saved.{saved, first_stream}
use Rattle.stream_history.specs.Journal.{KeepsAll}
use Rattle.rpq_threads.specs.Window.{ServesAs}
use Rattle.rpq_threads.specs.declared.past.Past.{Past}
use Rattle.rpq_threads.specs.declared.past.Past.TheVariants.{InHistory, Kept}

-- of these entries the first ones are given up, so many, and the same is saved of the others
abbrev pub DropsFirst : List Query → List Entry → List Entry → Type 0
DropsFirst queries old new = (count : ℕ) × (new ≡ drop count old)
    × (saved queries new ≡ saved queries old)

-- entries are given up of which nothing is saved: first ones, and where the engine is rebuilt, maybe
-- all of them
abbrev pub ShrinksTo : List Query → List Entry → AfterShrink → List Entry → Type 0
ShrinksTo queries old Rebuild new =
    DropsFirst queries old new ⊎ (new ≡ first_stream (saved queries old))
ShrinksTo queries old GoOn new = DropsFirst queries old new

-- the engine is rebuilt only once there are so many entries, with those that were dropped since it
-- was rebuilt last, as the limit says; and then 65,536 more have to come
abbrev pub ComesInTurn : AfterShrink → ℕ → ℕ → ℕ → ℕ → ℕ → Type 0
ComesInTurn Rebuild all limit left dropped next =
    (limit ≤ all) × (dropped ≡ 0) × (left + 65536 ≤ next)
ComesInTurn GoOn all limit left dropped next = Unit {0}

-- a past of a history that was made with these terms, before any entry
abbrev pub PastIsNew : Terms → List Query → Past → Type 0
PastIsNew terms queries InHistory = KeepsAll terms
PastIsNew terms queries (Kept window) = (KeepsAll terms → ⊥)
    × (window.queries.now ≡ queries) × (window.entries.items ≡ [])

-- what is kept in the place of the first entries, where these of them aren't there yet
abbrev pub kept_in : Past → List Entry → List Entry → List Entry
kept_in InHistory first given = given
kept_in (Kept window) first given = window.entries.items ++ first

-- a past of a history that was made with these terms: of a history that keeps all it has nothing;
-- of one that forgets it has entries that serve as these given ones do, with the first ones of what
-- the history gave last
abbrev pub IsPastOf : Terms → Past → List Entry → List Entry → Type 0
IsPastOf terms InHistory first given = KeepsAll terms
IsPastOf terms (Kept window) first given = (KeepsAll terms → ⊥)
    × (window.queries.now ≡ terms.queries)
    × ServesAs terms.queries given (window.entries.items ++ first)

-- the entries that a past keeps
abbrev pub window_of : Past → Option (Vec Entry)
window_of InHistory = None
window_of (Kept window) = Some window.entries

-- a past of the same history with these entries behind its own
abbrev pub PastTakes : Past → List Entry → Past → Type 0
PastTakes InHistory more InHistory = Unit {0}
PastTakes InHistory more (Kept window) = ⊥
PastTakes (Kept old) more InHistory = ⊥
PastTakes (Kept old) more (Kept new) = (new.queries.now ≡ old.queries.now)
    × (new.entries.items ≡ old.entries.items ++ more)

-- what is kept shrinks, where there is something
abbrev pub PastShrinks : Past → AfterShrink → Past → Type 0
PastShrinks InHistory then InHistory = then ≡ GoOn
PastShrinks InHistory then (Kept window) = ⊥
PastShrinks (Kept old) then InHistory = ⊥
PastShrinks (Kept old) then (Kept new) = (new.queries.now ≡ old.queries.now)
    × ShrinksTo old.queries.now old.entries.items then new.entries.items
