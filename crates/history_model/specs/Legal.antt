-- Which lists of lines are legal, for a history of so many streams that takes so many entries.
use Rattle.std.specs.Prelude.{◌≡◌, ◌≢◌, ℕ, ◌<◌, ◌≤◌, ◌↔◌, List, ◌∷◌, ◌++◌, length, All, AllPairs}
use Rattle.std.specs.Prelude.{IsSome}
use Rattle.history_model.specs.declared.line.Why.{Why}
use Rattle.history_model.specs.declared.line.CallAct.{CallAct}
use Rattle.history_model.specs.declared.line.CallAct.TheVariants.{Append, EndStream, Publish, Shut}
use Rattle.history_model.specs.declared.line.Call.{Call}
use Rattle.history_model.specs.declared.line.Line.{Line}
use Rattle.history_model.specs.Lines.{calls, entries, published, IsStream}

-- a line has a tuple exactly where its call is an append
abbrev pub HasItsTuple : Line → Type 0
HasItsTuple line = IsSome line.tuple ↔ (line.call.act ≡ Append)

-- appends and ends are by streams; publishes and shuts are by the engine, whose number is 0
abbrev pub IsCaller : ℕ → ℕ → CallAct → Type 0
IsCaller streams by Append = IsStream streams by
IsCaller streams by EndStream = IsStream streams by
IsCaller streams by (Publish number) = by ≡ 0
IsCaller streams by (Shut why) = by ≡ 0

-- of two calls, the earlier and the later: after its end a stream has no append and no second end
abbrev pub StaysEnded : Call → Call → Type 0
StaysEnded earlier later =
    earlier.act ≡ EndStream → later.by ≡ earlier.by →
    (later.act ≢ Append) × (later.act ≢ EndStream)

-- of two calls, the earlier and the later: after a shut only streams end
abbrev pub StaysShut : Call → Call → Type 0
StaysShut earlier later = (why : Why) → earlier.act ≡ Shut why → later.act ≡ EndStream

-- a publish has a number above the last one published and at most that of the entries before it
abbrev pub PublishesRise : List Line → Type 0
PublishesRise lines =
    (before after : List Line) (line : Line) (number : ℕ) →
    lines ≡ before ++ line ∷ after → line.call.act ≡ Publish number →
    (published before < number) × (number ≤ length (entries before))

-- the lines are legal: each has its tuple and its caller, the streams stay ended and the history
-- stays shut, there are no more entries than it takes, and the publishes rise
pub record IsLegal (streams cap : ℕ) (lines : List Line) : Type 0 where
  pub tuples : All HasItsTuple lines
  pub callers : All (λ call. IsCaller streams call.by call.act) (calls lines)
  pub ended : AllPairs StaysEnded (calls lines)
  pub shut : AllPairs StaysShut (calls lines)
  pub capped : length (entries lines) ≤ cap
  pub publishes : PublishesRise lines
