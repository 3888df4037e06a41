-- Which line may come next, after the lines of a history of so many streams that takes so many
-- entries: what each call has to see before it adds its line.
use Rattle.std.specs.Prelude.{◌≡◌, ℕ, ◌<◌, ◌≤◌, List, length}
use Rattle.history_model.specs.declared.line.CallAct.{CallAct}
use Rattle.history_model.specs.declared.line.CallAct.TheVariants.{Append, EndStream, Publish, Shut}
use Rattle.history_model.specs.declared.line.Line.{Line}
use Rattle.history_model.specs.Lines.{entries, published, IsStream, HasEnded, IsShut}
use Rattle.history_model.specs.Legal.{HasItsTuple}

-- the call may come next: an append by a stream that hasn't ended, where nothing is shut and there
-- is room for an entry; an end by a stream that hasn't ended; by the engine, where nothing is shut,
-- a publish of a number above the last one and at most that of the entries, or a shut
abbrev pub MayCall : ℕ → ℕ → List Line → ℕ → CallAct → Type 0
MayCall streams cap lines by Append =
    IsStream streams by × (HasEnded lines by → ⊥) × (IsShut lines → ⊥)
    × (length (entries lines) < cap)
MayCall streams cap lines by EndStream = IsStream streams by × (HasEnded lines by → ⊥)
MayCall streams cap lines by (Publish number) =
    (by ≡ 0) × (IsShut lines → ⊥) × (published lines < number)
    × (number ≤ length (entries lines))
MayCall streams cap lines by (Shut why) = (by ≡ 0) × (IsShut lines → ⊥)

-- the line may come next
pub record MayFollow (streams cap : ℕ) (lines : List Line) (line : Line) : Type 0 where
  pub tuple : HasItsTuple line
  pub call : MayCall streams cap lines line.call.by line.call.act
