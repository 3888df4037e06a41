use Rattle.std.proofs.Common.{◌≡◌, ◌++◌, take}
use Rattle.std.specs.Prelude.{All}
use Rattle.tuple_text.specs.Written.{IsStreamTuple}
use Rattle.saved_window.specs.SavedText.{saved_text}
use Rattle.saved_window.proofs.text.push_saved.Given as goal

-- the tuples so far are written, and a line may give each of them
abbrev pub invariant-loop-tuple : goal.invariant-loop-tuple
invariant-loop-tuple l = record {
  text_is : l.text.items ≡ l.initial.text.items ++ saved_text (take l.tuple-index l.tuples);
  stream : All IsStreamTuple (take l.tuple-index l.tuples);
}
