-- What an append makes of a stream's pass.
use Rattle.std.proofs.Common.{◌≡◌, ℕ, List, [], ◌∷◌, ◌++◌, map, sym, ap, subst, ◌∙◌, append-nil}
use Rattle.std.proofs.lemmas.List.{map-append}
use Rattle.rpq_base.specs.declared.data.Tuple.{Tuple}
use Rattle.rpq_base.specs.declared.data.Entry.{Entry}
use Rattle.turn_lock.specs.Passes.{PassValue}
use Rattle.history_model.specs.declared.line.Line.{Line}
use Rattle.history_model.specs.Lines.{append_line, end_line, entries, HasEnded}
use Rattle.history_model.specs.World.{Terms}
use Rattle.stream_history.specs.History.{HistoryValue, HasAdded}
use Rattle.stream_history.proofs.Pushes.{entries_push, called}
use Rattle.stream_threads.specs.Streams.{tuples_of}

-- one tuple more
pub tuples_push : (lines : List Line) (stream : ℕ) (tuple : Tuple) →
    tuples_of (lines ++ append_line stream tuple ∷ []) ≡ tuples_of lines ++ tuple ∷ []
tuples_push lines stream tuple =
    ap (map (λ (entry : Entry). entry.tuple)) (entries_push lines (append_line stream tuple))
    ∙ map-append (λ (entry : Entry). entry.tuple) (entries lines)
    (entries (append_line stream tuple ∷ []))

-- an end adds none
pub tuples_ended : (lines : List Line) (stream : ℕ) →
    tuples_of (lines ++ end_line stream ∷ []) ≡ tuples_of lines
tuples_ended lines stream =
    ap (map (λ (entry : Entry). entry.tuple)) (entries_push lines (end_line stream))
    ∙ (map-append (λ (entry : Entry). entry.tuple) (entries lines) (entries (end_line stream ∷ []))
    ∙ append-nil (tuples_of lines))

-- after the end of the stream is told, it has ended
pub has_ended : (history : HistoryValue) (before after : PassValue Line Terms) →
    HasAdded history before (end_line before.number) after → HasEnded after.mine after.number
has_ended history before after added =
    subst (λ (number : ℕ). HasEnded after.mine number) (sym added.number)
    (subst (λ (lines : List Line). HasEnded lines before.number) (sym added.mine)
    (called before.mine (end_line before.number)))
