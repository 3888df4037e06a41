-- What memory ran out for in a run that began.
use Rattle.std.specs.Prelude.{◌==◌, ◌||◌, Bool, false, List}
use Rattle.std.specs.List.{list_any}
use Rattle.live_asks.specs.declared.ends.ReaderEnd.{ReaderEnd}
use Rattle.stream_tuples.specs.declared.ends.StreamEnd.{StreamEnd}
use Rattle.rpq_text.specs.Statuses.{memory_status, status_of_end, status_of_reader}

-- whether memory ran out for the engine, for some session, for the text of the replies, and for
-- that of the saved window
pub record Shortage : Type 0 where
  pub engine : Bool
  pub session : Bool
  pub replies : Bool
  pub save : Bool

-- for none of them
abbrev pub no_shortage : Shortage
no_shortage = record { engine = false; session = false; replies = false; save = false }

-- whether some stream ended for want of memory
abbrev pub has_memory_end : List StreamEnd → Bool
has_memory_end ends = list_any (λ end. status_of_end end == memory_status) ends

-- whether some reader ended for want of memory
abbrev pub has_short_reader : List ReaderEnd → Bool
has_short_reader readers = list_any (λ end. status_of_reader end == memory_status) readers

-- whether memory ran out before a window is saved: for a stream, for the engine, for a session, or
-- for the replies
abbrev pub is_short_before : List StreamEnd → Shortage → Bool
is_short_before ends short =
    has_memory_end ends || (short.engine || (short.session || short.replies))

-- whether memory ran out: before that, for the saved window, or for a reader
abbrev pub is_short : List StreamEnd → List ReaderEnd → Shortage → Bool
is_short ends readers short =
    (is_short_before ends short || short.save) || has_short_reader readers
