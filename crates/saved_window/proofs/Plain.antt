-- What is saved of plain entries is plain.
use Rattle.std.proofs.Common.{ℕ, Bool, true, false, List, [], ◌∷◌, ◌++◌}
use Rattle.std.specs.Prelude.{All, if◌then◌else◌}
use Rattle.std.proofs.lemmas.List.Elements.{All-nil, All-cons, All-head, All-tail, All-push}
use Rattle.rpq_base.specs.Plain.{IsPlain, IsPlainTuple}
use Rattle.rpq_base.specs.TupleValue.{TupleValue}
use Rattle.rpq_base.specs.declared.data.Entry.{Entry}
use Rattle.rpq_model.specs.Window.{clock}
use Rattle.rpq_model.specs.Query.{Query}
use Rattle.saved_window.specs.Saved.{is_kept, kept_tuples, clock_tick, has_time, saved, first_stream}

chosen_plain : (test : Bool) (tuple : TupleValue) (kept : List TupleValue) → IsPlainTuple tuple → All IsPlainTuple kept →
    All IsPlainTuple (if test then tuple ∷ kept else kept)
chosen_plain true tuple kept first rest = All-cons IsPlainTuple tuple kept first rest
chosen_plain false tuple kept first rest = rest

kept_plain : (entries : List Entry) (queries : List Query) (now : ℕ) → All IsPlain entries → All IsPlainTuple (kept_tuples queries now entries)
unfolding kept_tuples
kept_plain [] queries now plain = All-nil IsPlainTuple
kept_plain (entry ∷ later) queries now plain =
    chosen_plain (is_kept queries now entry later) entry.tuple (kept_tuples queries now later) (All-head IsPlain entry later plain)
    (kept_plain later queries now (All-tail IsPlain entry later plain))

with_clock_plain : (test : Bool) (now : ℕ) (tuples : List TupleValue) → All IsPlainTuple tuples →
    All IsPlainTuple (if test then tuples else tuples ++ clock_tick now ∷ [])
with_clock_plain true now tuples plain = plain
with_clock_plain false now tuples plain = All-push IsPlainTuple tuples (clock_tick now) plain tt

pub saved_plain : (history : List Entry) (queries : List Query) → All IsPlain history → All IsPlainTuple (saved queries history)
saved_plain [] queries plain = All-nil IsPlainTuple
saved_plain (entry ∷ later) queries plain =
    let now = clock (entry ∷ later) in
    let kept = kept_tuples queries now (entry ∷ later) in
    with_clock_plain (has_time now kept) now kept (kept_plain (entry ∷ later) queries now plain)

-- and so are the entries of the first stream with it
first_stream_plain : (tuples : List TupleValue) → All IsPlainTuple tuples → All IsPlain (first_stream tuples)
first_stream_plain [] plain = All-nil IsPlain
first_stream_plain (tuple ∷ tuples) plain =
    All-cons IsPlain (record { stream = 1; tuple = tuple }) (first_stream tuples) (All-head IsPlainTuple tuple tuples plain)
    (first_stream_plain tuples (All-tail IsPlainTuple tuple tuples plain))

pub saved_entries_plain : (history : List Entry) (queries : List Query) → All IsPlain history → All IsPlain (first_stream (saved queries history))
saved_entries_plain history queries plain = first_stream_plain (saved queries history) (saved_plain history queries plain)
