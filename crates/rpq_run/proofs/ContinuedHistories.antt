-- Which tuples a history of streams has, and what is saved of it.
use Rattle.std.proofs.Common.{◌≡◌, ℕ, ◌+◌, ◌-◌, ◌<◌, ◌≤◌, max, Bool, true, false, List, [], ◌∷◌, ◌++◌, length, map, fold}
use Rattle.std.proofs.Common.{filter, Some, refl, sym, ap, ap₂, subst, ◌∙◌, arith}
use Rattle.std.specs.Prelude.{All, ◌==◌, slice_get, slice_index_or, if◌then◌else◌}
use Rattle.std.proofs.lemmas.Bool.{eq-eqb}
use Rattle.std.proofs.lemmas.List.Elements.{All-nil, All-cons, All-head, All-tail, All-push, All-contains, Contains-get_or}
use Rattle.rpq_base.proofs.Members.{kept_members}
use Rattle.rpq_base.specs.declared.data.TheConstants.{MAX_TIME}
use Rattle.rpq_base.specs.declared.data.Entry.{Entry}
use Rattle.rpq_base.specs.declared.data.Tuple.{Tuple}
use Rattle.rpq_model.specs.Window.{clock}
use Rattle.rpq_model.specs.Query.{Query}
use Rattle.tuple_text.specs.Written.{IsStreamTuple}
use Rattle.stream_tuples.specs.History.{IsNumberOf, own_tuples}
use Rattle.saved_window.specs.Saved.{is_kept, kept_tuples, clock_tick, has_time, saved, first_stream}
use Rattle.rpq_run.proofs.Done.{found}

-- an entry with a tuple that a line may give
abbrev pub IsFromStream : Entry → Type 0
IsFromStream entry = IsStreamTuple entry.tuple

-- ---- the entries of streams

-- what holds of all tuples of entries holds of these
of_tuples : (entries : List Entry) → All IsStreamTuple (map (λ entry. entry.tuple) entries) → All IsFromStream entries
of_tuples [] all = All-nil IsFromStream
of_tuples (entry ∷ later) all =
    let tuples = map (λ (each : Entry). each.tuple) later in
    All-cons IsFromStream entry later (All-head IsStreamTuple entry.tuple tuples all)
    (of_tuples later (All-tail IsStreamTuple entry.tuple tuples all))

-- each entry is of one of the streams, so a line may give its tuple
pub from_streams : (history : List Entry) (texts : List (List ℕ)) (count : ℕ) → count ≡ length texts →
    ((place : ℕ) (text : List ℕ) → slice_get texts place ≡ Some text → All IsStreamTuple (own_tuples (place + 1) history)) →
    All (λ (entry : Entry). IsNumberOf count entry.stream) history → All IsFromStream history
from_streams history texts count as_many own numbers place default below =
    let entry = slice_index_or history place default in
    let number = numbers place default below in
    let before = entry.stream - 1 in
    let inside : before < length texts = omega (arith, number.first, number.last, as_many) in
    let text = found texts before inside in
    let same : before + 1 ≡ entry.stream = omega (arith, number.first) in
    let test = λ (each : Entry). each.stream == entry.stream in
    let own_entries = filter test history in
    let all = of_tuples own_entries (subst (λ (n : ℕ). All IsStreamTuple (own_tuples n history)) same (own before text.0 text.1)) in
    let among = (kept_members history test entry).1 (Contains-get_or history place default below, eq-eqb entry.stream entry.stream refl) in
    All-contains IsFromStream own_entries entry all among

-- where there is one stream, the entries are its tuples
pub one_stream_alone : (history : List Entry) → All (λ (entry : Entry). IsNumberOf 1 entry.stream) history →
    history ≡ first_stream (own_tuples 1 history)
one_stream_alone [] numbers = refl
one_stream_alone (entry ∷ later) numbers =
    let number = All-head (λ (each : Entry). IsNumberOf 1 each.stream) entry later numbers in
    let first : entry.stream ≡ 1 = omega (arith, number.first, number.last) in
    let rest = one_stream_alone later (All-tail (λ (each : Entry). IsNumberOf 1 each.stream) entry later numbers) in
    let here : entry ≡ (record { stream = 1; tuple = entry.tuple }) = ap (λ (n : ℕ). record { stream = n; tuple = entry.tuple }) first in
    let own = filter (λ (each : Entry). each.stream == 1) later in
    let kept : entry ∷ own ≡ (if entry.stream == 1 then entry ∷ own else own) =
    ap (λ (test : Bool). if test then entry ∷ own else own) (sym (eq-eqb entry.stream 1 first)) in
    ap₂ (λ (one : Entry) (more : List Entry). one ∷ more) here rest
    ∙ ap (λ (entries : List Entry). first_stream (map (λ (each : Entry). each.tuple) entries)) kept

-- ---- what is saved

chosen : (test : Bool) (tuple : Tuple) (kept : List Tuple) → IsStreamTuple tuple → All IsStreamTuple kept →
    All IsStreamTuple (if test then tuple ∷ kept else kept)
chosen true tuple kept first rest = All-cons IsStreamTuple tuple kept first rest
chosen false tuple kept first rest = rest

kept_from_stream : (entries : List Entry) (queries : List Query) (now : ℕ) → All IsFromStream entries →
    All IsStreamTuple (kept_tuples queries now entries)
unfolding kept_tuples
kept_from_stream [] queries now all = All-nil IsStreamTuple
kept_from_stream (entry ∷ later) queries now all =
    chosen (is_kept queries now entry later) entry.tuple (kept_tuples queries now later) (All-head IsFromStream entry later all)
    (kept_from_stream later queries now (All-tail IsFromStream entry later all))

-- the clock is in range
clock_within : (entries : List Entry) (first : ℕ) → first ≤ MAX_TIME → All IsFromStream entries →
    fold max first (map (λ (entry : Entry). entry.tuple.time) entries) ≤ MAX_TIME
clock_within [] first within all = within
clock_within (entry ∷ later) first within all =
    let here = (All-head IsFromStream entry later all).range.time_to in
    clock_within later (max first entry.tuple.time) (omega (arith, within, here)) (All-tail IsFromStream entry later all)

tick_from_stream : (now : ℕ) → now ≤ MAX_TIME → IsStreamTuple (clock_tick now)
tick_from_stream now within = record {
  range = record { time_to = within; end_to = λ until e. absurd cc };
  act = tt;
}

with_clock_from_stream : (test : Bool) (now : ℕ) (tuples : List Tuple) → now ≤ MAX_TIME → All IsStreamTuple tuples →
    All IsStreamTuple (if test then tuples else tuples ++ clock_tick now ∷ [])
with_clock_from_stream true now tuples within all = all
with_clock_from_stream false now tuples within all =
    All-push IsStreamTuple tuples (clock_tick now) all (tick_from_stream now within)

-- a line may give each tuple that is saved
pub saved_from_stream : (history : List Entry) (queries : List Query) → All IsFromStream history →
    All IsStreamTuple (saved queries history)
saved_from_stream [] queries all = All-nil IsStreamTuple
saved_from_stream (entry ∷ later) queries all =
    let history = entry ∷ later in
    let now = clock history in
    let kept = kept_tuples queries now history in
    with_clock_from_stream (has_time now kept) now kept (clock_within history 0 (omega arith) all)
    (kept_from_stream history queries now all)
