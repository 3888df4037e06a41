-- The history of the first tuples.
use Rattle.std.proofs.Common.{◌≡◌, ℕ, zero, suc, ◌+◌, ◌<◌, ◌≤◌, [], ◌∷◌, ◌++◌, length, map, refl, sym, ap, subst, arith}
use Rattle.std.specs.List.{All, range_with_len}
use Rattle.std.proofs.lemmas.List.FromFn.{length-map-range_with_len, get_or-map-range_with_len, map-range_with_len_more}
use Rattle.rpq_base.specs.Plain.{IsPlain}
use Rattle.rpq_base.specs.TupleValue.{IsInRange}
use Rattle.rpq_base.specs.declared.data.TheConstants.{MAX_TIME}
use Rattle.rpq_base.specs.declared.data.Act.{Act}
use Rattle.rpq_base.specs.declared.data.Act.TheVariants.{Insert, Delete, Tick}
use Rattle.rpq_base.specs.declared.data.Entry.{Entry}
use Rattle.tuple_generator.specs.Generator.{tuple_at, entry_at, generated_history, seed_before}
use Rattle.tuple_generator.specs.Laws.{IsDrawnAct, HistoryTakesOneMore, HistoryIsOfFirstStream}
use Rattle.tuple_generator.proofs.Names.{generated_tuples_are_plain}

-- one tuple more
pub history_more : (count : ℕ) → generated_history (count + 1) ≡ generated_history count ++ entry_at (count + 1) ∷ []
history_more count = map-range_with_len_more entry_at 1 count (count + 1) (omega arith)

pub history_takes_one_more : HistoryTakesOneMore
history_takes_one_more = record { none = refl; more = history_more }

-- so many entries
pub history_length : (count : ℕ) → length (generated_history count) ≡ count
history_length count = length-map-range_with_len entry_at 1 count

-- what holds of the entries at the first positions holds of each entry of the history
pub history_all : (P : Entry → Type 0) (count : ℕ) → ((position : ℕ) → 1 ≤ position → position ≤ count → P (entry_at position)) → All P (generated_history count)
history_all P count each k d l =
    let within : k < count = omega (arith, l, history_length count) in
    subst P (sym (get_or-map-range_with_len entry_at 1 count k (k + 1) d within (omega arith)))
    (each (k + 1) (omega arith) (omega (arith, within)))

-- the tuples of the entries
tuples_from : (first count : ℕ) → map (λ (entry : Entry). entry.tuple) (map entry_at (range_with_len first count)) ≡ map tuple_at (range_with_len first count)
tuples_from first zero = refl
tuples_from first (suc count) = ap (λ tuples. tuple_at first ∷ tuples) (tuples_from (first + 1) count)

-- an act without an end of its own is in range where its time is
in_range : (time : ℕ) (act : Act) → time ≤ MAX_TIME → IsDrawnAct act → IsInRange time act
in_range time (Insert edge until) small drawn = record { time_to = small; end_to = λ end is. absurd (cc) }
in_range time (Delete edge) small drawn = record { time_to = small; end_to = λ end is. absurd (cc) }
in_range time Tick small drawn = absurd drawn

pub entry_in_range : (position : ℕ) → position ≤ 1000000 → IsInRange (entry_at position).tuple.time (entry_at position).tuple.act
entry_in_range position small =
    let drawn = generated_tuples_are_plain position (seed_before position) in
    in_range _ _ (omega (arith, small, drawn.time)) drawn.names

pub history_is_of_first_stream : HistoryIsOfFirstStream
history_is_of_first_stream = record {
  tuples = tuples_from 1;
  many = history_length;
  stream = λ count. history_all (λ entry. entry.stream ≡ 1) count (λ position some within. refl);
  plain = λ count. history_all IsPlain count (λ position some within. (generated_tuples_are_plain position (seed_before position)).plain);
  range = λ count few. history_all (λ entry. IsInRange entry.tuple.time entry.tuple.act) count
      (λ position some within. entry_in_range position (omega (arith, few, within)));
}
