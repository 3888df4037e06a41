-- What stands on the sink of a saved window, and the sources of a run that began with one.
use Rattle.std.proofs.Common.{◌≡◌, ◌≢◌, ℕ, suc, Bool, true, false, List, [], ◌∷◌, ◌++◌, length, Option}
use Rattle.std.proofs.Common.{Some, None, Result, Ok, Err, refl, ap, sym, subst, ◌∙◌, arith, inl, inr, ◌⊎◌}
use Rattle.std.proofs.Common.{append-nil, append_assoc, ◌+◌, ◌<◌, ◌≤◌, drop, get_or}
use Rattle.std.proofs.Common.{length-append}
use Rattle.std.proofs.lemmas.List.{drop_more, length-map, map-append}
use Rattle.std.specs.Prelude.{All, IfSome, IsOk, is_some, not}
use Rattle.std.specs.Global.{Vec}
use Rattle.std.specs.Io.KnownBytes.{append_known}
use Rattle.text_parts.specs.Lines.{line_feed}
use Rattle.kept_list.specs.KeptList.{KeptListValue}
use Rattle.rpq_base.specs.Plain.{IsPlain}
use Rattle.rpq_base.specs.TupleValue.{TupleValue}
use Rattle.rpq_base.specs.declared.data.Entry.{Entry}
use Rattle.rpq_model.specs.Query.{Query}
use Rattle.rpq_threads.specs.Window.{IsWindowFor}
use Rattle.saved_window.specs.Saved.{saved}
use Rattle.rpq_io.specs.Files.{IsNewSink}
use Rattle.rpq_io.proofs.Bytes.{append_known-append}
use Rattle.tuple_text.specs.Written.{written}
use Rattle.history_model.specs.declared.line.Why.{Why}
use Rattle.stream_tuples.specs.declared.ends.StreamEnd.{StreamEnd}
use Rattle.stream_tuples.specs.History.{IsPrefix, IsProperPrefix}
use Rattle.saved_window.specs.SavedText.{saved_text}
use Rattle.saved_window.specs.Then.{TwoSources, count_of}
use Rattle.run_start.specs.Files.{with_first}
use Rattle.rpq_run.specs.declared.fault.TextFault.{TextFault}
use Rattle.rpq_run.specs.declared.fault.TextFault.TheVariants.{Write, Memory}
use Rattle.rpq_run.specs.Ending.{SavesIfThere, entries_left, is_left_out}
use Rattle.rpq_run.specs.Failed.{is_failed, lacks_memory}
use Rattle.rpq_run.specs.Parts.{WritesIfThere, WritesPart}
use Rattle.rpq_run.specs.RunsStreams.{GotText}
use Rattle.rpq_run.specs.Sources.{stream_sources, two_sources}

-- the line of a tuple
abbrev pub written_line : TupleValue → List ℕ
written_line tuple = written tuple ++ line_feed ∷ []

-- ---- the sink

-- bytes on a sink that had none are what was written
only_these : (old new : Option (List ℕ)) (front : List ℕ) → IfSome old (λ bytes. bytes ≡ [])
    → new ≡ append_known old front → IfSome new (λ bytes. bytes ≡ front)
only_these None new front empty is =
    subst (λ (w : Option (List ℕ)). IfSome w (λ bytes. bytes ≡ front)) (sym is) tt
only_these (Some bytes) new front empty is =
    subst (λ (w : Option (List ℕ)). IfSome w (λ bytes. bytes ≡ front)) (sym is)
    (ap (λ (bs : List ℕ). bs ++ front) empty)

weaker : {P Q : List ℕ → Type 0} (known : Option (List ℕ)) → ((bytes : List ℕ) → P bytes → Q bytes)
    → IfSome known P → IfSome known Q
weaker None step p = tt
weaker (Some bytes) step p = step bytes p

-- a part is a proper prefix, and each text is its own prefix
is_front : (text front rest bytes : List ℕ) → text ≡ front ++ rest → bytes ≡ front → IsPrefix bytes text
is_front text front rest bytes cut is =
    record { rest = rest; cut = cut ∙ ap (λ (bs : List ℕ). bs ++ rest) (sym is) }

is_proper : (text front rest bytes : List ℕ) → text ≡ front ++ rest → rest ≢ [] → bytes ≡ front
    → IsProperPrefix bytes text
is_proper text front rest bytes cut more is =
    record { rest = rest; cut = cut ∙ ap (λ (bs : List ℕ). bs ++ rest) (sym is); proper = more }

-- what the sink of a window got that was to be written
pub window_written : {K : Type 0} (written : K → Option (List ℕ)) (failures : K → ℕ) (text : List ℕ)
    (old new : K) (unsaved failed : Type 0) (result : Result (Unit {0}) TextFault)
    → (unsaved → ⊥) → (is_failed result ≡ true → failed) → (failed → is_failed result ≡ true)
    → IsNewSink written failures old → WritesPart written failures text old new result
    → GotText unsaved failed (lacks_memory result ≡ true) text (written new)
window_written written failures text old new unsaved failed (Ok done) none there back fresh part =
    let all = only_these (written old) (written new) text fresh.empty (part.whole refl) in
    record {
      none = λ has. absurd (none has);
      whole = λ _ _ _. all;
      part = λ has.
          let no : false ≡ true = back has in
          absurd (cc no);
      prefix = weaker (written new) (λ bytes is. is_front text text [] bytes (sym (append-nil text)) is) all;
    }
window_written written failures text old new unsaved failed (Err Write) none there back fresh part =
    let proper = part.write refl in
    let front = only_these (written old) (written new) proper.front fresh.empty proper.written in
    record {
      none = λ has. absurd (none has);
      whole = λ _ fine _. absurd (fine (there refl));
      part = λ has. weaker (written new) (λ bytes is.
          is_proper text proper.front proper.rest bytes proper.cut proper.proper is) front;
      prefix = weaker (written new) (λ bytes is. is_front text proper.front proper.rest bytes proper.cut is) front;
    }
window_written written failures text old new unsaved failed (Err Memory) none there back fresh part =
    let prefix = part.memory refl in
    let front = only_these (written old) (written new) prefix.front fresh.empty prefix.written in
    record {
      none = λ has. absurd (none has);
      whole = λ _ _ other. absurd (other refl);
      part = λ has.
          let no : false ≡ true = back has in
          absurd (cc no);
      prefix = weaker (written new) (λ bytes is.
          is_front text prefix.front prefix.rest bytes (sym prefix.of_kind) is) front;
    }

-- what it got where no window was saved
pub window_unwritten : {K : Type 0} (written : K → Option (List ℕ)) (failures : K → ℕ) (text : List ℕ)
    (sink : K) (unsaved failed short : Type 0) → unsaved → (failed → ⊥)
    → IsNewSink written failures sink → GotText unsaved failed short text (written sink)
window_unwritten written failures text sink unsaved failed short reason none fresh = record {
  none = λ _. fresh.empty;
  whole = λ wanted _ _. absurd (wanted reason);
  part = λ has. absurd (none has);
  prefix = weaker (written sink) (λ bytes is. is_front text [] text bytes refl is) fresh.empty;
}

-- what is left of a history for its window, where the run wasn't cut off: the window of it is that
-- of the history, and its labels point forwards
pub saves_as_left : (queries : List Query) (window : Option (Vec Entry)) (history : KeptListValue Entry)
    (why : Option Why) → IsWindowFor queries history.items history.base why window → why ≡ None
    → saved queries (entries_left window history) ≡ saved queries history.items
saves_as_left queries None history why left quiet =
    ap (λ (gone : ℕ). saved queries (drop gone history.items)) left
saves_as_left queries (Some kept) history why left quiet =
    ap (saved queries) (sym (append-nil kept.items))
    ∙ ((left quiet).saves [] ∙ ap (saved queries) (append-nil history.items))

pub plain_as_left : (queries : List Query) (window : Option (Vec Entry)) (history : KeptListValue Entry)
    (why : Option Why) → IsWindowFor queries history.items history.base why window
    → All IsPlain history.items → why ≡ None → All IsPlain (entries_left window history)
plain_as_left queries None history why left plain quiet =
    subst (λ (gone : ℕ). All IsPlain (drop gone history.items)) (sym left) plain
plain_as_left queries (Some kept) history why left plain quiet = (left quiet).plain

-- where a window is wanted, the run wasn't cut off
pub wanted_quiet : (why : Option Why) (short : Bool) (ends : List StreamEnd)
    (replied : Result (Unit {0}) TextFault) → not (is_left_out why short ends replied) ≡ true
    → why ≡ None
wanted_quiet None short ends replied wanted = refl
wanted_quiet (Some why) short ends replied wanted = absurd (cc wanted)

-- a text is saved as another one is, if they are the same where the engine wasn't shut: where it was,
-- neither is
pub saves_of_history : {K : Type 0} (written : K → Option (List ℕ)) (failures : K → ℕ) (why : Option Why)
    (short : Bool) (ends : List StreamEnd) (replied : Result (Unit {0}) TextFault) (text other : List ℕ)
    (old new : Option K) (result : Result (Unit {0}) TextFault) → (why ≡ None → text ≡ other)
    → SavesIfThere written failures text (is_left_out why short ends replied) old new result
    → SavesIfThere written failures other (is_left_out why short ends replied) old new result
saves_of_history written failures None short ends replied text other old new result same saves =
    subst (λ (t : List ℕ). SavesIfThere written failures t (is_left_out None short ends replied) old new result)
    (same refl) saves
saves_of_history written failures (Some why) short ends replied text other old new result same (inl wrote) =
    absurd (cc wrote.0)
saves_of_history written failures (Some why) short ends replied text other old new result same (inr none) =
    inr none

-- a sink that may be there is there after the writing where it was before
pub same_sink : {K : Type 0} (written : K → Option (List ℕ)) (failures : K → ℕ) (text : List ℕ)
    (before after : Option K) (result : Result (Unit {0}) TextFault)
    → WritesIfThere written failures text before after result → is_some after ≡ is_some before
same_sink written failures text None None result wrote = refl
same_sink written failures text None (Some after) result wrote = absurd wrote
same_sink written failures text (Some before) None result wrote = absurd wrote
same_sink written failures text (Some before) (Some after) result wrote = refl

-- where it isn't there no write of it failed
pub none_written : {K : Type 0} (written : K → Option (List ℕ)) (failures : K → ℕ) (text : List ℕ)
    (before after : Option K) (result : Result (Unit {0}) TextFault) → after ≡ None
    → WritesIfThere written failures text before after result → is_failed result ≡ true → ⊥
none_written written failures text None None result none wrote failed = not_ok result wrote failed
  where
    not_ok : (r : Result (Unit {0}) TextFault) → IsOk r → is_failed r ≡ true → ⊥
    not_ok (Ok done) ok failed = absurd (cc failed)
    not_ok (Err fault) ok failed = absurd (cc ok)
none_written written failures text before (Some after) result none wrote failed = absurd (cc none)
none_written written failures text (Some before) None result none wrote failed = wrote

-- nor did memory run out for it
pub none_lacking : {K : Type 0} (written : K → Option (List ℕ)) (failures : K → ℕ) (text : List ℕ)
    (before after : Option K) (result : Result (Unit {0}) TextFault) → after ≡ None
    → WritesIfThere written failures text before after result → lacks_memory result ≡ false
none_lacking written failures text None None result none wrote = done result wrote
  where
    done : (r : Result (Unit {0}) TextFault) → IsOk r → lacks_memory r ≡ false
    done (Ok x) ok = refl
    done (Err fault) ok = absurd (cc ok)
none_lacking written failures text before (Some after) result none wrote = absurd (cc none)
none_lacking written failures text (Some before) None result none wrote = absurd wrote

-- ---- line by line

-- the lines of the tuples before this place are written
pub record HasWritten (tuples : List TupleValue) (place : ℕ) (before now : Option (List ℕ)) : Type 0 where
  pub done : List ℕ
  pub cut : done ++ saved_text (drop place tuples) ≡ saved_text tuples
  pub written : now ≡ append_known before done

-- the lines from a place on
pub lines_from : (tuples : List TupleValue) (place : ℕ) (tuple : TupleValue) → place < length tuples
    → tuple ≡ get_or tuples place tuple
    → saved_text (drop place tuples) ≡ (written_line tuple) ++ saved_text (drop (place + 1) tuples)
lines_from tuples place tuple inside is =
    ap (λ (ts : List TupleValue). saved_text ts) (drop_more tuples place tuple inside
    ∙ ap (λ (t : TupleValue). t ∷ drop (place + 1) tuples) (sym is))

-- one line more
pub written_more : (tuples : List TupleValue) (place : ℕ) (tuple : TupleValue) (before now next : Option (List ℕ))
    → place < length tuples → tuple ≡ get_or tuples place tuple → HasWritten tuples place before now
    → next ≡ append_known now (written_line tuple) → HasWritten tuples (place + 1) before next
written_more tuples place tuple before now next inside is has grew = record {
  done = has.done ++ written_line tuple;
  cut = append_assoc has.done (written_line tuple) (saved_text (drop (place + 1) tuples))
      ∙ (ap (λ (t : List ℕ). has.done ++ t) (sym (lines_from tuples place tuple inside is)) ∙ has.cut);
  written = grew ∙ (ap (λ (w : Option (List ℕ)). append_known w (written_line tuple)) has.written
      ∙ append_known-append before has.done (written_line tuple));
}

-- ---- the sources

-- as many streams as files
pub as_many_contents : (first : Option (List ℕ)) (files : List (Option (List ℕ)))
    → length (with_first first files) ≡ length files
as_many_contents first [] = refl
as_many_contents first (file ∷ files) = refl

-- one there is, by how many
pub there_by_count : {A B : Type 0} (one : Option A) (other : Option B) → count_of one ≡ count_of other
    → is_some one ≡ is_some other
there_by_count None None is = refl
there_by_count None (Some y) is = absurd (omega (arith, is))
there_by_count (Some x) None is = absurd (omega (arith, is))
there_by_count (Some x) (Some y) is = refl

-- no source stands before the others of a list
none_before : {S : Type 0} (first : Option S) → count_of first ≡ 0 → first ≡ None
none_before None is = refl
none_before (Some source) is = absurd (omega (arith, is))

-- one source more behind those of some streams
pub source_behind : {S : Type 0} (from : Option S) (own : List S) (source : S) → 1 ≤ length own
    → stream_sources from (own ++ source ∷ []) ≡ stream_sources from own ++ two_sources None source ∷ []
source_behind from [] source some = absurd (omega (arith, some))
source_behind from (one ∷ own) source some =
    ap (λ (rest : List (TwoSources _)). two_sources from one ∷ rest)
    (map-append (two_sources None) own (source ∷ []))

as_many_sources : {S : Type 0} (from : Option S) (own : List S)
    → length (stream_sources from own) ≡ length own
as_many_sources from [] = refl
as_many_sources from (one ∷ own) = ap suc (length-map own (two_sources None))

-- one stream more is taken apart
pub sources_more : {S : Type 0} (from first : Option S) (own more : List S) (second : S) (item : TwoSources S)
    (rest left all : List (TwoSources S)) (count : ℕ) → (count ≡ 0) ⊎ (length all ≡ 1)
    → count_of first ≡ count → first ≡ item.first → second ≡ item.second → rest ≡ item ∷ left
    → stream_sources from own ++ rest ≡ all → 1 ≤ length own → more ≡ own ++ second ∷ []
    → stream_sources from more ++ left ≡ all
sources_more {S} from first own more second item rest left all count alone there firsts seconds here so_far some pushed =
    let none = none_before first (there ∙ no_first alone) in
    let item_is : two_sources None second ≡ item =
    λ i. two_sources ((sym none ∙ firsts) i) (seconds i) in
    ap (λ (ss : List S). stream_sources from ss ++ left) pushed
    ∙ (ap (λ (ss : List (TwoSources S)). ss ++ left) (source_behind from own second some)
    ∙ (append_assoc (stream_sources from own) (two_sources None second ∷ []) left
    ∙ (ap (λ (one : TwoSources S). stream_sources from own ++ (one ∷ left)) item_is
    ∙ (ap (λ (ss : List (TwoSources S)). stream_sources from own ++ ss) (sym here) ∙ so_far))))
  where
    no_first : (count ≡ 0) ⊎ (length all ≡ 1) → count ≡ 0
    no_first (inl zero) = zero
    no_first (inr one) = absurd (omega (
      arith,
      one,
      some,
      ap (λ (ss : List (TwoSources S)). length ss) so_far,
      ap (λ (ss : List (TwoSources S)). length ss) here,
      length-append (stream_sources from own) rest,
      as_many_sources from own,
    ))
