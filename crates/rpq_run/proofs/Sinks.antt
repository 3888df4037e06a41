-- Which writes failed, and what was written by that.
use Rattle.std.proofs.Common.{◌≡◌, ℕ, zero, suc, ◌<◌, ◌≢◌, inl, inr, Bool, true, false, List, []}
use Rattle.std.proofs.Common.{◌∷◌, ◌++◌, length, get_or, Option, Some, None, Result, Ok, Err, refl}
use Rattle.std.proofs.Common.{ap, sym, subst, ◌∙◌, arith, append-nil}
use Rattle.std.specs.Prelude.{IfSome, Contains, if◌then◌else◌}
use Rattle.std.specs.Io.KnownBytes.{append_known}
use Rattle.rpq_io.specs.Counts.{CountsFault}
use Rattle.rpq_io.specs.Files.{IsNewSink}
use Rattle.rpq_io.proofs.Counting.{counts_as}
use Rattle.history_model.specs.declared.line.Why.{Why}
use Rattle.history_model.specs.declared.line.Why.TheVariants.{Write, Memory}
use Rattle.rpq_base.specs.declared.data.Entry.{Entry}
use Rattle.rpq_base.proofs.Members.{cons_members}
use Rattle.rpq_model.specs.Query.{Query}
use Rattle.rpq_text.specs.declared.ends.SinkName.{SinkName}
use Rattle.rpq_text.specs.declared.ends.SinkName.TheVariants.{Events, Replies, Save}
use Rattle.rpq_text.specs.Statuses.{AreSomeSinks}
use Rattle.entry_steps.specs.Steps.{OptionsValue}
use Rattle.rpq_text.specs.Text.{IsText}
use Rattle.rpq_threads.specs.Runs.{WritesText}
use Rattle.rpq_threads.specs.Written.{Grew, GrewByPrefix, GrewByProperPrefix}
use Rattle.rpq_run.specs.declared.fault.TextFault.{TextFault}
use Rattle.rpq_run.specs.declared.fault.TextFault.TheVariants.{Write as WriteOfText}
use Rattle.rpq_run.specs.declared.fault.TextFault.TheVariants.{Memory as MemoryForText}
use Rattle.rpq_run.specs.Failed.{failed_sinks, is_memory, is_write, is_failed, lacks_memory}
use Rattle.rpq_run.specs.Parts.{WritesPart}
use Rattle.rpq_run.specs.RunsStreams.{nothing_told}
use Rattle.rpq_run.specs.Written.{WritesWhere}

-- ---- which sinks are told

chosen : Bool → Bool → Bool → SinkName → Bool
chosen events replies save Events = events
chosen events replies save Replies = replies
chosen events replies save Save = save

-- each of them once, and in their order
pub some_sinks : (events replies save : Bool) → AreSomeSinks (failed_sinks events replies save)
unfolding chosen
some_sinks true true true = (chosen true true true, refl)
some_sinks true true false = (chosen true true false, refl)
some_sinks true false true = (chosen true false true, refl)
some_sinks true false false = (chosen true false false, refl)
some_sinks false true true = (chosen false true true, refl)
some_sinks false true false = (chosen false true false, refl)
some_sinks false false true = (chosen false false true, refl)
some_sinks false false false = (chosen false false false, refl)

pub none_contained : {X : Type 0} (y : X) → Contains [] y → ⊥
none_contained {X} y has = absurd (omega (arith, has.1))

-- an element that isn't the first is one of the others
not_first : {X : Type 0} (x y : X) (xs : List X) → x ≢ y → Contains (x ∷ xs) y → Contains xs y
not_first {X} x y xs apart has = elim ((cons_members x xs y).0 has) [
  | inl same ↦ absurd (apart same)
  | inr other ↦ other
]

-- the one element of a list
pub one_contained : {X : Type 0} (x y : X) → Contains (x ∷ []) y → x ≡ y
one_contained {X} x y has = by has.0 has.1 has.2
  where
    by : (k : ℕ) → k < length (x ∷ []) → get_or (x ∷ []) k y ≡ y → x ≡ y
    by zero inside is = is
    by (suc k) inside is = absurd (omega (arith, inside))

pub contains_first : {X : Type 0} (x : X) (xs : List X) → Contains (x ∷ xs) x
contains_first x xs = (0, omega arith, refl)

-- the last of them
abbrev last_sink : Bool → List SinkName
last_sink save = if save then Save ∷ [] else []

-- and those behind the events
abbrev other_sinks : Bool → Bool → List SinkName
other_sinks replies save = (if replies then Replies ∷ [] else []) ++ last_sink save

in_last : (sink : SinkName) (save : Bool) → sink ≢ Save → Contains (last_sink save) sink → ⊥
in_last sink true other has =
    absurd (none_contained sink (not_first Save sink [] (λ same. other (sym same)) has))
in_last sink false other has = absurd (none_contained sink has)

no_events : (replies save : Bool) → Contains (other_sinks replies save) Events → ⊥
no_events true save has =
    in_last Events save (λ same. cc same)
    (not_first Replies Events (last_sink save) (λ same. cc same) has)
no_events false save has = in_last Events save (λ same. cc same) has

pub events_in : (events replies save : Bool) → events ≡ true
    → Contains (failed_sinks events replies save) Events
events_in true replies save is = contains_first Events (other_sinks replies save)
events_in false replies save is = absurd (cc is)

pub in_events : (events replies save : Bool) → Contains (failed_sinks events replies save) Events
    → events ≡ true
in_events true replies save has = refl
in_events false replies save has = absurd (no_events replies save has)

pub replies_in : (events replies save : Bool) → replies ≡ true
    → Contains (failed_sinks events replies save) Replies
replies_in true true save is = (1, omega arith, refl)
replies_in false true save is = contains_first Replies (last_sink save)
replies_in events false save is = absurd (cc is)

pub in_replies : (events replies save : Bool) → Contains (failed_sinks events replies save) Replies
    → replies ≡ true
in_replies events true save has = refl
in_replies true false save has = absurd (in_last Replies save (λ same. cc same)
    (not_first Events Replies (last_sink save) (λ same. cc same) has))
in_replies false false save has = absurd (in_last Replies save (λ same. cc same) has)

pub save_in : (events replies save : Bool) → save ≡ true
    → Contains (failed_sinks events replies save) Save
save_in true true true is = (2, omega arith, refl)
save_in true false true is = (1, omega arith, refl)
save_in false true true is = (1, omega arith, refl)
save_in false false true is = contains_first Save []
save_in events replies false is = absurd (cc is)

pub in_save : (events replies save : Bool) → Contains (failed_sinks events replies save) Save
    → save ≡ true
in_save events replies true has = refl
in_save true true false has =
    absurd (none_contained Save (not_first Replies Save [] (λ same. cc same)
    (not_first Events Save (Replies ∷ []) (λ same. cc same) has)))
in_save true false false has =
    absurd (none_contained Save (not_first Events Save [] (λ same. cc same) has))
in_save false true false has =
    absurd (none_contained Save (not_first Replies Save [] (λ same. cc same) has))
in_save false false false has = absurd (none_contained Save has)

-- where none of them is told, none is
pub no_sinks : (failed : List SinkName) → (Contains failed Events → ⊥)
    → (Contains failed Replies → ⊥)
    → (Contains failed Save → ⊥) → failed ≡ []
no_sinks [] events replies save = refl
no_sinks (Events ∷ rest) events replies save = absurd (events (contains_first Events rest))
no_sinks (Replies ∷ rest) events replies save = absurd (replies (contains_first Replies rest))
no_sinks (Save ∷ rest) events replies save = absurd (save (contains_first Save rest))

-- ---- what a sink grew by

module _ (IsText : List ℕ → Type 0) (before after : Option (List ℕ)) where
  -- what is whole is a prefix
  pub whole_is_prefix : Grew IsText before after → GrewByPrefix IsText before after
  whole_is_prefix whole = record {
    front = whole.text;
    rest = [];
    of_kind = subst IsText (sym (append-nil whole.text)) whole.of_kind;
    written = whole.written;
  }

  -- a proper prefix is a prefix
  pub proper_is_prefix : GrewByProperPrefix IsText before after → GrewByPrefix IsText before after
  proper_is_prefix proper = record {
    front = proper.front;
    rest = proper.rest;
    of_kind = proper.of_kind;
    written = proper.written;
  }

-- ---- the events

-- the shut of the engine for a failed write is one
pub is_write_some : (why : Option Why) → why ≡ Some Write → is_write why ≡ true
is_write_some why is = ap is_write is

pub some_is_write : (why : Option Why) → is_write why ≡ true → why ≡ Some Write
some_is_write None is = absurd (cc is)
some_is_write (Some Write) is = refl
some_is_write (Some Memory) is = absurd (cc is)

-- what the threads wrote, by the failed sinks and the status
pub events_written : {K : Type 0} (written : K → Option (List ℕ)) (failures : K → ℕ)
    (options : OptionsValue) (queries : List Query) (history : List Entry) (before after : K)
    (why : Option Why) (replies save : Bool)
    → WritesText written failures options queries history before after why
    → WritesWhere (Contains (failed_sinks (is_write why) replies save) Events)
    (is_memory why ≡ true) (IsText options queries history) (written before) (written after)
events_written written failures options queries history before after None replies save writes =
    record {
      whole = λ none other. writes.whole refl;
      part = λ has.
          let no : false ≡ true = in_events false replies save has in
          absurd (cc no);
      prefix = whole_is_prefix (IsText options queries history) (written before)
          (written after) (writes.whole refl);
      apart = λ has short. absurd (cc short);
    }
events_written written failures options queries history before after (Some Write) replies save
    writes = record {
      whole = λ none other. absurd (none (events_in true replies save refl));
      part = λ has. writes.write refl;
      prefix = proper_is_prefix (IsText options queries history) (written before)
          (written after) (writes.write refl);
      apart = λ has short. absurd (cc short);
    }
events_written written failures options queries history before after (Some Memory) replies save
    writes = record {
      whole = λ none other. absurd (other refl);
      part = λ has.
          let no : false ≡ true = in_events false replies save has in
          absurd (cc no);
      prefix = writes.memory refl;
      apart = λ has short.
          let no : false ≡ true = in_events false replies save has in
          absurd (cc no);
    }

-- and counted
pub events_counted : (why : Option Why) (replies save : Bool) (before after : ℕ)
    → CountsFault (why ≡ Some Write) before after
    → CountsFault (Contains (failed_sinks (is_write why) replies save) Events) before after
events_counted why replies save before after counts =
    counts_as (why ≡ Some Write) (Contains (failed_sinks (is_write why) replies save) Events)
    before after
    (λ is. events_in (is_write why) replies save (is_write_some why is))
    (λ has. some_is_write why (in_events (is_write why) replies save has)) counts

-- ---- the replies

pub is_failed_err : (replied : Result (Unit {0}) TextFault) → replied ≡ Err WriteOfText
    → is_failed replied ≡ true
is_failed_err replied is = ap is_failed is

pub err_is_failed : (replied : Result (Unit {0}) TextFault) → is_failed replied ≡ true
    → replied ≡ Err WriteOfText
err_is_failed (Ok done) is = absurd (cc is)
err_is_failed (Err WriteOfText) is = refl
err_is_failed (Err MemoryForText) is = absurd (cc is)

-- what a sink had on it at first, where that was nothing
nothing_before : (old new : Option (List ℕ)) (front : List ℕ) → IfSome old (λ bytes. bytes ≡ [])
    → new ≡ append_known old front → old ≡ nothing_told new
nothing_before None new front empty is = sym (ap nothing_told is)
nothing_before (Some bytes) new front empty is = ap (λ (b : List ℕ). Some b) empty
    ∙ sym (ap nothing_told is)

-- it grew from nothing
from_nothing : (old new : Option (List ℕ)) (front : List ℕ) → IfSome old (λ bytes. bytes ≡ [])
    → new ≡ append_known old front → new ≡ append_known (nothing_told new) front
from_nothing old new front empty is =
    is ∙ ap (λ (w : Option (List ℕ)). append_known w front) (nothing_before old new front empty is)

-- what was written on a new sink, where `failed` says that a write of it failed
pub text_written : {K : Type 0} (written : K → Option (List ℕ)) (failures : K → ℕ) (text : List ℕ)
    (old new : K) (failed : Type 0) (result : Result (Unit {0}) TextFault)
    → (is_failed result ≡ true → failed) → (failed → is_failed result ≡ true)
    → IsNewSink written failures old → WritesPart written failures text old new result
    → WritesWhere failed (lacks_memory result ≡ true) (λ t. t ≡ text)
    (nothing_told (written new)) (written new)
text_written written failures text old new failed (Ok done) there back fresh part =
    let all : Grew (λ t. t ≡ text) (nothing_told (written new)) (written new) = record {
      text = text;
      of_kind = refl;
      written = from_nothing (written old) (written new) text fresh.empty (part.whole refl);
    } in
    record {
      whole = λ none other. all;
      part = λ has.
          let no : false ≡ true = back has in
          absurd (cc no);
      prefix = whole_is_prefix (λ t. t ≡ text) (nothing_told (written new)) (written new) all;
      apart = λ has short. absurd (cc short);
    }
text_written written failures text old new failed (Err WriteOfText) there back fresh part =
    let proper = part.write refl in
    let front : GrewByProperPrefix (λ t. t ≡ text) (nothing_told (written new)) (written new) =
    record {
      front = proper.front;
      rest = proper.rest;
      of_kind = sym proper.cut;
      proper = proper.proper;
      written = from_nothing (written old) (written new) proper.front fresh.empty proper.written;
    } in
    record {
      whole = λ none other. absurd (none (there refl));
      part = λ has. front;
      prefix = proper_is_prefix (λ t. t ≡ text) (nothing_told (written new))
          (written new) front;
      apart = λ has short. absurd (cc short);
    }
text_written written failures text old new failed (Err MemoryForText) there back fresh part =
    let front = part.memory refl in
    record {
      whole = λ none other. absurd (other refl);
      part = λ has.
          let no : false ≡ true = back has in
          absurd (cc no);
      prefix = record {
        front = front.front;
        rest = front.rest;
        of_kind = front.of_kind;
        written = from_nothing (written old) (written new) front.front fresh.empty front.written;
      };
      apart = λ has short.
          let no : false ≡ true = back has in
          absurd (cc no);
    }

-- and counted
pub text_counted : (failed : Type 0) (result : Result (Unit {0}) TextFault) (before after : ℕ)
    → (is_failed result ≡ true → failed) → (failed → is_failed result ≡ true)
    → before ≡ 0 → CountsFault (result ≡ Err WriteOfText) before after → CountsFault failed 0 after
text_counted failed result before after there back none counts =
    subst (λ n. CountsFault failed n after) none
    (counts_as (result ≡ Err WriteOfText) failed before after
    (λ is. there (is_failed_err result is)) (λ has. err_is_failed result (back has)) counts)
