-- What the items of a stream make of its pass and of the sink of its faulty lines.
use Rattle.std.proofs.Common.{◌≡◌, ℕ, ◌≤◌, List, [], ◌∷◌, ◌++◌, length, refl, sym, ap, subst, ◌∙◌, rules}
use Rattle.std.proofs.Common.{append_assoc, append-nil, Option, Some, None}
use Rattle.std.specs.Prelude.{true, is_some, IfSome, IfErr, OnOk, OnErr, Result, Ok, Err}
use Rattle.std.specs.Io.KnownBytes.{append_known}
use Rattle.std.proofs.lemmas.Option.{IfSome_then}
use Rattle.rpq_base.specs.declared.data.Tuple.{Tuple as TupleOf}
use Rattle.rpq_io.specs.Files.{IsNewSink}
use Rattle.rpq_io.specs.Writes.{WritesProperPrefix}
use Rattle.history_model.specs.declared.line.Why.{Why}
use Rattle.history_model.specs.declared.line.Line.{Line}
use Rattle.history_model.specs.Lines.{entries, IsShutFor}
use Rattle.history_model.specs.World.{Terms}
use Rattle.turn_lock.specs.Passes.{PassValue}
use Rattle.stream_history.specs.History.{HistoryValue}
use Rattle.text_items.specs.Items.{text_items}
use Rattle.text_items.specs.Taken.{IsPrefix}
use Rattle.text_items.proofs.Reading.{front_of}
use Rattle.stream_tuples.specs.declared.ends.StreamEnd.{StreamEnd}
use Rattle.stream_tuples.specs.declared.ends.StreamEnd.TheVariants as end_of
use Rattle.stream_tuples.specs.declared.faults.FaultPolicy.{FaultPolicy}
use Rattle.stream_tuples.specs.declared.faults.FaultPolicy.TheVariants.{Stop, Report}
use Rattle.stream_tuples.specs.declared.faults.StreamItem.{StreamItem}
use Rattle.stream_tuples.specs.declared.faults.StreamItem.TheVariants.{Tuple, Fault}
use Rattle.stream_tuples.specs.Ends.{CanEnd, IsReadEnd}
use Rattle.stream_tuples.specs.Faults.{tuples_in, reports_in, IsItemOf}
use Rattle.stream_tuples.specs.History.{AreTuplesOfEnd, AreItemsOfEnd, HasReports, ReportsFaults}
use Rattle.stream_tuples.specs.History.{policy_of_sink, told_items}
use Rattle.stream_tuples.specs.Progress.{ReadsOn, EndsReading}
use Rattle.stream_tuples.specs.StreamText.{stream_reading, tuples_from}
use Rattle.stream_tuples.proofs.Reading.{can_end}
use Rattle.stream_tuples.proofs.Fronts.{tuples_of_more, reports_of_more}
use Rattle.stream_threads.specs.declared.stream_input.StreamInput.{StreamInput}
use Rattle.stream_threads.specs.Inputs.{IsNewInput}
use Rattle.stream_threads.specs.Streams.{tuples_of}
use Rattle.stream_threads.specs.Taking.{written_on, failed_on, AreTaken, AreTakenByEnd, IsRefusal}
use Rattle.stream_threads.specs.Taking.{TakesOne, EndsTaking}

-- ---- items one after another

tuples_same : (items : List StreamItem) (report : List ℕ) →
    tuples_in (items ++ Fault report ∷ []) ≡ tuples_in items
tuples_same items report =
    tuples_of_more items (Fault report ∷ []) ∙ append-nil (tuples_in items)

reports_same : (items : List StreamItem) (tuple : TupleOf) →
    reports_in (items ++ Tuple tuple ∷ []) ≡ reports_in items
reports_same items tuple =
    reports_of_more items (Tuple tuple ∷ []) ∙ append-nil (reports_in items)

reports_push : (items : List StreamItem) (report : List ℕ) →
    reports_in (items ++ Fault report ∷ []) ≡ reports_in items ++ report
reports_push items report =
    reports_of_more items (Fault report ∷ [])
    ∙ ap (λ (l : List ℕ). reports_in items ++ l) (append-nil report)

-- ---- what is known of a sink

-- what is known grows by more
known_more : (old new : Option (List ℕ)) (had more all : List ℕ) → new ≡ append_known old more →
    IfSome old (λ bytes. bytes ≡ had) → had ++ more ≡ all → IfSome new (λ bytes. bytes ≡ all)
known_more None new had more all grew is same =
    subst (λ (n : Option (List ℕ)). IfSome n (λ bytes. bytes ≡ all)) (sym grew) tt
known_more (Some bytes) new had more all grew is same =
    subst (λ (n : Option (List ℕ)). IfSome n (λ bytes. bytes ≡ all)) (sym grew)
    (ap (λ (l : List ℕ). l ++ more) is ∙ same)

-- what is said of a text and of a sink, each of which may not be known
both_known : (P : List ℕ → List ℕ → Type 0) (file on : Option (List ℕ)) →
    ((text bytes : List ℕ) → file ≡ Some text → on ≡ Some bytes → P text bytes) →
    IfSome file (λ text. IfSome on (λ bytes. P text bytes))
both_known P None on is = tt
both_known P (Some text) None is = tt
both_known P (Some text) (Some bytes) is = is text bytes refl refl

-- what is known, at a place
at_known : (P : List ℕ → Type 0) (known : Option (List ℕ)) (value : List ℕ) → IfSome known P →
    known ≡ Some value → P value
at_known P known value is same =
    subst (λ (k : Option (List ℕ)). IfSome k P) same is

-- a sink that tells what is written on it is there, and so faults are told
told_on : {K : Type 0} (written : K → Option (List ℕ)) (old new : Option K) (bytes : List ℕ) →
    is_some new ≡ is_some old → written_on written new ≡ Some bytes → policy_of_sink old ≡ Report
told_on written None None bytes same is = absurd (cc is)
told_on written (Some sink) None bytes same is = absurd (cc is)
told_on written None (Some sink) bytes same is = absurd (cc same)
told_on written (Some before) (Some sink) bytes same is = refl

-- ---- an item more

module _ {S K : Type 0} (policy : FaultPolicy) (left : S → Option (List ℕ))
    (written : K → Option (List ℕ)) (old new : StreamInput S K) (before after : List Line) where
  -- a tuple was read and appended
  pub takes_tuple : (tuple : TupleOf) → ReadsOn policy left old.reader new.reader (Tuple tuple ∷ []) →
      new.faults ≡ old.faults → tuples_of after ≡ tuples_of before ++ tuple ∷ [] →
      (file : Option (List ℕ)) → AreTaken policy left written file old before →
      AreTaken policy left written file new after
  takes_tuple tuple reads same added file was = record {
    items = was.items ++ Tuple tuple ∷ [];
    read = reads.read file was.items was.read;
    tuples = added
        ∙ (ap (λ (l : List TupleOf). l ++ tuple ∷ []) was.tuples
        ∙ sym (tuples_of_more was.items (Tuple tuple ∷ [])));
    reports = subst (λ (l : List ℕ). IfSome (written_on written new.faults) (λ bytes. bytes ≡ l))
        (sym (reports_same was.items tuple))
        (subst (λ (k : Option K). IfSome (written_on written k) (λ bytes.
        bytes ≡ reports_in was.items)) (sym same) was.reports);
  }

  -- a fault was read and told
  pub takes_fault : (report : List ℕ) →
      ReadsOn policy left old.reader new.reader (Fault report ∷ []) →
      written_on written new.faults ≡ append_known (written_on written old.faults) report →
      after ≡ before → (file : Option (List ℕ)) →
      AreTaken policy left written file old before → AreTaken policy left written file new after
  takes_fault report reads grew same file was = record {
    items = was.items ++ Fault report ∷ [];
    read = reads.read file was.items was.read;
    tuples = ap tuples_of same ∙ (was.tuples ∙ sym (tuples_same was.items report));
    reports = known_more (written_on written old.faults) (written_on written new.faults)
        (reports_in was.items) report (reports_in (was.items ++ Fault report ∷ [])) grew was.reports
        (sym (reports_push was.items report));
  }

-- ---- the end of a stream

-- an end that the reading met isn't that of a full history, nor of one that takes no more
pub no_full : (policy : FaultPolicy) (end : StreamEnd) → IsReadEnd policy end →
    end ≡ end_of.Full → ⊥
no_full policy end meets is = subst (IsReadEnd policy) is meets

pub no_closed : (policy : FaultPolicy) (end : StreamEnd) (why : Why) → IsReadEnd policy end →
    end ≡ end_of.Closed why → ⊥
no_closed policy end why meets is = subst (IsReadEnd policy) is meets

met_reports : (end : StreamEnd) (items all : List StreamItem) (bytes : List ℕ) →
    IsReadEnd Report end → bytes ≡ reports_in items → HasReports items all end bytes
met_reports end_of.Whole items all bytes met is = is
met_reports (end_of.Line number fault) items all bytes met is = is
met_reports (end_of.LongLine number) items all bytes met is = is
met_reports end_of.LongStream items all bytes met is = is
met_reports end_of.Read items all bytes met is = is
met_reports end_of.Faults items all bytes met is = absurd met
met_reports end_of.Full items all bytes met is = is
met_reports (end_of.Closed why) items all bytes met is = is
met_reports end_of.Memory items all bytes met is = is

-- an end at which a tuple wasn't appended is possible with each policy
pub refusal_kind : (policy : FaultPolicy) (history : HistoryValue) (lines : List Line)
    (end : StreamEnd) → IsRefusal history lines end → CanEnd policy end
refusal_kind policy history lines end_of.Whole is = absurd is
refusal_kind policy history lines (end_of.Line number fault) is = absurd is
refusal_kind policy history lines (end_of.LongLine number) is = absurd is
refusal_kind policy history lines end_of.LongStream is = absurd is
refusal_kind policy history lines end_of.Read is = absurd is
refusal_kind policy history lines end_of.Faults is = absurd is
refusal_kind Stop history lines end_of.Full is = tt
refusal_kind Report history lines end_of.Full is = tt
refusal_kind Stop history lines (end_of.Closed why) is = tt
refusal_kind Report history lines (end_of.Closed why) is = tt
refusal_kind Stop history lines end_of.Memory is = tt
refusal_kind Report history lines end_of.Memory is = tt

module _ (history : HistoryValue) (lines : List Line) where
  -- the tuples before one that was read
  refused_tuples : (end : StreamEnd) → IsRefusal history lines end → (policy : FaultPolicy)
      (limit : ℕ) (text : List ℕ) (left : Option (List ℕ)) (tuples : List TupleOf) (tuple : TupleOf)
      (rest : List TupleOf) → (tuples_from policy 1 limit text).tuples ≡ tuples ++ tuple ∷ rest →
      AreTuplesOfEnd policy limit text left tuples end
  refused_tuples end_of.Full is policy limit text left tuples tuple rest cut = record {
    rest = tuple ∷ rest;
    cut = cut;
    proper = λ none. absurd (cc none);
  }
  refused_tuples (end_of.Closed why) is policy limit text left tuples tuple rest cut = record {
    rest = tuple ∷ rest;
    cut = cut;
    proper = λ none. absurd (cc none);
  }
  refused_tuples end_of.Memory is policy limit text left tuples tuple rest cut =
      record { rest = tuple ∷ rest; cut = cut }
  refused_tuples end_of.Whole is policy limit text left tuples tuple rest cut = absurd is
  refused_tuples (end_of.Line number fault) is policy limit text left tuples tuple rest cut =
      absurd is
  refused_tuples (end_of.LongLine number) is policy limit text left tuples tuple rest cut =
      absurd is
  refused_tuples end_of.LongStream is policy limit text left tuples tuple rest cut = absurd is
  refused_tuples end_of.Read is policy limit text left tuples tuple rest cut = absurd is
  refused_tuples end_of.Faults is policy limit text left tuples tuple rest cut = absurd is

  -- the items before it
  refused_items : (end : StreamEnd) → IsRefusal history lines end → (limit : ℕ) (text : List ℕ)
      (left : Option (List ℕ)) (items : List StreamItem) (tuple : TupleOf) (rest : List StreamItem) →
      (told_items limit text).items ≡ items ++ Tuple tuple ∷ rest →
      AreItemsOfEnd limit text left items end
  refused_items end_of.Full is limit text left items tuple rest cut = (tuple, rest, cut)
  refused_items (end_of.Closed why) is limit text left items tuple rest cut = (tuple, rest, cut)
  refused_items end_of.Memory is limit text left items tuple rest cut =
      record { rest = Tuple tuple ∷ rest; cut = cut }
  refused_items end_of.Whole is limit text left items tuple rest cut = absurd is
  refused_items (end_of.Line number fault) is limit text left items tuple rest cut = absurd is
  refused_items (end_of.LongLine number) is limit text left items tuple rest cut = absurd is
  refused_items end_of.LongStream is limit text left items tuple rest cut = absurd is
  refused_items end_of.Read is limit text left items tuple rest cut = absurd is
  refused_items end_of.Faults is limit text left items tuple rest cut = absurd is

  refused_reports : (end : StreamEnd) → IsRefusal history lines end →
      (items all : List StreamItem) (bytes : List ℕ) → bytes ≡ reports_in items →
      HasReports items all end bytes
  refused_reports end_of.Full is items all bytes same = same
  refused_reports (end_of.Closed why) is items all bytes same = same
  refused_reports end_of.Memory is items all bytes same = same
  refused_reports end_of.Whole is items all bytes same = same
  refused_reports (end_of.Line number fault) is items all bytes same = same
  refused_reports (end_of.LongLine number) is items all bytes same = same
  refused_reports end_of.LongStream is items all bytes same = same
  refused_reports end_of.Read is items all bytes same = same
  refused_reports end_of.Faults is items all bytes same = absurd is

  -- such an end has its cause
  pub refused_full : (end : StreamEnd) → IsRefusal history lines end → end ≡ end_of.Full →
      history.terms.cap ≤ length (entries lines)
  refused_full end is same = subst (IsRefusal history lines) same is

  pub refused_closed : (end : StreamEnd) (why : Why) → IsRefusal history lines end →
      end ≡ end_of.Closed why → IsShutFor lines why
  refused_closed end why is same = subst (IsRefusal history lines) same is

-- items behind which one more was read
cut_at : (policy : FaultPolicy) (items : List StreamItem) (item : StreamItem) (limit : ℕ)
    (text : List ℕ) →
    (front : IsPrefix (items ++ item ∷ []) (text_items (stream_reading policy) limit text).items) →
    (text_items (stream_reading policy) limit text).items ≡ items ++ item ∷ front.rest
cut_at policy items item limit text front =
    front.cut ∙ append_assoc items (item ∷ []) front.rest

-- and their tuples
cut_tuples_at : (policy : FaultPolicy) (items : List StreamItem) (item : StreamItem) (limit : ℕ)
    (text : List ℕ) →
    (front : IsPrefix (items ++ item ∷ []) (text_items (stream_reading policy) limit text).items) →
    (tuples_from policy 1 limit text).tuples ≡ tuples_in items ++ tuples_in (item ∷ front.rest)
unfolding tuples_from
cut_tuples_at policy items item limit text front =
    ap tuples_in (cut_at policy items item limit text front)
    ∙ tuples_of_more items (item ∷ front.rest)

module _ {S K : Type 0} (left : S → Option (List ℕ)) (written : K → Option (List ℕ))
    (old new : StreamInput S K) (before after : List Line) where
  abbrev policy : FaultPolicy
  policy = policy_of_sink old.faults

  abbrev limit : ℕ
  limit = new.reader.byte_limit

  abbrev rest : Option (List ℕ)
  rest = left new.reader.source

  -- the sink is as it was
  still : new.faults ≡ old.faults → (bytes items : List ℕ) →
      IfSome (written_on written old.faults) (λ bytes. bytes ≡ items) →
      written_on written new.faults ≡ Some bytes → bytes ≡ items
  still same bytes items was on =
      at_known (λ bytes. bytes ≡ items) (written_on written old.faults) bytes was
      (ap (written_on written) (sym same) ∙ on)

  -- the reading met this end
  pub ends_so : (end : StreamEnd) → EndsReading policy left old.reader new.reader end →
      new.faults ≡ old.faults → after ≡ before → (file : Option (List ℕ)) →
      AreTaken policy left written file old before →
      AreTakenByEnd policy left written file new after end
  ends_so end ends same unchanged file was =
      let own : tuples_of after ≡ tuples_in was.items = ap tuples_of unchanged ∙ was.tuples in
      record {
        tied = subst (λ (ts : List TupleOf). IfSome file (λ text.
            AreTuplesOfEnd policy limit text rest ts end)) (sym own)
            (ends.tied file was.items was.read);
        reported = both_known
            (λ text bytes. ReportsFaults limit text rest (tuples_of after) bytes end) file
            (written_on written new.faults) (λ text bytes at on.
            let tells = told_on written old.faults new.faults bytes (ap is_some same) on in
            record {
              items = was.items;
              tuples_are = own;
              taken = at_known (λ text. AreItemsOfEnd limit text rest was.items end) file text
                  (ends.items tells file was.items was.read) at;
              reported = met_reports end was.items (told_items limit text).items bytes
                  (subst (λ (p : FaultPolicy). IsReadEnd p end) tells ends.met)
                  (still same bytes (reports_in was.items) was.reports on);
            });
      }

  -- a tuple was read and not appended
  pub refused_so : (history : HistoryValue) (lines : List Line) (end : StreamEnd) (tuple : TupleOf) →
      IsRefusal history lines end → ReadsOn policy left old.reader new.reader (Tuple tuple ∷ []) →
      new.faults ≡ old.faults → tuples_of after ≡ tuples_of before → (file : Option (List ℕ)) →
      AreTaken policy left written file old before →
      AreTakenByEnd policy left written file new after end
  refused_so history lines end tuple is reads same unchanged file was =
      let own : tuples_of after ≡ tuples_in was.items = unchanged ∙ was.tuples in
      let front = front_of (stream_reading policy) left file (was.items ++ Tuple tuple ∷ [])
      new.reader reads.sound (reads.read file was.items was.read) in
      record {
        tied = subst (λ (ts : List TupleOf). IfSome file (λ text.
            AreTuplesOfEnd policy limit text rest ts end)) (sym own)
            (IfSome_then file front (λ text front.
            refused_tuples history lines end is policy limit text rest (tuples_in was.items) tuple
            (tuples_in front.rest) (cut_tuples_at policy was.items (Tuple tuple) limit text front)));
        reported = both_known
            (λ text bytes. ReportsFaults limit text rest (tuples_of after) bytes end) file
            (written_on written new.faults) (λ text bytes at on.
            let tells = told_on written old.faults new.faults bytes (ap is_some same) on in
            let here = at_known (λ text.
            IsPrefix (was.items ++ Tuple tuple ∷ []) (text_items (stream_reading policy) limit text).items)
            file text front at in
            record {
              items = was.items;
              tuples_are = own;
              taken = refused_items history lines end is limit text rest was.items tuple here.rest
                  (subst (λ (p : FaultPolicy). (text_items (stream_reading p) limit text).items
                  ≡ was.items ++ Tuple tuple ∷ here.rest) tells
                  (cut_at policy was.items (Tuple tuple) limit text here));
              reported = refused_reports history lines end is was.items (told_items limit text).items
                  bytes (still same bytes (reports_in was.items) was.reports on);
            });
      }

  -- a fault was read, and a write of what is told of it failed
  pub unwritten_so : (report : List ℕ) →
      ReadsOn policy left old.reader new.reader (Fault report ∷ []) →
      is_some new.faults ≡ is_some old.faults →
      WritesProperPrefix report (written_on written old.faults) (written_on written new.faults) →
      after ≡ before → (file : Option (List ℕ)) → AreTaken policy left written file old before →
      AreTakenByEnd policy left written file new after end_of.Faults
  unwritten_so report reads there writes unchanged file was =
      let own : tuples_of after ≡ tuples_in was.items = ap tuples_of unchanged ∙ was.tuples in
      let front = front_of (stream_reading policy) left file (was.items ++ Fault report ∷ [])
      new.reader reads.sound (reads.read file was.items was.read) in
      record {
        tied = subst (λ (ts : List TupleOf). IfSome file (λ text.
            IsPrefix ts (tuples_from policy 1 limit text).tuples)) (sym own)
            (IfSome_then file front (λ text front. record {
              rest = tuples_in front.rest;
              cut = cut_tuples_at policy was.items (Fault report) limit text front;
            }));
        reported = both_known
            (λ text bytes. ReportsFaults limit text rest (tuples_of after) bytes end_of.Faults) file
            (written_on written new.faults) (λ text bytes at on.
            let tells = told_on written old.faults new.faults bytes there on in
            let here = at_known (λ text.
            IsPrefix (was.items ++ Fault report ∷ []) (text_items (stream_reading policy) limit text).items)
            file text front at in
            let cut = subst (λ (p : FaultPolicy). (text_items (stream_reading p) limit text).items
            ≡ was.items ++ Fault report ∷ here.rest) tells
            (cut_at policy was.items (Fault report) limit text here) in
            let part = at_known (λ bytes. bytes ≡ reports_in was.items ++ writes.front)
            (written_on written new.faults) bytes
            (known_more (written_on written old.faults) (written_on written new.faults)
            (reports_in was.items) writes.front (reports_in was.items ++ writes.front)
            writes.written was.reports refl) on in
            record {
              items = was.items;
              tuples_are = own;
              taken = (report, here.rest, cut);
              reported = (
                report,
                here.rest,
                writes.front,
                cut,
                part,
                record { rest = writes.rest; cut = writes.cut; proper = writes.proper },
              );
            });
      }

-- ---- before the first line

empty_on : {K : Type 0} (written : K → Option (List ℕ)) (failures : K → ℕ) (sink : Option K) →
    IfSome sink (IsNewSink written failures) →
    IfSome (written_on written sink) (λ bytes. bytes ≡ [])
empty_on written failures None new = tt
empty_on written failures (Some sink) new = new.empty

-- no write on it failed
pub none_failed : {K : Type 0} (written : K → Option (List ℕ)) (failures : K → ℕ)
    (sink : Option K) → IfSome sink (IsNewSink written failures) → failed_on failures sink ≡ 0
none_failed written failures None new = refl
none_failed written failures (Some sink) new = new.no_fault

pub none_taken : {S K : Type 0} (cap : ℕ) (left : S → Option (List ℕ)) (faults : S → ℕ)
    (written : K → Option (List ℕ)) (failures : K → ℕ) (input : StreamInput S K)
    (lines : List Line) → IsNewInput cap left faults written failures input → lines ≡ [] →
    AreTaken (policy_of_sink input.faults) left written (left input.reader.source) input lines
none_taken cap left faults written failures input lines new none = record {
  items = [];
  read = search (rules, new.0.fresh.no_bytes, new.0.fresh.none_taken, new.0.fresh.no_line);
  tuples = ap tuples_of none;
  reports = empty_on written failures input.faults new.1;
}

-- ---- what a call answers

-- a fault comes only where faults are told
fault_kind : (policy : FaultPolicy) (report : List ℕ) → IsItemOf policy (Fault report) →
    CanEnd policy end_of.Faults
fault_kind Stop report is = absurd is
fault_kind Report report is = tt

pub same_policy : {K : Type 0} (one other : Option K) → is_some one ≡ is_some other →
    policy_of_sink one ≡ policy_of_sink other
same_policy None None same = refl
same_policy None (Some sink) same = absurd (cc same)
same_policy (Some sink) None same = absurd (cc same)
same_policy (Some one) (Some other) same = refl

-- there is a sink where an item is a fault
pub has_sink : {K : Type 0} (sink : Option K) (item : StreamItem) (report : List ℕ) →
    IsItemOf (policy_of_sink sink) item → item ≡ Fault report → is_some sink ≡ true
has_sink None item report is same =
    absurd (subst (λ (i : StreamItem). IsItemOf Stop i) same is)
has_sink (Some sink) item report is same = refl

module _ {S K : Type 0} (left : S → Option (List ℕ)) (written : K → Option (List ℕ))
    (old new : StreamInput S K) (before after : PassValue Line Terms) (policy : FaultPolicy)
    (told : policy ≡ policy_of_sink old.faults) where
  module _ (item : StreamItem) (tuple : TupleOf)
      (reads : ReadsOn policy left old.reader new.reader (item ∷ [])) (is : item ≡ Tuple tuple)
      (same : new.faults ≡ old.faults) where
    read_tuple : ReadsOn (policy_of_sink old.faults) left old.reader new.reader (Tuple tuple ∷ [])
    read_tuple =
        subst (λ (p : FaultPolicy). ReadsOn p left old.reader new.reader (Tuple tuple ∷ [])) told
        (subst (λ (i : StreamItem). ReadsOn policy left old.reader new.reader (i ∷ [])) is reads)

    -- a tuple was read, and the call that was to append it answered so
    pub tuple_taken : (result : Result (Unit {0}) StreamEnd) →
        OnOk result (tuples_of after.mine ≡ tuples_of before.mine ++ tuple ∷ []) →
        OnOk result (TakesOne left written old new before after)
    tuple_taken (Ok done) added = record {
      sound = read_tuple.sound;
      forward = read_tuple.forward;
      taken = takes_tuple (policy_of_sink old.faults) left written old new before.mine after.mine
          tuple read_tuple same added;
    }
    tuple_taken (Err end) added = tt

    pub tuple_refused : (history : HistoryValue) (result : Result (Unit {0}) StreamEnd) →
        OnErr result (tuples_of after.mine ≡ tuples_of before.mine) →
        IfErr result (IsRefusal history after.seen) →
        IfErr result (EndsTaking left written history old new before after)
    tuple_refused history (Ok done) unchanged refusal = tt
    tuple_refused history (Err end) unchanged refusal = record {
      kind = refusal_kind (policy_of_sink old.faults) history after.seen end refusal;
      taken = refused_so left written old new before.mine after.mine history after.seen end tuple
          refusal read_tuple same unchanged;
      full = refused_full history after.seen end refusal;
      closed = λ why. refused_closed history after.seen end why refusal;
    }

  module _ (item : StreamItem) (report : List ℕ) (kind : IsItemOf policy item)
      (reads : ReadsOn policy left old.reader new.reader (item ∷ [])) (is : item ≡ Fault report)
      (there : is_some new.faults ≡ is_some old.faults) (unchanged : after ≡ before) where
    read_fault : ReadsOn (policy_of_sink old.faults) left old.reader new.reader (Fault report ∷ [])
    read_fault =
        subst (λ (p : FaultPolicy). ReadsOn p left old.reader new.reader (Fault report ∷ [])) told
        (subst (λ (i : StreamItem). ReadsOn policy left old.reader new.reader (i ∷ [])) is reads)

    -- a fault was read, and the call that was to write what is told of it answered so
    pub fault_taken : (result : Result (Unit {0}) StreamEnd) →
        OnOk result (written_on written new.faults
        ≡ append_known (written_on written old.faults) report) →
        OnOk result (TakesOne left written old new before after)
    fault_taken (Ok done) grew = record {
      sound = read_fault.sound;
      forward = read_fault.forward;
      taken = takes_fault (policy_of_sink old.faults) left written old new before.mine after.mine
          report read_fault grew (ap (λ (p : PassValue Line Terms). p.mine) unchanged);
    }
    fault_taken (Err end) grew = tt

    may_end : CanEnd (policy_of_sink old.faults) end_of.Faults
    may_end =
        subst (λ (p : FaultPolicy). CanEnd p end_of.Faults) told
        (fault_kind policy report (subst (IsItemOf policy) is kind))

    pub fault_unwritten : (history : HistoryValue) (result : Result (Unit {0}) StreamEnd) →
        OnErr result (WritesProperPrefix report (written_on written old.faults)
        (written_on written new.faults)) → IfErr result (λ end. end ≡ end_of.Faults) →
        IfErr result (EndsTaking left written history old new before after)
    fault_unwritten history (Ok done) writes only = tt
    fault_unwritten history (Err end) writes only =
        subst (EndsTaking left written history old new before after) (sym only) (record {
          kind = may_end;
          taken = unwritten_so left written old new before.mine after.mine report read_fault there
              writes (ap (λ (p : PassValue Line Terms). p.mine) unchanged);
          full = λ is. absurd (cc is);
          closed = λ why is. absurd (cc is);
        })

  -- the reading met this end
  pub met_end : (history : HistoryValue) (end : StreamEnd) →
      EndsReading policy left old.reader new.reader end → new.faults ≡ old.faults →
      after ≡ before → EndsTaking left written history old new before after end
  met_end history end ends same unchanged =
      let here = subst (λ (p : FaultPolicy). EndsReading p left old.reader new.reader end) told ends in
      record {
        kind = can_end (policy_of_sink old.faults) end here.met;
        taken = ends_so left written old new before.mine after.mine end here same
            (ap (λ (p : PassValue Line Terms). p.mine) unchanged);
        full = λ is. absurd (no_full policy end ends.met is);
        closed = λ why is. absurd (no_closed policy end why ends.met is);
      }
