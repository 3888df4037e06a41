-- The status of a run, by its streams' ends and its failed writes.
use Rattle.std.proofs.Common.{◌≡◌, ◌≢◌, ℕ, zero, suc, Bool, true, false, ◌==◌, ◌||◌, cond, List, [], ◌∷◌}
use Rattle.std.proofs.Common.{Some, None, refl, ap, sym, subst, ◌∙◌, arith, inl, inr, ◌⊎◌}
use Rattle.std.specs.Prelude.{◌↔◌, Contains, unwrap_or, slice_get}
use Rattle.std.specs.List.{All, list_any}
use Rattle.std.proofs.lemmas.Bool.{cases_eq, ne_eqb}
use Rattle.std.proofs.lemmas.List.Elements.{All-head, All-tail}
use Rattle.rpq_io.specs.Counts.{CountsFault}
use Rattle.history_model.specs.declared.line.Why.{Why}
use Rattle.history_model.specs.declared.line.Why.TheVariants.{Write, Memory as MemoryOfAll}
use Rattle.stream_tuples.specs.declared.ends.StreamEnd.{StreamEnd}
use Rattle.stream_tuples.specs.declared.ends.StreamEnd.TheVariants.{Whole, Line, LongLine, LongStream}
use Rattle.stream_tuples.specs.declared.ends.StreamEnd.TheVariants.{Read, Faults, Full, Closed, Memory}
use Rattle.live_asks.specs.declared.ends.ReaderEnd.{ReaderEnd}
use Rattle.live_asks.specs.declared.ends.ReaderEnd.TheVariants as reader
use Rattle.rpq_text.specs.declared.ends.SinkName.{SinkName}
use Rattle.rpq_text.specs.declared.ends.SinkName.TheVariants.{Events, Replies, Save}
use Rattle.rpq_text.specs.Statuses.{status_of_end, status_of_reader, status_of_sink, arose}
use Rattle.rpq_text.specs.Statuses.{first_status, IsStatusOf}
use Rattle.rpq_run.specs.Beside.{IsServedEnd}
use Rattle.rpq_run.specs.Ending.{is_any}
use Rattle.rpq_run.specs.Shortage.{Shortage, has_memory_end, has_short_reader, is_short}
use Rattle.rpq_run.proofs.Shortages.{either, grouped, never_both}
use Rattle.rpq_run.proofs.Sinks.{none_contained}

-- ---- where all is done

-- the first of the statuses, by which of them arose
abbrev pub first_of : Bool → Bool → Bool → Bool → Bool → Bool → ℕ
first_of memory write limit read line readers = unwrap_or (cond memory (Some 8) (cond write (Some 6)
    (cond limit (Some 7) (cond read (Some 5) (cond line (Some 4) (cond readers (Some 9) None)))))) 0

-- none of the statuses arose
pub record NoneArose (p : ℕ → Bool) : Type 0 where
  pub memory : p 8 ≡ false
  pub write : p 6 ≡ false
  pub limit : p 7 ≡ false
  pub read : p 5 ≡ false
  pub line : p 4 ≡ false
  pub readers : p 9 ≡ false

pub none_arose : (ends : List StreamEnd) (asked : List ReaderEnd) (failed : List SinkName)
    → first_status ends asked failed ≡ 0 → NoneArose (arose ends asked failed)
none_arose ends asked failed is =
    let p = arose ends asked failed in
    by (p 8) (p 6) (p 7) (p 5) (p 4) (p 9) refl refl refl refl refl refl is
  where
    by : (a b c d e f : Bool) → arose ends asked failed 8 ≡ a → arose ends asked failed 6 ≡ b
        → arose ends asked failed 7 ≡ c → arose ends asked failed 5 ≡ d → arose ends asked failed 4 ≡ e
        → arose ends asked failed 9 ≡ f → first_of a b c d e f ≡ 0 → NoneArose (arose ends asked failed)
    by true b c d e f eight six seven five four nine is = absurd (omega (arith, is))
    by false true c d e f eight six seven five four nine is = absurd (omega (arith, is))
    by false false true d e f eight six seven five four nine is = absurd (omega (arith, is))
    by false false false true e f eight six seven five four nine is = absurd (omega (arith, is))
    by false false false false true f eight six seven five four nine is = absurd (omega (arith, is))
    by false false false false false true eight six seven five four nine is = absurd (omega (arith, is))
    by false false false false false false eight six seven five four nine is = record {
      memory = eight;
      write = six;
      limit = seven;
      read = five;
      line = four;
      readers = nine;
    }

or_true : (b : Bool) → (b || true) ≡ true
or_true true = refl
or_true false = refl

ends_or : (a b c : Bool) → (a || c) ≡ true → ((a || b) || c) ≡ true
ends_or true b c is = refl
ends_or false true c is = refl
ends_or false false c is = is

-- where a stream ended for want of memory, or a reader did, so did the run
memory_first : (ends : List StreamEnd) (asked : List ReaderEnd) (failed : List SinkName)
    → (has_memory_end ends || has_short_reader asked) ≡ true → first_status ends asked failed ≡ 8
memory_first ends asked failed is =
    let p = arose ends asked failed in
    let sinks = list_any (λ sink. status_of_sink sink == 8) failed in
    ap (λ (memory : Bool). first_of memory (p 6) (p 7) (p 5) (p 4) (p 9))
    (sym (grouped (has_memory_end ends) (has_short_reader asked) sinks)
    ∙ ap (λ (b : Bool). b || sinks) is)

-- a failed write of a sink is no want of memory
no_sink_short : (failed : List SinkName) → list_any (λ sink. status_of_sink sink == 8) failed ≡ false
no_sink_short [] = refl
no_sink_short (Events ∷ rest) = no_sink_short rest
no_sink_short (Replies ∷ rest) = no_sink_short rest
no_sink_short (Save ∷ rest) = no_sink_short rest

-- so where a run ended for want of memory by these alone, a stream or a reader did
memory_last : (ends : List StreamEnd) (asked : List ReaderEnd) (failed : List SinkName)
    → first_status ends asked failed ≡ 8 → (has_memory_end ends || has_short_reader asked) ≡ true
memory_last ends asked failed is =
    let p = arose ends asked failed in
    let sinks = list_any (λ sink. status_of_sink sink == 8) failed in
    let some = by (p 8) (p 6) (p 7) (p 5) (p 4) (p 9) is in
    elim (either (has_memory_end ends || has_short_reader asked) sinks
    (grouped (has_memory_end ends) (has_short_reader asked) sinks ∙ some)) [
      | inl ended ↦ ended
      | inr sink ↦ absurd (never_both sinks (no_sink_short failed) sink)
    ]
  where
    by : (a b c d e f : Bool) → first_of a b c d e f ≡ 8 → a ≡ true
    by true b c d e f is = refl
    by false true c d e f is = absurd (omega (arith, is))
    by false false true d e f is = absurd (omega (arith, is))
    by false false false true e f is = absurd (omega (arith, is))
    by false false false false true f is = absurd (omega (arith, is))
    by false false false false false true is = absurd (omega (arith, is))
    by false false false false false false is = absurd (omega (arith, is))

-- the status of a run is that of out of memory exactly where memory ran out
pub status_short : (ends : List StreamEnd) (asked : List ReaderEnd) (failed : List SinkName)
    (status : ℕ) (short : Shortage)
    → (is_any short ≡ true → status ≡ 8)
    → (is_any short ≡ false → status ≡ first_status ends asked failed)
    → (first_status ends asked failed ≡ 8 → status ≡ 8)
    → (status ≡ 8) ↔ (is_short ends asked short ≡ true)
status_short ends asked failed status short wanting fine first = (there, back)
  where
    same : is_short ends asked short
        ≡ ((has_memory_end ends || is_any short) || has_short_reader asked)
    same = ap (λ (b : Bool). b || has_short_reader asked)
        (grouped (has_memory_end ends) (short.engine || (short.session || short.replies)) short.save)

    by : (any : Bool) → is_any short ≡ any → status ≡ 8
        → ((has_memory_end ends || is_any short) || has_short_reader asked) ≡ true
    by true is eight = ap (λ (b : Bool). b || has_short_reader asked)
        (ap (λ (b : Bool). has_memory_end ends || b) is ∙ or_true (has_memory_end ends))
    by false is eight = ends_or (has_memory_end ends) (is_any short) (has_short_reader asked)
        (memory_last ends asked failed (sym (fine is) ∙ eight))

    there : status ≡ 8 → is_short ends asked short ≡ true
    there eight = same ∙ by (is_any short) refl eight

    back : is_short ends asked short ≡ true → status ≡ 8
    back is = elim (either (has_memory_end ends || is_any short) (has_short_reader asked)
        (sym same ∙ is)) [
          | inl before ↦ elim (either (has_memory_end ends) (is_any short) before) [
            | inl ended ↦ first (memory_first ends asked failed
                (ap (λ (b : Bool). b || has_short_reader asked) ended))
            | inr any ↦ wanting any
          ]
          | inr one ↦ first (memory_first ends asked failed
              (ap (λ (b : Bool). has_memory_end ends || b) one ∙ or_true (has_memory_end ends)))
        ]

-- the status of a run that is done is the first that arose
pub first_of_done : (ends : List StreamEnd) (asked : List ReaderEnd) (failed : List SinkName)
    (status : ℕ) → IsStatusOf ends asked failed status → status ≡ 0
    → first_status ends asked failed ≡ 0
first_of_done ends asked failed status is done =
    sym (is.others (λ eight. absurd (omega (arith, eight, done)))) ∙ done

-- a failed write of any sink arose
behind_others : (ends : List StreamEnd) (asked : List ReaderEnd)
    → (list_any (λ end. status_of_end end == 6) ends
    || (list_any (λ end. status_of_reader end == 6) asked || true)) ≡ true
behind_others ends asked =
    ap (λ (b : Bool). list_any (λ end. status_of_end end == 6) ends || b)
    (or_true (list_any (λ end. status_of_reader end == 6) asked))
    ∙ or_true (list_any (λ end. status_of_end end == 6) ends)

pub sink_arose : (ends : List StreamEnd) (asked : List ReaderEnd) (failed : List SinkName)
    (sink : SinkName) → Contains failed sink → arose ends asked failed 6 ≡ true
sink_arose ends asked [] sink has = absurd (none_contained sink has)
sink_arose ends asked (Events ∷ rest) sink has = behind_others ends asked
sink_arose ends asked (Replies ∷ rest) sink has = behind_others ends asked
sink_arose ends asked (Save ∷ rest) sink has = behind_others ends asked

-- the status is then that of a failed write, or of out of memory
pub sink_status : (ends : List StreamEnd) (asked : List ReaderEnd) (failed : List SinkName)
    (status : ℕ) (sink : SinkName) → IsStatusOf ends asked failed status → Contains failed sink
    → (status ≡ 8) ⊎ (status ≡ 6)
sink_status ends asked failed status sink is has = elim (cases_eq status 8) [
  | inl eight ↦ inl eight
  | inr other ↦ elim first [
    | inl eight ↦ inl (is.memory eight)
    | inr six ↦ inr (is.others other ∙ six)
  ]
]
  where
    by : (memory limit read line readers : Bool)
        → (first_of memory true limit read line readers ≡ 8)
        ⊎ (first_of memory true limit read line readers ≡ 6)
    by true limit read line readers = inl refl
    by false limit read line readers = inr refl

    first : (first_status ends asked failed ≡ 8) ⊎ (first_status ends asked failed ≡ 6)
    first =
        let p = arose ends asked failed in
        subst (λ (write : Bool). (first_of (p 8) write (p 7) (p 5) (p 4) (p 9) ≡ 8)
        ⊎ (first_of (p 8) write (p 7) (p 5) (p 4) (p 9) ≡ 6))
        (sym {A = Bool} (sink_arose ends asked failed sink has))
        (by (p 8) (p 7) (p 5) (p 4) (p 9))

-- where all is done no write of a sink failed
pub sink_quietly : (ends : List StreamEnd) (asked : List ReaderEnd) (failed : List SinkName)
    (status : ℕ) (sink : SinkName) → IsStatusOf ends asked failed status → status ≡ 0
    → Contains failed sink → ⊥
sink_quietly ends asked failed status sink is done has =
    let yes : arose ends asked failed 6 ≡ true = sink_arose ends asked failed sink has in
    let no : arose ends asked failed 6 ≡ false =
    (none_arose ends asked failed (first_of_done ends asked failed status is done)).write in
    let both : true ≡ false = sym yes ∙ no in
    absurd (cc both)

pub counted_quietly : (ends : List StreamEnd) (asked : List ReaderEnd) (failed : List SinkName)
    (status : ℕ) (sink : SinkName) (before after : ℕ) → IsStatusOf ends asked failed status
    → status ≡ 0 → CountsFault (Contains failed sink) before after → after ≡ before
counted_quietly ends asked failed status sink before after is done counts =
    counts.quiet (sink_quietly ends asked failed status sink is done)

-- the end at a place arose
one_at : {E : Type 0} (status_of : E → ℕ) (ends : List E) (place : ℕ) (end : E) (status : ℕ)
    → slice_get ends place ≡ Some end → (status_of end == status) ≡ true
    → list_any (λ e. status_of e == status) ends ≡ true
one_at status_of [] place end status is one = absurd (cc is)
one_at {E} status_of (first ∷ ends) zero end status is one =
    let same : first ≡ end = cc is in
    ap (λ (b : Bool). b || list_any (λ e. status_of e == status) ends)
    (ap (λ (e : E). status_of e == status) same ∙ one)
one_at status_of (first ∷ ends) (suc place) end status is one =
    ap (λ (b : Bool). (status_of first == status) || b) (one_at status_of ends place end status is one)
    ∙ or_true (status_of first == status)

-- memory ran out for some reader, where it did for the one at a place
pub short_at : (asked : List ReaderEnd) (place : ℕ) → slice_get asked place ≡ Some reader.Memory
    → has_short_reader asked ≡ true
short_at asked place at = one_at status_of_reader asked place reader.Memory 8 at refl

-- no end has a status that didn't arise
no_end : (ends : List StreamEnd) (asked : List ReaderEnd) (failed : List SinkName) (place : ℕ)
    (end : StreamEnd) (status : ℕ)
    → slice_get ends place ≡ Some end → (status_of_end end == status) ≡ true
    → arose ends asked failed status ≡ false → ⊥
no_end ends asked failed place end status at one none =
    let some : arose ends asked failed status ≡ true =
    ap (λ (b : Bool). b || (list_any (λ e. status_of_reader e == status) asked
    || list_any (λ sink. status_of_sink sink == status) failed))
    (one_at status_of_end ends place end status at one) in
    let both : true ≡ false = sym some ∙ none in
    absurd (cc both)

no_reader_end : (ends : List StreamEnd) (asked : List ReaderEnd) (failed : List SinkName)
    (place : ℕ) (end : ReaderEnd) (status : ℕ)
    → slice_get asked place ≡ Some end → (status_of_reader end == status) ≡ true
    → arose ends asked failed status ≡ false → ⊥
no_reader_end ends asked failed place end status at one none =
    let of_ends = list_any (λ e. status_of_end e == status) ends in
    let some : arose ends asked failed status ≡ true =
    ap (λ (b : Bool). of_ends || (b || list_any (λ sink. status_of_sink sink == status) failed))
    (one_at status_of_reader asked place end status at one) ∙ or_true of_ends in
    let both : true ≡ false = sym some ∙ none in
    absurd (cc both)

-- where all is done every stream was read to its end
pub whole_end : (ends : List StreamEnd) (asked : List ReaderEnd) (failed : List SinkName)
    (place : ℕ) (end : StreamEnd) → first_status ends asked failed ≡ 0
    → slice_get ends place ≡ Some end → end ≡ Whole
whole_end ends asked failed place end done at = by end at
  where
    none : NoneArose (arose ends asked failed)
    none = none_arose ends asked failed done

    by : (e : StreamEnd) → slice_get ends place ≡ Some e → e ≡ Whole
    by Whole here = refl
    by (Line number fault) here =
        absurd (no_end ends asked failed place (Line number fault) 4 here refl none.line)
    by (LongLine number) here =
        absurd (no_end ends asked failed place (LongLine number) 4 here refl none.line)
    by LongStream here = absurd (no_end ends asked failed place LongStream 7 here refl none.limit)
    by Read here = absurd (no_end ends asked failed place Read 5 here refl none.read)
    by Faults here = absurd (no_end ends asked failed place Faults 6 here refl none.write)
    by Full here = absurd (no_end ends asked failed place Full 7 here refl none.limit)
    by (Closed Write) here =
        absurd (no_end ends asked failed place (Closed Write) 6 here refl none.write)
    by (Closed MemoryOfAll) here =
        absurd (no_end ends asked failed place (Closed MemoryOfAll) 8 here refl none.memory)
    by Memory here = absurd (no_end ends asked failed place Memory 8 here refl none.memory)

-- and no read of a stream failed
pub read_quietly : (ends : List StreamEnd) (asked : List ReaderEnd) (failed : List SinkName)
    (status : ℕ) (place : ℕ) (end : StreamEnd) → IsStatusOf ends asked failed status → status ≡ 0
    → slice_get ends place ≡ Some end → end ≡ Read → ⊥
read_quietly ends asked failed status place end is done at read =
    let whole = whole_end ends asked failed place end (first_of_done ends asked failed status is done) at in
    let both : Whole ≡ Read = sym whole ∙ read in
    absurd (cc both)

-- nor a write of its faulty lines
pub told_quietly : (ends : List StreamEnd) (asked : List ReaderEnd) (failed : List SinkName)
    (status : ℕ) (place : ℕ) (end : StreamEnd) → IsStatusOf ends asked failed status → status ≡ 0
    → slice_get ends place ≡ Some end → end ≡ Faults → ⊥
told_quietly ends asked failed status place end is done at untold =
    let whole = whole_end ends asked failed place end (first_of_done ends asked failed status is done) at in
    let both : Whole ≡ Faults = sym whole ∙ untold in
    absurd (cc both)

-- every reader came to its end, unless it found the history shut
abbrev pub IsServedOrShut : ReaderEnd → Type 0
IsServedOrShut end = IsServedEnd end ⊎ ((why : Why) × (end ≡ reader.Closed why))

pub served_end : (ends : List StreamEnd) (asked : List ReaderEnd) (failed : List SinkName)
    (place : ℕ) (end : ReaderEnd) → first_status ends asked failed ≡ 0
    → slice_get asked place ≡ Some end → IsServedOrShut end
served_end ends asked failed place end done at = by end at
  where
    none : NoneArose (arose ends asked failed)
    none = none_arose ends asked failed done

    by : (e : ReaderEnd) → slice_get asked place ≡ Some e → IsServedOrShut e
    by reader.Whole here = inl tt
    by (reader.Left line) here = inl tt
    by reader.LongText here =
        absurd (no_reader_end ends asked failed place reader.LongText 9 here refl none.readers)
    by reader.Read here =
        absurd (no_reader_end ends asked failed place reader.Read 9 here refl none.readers)
    by reader.Write here =
        absurd (no_reader_end ends asked failed place reader.Write 9 here refl none.readers)
    by (reader.Closed why) here = inr (why, refl)
    by reader.Memory here =
        absurd (no_reader_end ends asked failed place reader.Memory 8 here refl none.memory)

-- ---- where only want of memory arose

-- the status of an end is that of a run that is done, or of one for which memory ran out
abbrev pub IsFineStatus : ℕ → Type 0
IsFineStatus status = (status ≡ 0) ⊎ (status ≡ 8)

-- the end is that of a stream read to its end, or of one for which memory ran out
abbrev pub IsFine : StreamEnd → Type 0
IsFine end = IsFineStatus (status_of_end end)

-- so is that of a reader, or the history was shut for it
abbrev pub IsFineReader : ReaderEnd → Type 0
IsFineReader end = IsFineStatus (status_of_reader end)

none_fine : {E : Type 0} (status_of : E → ℕ) (ends : List E) (status : ℕ) → status ≢ 0 → status ≢ 8
    → All (λ end. IsFineStatus (status_of end)) ends
    → list_any (λ end. status_of end == status) ends ≡ false
none_fine status_of [] status not_done not_memory fine = refl
none_fine {E} status_of (end ∷ ends) status not_done not_memory fine =
    let IsOne : E → Type 0 = λ e. IsFineStatus (status_of e) in
    let none : (status_of end == status) ≡ false =
    ne_eqb (status_of end) status (λ is. elim (All-head IsOne end ends fine) [
      | inl done ↦ not_done (sym is ∙ done)
      | inr memory ↦ not_memory (sym is ∙ memory)
    ]) in
    ap (λ (b : Bool). b || list_any (λ e. status_of e == status) ends) none
    ∙ none_fine status_of ends status not_done not_memory (All-tail IsOne end ends fine)

none_of_three : (a b : Bool) → a ≡ false → b ≡ false → (a || (b || false)) ≡ false
none_of_three true b first second = absurd (cc first)
none_of_three false true first second = absurd (cc second)
none_of_three false false first second = refl

-- such ends leave a run done, or short of memory
pub fine_or_memory : (ends : List StreamEnd) (asked : List ReaderEnd) → All IsFine ends
    → All IsFineReader asked → IsFineStatus (first_status ends asked [])
fine_or_memory ends asked fine fine_asked =
    let p = arose ends asked [] in
    by (p 8) (p 6) (p 7) (p 5) (p 4) (p 9)
    (none 6 (λ is. absurd (omega (arith, is))) (λ is. absurd (omega (arith, is))))
    (none 7 (λ is. absurd (omega (arith, is))) (λ is. absurd (omega (arith, is))))
    (none 5 (λ is. absurd (omega (arith, is))) (λ is. absurd (omega (arith, is))))
    (none 4 (λ is. absurd (omega (arith, is))) (λ is. absurd (omega (arith, is))))
    (none 9 (λ is. absurd (omega (arith, is))) (λ is. absurd (omega (arith, is))))
  where
    none : (status : ℕ) → status ≢ 0 → status ≢ 8 → arose ends asked [] status ≡ false
    none status not_done not_memory = none_of_three
        (list_any (λ end. status_of_end end == status) ends)
        (list_any (λ end. status_of_reader end == status) asked)
        (none_fine status_of_end ends status not_done not_memory fine)
        (none_fine status_of_reader asked status not_done not_memory fine_asked)

    by : (a b c d e f : Bool) → b ≡ false → c ≡ false → d ≡ false → e ≡ false → f ≡ false
        → IsFineStatus (first_of a b c d e f)
    by true b c d e f six seven five four nine = inr refl
    by false true c d e f six seven five four nine = absurd (cc six)
    by false false true d e f six seven five four nine = absurd (cc seven)
    by false false false true e f six seven five four nine = absurd (cc five)
    by false false false false true f six seven five four nine = absurd (cc four)
    by false false false false false true six seven five four nine = absurd (cc nine)
    by false false false false false false six seven five four nine = inl refl
