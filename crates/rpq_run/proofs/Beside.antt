-- The readers beside a run: what their ends say.
use Rattle.std.proofs.Common.{◌≡◌, ℕ, ◌+◌, Bool, List, [], ◌∷◌, ◌++◌, length, get_or}
use Rattle.std.proofs.Common.{Option, Some, None, refl, ap, sym, subst, ◌∙◌, inl, inr}
use Rattle.std.specs.Prelude.{IfSome, IsSomeAnd, Contains, map, option_map, slice_get}
use Rattle.std.specs.List.{All, AllZip}
use Rattle.std.proofs.lemmas.List.Elements.{All-cons, All-head, All-map, All-nil, All-tail}
use Rattle.std.proofs.lemmas.Option.{slice_get-get_or, slice_get-map, slice_get_within}
use Rattle.rpq_base.specs.declared.data.Entry.{Entry}
use Rattle.rpq_io.specs.Counts.{Rose}
use Rattle.rpq_model.specs.Query.{Query}
use Rattle.text_items.specs.Items.{TextItems}
use Rattle.rpq_words.specs.declared.reader_names.ReaderFiles.{ReaderFiles}
use Rattle.live_asks.specs.declared.ends.ReaderEnd.{ReaderEnd}
use Rattle.live_asks.specs.declared.ends.ReaderEnd.TheVariants.{Whole, Left, LongText, Read, Write}
use Rattle.live_asks.specs.declared.ends.ReaderEnd.TheVariants.{Closed, Memory}
use Rattle.live_asks.specs.declared.item.ReaderItem.{ReaderItem}
use Rattle.live_asks.specs.declared.reader.ReaderOutcome.{ReaderOutcome}
use Rattle.live_asks.specs.Answers.{item_answered}
use Rattle.live_asks.specs.Ends.{AreItemsOfEnd}
use Rattle.live_asks.specs.Items.{asked_items}
use Rattle.live_asks.specs.Progress.{end_of}
use Rattle.stream_tuples.specs.declared.ends.StreamEnd.{StreamEnd}
use Rattle.rpq_text.specs.declared.ends.SinkName.{SinkName}
use Rattle.rpq_text.specs.ErrorLines.{reader_line, reader_lines}
use Rattle.rpq_text.specs.Statuses.{first_status}
use Rattle.run_start.specs.Files.{HasQueries}
use Rattle.rpq_threads.specs.Runs.{IsLiveOf}
use Rattle.rpq_run.specs.Beside.{CountsReader, IsServed, IsServedEnd}
use Rattle.rpq_run.specs.Done.{AreFewAsks}
use Rattle.rpq_run.specs.Outcome.{Meanings, ends_of}
use Rattle.rpq_run.proofs.Statuses.{IsFineReader, IsServedOrShut, served_end}

-- ---- lists

-- what is so of all pairs of two lists is so of the members of the second, as far as it follows
pub all_second : {A B : Type 0} (R : A → B → Type 0) (P : B → Type 0)
    → ((x : A) (y : B) → R x y → P y) → (xs : List A) (ys : List B) → AllZip R xs ys → All P ys
all_second R P step [] [] zip = All-nil P
all_second R P step [] (y ∷ ys) zip = absurd zip
all_second R P step (x ∷ xs) [] zip = absurd zip
all_second R P step (x ∷ xs) (y ∷ ys) zip =
    All-cons P y ys (step x y zip.0) (all_second R P step xs ys zip.1)

-- what follows of each member
pub all_weaker : {A : Type 0} (P Q : A → Type 0) → ((x : A) → P x → Q x) → (xs : List A) → All P xs
    → All Q xs
all_weaker P Q step [] all = All-nil Q
all_weaker P Q step (x ∷ xs) all = All-cons Q x xs (step x (All-head P x xs all))
    (all_weaker P Q step xs (All-tail P x xs all))

-- a member that stands at a place is one of the list
pub contains_at : {A : Type 0} (xs : List A) (place : ℕ) (x y : A) → slice_get xs place ≡ Some x
    → x ≡ y → Contains xs y
contains_at {A} xs place x y is same =
    let inside = slice_get_within xs place x is in
    let at : ◌≡◌ {A = Option A} (Some (get_or xs place y)) (Some y) =
    sym (slice_get-get_or xs place y inside) ∙ (is ∙ ap (λ (e : A). Some e) same) in
    (place, inside, cc at)

-- the end of the reader at a place
pub end_at : {S K : Type 0} (readers : List (ReaderOutcome S K)) (place : ℕ)
    (one : ReaderOutcome S K) → slice_get readers place ≡ Some one
    → slice_get (ends_of readers) place ≡ Some one.end
end_at {S} {K} readers place one at =
    slice_get-map (λ (each : ReaderOutcome S K). each.end) readers place
    ∙ ap (option_map (λ (each : ReaderOutcome S K). each.end)) at

-- ---- readers that can be served

module _ {S K : Type 0} (means : Meanings S K) (two_way : Bool) (bytes : List ℕ)
    (queries : List Query) (has : HasQueries two_way bytes queries) (history : List Entry)
    (last : ℕ) where
  -- what the file of such a reader holds
  abbrev CanBeServed : Option (List ℕ) → Type 0
  CanBeServed file = IsSomeAnd file (AreFewAsks two_way (Some bytes))

  abbrev WasServed : Option (List ℕ) → ReaderOutcome S K → Type 0
  WasServed = IsLiveOf means.left means.faults means.written means.failures queries history last

  not_long : (file left : Option (List ℕ)) (items : List ReaderItem) (end : ReaderEnd)
      → end ≡ LongText → IfSome file (λ asks. AreItemsOfEnd queries asks left items end)
      → CanBeServed file → ⊥
  not_long None left items end is tied can = can
  not_long (Some asks) left items end is tied can =
      let all = subst (λ (e : ReaderEnd). AreItemsOfEnd queries asks left items e) is tied in
      can (queries, has, ap (λ (found : TextItems ReaderItem ℕ). found.end) all)

  -- it ends well where no call of its objects failed
  ends_well : (file : Option (List ℕ)) (one : ReaderOutcome S K) → CanBeServed file
      → WasServed file one → ¬ Rose 0 (means.faults one.source)
      → ¬ Rose 0 (means.failures one.replies) → IsFineReader one.end
  ends_well file one can live read write = by one.end refl
    where
      by : (end : ReaderEnd) → one.end ≡ end → IsFineReader end
      by Whole is = inl refl
      by (Left line) is = inl refl
      by LongText is = absurd (not_long file (means.left one.source)
          (map item_answered live.answers) one.end is live.tied can)
      by Read is = absurd (read (live.read.rose is))
      by Write is = absurd (write (live.write.rose is))
      by (Closed why) is = inl refl
      by Memory is = inr refl

  -- and so do all of them
  abbrev IsRead : ReaderOutcome S K → Type 0
  IsRead one = ¬ Rose 0 (means.faults one.source)

  abbrev IsWritten : ReaderOutcome S K → Type 0
  IsWritten one = ¬ Rose 0 (means.failures one.replies)

  pub all_end_well : (holds : List ℕ → Option (List ℕ)) (files : List ReaderFiles)
      (readers : List (ReaderOutcome S K))
      → All (λ (each : ReaderFiles). CanBeServed (holds each.asks)) files
      → AllZip WasServed (map (λ (each : ReaderFiles). holds each.asks) files) readers
      → All IsRead readers → All IsWritten readers
      → All (λ (one : ReaderOutcome S K). IsFineReader one.end) readers
  all_end_well holds [] [] can live read write =
      All-nil (λ (one : ReaderOutcome S K). IsFineReader one.end)
  all_end_well holds [] (one ∷ readers) can live read write = absurd live
  all_end_well holds (file ∷ files) [] can live read write = absurd live
  all_end_well holds (file ∷ files) (one ∷ readers) can live read write =
      let Can : ReaderFiles → Type 0 = λ each. CanBeServed (holds each.asks) in
      All-cons (λ (each : ReaderOutcome S K). IsFineReader each.end) one readers
      (ends_well (holds file.asks) one (All-head Can file files can) live.0
      (All-head IsRead one readers read) (All-head IsWritten one readers write))
      (all_end_well holds files readers (All-tail Can file files can) live.1
      (All-tail IsRead one readers read) (All-tail IsWritten one readers write))

-- the ends of readers that ended well
pub fine_ends : {S K : Type 0} (readers : List (ReaderOutcome S K))
    → All (λ (one : ReaderOutcome S K). IsFineReader one.end) readers
    → All IsFineReader (ends_of readers)
fine_ends {S} {K} readers fine = All-map IsFineReader (λ (one : ReaderOutcome S K). one.end) readers fine

-- ---- where all is done

-- a reader of which a read or a write failed didn't end so
not_read : (end : ReaderEnd) → IsServedOrShut end → end ≡ Read → ⊥
not_read end (inl served) is = subst IsServedEnd is served
not_read end (inr shut) is = absurd (cc (sym is ∙ shut.1))

not_write : (end : ReaderEnd) → IsServedOrShut end → end ≡ Write → ⊥
not_write end (inl served) is = subst IsServedEnd is served
not_write end (inr shut) is = absurd (cc (sym is ∙ shut.1))

-- each came to its end, or found the history shut
pub served_or_shut : {S K : Type 0} (ends : List StreamEnd) (readers : List (ReaderOutcome S K))
    (failed : List SinkName) → first_status ends (ends_of readers) failed ≡ 0 → (place : ℕ)
    (one : ReaderOutcome S K) → slice_get readers place ≡ Some one → IsServedOrShut one.end
served_or_shut ends readers failed done place one at =
    served_end ends (ends_of readers) failed place one.end done (end_at readers place one at)

-- no call of their objects failed
pub quiet_reader : {S K : Type 0} (means : Meanings S K) (one : ReaderOutcome S K)
    → IsServedOrShut one.end → CountsReader means one
    → (means.faults one.source ≡ 0) × (means.failures one.replies ≡ 0)
quiet_reader means one ended counts = (
  counts.read.quiet (not_read one.end ended),
  counts.write.quiet (not_write one.end ended),
)

-- a reader that came to its end, of a history that is published whole, was served
pub was_served : {S K : Type 0} (means : Meanings S K) (queries : List Query)
    (history : List Entry) (asks : List ℕ) (one : ReaderOutcome S K) → IsServedEnd one.end
    → IsLiveOf means.left means.faults means.written means.failures queries history
    (length history) (Some asks) one → IsServed means queries history asks one
was_served means queries history asks one ended live = by one.end refl ended live.tied
  where
    items : List ReaderItem
    items = map item_answered live.answers

    served : one.end ≡ end_of (asked_items queries asks).end
        → items ≡ (asked_items queries asks).items → IsServed means queries history asks one
    served end_is all = record {
      ended = ended;
      end_is = end_is;
      answers = live.answers;
      all = all;
      each = live.each;
      rises = live.rises;
      written = live.text;
    }

    by : (end : ReaderEnd) → one.end ≡ end → IsServedEnd end
        → AreItemsOfEnd queries asks (means.left one.source) items end
        → IsServed means queries history asks one
    by Whole is came tied = served
        (is ∙ ap (λ (found : TextItems ReaderItem ℕ). end_of found.end) (sym tied.0))
        (ap (λ (found : TextItems ReaderItem ℕ). found.items) (sym tied.0))
    by (Left line) is came tied = served
        (is ∙ ap (λ (found : TextItems ReaderItem ℕ). end_of found.end) (sym tied))
        (ap (λ (found : TextItems ReaderItem ℕ). found.items) (sym tied))
    by LongText is came tied = absurd came
    by Read is came tied = absurd came
    by Write is came tied = absurd came
    by (Closed why) is came tied = absurd came
    by Memory is came tied = absurd came

-- and so were all of them
pub all_served : {S K : Type 0} (means : Meanings S K) (queries : List Query)
    (history : List Entry) (texts : List (List ℕ)) (readers : List (ReaderOutcome S K))
    → All (λ (one : ReaderOutcome S K). IsServedEnd one.end) readers
    → AllZip (IsLiveOf means.left means.faults means.written means.failures queries history
    (length history)) (map (λ (bytes : List ℕ). Some bytes) texts) readers
    → AllZip (IsServed means queries history) texts readers
all_served means queries history [] [] ended live = tt
all_served means queries history [] (one ∷ readers) ended live = absurd live
all_served means queries history (asks ∷ texts) [] ended live = absurd live
all_served {S} {K} means queries history (asks ∷ texts) (one ∷ readers) ended live =
    let IsDone : ReaderOutcome S K → Type 0 = λ each. IsServedEnd each.end in (
      was_served means queries history asks one (All-head IsDone one readers ended) live.0,
      all_served means queries history texts readers (All-tail IsDone one readers ended) live.1,
    )

-- they have no line
no_reader_line : (number : ℕ) (end : ReaderEnd) → IsServedEnd end → reader_line number end ≡ []
unfolding reader_line
no_reader_line number Whole ended = refl
no_reader_line number (Left line) ended = refl
no_reader_line number LongText ended = absurd ended
no_reader_line number Read ended = absurd ended
no_reader_line number Write ended = absurd ended
no_reader_line number (Closed why) ended = absurd ended
no_reader_line number Memory ended = absurd ended

pub no_reader_lines : (ends : List ReaderEnd) (number : ℕ) → All IsServedEnd ends
    → reader_lines number ends ≡ []
no_reader_lines [] number ended = refl
no_reader_lines (end ∷ ends) number ended =
    ap (λ (line : List ℕ). line ++ reader_lines (number + 1) ends)
    (no_reader_line number end (All-head IsServedEnd end ends ended))
    ∙ no_reader_lines ends (number + 1) (All-tail IsServedEnd end ends ended)
