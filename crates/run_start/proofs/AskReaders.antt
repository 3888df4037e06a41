-- The readers beside a run, and what their files hold.
use Rattle.std.proofs.Common.{arith, ◌≡◌, ℕ, suc, ◌<◌, List, [], ◌∷◌, ◌++◌, Option, Some, map}
use Rattle.std.proofs.Common.{length, take, get_or, refl, ap, sym, ◌∙◌, append_assoc, length-append}
use Rattle.std.specs.Prelude.{All, option_map, slice_get}
use Rattle.std.proofs.lemmas.List.{length-map, map-append, take_all}
use Rattle.std.proofs.lemmas.Option.{slice_get-map, slice_get_read}
use Rattle.rpq_words.specs.declared.reader_names.ReaderFiles.{ReaderFiles}
use Rattle.rpq_words.specs.declared.settings.Settings.{Settings}
use Rattle.rpq_words.specs.Modes.{AreSettings}
use Rattle.rpq_words.specs.Views.{readers_of}
use Rattle.live_asks.specs.declared.reader.AskReader.{AskReader}
use Rattle.live_asks.specs.Readers.{IsNewAskReader}
use Rattle.run_start.specs.Given.{asks_names, replies_names}
use Rattle.run_start.specs.Ready.{AreAskReaders}
use Rattle.run_start.proofs.Opening.{one_more}

-- what is made of each file, by its name
by_names : {A : Type 0} (f : List ℕ → A) (readers : List ReaderFiles)
    → map (λ files. f files.asks) readers ≡ map f (map (λ files. files.asks) readers)
by_names f [] = refl
by_names f (files ∷ readers) = ap (λ rest. f files.asks ∷ rest) (by_names f readers)

-- what is made of each source
by_sources : {A S K : Type 0} (f : S → A) (readers : List (AskReader S K))
    → map f (map (λ one. one.reader.source) readers) ≡ map (λ one. f one.reader.source) readers
by_sources f [] = refl
by_sources f (one ∷ readers) = ap (λ rest. f one.reader.source ∷ rest) (by_sources f readers)

-- there are as many sources as readers
pub as_many : {S : Type 0} (holds : List ℕ → Option (List ℕ)) (left : S → Option (List ℕ))
    (given : Settings) (sources : List S) → map holds (asks_names given) ≡ map left sources
    → length sources ≡ length (readers_of given)
as_many holds left given sources contents =
    sym (length-map sources left) ∙ (ap length (sym contents)
    ∙ (length-map (asks_names given) holds
    ∙ length-map (readers_of given) (λ (files : ReaderFiles). files.asks)))

-- the readers are new, and ask what their files hold
pub ask_readers_are : {S K : Type 0} (left : S → Option (List ℕ)) (faults : S → ℕ)
    (written : K → Option (List ℕ)) (failures : K → ℕ) (given : Settings)
    (holds now : List ℕ → Option (List ℕ)) (sources : List S) (readers : List (AskReader S K))
    → AreSettings given → now ≡ holds → map now (asks_names given) ≡ map left sources
    → map (λ (one : AskReader S K). one.reader.source) readers ≡ sources
    → All (IsNewAskReader left faults written failures) readers
    → AreAskReaders left faults written failures given holds readers
ask_readers_are {S} {K} left faults written failures given holds now sources readers settings same
    contents are new =
    record {
      few = omega (
        arith,
        settings.readers,
        as_many now left given sources contents,
        sym (length-map readers (λ (one : AskReader S K). one.reader.source)) ∙ ap length are,
      );
      new = new;
      contents = by_names holds (readers_of given)
          ∙ (ap (λ (h : List ℕ → Option (List ℕ)). map h (asks_names given)) (sym same)
          ∙ (contents ∙ (ap (λ (all : List S). map left all) (sym are) ∙ by_sources left readers)));
    }

-- the file of what the reader at this place asks
pub asks_at : (given : Settings) (all : List ReaderFiles) (place : ℕ) (files : ReaderFiles)
    (name : List ℕ) → all ≡ readers_of given → place < length all → files ≡ get_or all place files
    → name ≡ files.asks → slice_get (asks_names given) place ≡ Some name
asks_at given all place files name are below read is =
    slice_get-map (λ (one : ReaderFiles). one.asks) (readers_of given) place
    ∙ (ap (λ (rs : List ReaderFiles). option_map (λ one. one.asks) (slice_get rs place)) (sym are)
    ∙ (ap (λ (o : Option ReaderFiles). option_map (λ one. one.asks) o)
    (slice_get_read all (length all) place files refl below read)
    ∙ ap (λ (n : List ℕ). Some n) (sym is)))

-- and that of the replies to it
pub replies_at : (given : Settings) (all : List ReaderFiles) (place : ℕ) (files : ReaderFiles)
    (name : List ℕ) → all ≡ readers_of given → place < length all → files ≡ get_or all place files
    → name ≡ files.replies → slice_get (replies_names given) place ≡ Some name
replies_at given all place files name are below read is =
    slice_get-map (λ (one : ReaderFiles). one.replies) (readers_of given) place
    ∙ (ap (λ (rs : List ReaderFiles). option_map (λ one. one.replies) (slice_get rs place)) (sym are)
    ∙ (ap (λ (o : Option ReaderFiles). option_map (λ one. one.replies) o)
    (slice_get_read all (length all) place files refl below read)
    ∙ ap (λ (n : List ℕ). Some n) (sym is)))

-- what the readers ask, with one source more
pub one_source_more : {S : Type 0} (left : S → Option (List ℕ))
    (holds now : List ℕ → Option (List ℕ)) (given : Settings) (place number : ℕ) (name : List ℕ)
    (sources more : List S) (source : S) → number ≡ suc place
    → slice_get (asks_names given) place ≡ Some name → now ≡ holds
    → map holds (take place (asks_names given)) ≡ map left sources
    → left source ≡ now name → more ≡ sources ++ source ∷ []
    → map holds (take number (asks_names given)) ≡ map left more
one_source_more {S} left holds now given place number name sources more source next is same before
    content pushed =
    ap (λ (n : ℕ). map holds (take n (asks_names given))) next
    ∙ (ap (λ (ns : List (List ℕ)). map holds ns) (one_more (asks_names given) place name is)
    ∙ (map-append holds (take place (asks_names given)) (name ∷ [])
    ∙ (ap (λ (fs : List (Option (List ℕ))). fs ++ holds name ∷ []) before
    ∙ (ap (λ (f : Option (List ℕ)). map left sources ++ f ∷ [])
    (ap (λ (h : List ℕ → Option (List ℕ)). h name) (sym same) ∙ sym content)
    ∙ (sym (map-append left sources (source ∷ []))
    ∙ ap (λ (all : List S). map left all) (sym pushed))))))

-- the reader of a source that is left is one of those that there are to be
pub within_all : {S K : Type 0} (readers : List (AskReader S K)) (rest more all : List S) (source : S)
    (count : ℕ) → map (λ one. one.reader.source) readers ++ rest ≡ all → rest ≡ source ∷ more
    → length all ≡ count → length readers < count
within_all readers rest more all source count is left_over many =
    omega (
      arith,
      many,
      ap length is,
      ap length left_over,
      length-map readers (λ one. one.reader.source),
      length-append (map (λ one. one.reader.source) readers) rest,
    )

-- the file of the replies to it
pub next_replies : {S K : Type 0} (given : Settings) (readers : List (AskReader S K))
    (rest more sources : List S) (source : S) (all : List ReaderFiles) (place : ℕ)
    (files : ReaderFiles)
    → map (λ (one : AskReader S K). one.reader.source) readers ++ rest ≡ sources
    → rest ≡ source ∷ more → length sources ≡ length (readers_of given)
    → place ≡ length readers → all ≡ readers_of given → files ≡ get_or all place files
    → slice_get (replies_names given) place ≡ Some (get_or all place files).replies
next_replies given readers rest more sources source all place files is left_over many at are read =
    replies_at given all place files (get_or all place files).replies are
    (omega (
      arith,
      at,
      ap length are,
      within_all readers rest more sources source (length (readers_of given)) is left_over many,
    ))
    read (ap (λ (f : ReaderFiles). f.replies) (sym read))

-- one source more has its reader
pub one_reader_more : {S K : Type 0} (readers more_readers : List (AskReader S K))
    (rest more all : List S) (source : S) (one : AskReader S K)
    → map (λ (r : AskReader S K). r.reader.source) readers ++ rest ≡ all → rest ≡ source ∷ more
    → one.reader.source ≡ source → more_readers ≡ readers ++ one ∷ []
    → map (λ (r : AskReader S K). r.reader.source) more_readers ++ more ≡ all
one_reader_more {S} {K} readers more_readers rest more all source one is left_over same pushed =
    ap (λ (rs : List (AskReader S K)). map (λ r. r.reader.source) rs ++ more) pushed
    ∙ (ap (λ (ss : List S). ss ++ more) (map-append (λ (r : AskReader S K). r.reader.source) readers (one ∷ []))
    ∙ (append_assoc (map (λ (r : AskReader S K). r.reader.source) readers) (one.reader.source ∷ []) more
    ∙ (ap (λ (s : S). map (λ (r : AskReader S K). r.reader.source) readers ++ s ∷ more) same
    ∙ (ap (λ (ss : List S). map (λ (r : AskReader S K). r.reader.source) readers ++ ss) (sym left_over)
    ∙ is))))

-- where no source is left all readers have their sinks
pub all_taken : {S K : Type 0} (given : Settings) (readers : List (AskReader S K))
    (rest all : List S) → map (λ (r : AskReader S K). r.reader.source) readers ++ rest ≡ all
    → length rest ≡ 0 → length all ≡ length (readers_of given)
    → take (length readers) (replies_names given) ≡ replies_names given
all_taken {S} {K} given readers rest all is none many =
    take_all (length readers) (replies_names given) (omega (
      arith,
      many,
      ap length is,
      none,
      length-map readers (λ (r : AskReader S K). r.reader.source),
      length-append (map (λ (r : AskReader S K). r.reader.source) readers) rest,
      length-map (readers_of given) (λ (files : ReaderFiles). files.replies),
    ))

-- where no reader is named there is none
pub no_ask_readers : {S K : Type 0} (left : S → Option (List ℕ)) (faults : S → ℕ)
    (written : K → Option (List ℕ)) (failures : K → ℕ) (given : Settings)
    (holds : List ℕ → Option (List ℕ)) (readers : List (AskReader S K))
    → AreAskReaders left faults written failures given holds readers → readers_of given ≡ []
    → readers ≡ []
no_ask_readers {S} {K} left faults written failures given holds readers are none = by readers
    (sym are.contents ∙ ap (λ (all : List ReaderFiles). map (λ files. holds files.asks) all) none)
  where
    by : (all : List (AskReader S K)) → map (λ (one : AskReader S K). left one.reader.source) all ≡ []
        → all ≡ []
    by [] is = refl
    by (one ∷ all) is = absurd (cc is)
