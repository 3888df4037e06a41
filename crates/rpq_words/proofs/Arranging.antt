-- What was found has settings exactly where it doesn't clash.
use Rattle.std.proofs.Common.{arith, ◌≡◌, ◌∙◌, ap, sym, subst, refl, ℕ, Bool, true, false, List, [], ◌∷◌, length, inl, inr, ◌⊎◌}
use Rattle.std.specs.Prelude.{◌&&◌, ◌||◌, ◌==◌, not, nat_lt, bytes_eq, if◌then◌else◌}
use Rattle.std.specs.Prelude.{Option, Some, None, is_some, option_map}
use Rattle.std.proofs.lemmas.Bool.{ne_eqb}
use Rattle.clap.specs.Walk.{Text, is_empty}
use Rattle.rpq_words.specs.declared.parsed_words.ParsedWords.{ParsedWords}
use Rattle.rpq_words.specs.declared.parsed_words.StreamWords.{StreamWords}
use Rattle.rpq_words.specs.declared.settings.Extent.TheVariants.{Capped}
use Rattle.rpq_words.specs.declared.settings.RunMode.TheVariants.{Check, Generate, Streams}
use Rattle.rpq_words.specs.declared.settings.StreamSettings.{StreamSettings}
use Rattle.rpq_words.specs.declared.settings.StreamSettings.TheVariants.{BothWays, Forwards}
use Rattle.rpq_words.specs.declared.settings.OutputKind.{OutputKind}
use Rattle.rpq_words.specs.declared.settings.OutputKind.TheVariants.{Pairs, Paths, Bindings}
use Rattle.rpq_words.specs.declared.settings.AskFiles.{AskFiles}
use Rattle.rpq_words.specs.declared.settings.ForwardSettings.{ForwardSettings}
use Rattle.rpq_words.specs.declared.reader_names.ReaderFiles.{ReaderFiles}
use Rattle.rpq_words.specs.Clash.{clash, is_one_each, is_same_file}
use Rattle.rpq_words.specs.Modes.{SettingsAreFound, words_of}
use Rattle.rpq_words.specs.Options.{◌>>=◌, only_if}
use Rattle.rpq_words.specs.declared.settings.Settings.{Settings}
use Rattle.rpq_words.specs.Settings.{asked_from, directions_from, extent_from, faults_from}
use Rattle.rpq_words.specs.Settings.{forwards_from}
use Rattle.rpq_words.specs.Settings.{has_stream_words, input_from, mode_from}
use Rattle.rpq_words.specs.Settings.{names_from, readers_from, saves_over, settings_from, shown_from}
use Rattle.rpq_words.specs.Settings.{streams_from}
use Rattle.rpq_words.specs.Views.{asks_in, has_paths, joins_in, replies_in}

pub some_there : {A : Type 0} (first : A) (rest : List A) → is_empty (first ∷ rest) ≡ false
some_there first rest = ne_eqb (length (first ∷ rest)) 0 (λ none. omega (arith, none))

two_there : (first second : Text) (names : List Text)
    → (length (first ∷ second ∷ names) == 1) ≡ false
two_there first second names =
    ne_eqb (length (first ∷ second ∷ names)) 1 (λ one. omega (arith, one))

passes_or_fails : (test : Bool) → (test ≡ true) ⊎ (test ≡ false)
passes_or_fails true = inl refl
passes_or_fails false = inr refl

abbrev IsArranged : ParsedWords → Type 0
IsArranged found =
    option_map words_of (settings_from found) ≡ only_if (λ all. not (clash all)) found

-- ---- runs over a history that holds so many tuples at most, or as many as is usual

module _ (workers : ℕ) (history : Option ℕ) (queries : Text) where
  -- what was found, by its parts
  abbrev found_by : Bool → Option ℕ → Bool → Option Text → Option Text → Bool → Option Text
      → Option Text → Option Text → List ReaderFiles → List Text → List Text → ParsedWords
  found_by check generate two_way asks replies paths joins from save readers faults streams = record {
    workers = workers;
    history = history;
    check = check;
    generate = generate;
    two_way = two_way;
    endless = false;
    queries = queries;
    words = record {
      paths = paths;
      joins = joins;
      asks = asks;
      replies = replies;
      save = save;
      from = from;
      readers = readers;
      faults = faults;
      streams = streams;
    };
  }

  -- a check and generated tuples
  both : (count : ℕ) (two_way : Bool) (asks replies : Option Text) (paths : Bool)
      (joins from save : Option Text) (readers : List ReaderFiles) (faults streams : List Text)
      → IsArranged (found_by true (Some count) two_way asks replies paths joins from save readers faults streams)
  unfolding settings_from mode_from clash
  both count two_way None None paths joins from save readers faults streams = refl
  both count two_way None (Some r) paths joins from save readers faults streams = refl
  both count two_way (Some a) None paths joins from save readers faults streams = refl
  both count two_way (Some a) (Some r) paths joins from save readers faults streams = refl

  -- a check
  checks : (two_way : Bool) (asks replies : Option Text) (paths : Bool)
      (joins from save : Option Text) (readers : List ReaderFiles) (faults streams : List Text)
      → IsArranged (found_by true None two_way asks replies paths joins from save readers faults streams)
  unfolding settings_from mode_from clash
  checks two_way (Some a) None paths joins from save readers faults streams = refl
  checks two_way (Some a) (Some r) paths joins from save readers faults streams = refl
  checks two_way None (Some r) paths joins from save readers faults streams = refl
  checks two_way None None paths (Some j) from save readers faults streams = refl
  checks two_way None None paths None from (Some s) readers faults streams = refl
  checks two_way None None paths None (Some f) None readers faults streams = refl
  checks two_way None None paths None None None (r ∷ rs) faults streams = rw (some_there r rs) refl
  checks two_way None None true None None None [] faults (s ∷ ss) = rw (some_there s ss) refl
  checks two_way None None true None None None [] (f ∷ fs) [] = rw (some_there f fs) refl
  checks two_way None None false None None None [] faults (s ∷ ss) = rw (some_there s ss) refl
  checks two_way None None false None None None [] (f ∷ fs) [] = rw (some_there f fs) refl
  checks true None None true None None None [] [] [] = refl
  checks false None None true None None None [] [] [] = refl
  checks true None None false None None None [] [] [] = refl
  checks false None None false None None None [] [] [] = refl

  -- generated tuples
  generates : (count : ℕ) (two_way : Bool) (asks replies : Option Text) (paths : Bool)
      (joins from save : Option Text) (readers : List ReaderFiles) (faults streams : List Text)
      → IsArranged (found_by false (Some count) two_way asks replies paths joins from save readers faults streams)
  unfolding settings_from mode_from clash
  generates count two_way (Some a) None paths joins from save readers faults streams = refl
  generates count two_way (Some a) (Some r) paths joins from save readers faults streams = refl
  generates count two_way None (Some r) paths joins from save readers faults streams = refl
  generates count two_way None None paths (Some j) from save readers faults streams = refl
  generates count two_way None None paths None from (Some s) readers faults streams = refl
  generates count two_way None None paths None (Some f) None readers faults streams = refl
  generates count two_way None None paths None None None (r ∷ rs) faults streams = rw (some_there r rs) refl
  generates count two_way None None true None None None [] faults (s ∷ ss) = rw (some_there s ss) refl
  generates count two_way None None true None None None [] (f ∷ fs) [] = rw (some_there f fs) refl
  generates count two_way None None false None None None [] faults (s ∷ ss) = rw (some_there s ss) refl
  generates count two_way None None false None None None [] (f ∷ fs) [] = rw (some_there f fs) refl
  generates count true None None true None None None [] [] [] = refl
  generates count false None None true None None None [] [] [] = refl
  generates count true None None false None None None [] [] [] = refl
  generates count false None None false None None None [] [] [] = refl

  abbrev settings_for : Option StreamSettings → Option Settings
  settings_for run = (run >>= λ run. Some (Streams run)) >>= λ mode. Some (record {
    queries = queries;
    workers = workers;
    extent = Capped history mode;
  })

  -- a run over streams in which edges may be taken backwards, behind the files of faulty lines
  both_ways : (faults streams : List Text)
      → option_map words_of (settings_for (names_from streams >>= λ names.
      Some (BothWays (record { streams = names; faults = faults }))))
      ≡ (if not (is_empty streams || (nat_lt 64 (length streams) || false))
      then Some (found_by false None true None None false None None None [] faults streams)
      else None)
  unfolding names_from
  both_ways faults [] = refl
  both_ways faults (s ∷ ss) =
      elim (passes_or_fails (nat_lt 64 (length (s ∷ ss)))) [
        | inl many ↦ rw (some_there s _) (rw many refl)
        | inr few ↦ rw (some_there s _) (rw few refl)
      ]

  -- and before them
  backwards : (asks replies : Option Text) (paths : Bool)
      (joins from save : Option Text) (readers : List ReaderFiles) (faults streams : List Text)
      → IsArranged (found_by false None true asks replies paths joins from save readers faults streams)
  unfolding settings_from mode_from streams_from faults_from clash
  backwards (Some a) None paths joins from save readers faults streams = refl
  backwards (Some a) (Some r) paths joins from save readers faults streams = refl
  backwards None (Some r) paths joins from save readers faults streams = refl
  backwards None None paths (Some j) from save readers faults streams = refl
  backwards None None paths None from (Some s) readers faults streams = refl
  backwards None None paths None (Some f) None readers faults streams = refl
  backwards None None paths None None None (r ∷ rs) faults streams = rw (some_there r rs) refl
  backwards None None true None None None [] faults streams = refl
  backwards None None false None None None [] faults streams =
      elim (passes_or_fails (is_one_each faults streams)) [
        | inl fit ↦ rw fit (both_ways faults streams)
        | inr other ↦ rw other refl
      ]

  -- and one in which they aren't, behind what is asked and shown
  abbrev forward_run : OutputKind → Option AskFiles → Option Text → Option Text → List Text
      → List ReaderFiles → List Text → Option ForwardSettings
  forward_run shown asked from save streams readers faults =
      input_from from streams >>= λ input. if saves_over save input then None
      else Some (record {
        input = input;
        shown = shown;
        asked = asked;
        readers = readers;
        save = save;
        faults = faults;
      })

  abbrev run_for : OutputKind → Option AskFiles → Option Text → Option Text → List Text
      → List ReaderFiles → List Text → Option StreamSettings
  run_for shown asked from save streams readers faults =
      forward_run shown asked from save streams readers faults >>= λ run. Some (Forwards run)

  abbrev input_clashes : Option Text → Option Text → List Text → Bool
  input_clashes from save streams = is_empty streams || (nat_lt 64 (length streams)
      || ((is_some from && not (length streams == 1)) || is_same_file save from))

  reads : (shown : OutputKind) (asked : Option AskFiles) (from save : Option Text)
      (readers : List ReaderFiles) (faults streams : List Text)
      → option_map words_of (settings_for (run_for shown asked from save streams readers faults))
      ≡ (if not (input_clashes from save streams) then Some (found_by false None false
      (asks_in asked) (replies_in asked) (has_paths shown) (joins_in shown) from save readers faults streams)
      else None)
  unfolding input_from names_from
  reads shown asked None save readers faults [] = refl
  reads shown asked None None readers faults (s ∷ ss) =
      elim (passes_or_fails (nat_lt 64 (length (s ∷ ss)))) [
        | inl many ↦ rw (some_there s _) (rw many refl)
        | inr few ↦ rw (some_there s _) (rw few refl)
      ]
  reads shown asked None (Some file) readers faults (s ∷ ss) =
      elim (passes_or_fails (nat_lt 64 (length (s ∷ ss)))) [
        | inl many ↦ rw (some_there s _) (rw many refl)
        | inr few ↦ rw (some_there s _) (rw few refl)
      ]
  reads shown asked (Some from) save readers faults [] = refl
  reads shown asked (Some from) None readers faults (s ∷ []) = refl
  reads shown asked (Some from) (Some file) readers faults (s ∷ []) =
      elim (passes_or_fails (bytes_eq file from)) [
        | inl same ↦ rw same refl
        | inr other ↦ rw other refl
      ]
  reads shown asked (Some from) save readers faults (s ∷ second ∷ ss) =
      elim (passes_or_fails (nat_lt 64 (length (s ∷ second ∷ ss)))) [
        | inl many ↦ rw (some_there s _) (rw many refl)
        | inr few ↦ rw (some_there s _) (rw few (rw (two_there s second ss) refl))
      ]

  -- and behind the readers beside it and the files of faulty lines
  reads_beside : (shown : OutputKind) (asked : Option AskFiles) (from save : Option Text)
      (readers : List ReaderFiles) (faults streams : List Text)
      → option_map words_of (settings_for ((readers_from readers >>= λ found.
      faults_from faults streams >>= λ told.
      forward_run shown asked from save streams found told) >>= λ run. Some (Forwards run)))
      ≡ (if not (nat_lt 64 (length readers)
      || (not (is_one_each faults streams) || input_clashes from save streams))
      then Some (found_by false None false (asks_in asked) (replies_in asked) (has_paths shown)
      (joins_in shown) from save readers faults streams) else None)
  unfolding readers_from faults_from
  reads_beside shown asked from save readers faults streams =
      elim (passes_or_fails (nat_lt 64 (length readers))) [
        | inl many ↦ rw many refl
        | inr few ↦ rw few (elim (passes_or_fails (is_one_each faults streams)) [
          | inl fit ↦ rw fit (reads shown asked from save readers faults streams)
          | inr other ↦ rw other refl
        ])
      ]

  forwards : (asks replies : Option Text) (paths : Bool)
      (joins from save : Option Text) (readers : List ReaderFiles) (faults streams : List Text)
      → IsArranged (found_by false None false asks replies paths joins from save readers faults streams)
  unfolding settings_from mode_from streams_from forwards_from asked_from shown_from clash
  forwards (Some a) None paths joins from save readers faults streams = refl
  forwards None (Some r) paths joins from save readers faults streams = refl
  forwards None None true (Some j) from save readers faults streams = refl
  forwards (Some a) (Some r) true (Some j) from save readers faults streams = refl
  forwards None None false None from save readers faults streams = reads_beside Pairs None from save readers faults streams
  forwards None None true None from save readers faults streams = reads_beside Paths None from save readers faults streams
  forwards None None false (Some j) from save readers faults streams = reads_beside (Bindings j) None from save readers faults streams
  forwards (Some a) (Some r) false None from save readers faults streams =
      reads_beside Pairs (Some (record { asks = a; replies = r })) from save readers faults streams
  forwards (Some a) (Some r) true None from save readers faults streams =
      reads_beside Paths (Some (record { asks = a; replies = r })) from save readers faults streams
  forwards (Some a) (Some r) false (Some j) from save readers faults streams =
      reads_beside (Bindings j) (Some (record { asks = a; replies = r })) from save readers faults streams

  arranged : (check : Bool) (generate : Option ℕ) (two_way : Bool) (asks replies : Option Text)
      (paths : Bool) (joins from save : Option Text) (readers : List ReaderFiles) (faults streams : List Text)
      → IsArranged (found_by check generate two_way asks replies paths joins from save readers faults streams)
  arranged true (Some count) two_way asks replies paths joins from save readers faults streams =
      both count two_way asks replies paths joins from save readers faults streams
  arranged true None two_way asks replies paths joins from save readers faults streams =
      checks two_way asks replies paths joins from save readers faults streams
  arranged false (Some count) two_way asks replies paths joins from save readers faults streams =
      generates count two_way asks replies paths joins from save readers faults streams
  arranged false None true asks replies paths joins from save readers faults streams =
      backwards asks replies paths joins from save readers faults streams
  arranged false None false asks replies paths joins from save readers faults streams =
      forwards asks replies paths joins from save readers faults streams

capped : (found : ParsedWords) → found.endless ≡ false → IsArranged found
capped found is =
    subst (λ (b : Bool). IsArranged (record found { endless = b })) (sym is)
    (arranged found.workers found.history found.queries found.check found.generate found.two_way
    found.words.asks found.words.replies found.words.paths found.words.joins found.words.from
    found.words.save found.words.readers found.words.faults found.words.streams)

-- ---- runs as long as their streams

none_behind : {A B : Type 0} (first : Option A) (next : A → Option B)
    → ((x : A) → next x ≡ None) → (first >>= next) ≡ None
none_behind None next none = refl
none_behind (Some x) next none = none x

none_if : {A B : Type 0} (test : Bool) (x : A) (next : A → Option B) → next x ≡ None
    → ((if test then None else Some x) >>= next) ≡ None
none_if true x next none = refl
none_if false x next none = none

-- where something clashes there are no settings
clashes : (found : ParsedWords) → settings_from found ≡ None → clash found ≡ true
    → IsArranged found
clashes found none both = ap (option_map words_of) none
    ∙ sym (ap (λ b. if not b then Some found else None) both)

-- the words with the flag
abbrev as_endless : ParsedWords → ParsedWords
as_endless found = record found { endless = true }

flagged : (clashing : Bool) (found : ParsedWords)
    → option_map as_endless (if not clashing then Some found else None)
    ≡ (if not clashing then Some (as_endless found) else None)
flagged true found = refl
flagged false found = refl

module _ (workers : ℕ) (queries : Text) (two_way : Bool) (words : StreamWords) where
  abbrev found_with : Bool → Option ℕ → Bool → Option ℕ → ParsedWords
  found_with endless history check generate = record {
    workers = workers;
    history = history;
    check = check;
    generate = generate;
    two_way = two_way;
    endless = endless;
    queries = queries;
    words = words;
  }

  abbrev settings_by : Bool → Option StreamSettings → Option Settings
  settings_by endless run = (run >>= λ chosen. Some (Streams chosen)) >>= λ mode.
      extent_from endless None mode >>= λ extent.
      Some (record { queries = queries; workers = workers; extent = extent })

  -- over streams, with no number for the history, the flag changes nothing else
  with_flag : (run : Option StreamSettings) → option_map words_of (settings_by true run)
      ≡ option_map as_endless (option_map words_of (settings_by false run))
  with_flag None = refl
  with_flag (Some run) = refl

  endlessly : (history : Option ℕ) (check : Bool) (generate : Option ℕ)
      → IsArranged (found_with true history check generate)
  unfolding settings_from mode_from clash
  endlessly (Some most) check generate =
      clashes (found_with true (Some most) check generate)
      (none_behind (mode_from check generate two_way words) _ (λ mode. refl)) refl
  endlessly None true (Some count) = refl
  endlessly None true None = clashes (found_with true None true None)
      (none_if (has_stream_words words) (Check (directions_from two_way)) _ refl) refl
  endlessly None false (Some count) = clashes (found_with true None false (Some count))
      (none_if (has_stream_words words) (Generate (directions_from two_way) count) _ refl) refl
  endlessly None false None = with_flag (streams_from two_way words)
      ∙ ap (option_map as_endless) (capped (found_with false None false None) refl)
      ∙ flagged (clash (found_with false None false None)) (found_with false None false None)

pub settings_are_found : SettingsAreFound
settings_are_found found = by found.endless refl
  where
    by : (endless : Bool) → found.endless ≡ endless → IsArranged found
    by false is = capped found is
    by true is = subst (λ (b : Bool). IsArranged (record found { endless = b })) (sym is)
        (endlessly found.workers found.queries found.two_way found.words found.history found.check
        found.generate)
