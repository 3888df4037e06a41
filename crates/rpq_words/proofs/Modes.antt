-- The settings of words are in their ranges.
use Rattle.std.proofs.Common.{arith, ◌≡◌, ◌≢◌, ◌∙◌, ap, sym, refl, subst, inl, inr, ◌⊎◌, ℕ, ◌≤◌}
use Rattle.std.proofs.Common.{Bool, true, false, List, [], ◌∷◌, codes, length}
use Rattle.std.specs.Prelude.{◌&&◌, ◌||◌, ◌==◌, not, nat_le, nat_lt, if◌then◌else◌}
use Rattle.std.specs.Prelude.{is_some, IfSome}
use Rattle.std.specs.Prelude.{Option, Some, None, option_map, unwrap_or}
use Rattle.std.proofs.lemmas.Bool.{eqb-true, leb-true, ltb-false, iff_false}
use Rattle.std.proofs.lemmas.Slice.Eq.{bytes_eq-Decides}
use Rattle.clap.specs.Walk.{Row, Text, all_of, first_of, is_empty}
use Rattle.clap.proofs.WalkLemmas.{both}
use Rattle.text_parts.specs.Numbers.{is_digit_text, number_of, number_within}
use Rattle.rpq_words.specs.declared.parsed_words.ParsedWords.{ParsedWords}
use Rattle.rpq_words.specs.declared.reader_names.ReaderFiles.{ReaderFiles}
use Rattle.rpq_words.specs.declared.settings.Extent.{Extent}
use Rattle.rpq_words.specs.declared.settings.Extent.TheVariants.{Capped, Endless}
use Rattle.rpq_words.specs.declared.settings.RunMode.TheVariants.{Check, Generate, Streams}
use Rattle.rpq_words.specs.declared.settings.StreamSettings.{StreamSettings}
use Rattle.rpq_words.specs.declared.settings.StreamSettings.TheVariants.{Forwards, BothWays}
use Rattle.rpq_words.specs.declared.settings.ForwardSettings.{ForwardSettings}
use Rattle.rpq_words.specs.declared.settings.Input.{Input}
use Rattle.rpq_words.specs.declared.settings.Input.TheVariants.{Fresh, Resumed}
use Rattle.rpq_words.specs.Clash.{clash, is_one_alone, is_one_each, is_same_file}
use Rattle.rpq_words.specs.Command.{found_in, is_taken}
use Rattle.rpq_words.specs.Found.{has_flag, number_from_one, optional_number, paired, words_found}
use Rattle.rpq_words.specs.Modes.{AreSettings, IsCap, IsInput, IsMode, IsWithin}
use Rattle.rpq_words.specs.Modes.{WordsAreSettings, history_in, words_of}
use Rattle.rpq_words.specs.Options.{◌>>=◌, only_if}
use Rattle.rpq_words.specs.declared.settings.Settings.{Settings}
use Rattle.rpq_words.specs.Settings.{settings, settings_from, settled}
use Rattle.rpq_words.specs.Views.{asks_in, cap_in, cap_of, faults_in, forwards_in, from_in, has_paths}
use Rattle.rpq_words.specs.Views.{is_endless_in, joins_in, mode_in, names_in, readers_in, replies_in}
use Rattle.rpq_words.specs.Views.{streams_in}
use Rattle.rpq_words.proofs.Arranging.{settings_are_found, some_there}

-- ---- numbers in their ranges

guarded : {A : Type 0} (test : Bool) (x y : A) → (if test then Some x else None) ≡ Some y
    → (test ≡ true) × (x ≡ y)
guarded true x y is = (refl, cc)
guarded false x y is = absurd cc

bound : {A B : Type 0} (first : Option A) (next : A → Option B) (y : B) →
    (first >>= next) ≡ Some y → (x : A) × (first ≡ Some x) × (next x ≡ Some y)
bound None next y is = absurd cc
bound (Some x) next y is = (x, refl, is)

within_most : (most : ℕ) (text : Text) (number : ℕ) → number_within most text ≡ Some number →
    number ≤ most
unfolding number_within
within_most most text number is =
    let read = guarded (is_digit_text text && nat_le (number_of text) most) (number_of text) number
    is in
    let few = leb-true (number_of text) most
    (both (is_digit_text text) (nat_le (number_of text) most) read.0).1 in
    subst (λ x. x ≤ most) read.1 few

in_range : (most : ℕ) (text : Text) (number : ℕ) → number_from_one most text ≡ Some number →
    IsWithin most number
unfolding number_from_one
in_range most text number is =
    let read = bound (number_within most text) (only_if (nat_le 1)) number is in
    let kept = guarded (nat_le 1 read.0) read.0 number read.2 in
    subst (IsWithin most) kept.1 (leb-true 1 read.0 kept.0, within_most most text read.0 read.1)

needed_in_range : (most : ℕ) (text : Option Text) (number : ℕ) →
    (text >>= number_from_one most) ≡ Some number → IsWithin most number
needed_in_range most text number is =
    let read = bound text (number_from_one most) number is in
    in_range most read.0 number read.2

some_of : (x y : Option ℕ) → Some x ≡ Some y → x ≡ y
some_of x y same = cc

mapped : (P : ℕ → Type 0) (found : Option ℕ) (number : Option ℕ) →
    ((n : ℕ) → found ≡ Some n → P n) → option_map (λ n. Some n) found ≡ Some number →
    IfSome number P
mapped P None number holds is = absurd cc
mapped P (Some n) number holds is =
    subst (λ x. IfSome x P) (some_of (Some n) number is) (holds n refl)

optional_in_range : (most : ℕ) (text : Option Text) (number : Option ℕ) →
    optional_number most text ≡ Some number → IfSome number (IsWithin most)
unfolding optional_number
optional_in_range most (Some text) number is =
    mapped (IsWithin most) (number_from_one most text) number (in_range most text) is
optional_in_range most None None is = tt
optional_in_range most None (Some number) is = absurd cc

-- ---- what was found

-- each number that was found is in its range
record IsInRange (found : ParsedWords) : Type 0 where
  workers_in : IsWithin 64 found.workers
  history_in_range : IfSome found.history (IsWithin 2000000)
  generate_in : IfSome found.generate (IsWithin 1000000)

module _ (make : ℕ → Option ℕ → Option ℕ → Text → List ReaderFiles → ParsedWords) where
  made_by : (workers : Option ℕ) (history generate : Option (Option ℕ)) (queries : Option Text)
      (readers : Option (List ReaderFiles)) (found : ParsedWords) →
      (workers >>= λ w. (history >>= λ h. (generate >>= λ g.
      (queries >>= λ q. (readers >>= λ r. Some (make w h g q r)))))) ≡ Some found →
      (w : ℕ) × (h : Option ℕ) × (g : Option ℕ) × (q : Text) × (r : List ReaderFiles)
      × (workers ≡ Some w) × (history ≡ Some h) × (generate ≡ Some g) × (make w h g q r ≡ found)
  made_by (Some w) (Some h) (Some g) (Some q) (Some r) found is =
      (w, h, g, q, r, refl, refl, refl, cc)
  made_by None history generate queries readers found is = absurd cc
  made_by (Some w) None generate queries readers found is = absurd cc
  made_by (Some w) (Some h) None queries readers found is = absurd cc
  made_by (Some w) (Some h) (Some g) None readers found is = absurd cc
  made_by (Some w) (Some h) (Some g) (Some q) None found is = absurd cc

found_in_range : (rows : List Row) (found : ParsedWords) → words_found rows ≡ Some found
    → IsInRange found
unfolding words_found
found_in_range rows found is =
    let read = made_by
    (λ workers history generate queries readers. record {
      workers = workers;
      history = history;
      check = has_flag (codes "check") rows;
      generate = generate;
      two_way = has_flag (codes "two-way") rows;
      endless = has_flag (codes "endless") rows;
      queries = queries;
      words = record {
        paths = has_flag (codes "paths") rows;
        joins = first_of (codes "joins") rows;
        asks = first_of (codes "asks") rows;
        replies = first_of (codes "replies") rows;
        save = first_of (codes "save") rows;
        from = first_of (codes "from") rows;
        readers = readers;
        faults = unwrap_or (all_of (codes "faults") rows) [];
        streams = unwrap_or (all_of (codes "streams") rows) [];
      };
    })
    (first_of (codes "workers") rows >>= number_from_one 64)
    (optional_number 2000000 (first_of (codes "history") rows))
    (optional_number 1000000 (first_of (codes "generate") rows))
    (first_of (codes "queries") rows) (paired (unwrap_or (all_of (codes "reader") rows) [])) found is in
    subst IsInRange read.8 (record {
      workers_in = needed_in_range 64 (first_of (codes "workers") rows) read.0 read.5;
      history_in_range =
          optional_in_range 2000000 (first_of (codes "history") rows) read.1 read.6;
      generate_in =
          optional_in_range 1000000 (first_of (codes "generate") rows) read.2 read.7;
    })

-- ---- the settings of it

-- what doesn't clash, in its parts
second_fails : (a b : Bool) → (a || b) ≡ false → b ≡ false
second_fails false b is = is
second_fails true b is = absurd cc

first_fails : (a b : Bool) → (a || b) ≡ false → a ≡ false
first_fails false b is = refl
first_fails true b is = absurd cc

passes : (test : Bool) → not test ≡ false → test ≡ true
passes true is = refl
passes false is = absurd cc

passes_second : (a b : Bool) → a ≡ false → (a || b) ≡ true → b ≡ true
passes_second false b not_first is = is
passes_second true b not_first is = absurd cc

fails : (test : Bool) → not test ≡ true → test ≡ false
fails false is = refl
fails true is = absurd cc

within_by : (names : List Text) (rest : Bool)
    → (is_empty names || (nat_lt 64 (length names) || rest)) ≡ false
    → IsWithin 64 (length names)
within_by [] rest is = absurd cc
within_by (name ∷ names) rest is = (
  omega arith,
  ltb-false 64 (length (name ∷ names)) (first_fails (nat_lt 64 (length (name ∷ names))) rest
      (second_fails (is_empty (name ∷ names)) (nat_lt 64 (length (name ∷ names)) || rest) is)),
)

some_same : (x y : Text) → Some x ≡ Some y → x ≡ y
some_same x y same = cc

another_file : (save : Option Text) (file : Text) → is_same_file save (Some file) ≡ false →
    save ≢ Some file
another_file None file other same = absurd cc
another_file (Some x) file other same =
    iff_false (bytes_eq-Decides x file) other (some_same x file same)

input_is : (save : Option Text) (input : Input)
    → (is_empty (names_in input) || (nat_lt 64 (length (names_in input))
    || ((is_some (from_in input) && not (length (names_in input) == 1))
    || is_same_file save (from_in input)))) ≡ false → IsInput save input
input_is save (Fresh streams) is = within_by streams _ is
input_is save (Resumed from stream) is = another_file save from is

-- what doesn't clash behind the readers
abbrev files_clash : ForwardSettings → Bool
files_clash run = not (is_one_each run.faults (names_in run.input))
    || (is_empty (names_in run.input) || (nat_lt 64 (length (names_in run.input))
    || ((is_some (from_in run.input) && not (length (names_in run.input) == 1))
    || is_same_file run.save (from_in run.input))))

-- and behind what is asked and shown
abbrev behind_clashes : ForwardSettings → Bool
behind_clashes run = nat_lt 64 (length run.readers) || files_clash run

behind_shown : (given : Settings) (run : ForwardSettings)
    → clash (words_of (record given { extent = Endless (Forwards run) })) ≡ false
    → behind_clashes run ≡ false
unfolding clash
behind_shown given run agrees =
    second_fails (has_paths run.shown && is_some (joins_in run.shown)) _
    (second_fails (is_one_alone (asks_in run.asked) (replies_in run.asked)) _ agrees)

behind_readers : (run : ForwardSettings) → behind_clashes run ≡ false → files_clash run ≡ false
behind_readers run agrees = second_fails (nat_lt 64 (length run.readers)) (files_clash run) agrees

streams_are : (given : Settings) (run : StreamSettings)
    → clash (words_of (record given { extent = Endless run })) ≡ false → IsMode (Streams run)
unfolding clash
streams_are given (BothWays run) agrees = within_by run.streams _
    (second_fails (not (is_one_each run.faults run.streams)) _ agrees)
streams_are given (Forwards run) agrees = input_is run.save run.input
    (second_fails (not (is_one_each run.faults (names_in run.input))) _
    (behind_readers run (behind_shown given run agrees)))

mode_is : (given : Settings) (extent : Extent)
    → clash (words_of (record given { extent = extent })) ≡ false
    → IfSome (words_of (record given { extent = extent })).generate (IsWithin 1000000)
    → IsMode (mode_in extent)
unfolding clash
mode_is given (Capped history (Check directions)) agrees made = tt
mode_is given (Capped history (Generate directions count)) agrees made = made
mode_is given (Capped history (Streams run)) agrees made = streams_are given run agrees
mode_is given (Endless run) agrees made = streams_are given run agrees

few_readers : (given : Settings) (run : ForwardSettings) → behind_clashes run ≡ false
    → length run.readers ≤ 64
few_readers given run agrees =
    ltb-false 64 (length run.readers) (first_fails (nat_lt 64 (length run.readers)) _ agrees)

-- at most 64 readers ask beside the run
readers_are : (given : Settings) (extent : Extent)
    → clash (words_of (record given { extent = extent })) ≡ false
    → length (readers_in (forwards_in (mode_in extent))) ≤ 64
unfolding clash
readers_are given (Capped history (Check directions)) agrees = omega arith
readers_are given (Capped history (Generate directions count)) agrees = omega arith
readers_are given (Capped history (Streams (BothWays run))) agrees = omega arith
readers_are given (Capped history (Streams (Forwards run))) agrees =
    few_readers given run (behind_shown given run agrees)
readers_are given (Endless (BothWays run)) agrees = omega arith
readers_are given (Endless (Forwards run)) agrees =
    few_readers given run (behind_shown given run agrees)

-- there is a file of faulty lines for each stream, or none
one_each : (faults streams : List Text) → not (is_one_each faults streams) ≡ false
    → (faults ≡ []) ⊎ (length faults ≡ length streams)
one_each [] streams agrees = inl refl
one_each (fault ∷ faults) streams agrees = inr (eqb-true (length (fault ∷ faults)) (length streams)
    (passes_second (is_empty (fault ∷ faults)) _ (some_there fault faults)
    (passes (is_one_each (fault ∷ faults) streams) agrees)))

faults_are : (given : Settings) (extent : Extent)
    → clash (words_of (record given { extent = extent })) ≡ false
    → (faults_in (mode_in extent) ≡ [])
    ⊎ (length (faults_in (mode_in extent)) ≡ length (streams_in (mode_in extent)))
unfolding clash
faults_are given (Capped history (Check directions)) agrees = inl refl
faults_are given (Capped history (Generate directions count)) agrees = inl refl
faults_are given (Capped history (Streams (BothWays run))) agrees =
    one_each run.faults run.streams (first_fails _ _ agrees)
faults_are given (Capped history (Streams (Forwards run))) agrees =
    one_each run.faults (names_in run.input)
    (first_fails _ _ (behind_readers run (behind_shown given run agrees)))
faults_are given (Endless (BothWays run)) agrees =
    one_each run.faults run.streams (first_fails _ _ agrees)
faults_are given (Endless (Forwards run)) agrees = one_each run.faults (names_in run.input)
    (first_fails _ _ (behind_readers run (behind_shown given run agrees)))

cap_is : (history : Option ℕ) → IfSome history (IsWithin 2000000)
    → IsWithin 2000000 (unwrap_or history 1000000)
cap_is None within = (omega arith, omega arith)
cap_is (Some most) within = within

capped_is : (extent : Extent) → IfSome (history_in extent) (IsWithin 2000000)
    → is_endless_in extent ≡ false → IsWithin 2000000 (cap_in extent)
capped_is (Capped history mode) within is = cap_is history within
capped_is (Endless run) within is = absurd cc

are_settings : (found : ParsedWords) (given : Settings) → settings_from found ≡ Some given
    → IsInRange found → AreSettings given
are_settings found given is ranges =
    let kept = guarded (not (clash found)) found (words_of given)
    (sym (settings_are_found found) ∙ ap (option_map words_of) is) in
    let own = subst IsInRange kept.1 ranges in
    let agrees = ap clash (sym kept.1) ∙ fails (clash found) kept.0 in
    record {
      workers = own.workers_in;
      cap = capped_is given.extent own.history_in_range;
      mode = mode_is given given.extent agrees own.generate_in;
      readers = readers_are given given.extent agrees;
      faults = faults_are given given.extent agrees;
    }

-- how many tuples the history of settings may hold
pub is_cap : (given : Settings) → AreSettings given → IsCap (cap_of given)
is_cap given are = by given.extent are.cap
  where
    by : (extent : Extent) → (is_endless_in extent ≡ false → IsWithin 2000000 (cap_in extent))
        → IsCap (cap_in extent)
    by (Capped history mode) within = inl (within refl)
    by (Endless run) within = inr refl

pub settled_are : (rows : List Row) (given : Settings) → settled rows ≡ Some given →
    AreSettings given
unfolding settled
settled_are rows given is =
    let read = bound (words_found rows) settings_from given is in
    are_settings read.0 given read.2 (found_in_range rows read.0 read.1)

taken_are : (taken : Bool) (rows : List Row) (given : Settings) →
    (if taken then settled rows else None) ≡ Some given → AreSettings given
taken_are true rows given is = settled_are rows given is
taken_are false rows given is = absurd cc

pub words_are_settings : WordsAreSettings
unfolding settings
words_are_settings words given is = taken_are (is_taken words) (found_in words) given is
