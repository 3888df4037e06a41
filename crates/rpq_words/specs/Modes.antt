-- What settings are, said once more by what was found in the words.
use Rattle.std.specs.Prelude.{◌≡◌, ◌≢◌, ◌≤◌, ℕ, Bool, true, false, not, List, [], length}
use Rattle.std.specs.Prelude.{◌⊎◌, ◌^◌, Option, Some, None, option_map}
use Rattle.clap.specs.Walk.{Text}
use Rattle.rpq_words.specs.declared.parsed_words.ParsedWords.{ParsedWords}
use Rattle.rpq_words.specs.declared.settings.Extent.{Extent}
use Rattle.rpq_words.specs.declared.settings.Extent.TheVariants.{Capped, Endless}
use Rattle.rpq_words.specs.declared.settings.RunMode.{RunMode}
use Rattle.rpq_words.specs.declared.settings.RunMode.TheVariants.{Check, Generate, Streams}
use Rattle.rpq_words.specs.declared.settings.StreamSettings.TheVariants.{Forwards, BothWays}
use Rattle.rpq_words.specs.declared.settings.Input.{Input}
use Rattle.rpq_words.specs.declared.settings.Input.TheVariants.{Fresh, Resumed}
use Rattle.rpq_words.specs.Clash.{clash}
use Rattle.rpq_words.specs.Options.{only_if}
use Rattle.rpq_words.specs.declared.settings.Settings.{Settings}
use Rattle.rpq_words.specs.Settings.{settings, settings_from}
use Rattle.rpq_words.specs.Views.{asks_of, cap_of, faults_of, from_of, is_endless, joins_of}
use Rattle.rpq_words.specs.Views.{mode_of, paths_of, readers_of, replies_of, save_of, streams_of}
use Rattle.rpq_words.specs.Views.{two_way_of}

-- the queries are checked, and nothing is run
abbrev pub is_check : RunMode → Bool
is_check (Check directions) = true
is_check (Generate directions count) = false
is_check (Streams run) = false

-- how many tuples are generated
abbrev pub count_of : RunMode → Option ℕ
count_of (Check directions) = None
count_of (Generate directions count) = Some count
count_of (Streams run) = None

-- how many tuples the history holds at most, if the words say it
abbrev pub history_in : Extent → Option ℕ
history_in (Capped history mode) = history
history_in (Endless run) = None

-- what is found in words that have these settings
abbrev pub words_of : Settings → ParsedWords
words_of given = record {
  workers = given.workers;
  history = history_in given.extent;
  check = is_check (mode_of given);
  generate = count_of (mode_of given);
  two_way = two_way_of given;
  endless = is_endless given;
  queries = given.queries;
  words = record {
    paths = paths_of given;
    joins = joins_of given;
    asks = asks_of given;
    replies = replies_of given;
    save = save_of given;
    from = from_of given;
    readers = readers_of given;
    faults = faults_of given;
    streams = streams_of given;
  };
}

-- what was found has settings exactly where it doesn't clash, and they say all that was found
abbrev pub SettingsAreFound : Type 0
SettingsAreFound = (found : ParsedWords)
    → option_map words_of (settings_from found) ≡ only_if (λ all. not (clash all)) found

-- from 1 to `most`
abbrev pub IsWithin : ℕ → ℕ → Type 0
IsWithin most number = (1 ≤ number) × (number ≤ most)

-- from 1 to 64 streams are read; a run that begins with what a file has saves to no file of that
-- name
abbrev pub IsInput : Option Text → Input → Type 0
IsInput save (Fresh streams) = IsWithin 64 (length streams)
IsInput save (Resumed from stream) = save ≢ Some from

abbrev pub IsMode : RunMode → Type 0
IsMode (Check directions) = Unit {0}
IsMode (Generate directions count) = IsWithin 1000000 count
IsMode (Streams (BothWays run)) = IsWithin 64 (length run.streams)
IsMode (Streams (Forwards run)) = IsInput run.save run.input

-- how many tuples a history may hold: from 1 to 2,000,000, or as many as an endless run would take
abbrev pub IsCap : ℕ → Type 0
IsCap cap = IsWithin 2000000 cap ⊎ (cap ≡ 2 ^ 61)

-- each number is in its range, the files and the streams are such, there are at most 64 readers
-- beside the run, and each stream has a file of faulty lines, or none has one
pub record AreSettings (given : Settings) : Type 0 where
  pub workers : IsWithin 64 given.workers
  pub cap : is_endless given ≡ false → IsWithin 2000000 (cap_of given)
  pub mode : IsMode (mode_of given)
  pub readers : length (readers_of given) ≤ 64
  pub faults : (faults_of given ≡ []) ⊎ (length (faults_of given) ≡ length (streams_of given))

-- the settings of words are so
abbrev pub WordsAreSettings : Type 0
WordsAreSettings =
    (words : List Text) (given : Settings) → settings words ≡ Some given → AreSettings given
