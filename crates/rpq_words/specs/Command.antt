-- The command, as one simple command of clap.
use Rattle.std.specs.Prelude.{Bool, true, List, [], ◌∷◌, Some, codes, fold}
use Rattle.clap.specs.Walk.{Row, Rule, Text, is_empty}
use Rattle.clap.specs.Simple.{App, matches_of, new_app, new_rule, with_rule}
use Rattle.clap.specs.Faults.{fault_of}
use Rattle.clap.specs.declared.builder.action.ArgAction.TheVariants.{Set, SetTrue, Append}

-- an option `--NAME` with one value
abbrev pub option_with_value : Text → Rule
option_with_value name = record (new_rule name) { long = Some name; action = Some Set }

-- an option `--NAME` with two values, which may be given again
abbrev pub option_with_two : Text → Rule
option_with_two name = record (new_rule name) {
  long = Some name;
  action = Some Append;
  range = Some (record { start_inclusive = 2; end_inclusive = 2 });
}

-- an option `--NAME` with one value, which may be given again
abbrev pub option_again : Text → Rule
option_again name = record (new_rule name) { long = Some name; action = Some Append }

-- an option that has this value where it isn't given
abbrev pub option_or : Text → Text → Rule
option_or name value =
    record (new_rule name) { long = Some name; action = Some Set; defaults = value ∷ [] }

-- a flag `--NAME`
abbrev pub flag : Text → Rule
flag name = record (new_rule name) { long = Some name; action = Some SetTrue }

-- one word that has to stand there
abbrev pub one_word : Text → Rule
one_word name = record (new_rule name) { action = Some Set; required = true }

-- any number of words
abbrev pub any_words : Text → Rule
any_words name = record (new_rule name) { action = Some Append }

-- ten options, of which `--reader` has two values, four flags, the word for the queries file, and
-- the words for the streams
abbrev pub rules : List Rule
rules =
    option_or (codes "workers") (codes "4")
    ∷ option_with_value (codes "history")
    ∷ option_with_value (codes "asks")
    ∷ option_with_value (codes "replies")
    ∷ flag (codes "check")
    ∷ option_with_value (codes "generate")
    ∷ flag (codes "two-way")
    ∷ flag (codes "paths")
    ∷ option_with_value (codes "joins")
    ∷ option_with_value (codes "save")
    ∷ option_with_value (codes "from")
    ∷ flag (codes "endless")
    ∷ option_with_two (codes "reader")
    ∷ option_again (codes "faults")
    ∷ one_word (codes "queries")
    ∷ any_words (codes "streams")
    ∷ []

-- the command with these
unfoldable pub rpq_command : App
rpq_command = fold with_rule (new_app (codes "rpq")) rules

-- the command takes the words: clap finds no fault in them; the first is the program's name
unfoldable pub is_taken : List Text → Bool
is_taken words = is_empty (fault_of rpq_command words)

-- what clap finds in words that the command takes: for each argument its values
unfoldable pub found_in : List Text → List Row
found_in words = matches_of rpq_command words
