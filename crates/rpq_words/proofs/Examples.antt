-- Some command lines, computed.
use Rattle.std.specs.Prelude.{refl}
use Rattle.clap.proofs.OnLiterals.{clap_on_literals}
use Rattle.text_parts.specs.Numbers.{number_within}
use Rattle.rpq_words.specs.Command.{found_in, is_taken, rpq_command}
use Rattle.rpq_words.specs.Examples.{EndlessExamples, JoinsExamples, PathsExamples}
use Rattle.rpq_words.specs.Examples.{FaultFileExamples, ReaderExamples, SavedExamples}
use Rattle.rpq_words.specs.Examples.{SettingsExamples, TwoWayExamples}
use Rattle.rpq_words.specs.Found.{number_from_one, optional_number, paired, words_found}
use Rattle.rpq_words.specs.Settings.{asked_from, faults_from, forwards_from, input_from, mode_from}
use Rattle.rpq_words.specs.Settings.{names_from, readers_from, settings, settings_from, settled, shown_from}
use Rattle.rpq_words.specs.Settings.{streams_from}

saved_examples : SavedExamples
unfolding clap_on_literals number_within found_in is_taken rpq_command number_from_one
    optional_number paired words_found asked_from faults_from forwards_from input_from mode_from
    names_from readers_from settings settings_from settled shown_from streams_from
saved_examples = record {
  saved = refl;
  begun = refl;
  all_files = refl;
  of_two = refl;
  no_stream = refl;
  two_streams = refl;
  same_file = refl;
  checked = refl;
  made = refl;
}

two_way_examples : TwoWayExamples
unfolding clap_on_literals number_within found_in is_taken rpq_command number_from_one
    optional_number paired words_found asked_from faults_from forwards_from input_from mode_from
    names_from readers_from settings settings_from settled shown_from streams_from
two_way_examples = record {
  over_stream = refl;
  checked = refl;
  made = refl;
  asked = refl;
  saved = refl;
  begun = refl;
  twice = refl;
}

paths_examples : PathsExamples
unfolding clap_on_literals number_within found_in is_taken rpq_command number_from_one
    optional_number paired words_found asked_from faults_from forwards_from input_from mode_from
    names_from readers_from settings settings_from settled shown_from streams_from
paths_examples = record {
  over_stream = refl;
  checked = refl;
  made = refl;
  backwards = refl;
}

joins_examples : JoinsExamples
unfolding clap_on_literals number_within found_in is_taken rpq_command number_from_one
    optional_number paired words_found asked_from faults_from forwards_from input_from mode_from
    names_from readers_from settings settings_from settled shown_from streams_from
joins_examples = record {
  over_stream = refl;
  all_files = refl;
  checked = refl;
  made = refl;
  backwards = refl;
  with_paths = refl;
  twice = refl;
}

endless_examples : EndlessExamples
unfolding clap_on_literals number_within found_in is_taken rpq_command number_from_one
    optional_number paired words_found asked_from faults_from forwards_from input_from mode_from
    names_from readers_from settings settings_from settled shown_from streams_from
endless_examples = record {
  over_stream = refl;
  all_files = refl;
  backwards = refl;
  with_history = refl;
  checked = refl;
  made = refl;
  no_stream = refl;
  twice = refl;
}

reader_examples : ReaderExamples
unfolding clap_on_literals number_within found_in is_taken rpq_command number_from_one
    optional_number paired words_found asked_from faults_from forwards_from input_from mode_from
    names_from readers_from settings settings_from settled shown_from streams_from
reader_examples = record {
  two = refl;
  behind = refl;
  all_files = refl;
  many = refl;
  alone = refl;
  attached = refl;
  hyphen = refl;
  no_queries = refl;
  checked = refl;
  made = refl;
  backwards = refl;
}

fault_file_examples : FaultFileExamples
unfolding clap_on_literals number_within found_in is_taken rpq_command number_from_one
    optional_number paired words_found asked_from faults_from forwards_from input_from mode_from
    names_from readers_from settings settings_from settled shown_from streams_from
fault_file_examples = record {
  one = refl;
  two = refl;
  without_end = refl;
  backwards = refl;
  all_files = refl;
  too_few = refl;
  too_many = refl;
  few_backwards = refl;
  no_stream = refl;
  checked = refl;
  made = refl;
  alone = refl;
  hyphen = refl;
}

pub examples : SettingsExamples
unfolding clap_on_literals number_within found_in is_taken rpq_command number_from_one
    optional_number paired words_found asked_from faults_from forwards_from input_from mode_from
    names_from readers_from settings settings_from settled shown_from streams_from
examples = record {
  defaults = refl;
  between = refl;
  dashes = refl;
  checked = refl;
  made = refl;
  greatest = refl;
  most_made = refl;
  over_made = refl;
  no_stream = refl;
  no_queries = refl;
  above = refl;
  zero = refl;
  sign = refl;
  twice = refl;
  alone = refl;
  both = refl;
  stream = refl;
  hyphen = refl;
  short = refl;
  help = refl;
  windows = saved_examples;
  both_ways = two_way_examples;
  paths = paths_examples;
  joins = joins_examples;
  without_end = endless_examples;
  readers = reader_examples;
  faults = fault_file_examples;
}
