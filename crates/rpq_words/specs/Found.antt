-- What is found in the words of a command line.
use Rattle.std.specs.Prelude.{ℕ, Bool, false, nat_le, List, [], ◌∷◌, codes, bytes_eq}
use Rattle.std.specs.Prelude.{Option, Some, None, option_map, unwrap_or}
use Rattle.std.specs.Option.{option_map_or}
use Rattle.clap.specs.Walk.{Row, Text, all_of, first_of}
use Rattle.text_parts.specs.Numbers.{number_within}
use Rattle.rpq_words.specs.declared.parsed_words.ParsedWords.{ParsedWords}
use Rattle.rpq_words.specs.declared.reader_names.ReaderFiles.{ReaderFiles}
use Rattle.rpq_words.specs.Options.{◌>>=◌, only_if}

-- the number that a text writes in digits, where it is from 1 to `most`; zeros may stand in front
unfoldable pub number_from_one : ℕ → Text → Option ℕ
number_from_one most text = number_within most text >>= only_if (nat_le 1)

-- the number of an option that need not stand there: there is none, or it is in its range
unfoldable pub optional_number : ℕ → Option Text → Option (Option ℕ)
optional_number most None = Some None
optional_number most (Some text) = option_map (λ number. Some number) (number_from_one most text)

-- the flag stands there: clap notes the text `true` for it, and else `false`
abbrev pub has_flag : Text → List Row → Bool
has_flag name rows = option_map_or (bytes_eq (codes "true")) (first_of name rows) false

-- the files of readers, each of which has two texts, that of its asks and that of its replies
unfoldable pub paired : List Text → Option (List ReaderFiles)
paired [] = Some []
paired (asks ∷ []) = None
paired (asks ∷ replies ∷ rest) =
    option_map (λ readers. record { asks = asks; replies = replies } ∷ readers) (paired rest)

-- what was found, where each number is in its range and there is a word for the queries: the
-- number of workers, and that of entries in the history, if it is said; whether the queries are to
-- be checked alone; how many tuples are to be generated; whether expressions may take edges
-- backwards; whether the run goes on as long as its streams do; whether a path is told behind each
-- gained pair; and the names of the files
unfoldable pub words_found : List Row → Option ParsedWords
words_found rows =
    first_of (codes "workers") rows >>= number_from_one 64 >>= λ workers.
    optional_number 2000000 (first_of (codes "history") rows) >>= λ history.
    optional_number 1000000 (first_of (codes "generate") rows) >>= λ generate.
    first_of (codes "queries") rows >>= λ queries.
    paired (unwrap_or (all_of (codes "reader") rows) []) >>= λ readers.
    Some (record {
      workers = workers;
      history = history;
      check = has_flag (codes "check") rows;
      generate = generate;
      two_way = has_flag (codes "two-way") rows;
      endless = has_flag (codes "endless") rows;
      queries = queries;
      words = record {
        paths = has_flag (codes "paths") rows;
        joins = first_of (codes "joins") rows;
        asks = first_of (codes "asks") rows;
        replies = first_of (codes "replies") rows;
        save = first_of (codes "save") rows;
        from = first_of (codes "from") rows;
        readers = readers;
        faults = unwrap_or (all_of (codes "faults") rows) [];
        streams = unwrap_or (all_of (codes "streams") rows) [];
      };
    })
