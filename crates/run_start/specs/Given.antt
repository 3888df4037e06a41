-- What a run makes of the settings that its words are.
use Rattle.std.specs.Prelude.{ℕ, zero, suc, List, [], ◌∷◌, ◌++◌, take, Option, None, slice_get}
use Rattle.std.specs.Prelude.{option_to_list, map}
use Rattle.rpq_words.specs.declared.settings.Settings.{Settings}
use Rattle.rpq_words.specs.Views.{asks_of, faults_of, from_of, joins_of, readers_of, replies_of}
use Rattle.rpq_words.specs.Views.{save_of, streams_of}
use Rattle.stream_tuples.specs.declared.faults.FaultPolicy.{FaultPolicy}
use Rattle.stream_tuples.specs.History.{policy_of_sinks}
use Rattle.rpq_text.specs.declared.ends.Which.{Which}
use Rattle.rpq_text.specs.declared.ends.Which.TheVariants.{Queries, Joins, Asks, From}
use Rattle.rpq_text.specs.declared.ends.Which.TheVariants.{Stream, Replies, Save, FaultsOf}
use Rattle.rpq_text.specs.declared.ends.Which.TheVariants.{AsksOf, RepliesOf}

-- what becomes of the faulty lines of the streams: each is told on the file of its stream where
-- such files are named, and else it ends its stream
abbrev pub policy_of : Settings → FaultPolicy
policy_of given = policy_of_sinks (faults_of given)

-- the name of the stream with this number, from 1
abbrev pub stream_name : Settings → ℕ → Option (List ℕ)
stream_name given zero = None
stream_name given (suc place) = slice_get (streams_of given) place

-- the names of the files that say what the readers beside a run ask, in the order of the readers
abbrev pub asks_names : Settings → List (List ℕ)
asks_names given = map (λ files. files.asks) (readers_of given)

-- and of those that their replies are written to
abbrev pub replies_names : Settings → List (List ℕ)
replies_names given = map (λ files. files.replies) (readers_of given)

-- the name with this number, from 1
abbrev pub name_numbered : List (List ℕ) → ℕ → Option (List ℕ)
name_numbered names zero = None
name_numbered names (suc place) = slice_get names place

-- the names of the files that say what is evaluated: that of the queries, and that of the joins, if
-- there is one
abbrev pub understood_names : Settings → List (List ℕ)
understood_names given = given.queries ∷ option_to_list (joins_of given)

-- the names of the files that are read whole: those, and then that of the asks, if there is one
abbrev pub whole_names : Settings → List (List ℕ)
whole_names given =
    given.queries ∷ (option_to_list (joins_of given) ++ option_to_list (asks_of given))

-- the names of the files that are opened before the streams: those, and then that of the saved
-- window, if there is one
abbrev pub first_names : Settings → List (List ℕ)
first_names given = whole_names given ++ option_to_list (from_of given)

-- the names of the files that are opened before what the readers beside the run ask: those, and
-- then those of the streams
abbrev pub names_with_streams : Settings → List (List ℕ)
names_with_streams given = first_names given ++ streams_of given

-- the names of all files that are read, in the order in which they are opened
abbrev pub file_names : Settings → List (List ℕ)
file_names given = names_with_streams given ++ asks_names given

-- the names of all files that are read behind that of the queries, in the order in which they are
-- opened
abbrev pub later_names : Settings → List (List ℕ)
later_names given = ((option_to_list (joins_of given) ++ option_to_list (asks_of given))
    ++ (option_to_list (from_of given) ++ streams_of given)) ++ asks_names given

-- the names of the files that are opened to write before those of faulty lines: that of the replies
-- to the sessions, and that of the window to be saved, as far as there are such
abbrev pub own_sink_names : Settings → List (List ℕ)
own_sink_names given = option_to_list (replies_of given) ++ option_to_list (save_of given)

-- the names of the files that are opened to write before the replies to the readers beside the run:
-- those, and then those of the faulty lines of the streams
abbrev pub sinks_with_faults : Settings → List (List ℕ)
sinks_with_faults given = own_sink_names given ++ faults_of given

-- the names of all files that are opened to write, in the order in which they are: those, and then
-- those of the replies to the readers
abbrev pub sink_names : Settings → List (List ℕ)
sink_names given = sinks_with_faults given ++ replies_names given

-- the names of the files that are opened to read before this one is opened
abbrev pub names_before : Settings → Which → List (List ℕ)
names_before given Queries = []
names_before given Joins = given.queries ∷ []
names_before given Asks = understood_names given
names_before given From = whole_names given
names_before given (Stream zero) = first_names given
names_before given (Stream (suc place)) = first_names given ++ take place (streams_of given)
names_before given Replies = file_names given
names_before given Save = file_names given
names_before given (FaultsOf number) = file_names given
names_before given (AsksOf zero) = names_with_streams given
names_before given (AsksOf (suc place)) = names_with_streams given ++ take place (asks_names given)
names_before given (RepliesOf number) = file_names given

-- the names of the files that were opened to read when this one was
abbrev pub names_up_to : Settings → Which → List (List ℕ)
names_up_to given Queries = given.queries ∷ []
names_up_to given Joins = understood_names given
names_up_to given Asks = whole_names given
names_up_to given From = first_names given
names_up_to given (Stream number) = first_names given ++ take number (streams_of given)
names_up_to given Replies = file_names given
names_up_to given Save = file_names given
names_up_to given (FaultsOf number) = file_names given
names_up_to given (AsksOf number) = names_with_streams given ++ take number (asks_names given)
names_up_to given (RepliesOf number) = file_names given
