-- The order of files, computed; and what a saved window gives before a stream.
use Rattle.std.proofs.Common.{◌≡◌, ℕ, List, [], ◌∷◌, ◌++◌, map, Option, Some, refl, ap, ap₂, ◌∙◌}
use Rattle.std.specs.Prelude.{option_map, unwrap_or}
use Rattle.rpq_words.specs.Views.{cap_of, streams_of}
use Rattle.saved_window.specs.SavedText.{SavedTextIsRead, saved_text}
use Rattle.stream_tuples.specs.Limits.{byte_limit_of}
use Rattle.run_start.specs.Files.{from_content, with_first}
use Rattle.run_start.specs.Given.{policy_of}
use Rattle.run_start.specs.Laws.{ReadInOrder, ReadWholeInOrder, WrittenInOrder, SavedComesFirst}

pub read_in_order : ReadInOrder
read_in_order = record {
  all = refl;
  words = refl;
  queries = refl;
  faulty_queries = λ fault. refl;
  joins = refl;
  faulty_joins = λ fault. refl;
  asks = refl;
  faulty_asks = λ fault. refl;
  from = refl;
  stream = refl;
  asks_of = refl;
  second_asks = refl;
  replies = refl;
  faults_of = refl;
  replies_of = refl;
  second = refl;
}

pub read_whole_in_order : ReadWholeInOrder
read_whole_in_order = record {
  queries = refl;
  joins = refl;
  asks = refl;
  long_queries = refl;
  long_joins = refl;
  long_asks = refl;
}

pub written_in_order : WrittenInOrder
written_in_order = record {
  all = refl;
  stream = refl;
  replies = refl;
  save = refl;
  faults_of = refl;
  second_faults = refl;
  all_faults = refl;
  asks_of = refl;
  replies_of = refl;
  second_replies = refl;
}

pub saved_comes_first : SavedTextIsRead → SavedComesFirst
saved_comes_first are_read given holds tuples text begins =
    let saved = saved_text tuples in
    let first : from_content given holds ≡ Some saved =
    ap (λ (name : Option (List ℕ)). unwrap_or (option_map holds name) (Some [])) begins.named
    ∙ begins.saved in
    let files : map holds (streams_of given) ≡ Some text ∷ [] =
    ap (map holds) begins.only
    ∙ ap (λ (file : Option (List ℕ)). file ∷ []) begins.fresh in (
      saved ++ text,
      ap₂ (λ (one : Option (List ℕ)) (all : List (Option (List ℕ))). with_first one all) first files,
      (are_read (policy_of given) tuples begins.written).in_front (byte_limit_of (cap_of given)) text
          begins.fits,
      (are_read (policy_of given) tuples begins.written).reports (byte_limit_of (cap_of given)) text
          begins.fits,
    )
