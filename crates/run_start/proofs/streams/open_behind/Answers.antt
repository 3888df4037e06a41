use Rattle.std.proofs.Common.{rules, ◌≡◌, ℕ, List, [], ◌∷◌, ◌++◌, Option, Some, None, refl, sym, subst, ◌∙◌}
use Rattle.std.proofs.Common.{ap, append-nil, append_assoc, arith, length}
use Rattle.std.specs.Prelude.{option_to_list, slice_get}
use Rattle.std.proofs.lemmas.List.{take_all}
use Rattle.rpq_io.specs.Reader.{ReaderState}
use Rattle.saved_window.specs.Then.{left_of_both}
use Rattle.rpq_text.specs.declared.ends.StartFault.{StartFault}
use Rattle.rpq_text.specs.declared.ends.StartFault.TheVariants.{Memory}
use Rattle.rpq_text.specs.declared.ends.Which.TheVariants.{From, Stream}
use Rattle.run_start.specs.Given.{asks_names, first_names, whole_names}
use Rattle.run_start.specs.Ready.{fault_of}
use Rattle.run_start.specs.Steps.{UsesMore}
use Rattle.run_start.proofs.Opening.{behind_contents, from_opened, from_place, opening_refusal, uses_file}
use Rattle.run_start.proofs.Opening.{uses_stream}
use Rattle.run_start.proofs.SinkSteps.{no_step}
use Rattle.run_start.proofs.Using.{holds_stays, one_by_one, refused_as, start_is, then_refused}
use Rattle.run_start.proofs.streams.open_behind.Goals as goal
use Rattle.rpq_words.specs.Views.{from_of, streams_of}

pub returns-in_default-clause-files : goal.returns-in_default-clause-files
returns-in_default-clause-files g c =
    let given = c.args.chosen.now in
    let fault : Memory ≡ c.without_source.result.fault = search rules in
    subst (λ (f : StartFault). UsesMore g.F.Files.holds g.F.Files.opened g.F.Files.made g.F.Files.unread
    g.F.Files.unmade given (whole_names given) (option_to_list (from_of given) ++ streams_of given) [] (Some f)
    c.args.files.now c.args.files.now) fault
    (then_refused (option_to_list (from_of given) ++ streams_of given) Memory tt
    (record {
      rest = (option_to_list (from_of given) ++ streams_of given) ++ asks_names given;
      cut = ap (λ (ns : List (List ℕ)). ns ++ asks_names given)
          (append_assoc (whole_names given) (option_to_list (from_of given)) (streams_of given))
          ∙ (append_assoc (whole_names given) (option_to_list (from_of given) ++ streams_of given)
          (asks_names given)
          ∙ ap (λ (ns : List (List ℕ)). ns ++ ((option_to_list (from_of given) ++ streams_of given)
          ++ asks_names given)) (sym (append-nil (whole_names given))));
    })
    (no_step given (whole_names given) c.args.files.now))

pub returns-in_err-from-clause-files : goal.returns-in_err-from-clause-files
returns-in_err-from-clause-files g c =
    let given = c.args.chosen.now in
    let name = c.as_str.result.now in
    let named : (from_of given) ≡ Some name = search rules in
    let refusal = c.in_err-from.field-0.0 in
    let start : Some refusal.fault ≡ fault_of c.from_residual.result = search rules in
    subst (λ (s : Option StartFault). UsesMore g.F.Files.holds g.F.Files.opened g.F.Files.made g.F.Files.unread
    g.F.Files.unmade given (whole_names given) (option_to_list (from_of given) ++ streams_of given) [] s c.args.files.now
    c.open_file.new.files) start
    (refused_as (option_to_list (from_of given) ++ streams_of given) []
    (uses_file given From (whole_names given) name None (Some refusal.fault) c.args.files.now
    c.open_file.new.files (from_place given name named)
    (opening_refusal From refusal c.in_err-from.ensures.cause) c.in_err-from.ensures.files))

-- ---- the one stream

pub returns-in_err-open_stream-clause-files : goal.returns-in_err-open_stream-clause-files
returns-in_err-open_stream-clause-files g c =
    let given = c.args.chosen.now in
    let name = c.as_str.result.now in
    let named : (from_of given) ≡ Some name = search rules in
    let stream = c.as_str-2.result.now in
    let one : streams_of given ≡ stream ∷ [] = search rules in
    let is : slice_get (streams_of given) 0 ≡ Some stream =
    ap (λ (names : List (List ℕ)). slice_get names 0) one in
    let refusal = c.in_err-open_stream.field-0.0 in
    let first = from_opened given name None c.args.files.now c.open_file.new.files named tt c.in_ok-from.ensures.files in
    subst (λ (s : Option StartFault). UsesMore g.F.Files.holds g.F.Files.opened g.F.Files.made g.F.Files.unread
    g.F.Files.unmade given (whole_names given) (option_to_list (from_of given) ++ streams_of given) [] s c.args.files.now
    c.open_stream.new.files)
    (start_is c.from_residual-in_err-open_stream.result refusal c.from_residual-in_err-open_stream.ensures.1)
    (refused_as (option_to_list (from_of given) ++ streams_of given) []
    (one_by_one {start = Some refusal.fault} first
    (uses_stream given 0 1 stream (Some refusal.fault) c.open_file.new.files c.open_file.new.files
    c.open_stream.new.files refl is (no_step given (first_names given) c.open_file.new.files)
    (opening_refusal (Stream 1) refusal c.in_err-open_stream.ensures.cause) c.in_err-open_stream.ensures.files)))

pub returns-clause-files : goal.returns-clause-files
returns-clause-files g c =
    let given = c.args.chosen.now in
    let name = c.as_str.result.now in
    let named : (from_of given) ≡ Some name = search rules in
    let stream = c.as_str-2.result.now in
    let one : streams_of given ≡ stream ∷ [] = search rules in
    let is : slice_get (streams_of given) 0 ≡ Some stream =
    ap (λ (names : List (List ℕ)). slice_get names 0) one in
    let first = from_opened given name None c.args.files.now c.open_file.new.files named tt c.in_ok-from.ensures.files in
    let second = uses_stream given 0 1 stream None c.open_file.new.files c.open_file.new.files
    c.open_stream.new.files refl is (no_step given (first_names given) c.open_file.new.files) tt
    c.in_ok-open_stream.ensures.files in
    one_by_one {start = None} first
    (subst (λ (ns : List (List ℕ)). UsesMore g.F.Files.holds g.F.Files.opened g.F.Files.made g.F.Files.unread
    g.F.Files.unmade given (first_names given) ns [] None c.open_file.new.files c.open_stream.new.files)
    (take_all 1 (streams_of given) (omega (arith, ap (λ (names : List (List ℕ)). length names) one))) second)

pub returns-clause-contents : goal.returns-clause-contents
returns-clause-contents g c =
    let given = c.args.chosen.now in
    let name = c.as_str.result.now in
    let named : (from_of given) ≡ Some name = search rules in
    let stream = c.as_str-2.result.now in
    let one : streams_of given ≡ stream ∷ [] = search rules in
    let is : slice_get (streams_of given) 0 ≡ Some stream =
    ap (λ (names : List (List ℕ)). slice_get names 0) one in
    let first = from_opened given name None c.args.files.now c.open_file.new.files named tt c.in_ok-from.ensures.files in
    behind_contents (left_of_both g.F.Source.Source.left) (g.F.Files.holds c.args.files.now)
    (g.F.Files.holds c.open_file.new.files) given name stream (g.F.Source.Source.left c.in_ok-from.from)
    c.in_ok-open_stream.field-0 c.push_reserved.new.self.items named
    one (holds_stays first) c.in_ok-from.ensures.new.content
    c.in_ok-open_stream.ensures.content
    (c.push_reserved.ensures.items
    ∙ ap (λ (rs : List (ReaderState _)). rs ++ c.in_ok-open_stream.field-0 ∷ []) c.in-Ok.ensures.items)
