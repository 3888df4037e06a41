use Rattle.std.proofs.Common.{rules, ◌≡◌, ℕ, ◌+◌, suc, List, [], ◌∷◌, ◌++◌, Option, Some, None, subst}
use Rattle.std.proofs.Common.{get_or, arith, length, refl, ◌∙◌, ◌<◌, ap, sym, map}
use Rattle.std.specs.Prelude.{slice_get}
use Rattle.std.proofs.lemmas.Option.{slice_get_read}
use Rattle.std.proofs.lemmas.List.Elements.{All-nil, All-push, All-same}
use Rattle.rpq_text.specs.declared.ends.StartFault.{StartFault}
use Rattle.rpq_text.specs.declared.ends.StartFault.TheVariants.{Memory}
use Rattle.rpq_text.specs.declared.ends.Which.TheVariants.{Stream}
use Rattle.rpq_io.specs.Reader.{ReaderState}
use Rattle.saved_window.specs.Then.{left_of_both, faults_of_both}
use Rattle.stream_tuples.specs.Progress.{IsNewReader}
use Rattle.run_start.specs.Given.{first_names}
use Rattle.run_start.specs.Ready.{fault_of}
use Rattle.run_start.specs.Steps.{IsRefusal, UsesMore}
use Rattle.run_start.proofs.Opening.{front_of_streams, join_nothing, one_content_more, opening_refusal, uses_stream}
use Rattle.run_start.proofs.SinkSteps.{no_step}
use Rattle.run_start.proofs.Using.{holds_stays, opening_refuses, refused_as, refused_by, then_refused}
use Rattle.run_start.proofs.streams.open_streams.Goals as goal
use Rattle.rpq_words.specs.Views.{cap_of, streams_of}

pub returns-in_default-clause-files : goal.returns-in_default-clause-files
returns-in_default-clause-files g c =
    let given = c.args.chosen.now in
    let fault : Memory ≡ c.without_source.result.fault = search rules in
    subst (λ (f : StartFault). UsesMore g.F.Files.holds g.F.Files.opened g.F.Files.made g.F.Files.unread
    g.F.Files.unmade given (first_names given) (streams_of given) [] (Some f) c.args.files.now c.args.files.now)
    fault (then_refused (streams_of given) Memory tt (front_of_streams given 0)
    (no_step given (first_names given) c.args.files.now))

pub returns-in_err-reader-clause-files : goal.returns-in_err-reader-clause-files
returns-in_err-reader-clause-files g c =
    let given = c.args.chosen.now in
    let place = c.loop-place.place in
    let name = c.as_str.result.now in
    let refusal = c.in_err-reader.field-0.0 in
    let next : place + 1 ≡ suc place = omega arith in
    let names = c.as_slice-name-items.result.now in
    let read : name ≡ get_or names place name = search rules in
    let is : slice_get (streams_of given) place ≡ Some name =
    subst (λ (ns : List (List ℕ)). slice_get ns place ≡ Some name) c.loop-place.invariant.names
    (slice_get_read names (length names) place name refl c.loop-place-test.true read) in
    let start : Some refusal.fault ≡ fault_of c.from_residual.result = search rules in
    subst (λ (s : Option StartFault). UsesMore g.F.Files.holds g.F.Files.opened g.F.Files.made g.F.Files.unread
    g.F.Files.unmade given (first_names given) (streams_of given) [] s c.args.files.now c.open_stream.new.files) start
    (refused_as (streams_of given) [] (uses_stream given place (place + 1) name (Some refusal.fault) c.args.files.now
    c.loop-place.files c.open_stream.new.files next is c.loop-place.invariant.files
    (opening_refusal (Stream (place + 1)) refusal c.in_err-reader.ensures.cause) c.in_err-reader.ensures.files))

pub returns-in_default-push-clause-files : goal.returns-in_default-push-clause-files
returns-in_default-push-clause-files g c =
    let given = c.args.chosen.now in
    let place = c.loop-place.place in
    let name = c.as_str.result.now in
    let next : place + 1 ≡ suc place = omega arith in
    let names = c.as_slice-name-items.result.now in
    let read : name ≡ get_or names place name = search rules in
    let is : slice_get (streams_of given) place ≡ Some name =
    subst (λ (ns : List (List ℕ)). slice_get ns place ≡ Some name) c.loop-place.invariant.names
    (slice_get_read names (length names) place name refl c.loop-place-test.true read) in
    let fault : Memory ≡ c.without_source-in_default-push.result.fault = search rules in
    subst (λ (f : StartFault). UsesMore g.F.Files.holds g.F.Files.opened g.F.Files.made g.F.Files.unread
    g.F.Files.unmade given (first_names given) (streams_of given) [] (Some f) c.args.files.now c.open_stream.new.files)
    fault (then_refused (streams_of given) Memory tt (front_of_streams given (place + 1))
    (uses_stream given place (place + 1) name None c.args.files.now c.loop-place.files c.open_stream.new.files next is
    c.loop-place.invariant.files tt c.in_ok-reader.ensures.files))

pub loop-place-preserved : goal.loop-place-preserved
loop-place-preserved g c =
    let given = c.args.chosen.now in
    let place = c.loop-place.place in
    let name = c.as_str.result.now in
    let next : place + 1 ≡ suc place = omega arith in
    let names = c.as_slice-name-items.result.now in
    let read : name ≡ get_or names place name = search rules in
    let is : slice_get (streams_of given) place ≡ Some name =
    subst (λ (ns : List (List ℕ)). slice_get ns place ≡ Some name) c.loop-place.invariant.names
    (slice_get_read names (length names) place name refl c.loop-place-test.true read) in
    let inv = c.loop-place.invariant in
    record {
      names = inv.names;
      contents = one_content_more (left_of_both g.F.Source.Source.left) (g.F.Files.holds c.args.files.now)
          (g.F.Files.holds c.loop-place.files) given place (place + 1) name c.loop-place.readers.items
          c.push.new.self.items c.in_ok-reader.reader next is (holds_stays inv.files) inv.contents
          (c.in_ok-reader.ensures.content ∙ join_nothing (g.F.Files.holds c.loop-place.files name))
          c.in-Ok-push.ensures.items;
      fresh = All-same (IsNewReader (cap_of given) (left_of_both g.F.Source.Source.left) (faults_of_both g.F.Source.Source.faults)) c.push.new.self.items
          (c.loop-place.readers.items ++ c.in_ok-reader.reader ∷ []) c.in-Ok-push.ensures.items
          (All-push (IsNewReader (cap_of given) (left_of_both g.F.Source.Source.left) (faults_of_both g.F.Source.Source.faults)) c.loop-place.readers.items
          c.in_ok-reader.reader inv.fresh c.in_ok-reader.ensures.fresh);
      files = uses_stream given place (place + 1) name None c.args.files.now c.loop-place.files
          c.open_stream.new.files next is inv.files tt c.in_ok-reader.ensures.files;
    }

pub loop-place-init : goal.loop-place-init
loop-place-init g c =
    let given = c.args.chosen.now in
    let left = left_of_both g.F.Source.Source.left in
    let faults = faults_of_both g.F.Source.Source.faults in
    record {
      names = search rules;
      contents = sym (ap (λ (rs : List (ReaderState _)). map (λ (r : ReaderState _). left r.source) rs)
          c.in-Ok.ensures.items);
      fresh = All-same (IsNewReader (cap_of given) left faults) c.in-Ok.readers.items [] c.in-Ok.ensures.items
          (All-nil (IsNewReader (cap_of given) left faults));
      files = no_step given (first_names given) c.args.files.now;
    }

pub returns-in_err-reader-clause-refused : goal.returns-in_err-reader-clause-refused
returns-in_err-reader-clause-refused g c =
    let given = c.args.chosen.now in
    let place = c.loop-place.place in
    let refusal = c.in_err-reader.field-0.0 in
    let names = c.as_slice-name-items.result.now in
    let inside : place < length (streams_of given) =
    omega (arith, c.loop-place-test.true, ap (λ (ns : List (List ℕ)). length ns) c.loop-place.invariant.names) in
    refused_by (IsRefusal g.F.Source.Source.left g.F.Source.Source.faults given (g.F.Files.holds c.args.files.now))
    c.from_residual.result refusal c.from_residual.ensures.1
    (opening_refuses g.F.Source.Source.left g.F.Source.Source.faults given (g.F.Files.holds c.args.files.now)
    (Stream (place + 1)) refusal (record { first = omega arith; last = omega (arith, inside) }, c.requires.understood)
    c.in_err-reader.ensures.cause)
