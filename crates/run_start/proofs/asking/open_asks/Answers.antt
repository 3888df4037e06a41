use Rattle.std.proofs.Common.{rules, ◌≡◌, ◌+◌, suc, [], ◌∷◌, ◌++◌, Option, Some, None, subst}
use Rattle.std.proofs.Common.{get_or, arith}
use Rattle.std.specs.Prelude.{slice_get}
use Rattle.std.proofs.lemmas.List.Elements.{All-push, All-same}
use Rattle.rpq_text.specs.declared.ends.StartFault.{StartFault}
use Rattle.rpq_text.specs.declared.ends.StartFault.TheVariants.{Memory}
use Rattle.rpq_text.specs.declared.ends.Which.TheVariants.{AsksOf}
use Rattle.run_start.specs.Given.{asks_names, names_with_streams}
use Rattle.run_start.specs.Ready.{fault_of}
use Rattle.run_start.specs.Steps.{IsUnread, UsesMore}
use Rattle.run_start.proofs.AskReaders.{asks_at, one_source_more}
use Rattle.run_start.proofs.Opening.{front_of_asks, opening_refusal, uses_asks_of}
use Rattle.run_start.proofs.SinkSteps.{no_step}
use Rattle.run_start.proofs.Using.{holds_stays, refused_as, then_refused}
use Rattle.run_start.proofs.asking.open_asks.Goals as goal

pub returns-in_default-clause-files : goal.returns-in_default-clause-files
returns-in_default-clause-files g c =
    let given = c.args.chosen.now in
    let fault : Memory ≡ c.without_source.result.fault = search rules in
    subst (λ (f : StartFault). UsesMore g.F.Files.holds g.F.Files.opened g.F.Files.made
    g.F.Files.unread g.F.Files.unmade given (names_with_streams given) (asks_names given) []
    (Some f) c.args.files.now c.args.files.now)
    fault (then_refused (asks_names given) Memory tt (front_of_asks given 0)
    (no_step given (names_with_streams given) c.args.files.now))

pub returns-in_err-source-clause-files : goal.returns-in_err-source-clause-files
returns-in_err-source-clause-files g c =
    let given = c.args.chosen.now in
    let place = c.loop-place.place in
    let all = c.readers-names-items.result.now in
    let files = c.names-item.result in
    let name = c.as_str.result.now in
    let refusal = c.in_err-source.field-0.0 in
    let next : place + 1 ≡ suc place = omega arith in
    let read : files ≡ get_or all place files = search rules in
    let named : name ≡ files.asks = search rules in
    let is : slice_get (asks_names given) place ≡ Some name =
    asks_at given all place files name c.loop-place.invariant.names c.loop-place-test.true read named
    in
    let start : Some refusal.fault ≡ fault_of c.from_residual.result = search rules in
    subst (λ (s : Option StartFault). UsesMore g.F.Files.holds g.F.Files.opened g.F.Files.made
    g.F.Files.unread g.F.Files.unmade given (names_with_streams given) (asks_names given) [] s
    c.args.files.now c.open_file.new.files) start
    (refused_as (asks_names given) [] (uses_asks_of given place (place + 1) name
    (Some refusal.fault) c.args.files.now c.loop-place.files c.open_file.new.files next is
    c.loop-place.invariant.files
    (opening_refusal (AsksOf (place + 1)) refusal c.in_err-source.ensures.cause)
    c.in_err-source.ensures.files))

pub returns-in_default-push-clause-files : goal.returns-in_default-push-clause-files
returns-in_default-push-clause-files g c =
    let given = c.args.chosen.now in
    let place = c.loop-place.place in
    let all = c.readers-names-items.result.now in
    let files = c.names-item.result in
    let name = c.as_str.result.now in
    let next : place + 1 ≡ suc place = omega arith in
    let read : files ≡ get_or all place files = search rules in
    let named : name ≡ files.asks = search rules in
    let is : slice_get (asks_names given) place ≡ Some name =
    asks_at given all place files name c.loop-place.invariant.names c.loop-place-test.true read named
    in
    let fault : Memory ≡ c.without_source-in_default-push.result.fault = search rules in
    subst (λ (f : StartFault). UsesMore g.F.Files.holds g.F.Files.opened g.F.Files.made
    g.F.Files.unread g.F.Files.unmade given (names_with_streams given) (asks_names given) []
    (Some f) c.args.files.now c.open_file.new.files)
    fault (then_refused (asks_names given) Memory tt (front_of_asks given (place + 1))
    (uses_asks_of given place (place + 1) name None c.args.files.now c.loop-place.files
    c.open_file.new.files next is c.loop-place.invariant.files tt c.in_ok-source.ensures.files))

pub loop-place-preserved : goal.loop-place-preserved
loop-place-preserved g c =
    let given = c.args.chosen.now in
    let place = c.loop-place.place in
    let all = c.readers-names-items.result.now in
    let files = c.names-item.result in
    let name = c.as_str.result.now in
    let next : place + 1 ≡ suc place = omega arith in
    let read : files ≡ get_or all place files = search rules in
    let named : name ≡ files.asks = search rules in
    let is : slice_get (asks_names given) place ≡ Some name =
    asks_at given all place files name c.loop-place.invariant.names c.loop-place-test.true read named
    in
    let inv = c.loop-place.invariant in
    let Unread = IsUnread g.F.Source.Source.has_told_end g.F.Source.Source.faults in
    let new = c.in_ok-source.ensures.new in
    record {
      names = inv.names;
      contents = one_source_more g.F.Source.Source.left (g.F.Files.holds c.args.files.now)
          (g.F.Files.holds c.loop-place.files) given place (place + 1) name
          c.loop-place.sources.items c.push.new.self.items c.in_ok-source.source next is
          (holds_stays inv.files) inv.contents new.content c.in-Ok-push.ensures.items;
      unread = All-same Unread c.push.new.self.items
          (c.loop-place.sources.items ++ c.in_ok-source.source ∷ []) c.in-Ok-push.ensures.items
          (All-push Unread c.loop-place.sources.items c.in_ok-source.source inv.unread
          (record { untold = new.untold; no_fault = new.no_fault }));
      files = uses_asks_of given place (place + 1) name None c.args.files.now c.loop-place.files
          c.open_file.new.files next is inv.files tt c.in_ok-source.ensures.files;
    }
