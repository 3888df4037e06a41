use Rattle.std.proofs.Common.{rules, ◌≡◌, [], Option, Some, subst}
use Rattle.std.specs.Prelude.{option_to_list}
use Rattle.rpq_text.specs.Definitions.{definitions_of}
use Rattle.rpq_text.specs.declared.ends.StartFault.{StartFault}
use Rattle.rpq_text.specs.declared.ends.Which.TheVariants.{Asks}
use Rattle.run_start.specs.Given.{understood_names}
use Rattle.run_start.specs.Ready.{fault_of}
use Rattle.run_start.specs.Steps.{UsesMore}
use Rattle.run_start.proofs.Opening.{asks_place, uses_asks, uses_file}
use Rattle.run_start.proofs.Using.{refused_as}
use Rattle.run_start.proofs.sessions.sessions_of_file.Goals as goal
use Rattle.rpq_words.specs.Views.{asks_of}

pub returns-in_err-bytes-clause-files : goal.returns-in_err-bytes-clause-files
returns-in_err-bytes-clause-files g c =
    let given = c.args.chosen.now in
    let name = c.as_str.result.now in
    let is : (asks_of given) ≡ Some name = search rules in
    let start : Some c.in_err-bytes.field-0.0.fault ≡ fault_of c.from_residual.result =
    search rules in
    subst (λ (s : Option StartFault). UsesMore g.F.Files.holds g.F.Files.opened g.F.Files.made
    g.F.Files.unread g.F.Files.unmade given (understood_names given)
    (option_to_list (asks_of given)) [] s c.args.files.now c.whole_file.new.files) start
    (refused_as (option_to_list (asks_of given)) []
    (uses_file given Asks (understood_names given) name (g.F.Files.holds c.args.files.now name)
    (Some c.in_err-bytes.field-0.0.fault) c.args.files.now c.whole_file.new.files
    (asks_place given name is) c.in_err-bytes.ensures.cause c.in_err-bytes.ensures.files))

pub returns-clause-files : goal.returns-clause-files
returns-clause-files g c =
    let given = c.args.chosen.now in
    let name = c.as_str.result.now in
    let is : (asks_of given) ≡ Some name = search rules in
    let fault : c.in-Err.fault ≡ c.without_source.result.fault = search rules in
    subst (λ (f : StartFault). UsesMore g.F.Files.holds g.F.Files.opened g.F.Files.made
    g.F.Files.unread g.F.Files.unmade given (understood_names given)
    (option_to_list (asks_of given)) [] (Some f) c.args.files.now c.whole_file.new.files) fault
    (uses_asks given name (definitions_of c.args.queries.now) c.deref.result.now
    (Some c.in-Err.fault) c.args.files.now c.whole_file.new.files is
    c.in-Err.ensures.fault c.in_ok-bytes.ensures.files)
