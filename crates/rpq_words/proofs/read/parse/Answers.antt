use Rattle.std.proofs.Common.{rules}
use Rattle.clap.specs.Walk.{rows_of}
use Rattle.clap.specs.Matches.{found_of}
use Rattle.clap.specs.Simple.{app_of}
use Rattle.rpq_words.specs.Settings.{texts}
use Rattle.rpq_words.proofs.Parsing.{found_from, refused_from, taken_from}
use Rattle.rpq_words.proofs.read.parse.Goals as goal

pub returns-in-Ok-clause-taken : goal.returns-in-Ok-clause-taken
returns-in-Ok-clause-taken c =
    taken_from (app_of c.in_ok-command.field-0) (texts c.args.words.now) c.in_ok-command.ensures
    c.in-Ok.ensures.kinds

pub returns-in-Ok-clause-found : goal.returns-in-Ok-clause-found
returns-in-Ok-clause-found c =
    found_from (app_of c.in_ok-command.field-0) (texts c.args.words.now)
    (rows_of (found_of c.in-Ok.matches)) c.in_ok-command.ensures
    (λ simple. (c.in-Ok.ensures.matches simple).0)

pub returns-in-Err-clause-refused : goal.returns-in-Err-clause-refused
returns-in-Err-clause-refused c = λ refused.
    refused_from (app_of c.in_ok-command.field-0) (texts c.args.words.now) c.in-Err.error
    c.in_ok-command.ensures c.in-Err.ensures.kinds
    (λ memory. c.fault_of.ensures.refused (search rules) (search rules))
