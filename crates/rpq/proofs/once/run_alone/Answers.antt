use Rattle.std.proofs.Common.{rules, refl}
use Rattle.rpq.proofs.once.run_alone.Goals as goal

pub returns : goal.returns
returns g c = record {
  objects = _;
  handed = search rules;
  start = c.run-report.result.start;
  outcome = _;
  run = record {
    begun = c.run-report.ensures.begun;
    refused = c.run-report.ensures.refused;
    decided = c.run-report.ensures.words;
    files = c.run-report.ensures.files;
    done = c.run-report.ensures.done;
    complete = c.run-report.ensures.complete;
  };
  status_is = refl;
}
