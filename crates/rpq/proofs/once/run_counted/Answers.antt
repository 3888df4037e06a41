use Rattle.std.proofs.Common.{rules, ◌≡◌, [], ◌∷◌, refl}
use denote.Param.Object.{read_made}
use Rattle.rpq.proofs.Handed.{one_seen}
use Rattle.rpq.proofs.once.run_counted.OwnLists.{at-1-1, own-1}
use Rattle.rpq.proofs.once.run_counted.Goals as goal

pub returns-clause-ran : goal.returns-clause-ran
returns-clause-ran g c =
    let one : c.push.new.self.items ≡ c.into_dyn_box.result ∷ [] = search rules in
    record {
      objects = _;
      handed = (
        c.in_ok-new.field-0.value,
        one_seen _ _ _ _ one
            (read_made own-1 _ at-1-1 refl _ (λ entry value. entry.1.seen value)
            c.into_dyn_box.result.vtable c.into_dyn_box.result.value c.in_ok-new.field-0.value
            c.into_dyn_box.ensures.1),
        search rules,
      );
      start = c.run-report.result.start;
      outcome = _;
      run = record {
        begun = c.run-report.ensures.begun;
        refused = c.run-report.ensures.refused;
        decided = c.run-report.ensures.words;
        files = c.run-report.ensures.files;
        done = c.run-report.ensures.done;
        complete = c.run-report.ensures.complete;
      };
      status_is = refl;
    }
