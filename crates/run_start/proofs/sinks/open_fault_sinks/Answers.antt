use Rattle.std.proofs.Common.{rules, ◌≡◌, ◌+◌, [], ◌∷◌, ◌++◌, Some, None, refl, subst}
use Rattle.std.proofs.Common.{get_or, arith, length, take, ap, inl, inr, length-append}
use Rattle.std.specs.Prelude.{slice_get}
use Rattle.std.proofs.lemmas.List.Elements.{All-push, All-same}
use Rattle.rpq_io.specs.Files.{IsNewSink}
use Rattle.rpq_words.specs.Views.{faults_of}
use Rattle.rpq_text.specs.declared.ends.StartFault.{StartFault}
use Rattle.rpq_text.specs.declared.ends.StartFault.TheVariants.{Memory}
use Rattle.rpq_text.specs.declared.ends.Which.TheVariants.{FaultsOf}
use Rattle.run_start.specs.Given.{file_names, own_sink_names, replies_names, sinks_with_faults}
use Rattle.run_start.specs.Steps.{IsRefusalOfFaults, UsesMore}
use Rattle.run_start.proofs.SinkSteps.{fault_at, fault_sinks, front_of_names, memory_behind}
use Rattle.run_start.proofs.SinkSteps.{none_behind_own, uses_one}
use Rattle.run_start.proofs.Using.{files_behind, refused_by}
use Rattle.run_start.proofs.sinks.open_fault_sinks.Goals as goal

pub returns-in_default-clause-files : goal.returns-in_default-clause-files
returns-in_default-clause-files g c = λ first uses.
    let given = c.args.chosen.now in
    let fault : Memory ≡ c.without_source.result.fault = search rules in
    subst (λ (f : StartFault). UsesMore g.F.Files.holds g.F.Files.opened g.F.Files.made
    g.F.Files.unread g.F.Files.unmade given (file_names given) [] (sinks_with_faults given) (Some f)
    first c.args.files.now) fault
    (memory_behind given (own_sink_names given) (sinks_with_faults given) first c.args.files.now
    (none_behind_own given) uses)

pub returns-in_err-sink-clause-refused : goal.returns-in_err-sink-clause-refused
returns-in_err-sink-clause-refused g c =
    let given = c.args.chosen.now in
    let place = c.loop-place.place in
    let refusal = c.in_err-sink.field-0.0 in
    let cause = c.in_err-sink.ensures.cause in
    refused_by (IsRefusalOfFaults given) c.from_residual.result refusal c.from_residual.ensures.1
    (record {
      no_source = cause.no_source;
      cause = elim cause.cause [
        | inl opening ↦ inl (
          place + 1,
          record {
            first = omega arith;
            last = omega (arith, c.loop-place-test.true, ap length c.loop-place.invariant.names);
          },
          opening,
        )
        | inr memory ↦ inr memory
      ];
    })

pub returns-in_err-sink-clause-files : goal.returns-in_err-sink-clause-files
returns-in_err-sink-clause-files g c = λ first uses.
    let given = c.args.chosen.now in
    let place = c.loop-place.place in
    let all = c.faults-name-items.result.now in
    let name = c.name-item.result in
    let refusal = c.in_err-sink.field-0.0 in
    let read : name ≡ get_or all place name = search rules in
    let is : slice_get (faults_of given) place ≡ Some name =
    fault_at given all place name c.loop-place.invariant.names c.loop-place-test.true read in
    files_behind [] (sinks_with_faults given) c.from_residual.result refusal c.from_residual.ensures.1
    (uses_one given (λ number. FaultsOf number) (own_sink_names given) (faults_of given)
    (replies_names given) place place name (Some refusal.fault) first c.loop-place.files
    c.open_sink.new.files (fault_sinks given) refl is c.in_err-sink.ensures.cause.cause
    (c.loop-place.invariant.files first uses) c.in_err-sink.ensures.files)

pub returns-in_default-push-clause-files : goal.returns-in_default-push-clause-files
returns-in_default-push-clause-files g c = λ first uses.
    let given = c.args.chosen.now in
    let place = c.loop-place.place in
    let all = c.faults-name-items.result.now in
    let name = c.name-item.result in
    let read : name ≡ get_or all place name = search rules in
    let is : slice_get (faults_of given) place ≡ Some name =
    fault_at given all place name c.loop-place.invariant.names c.loop-place-test.true read in
    let fault : Memory ≡ c.without_source-in_default-push.result.fault = search rules in
    subst (λ (f : StartFault). UsesMore g.F.Files.holds g.F.Files.opened g.F.Files.made
    g.F.Files.unread g.F.Files.unmade given (file_names given) [] (sinks_with_faults given) (Some f)
    first c.open_sink.new.files) fault
    (memory_behind given (own_sink_names given ++ take (place + 1) (faults_of given))
    (sinks_with_faults given) first c.open_sink.new.files
    (front_of_names given (λ number. FaultsOf number) (own_sink_names given) (faults_of given)
    (replies_names given) (place + 1) (fault_sinks given))
    (uses_one given (λ number. FaultsOf number) (own_sink_names given) (faults_of given)
    (replies_names given) place place name None first c.loop-place.files c.open_sink.new.files
    (fault_sinks given) refl is tt (c.loop-place.invariant.files first uses)
    c.in_ok-sink.ensures.files))

pub loop-place-preserved : goal.loop-place-preserved
loop-place-preserved g c =
    let given = c.args.chosen.now in
    let inv = c.loop-place.invariant in
    let place = c.loop-place.place in
    let all = c.faults-name-items.result.now in
    let name = c.name-item.result in
    let sink = c.in_ok-sink.sink in
    let pushed = c.in-Ok-push.ensures.items in
    let New = IsNewSink g.F.Sink.Sink.written g.F.Sink.Sink.faults in
    let read : name ≡ get_or all place name = search rules in
    let is : slice_get (faults_of given) place ≡ Some name =
    fault_at given all place name inv.names c.loop-place-test.true read in
    record {
      names = inv.names;
      few = inv.few;
      many = omega (
        arith,
        inv.many,
        ap length pushed,
        length-append c.loop-place.sinks.items (sink ∷ []),
      );
      new = All-same New c.push.new.self.items (c.loop-place.sinks.items ++ sink ∷ []) pushed
          (All-push New c.loop-place.sinks.items sink inv.new c.in_ok-sink.ensures.unwritten);
      files = λ first uses. uses_one given (λ number. FaultsOf number) (own_sink_names given)
          (faults_of given) (replies_names given) place place name None first c.loop-place.files
          c.open_sink.new.files (fault_sinks given) refl is tt (inv.files first uses)
          c.in_ok-sink.ensures.files;
    }
