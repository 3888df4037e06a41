use Rattle.std.proofs.Common.{rules, ◌≡◌, ℕ, ◌+◌, ◌<◌, List, [], ◌∷◌, ◌++◌, Some, None}
use Rattle.std.proofs.Common.{get_or, arith, length, sym, ap, subst, take, inl, inr, length-append}
use Rattle.std.specs.Prelude.{slice_get}
use Rattle.std.specs.Vec.Iter.{into_iter_items}
use Rattle.std.proofs.lemmas.List.Elements.{All-head, All-tail, All-push, All-same}
use Rattle.live_asks.specs.Readers.{IsNewAskReader}
use Rattle.rpq_words.specs.Views.{readers_of}
use Rattle.rpq_text.specs.declared.ends.Which.TheVariants.{RepliesOf}
use Rattle.rpq_text.specs.declared.ends.StartFault.{StartFault}
use Rattle.rpq_text.specs.declared.ends.StartFault.TheVariants.{Memory}
use Rattle.run_start.specs.Given.{file_names, replies_names, sink_names, sinks_with_faults}
use Rattle.run_start.specs.Steps.{IsRefusalOfReplies, IsUnread, UsesMore}
use Rattle.run_start.proofs.AskReaders.{all_taken, next_replies, one_reader_more, within_all}
use Rattle.run_start.proofs.SinkSteps.{front_of_names, memory_behind, reader_sinks, uses_one}
use Rattle.run_start.proofs.Using.{files_behind, refused_by}
use Rattle.run_start.proofs.asking.open_ask_readers.Goals as goal

pub returns-in_err-replies-clause-refused : goal.returns-in_err-replies-clause-refused
returns-in_err-replies-clause-refused g c =
    let given = c.args.chosen.now in
    let inv = c.loop-source.invariant in
    let refusal = c.in_err-replies.field-0.0 in
    let cause = c.in_err-replies.ensures.cause in
    let place = c.len-place.result in
    let at : place ≡ length c.loop-source.readers.items = search rules in
    let below : length c.loop-source.readers.items < length (readers_of given) =
    within_all c.loop-source.readers.items (into_iter_items c.loop-source.source-iterator)
    (into_iter_items c.next.new.self) c.args.sources.items c.in-Some.source (length (readers_of given))
    inv.sources c.in-Some.ensures.steps.0 c.requires.all in
    refused_by (IsRefusalOfReplies given) c.from_residual.result refusal c.from_residual.ensures.1
    (record {
      no_source = cause.no_source;
      cause = elim cause.cause [
        | inl opening ↦ inl (
          place + 1,
          record { first = omega arith; last = omega (arith, at, below) },
          opening,
        )
        | inr memory ↦ inr memory
      ];
    })

pub returns-in_err-replies-clause-files : goal.returns-in_err-replies-clause-files
returns-in_err-replies-clause-files g c = λ first uses.
    let given = c.args.chosen.now in
    let inv = c.loop-source.invariant in
    let refusal = c.in_err-replies.field-0.0 in
    let all = c.readers.result.now in
    let place = c.len-place.result in
    let files = c.index-readers-place.result in
    let name = (get_or all place files).replies in
    let at : place ≡ length c.loop-source.readers.items = search rules in
    let are : all ≡ readers_of given = search rules in
    let is : slice_get (replies_names given) place ≡ Some name =
    next_replies given c.loop-source.readers.items (into_iter_items c.loop-source.source-iterator)
    (into_iter_items c.next.new.self) c.args.sources.items c.in-Some.source all place files
    inv.sources c.in-Some.ensures.steps.0 c.requires.all at are c.index-readers-place.is in
    files_behind [] (sink_names given) c.from_residual.result refusal c.from_residual.ensures.1
    (uses_one given (λ number. RepliesOf number) (sinks_with_faults given)
    (replies_names given) [] place (length c.loop-source.readers.items) name (Some refusal.fault) first
    c.loop-source.files c.open_sink.new.files (reader_sinks given) at is c.in_err-replies.ensures.cause.cause
    (inv.files first uses) c.in_err-replies.ensures.files)

pub new_ask_reader-requires-clause-untold : goal.new_ask_reader-requires-clause-untold
new_ask_reader-requires-clause-untold g c =
    let Unread = IsUnread g.F.Source.Source.has_told_end g.F.Source.Source.faults in
    (All-head Unread c.in-Some.source (into_iter_items c.next.new.self)
    (All-same Unread _ _ (sym c.in-Some.ensures.steps.0) c.loop-source.invariant.unread)).untold

pub new_ask_reader-requires-clause-no_fault : goal.new_ask_reader-requires-clause-no_fault
new_ask_reader-requires-clause-no_fault g c =
    let Unread = IsUnread g.F.Source.Source.has_told_end g.F.Source.Source.faults in
    (All-head Unread c.in-Some.source (into_iter_items c.next.new.self)
    (All-same Unread _ _ (sym c.in-Some.ensures.steps.0) c.loop-source.invariant.unread)).no_fault

pub returns-in_default-new_ask_reader-clause-files :
    goal.returns-in_default-new_ask_reader-clause-files
returns-in_default-new_ask_reader-clause-files g c = λ first uses.
    let given = c.args.chosen.now in
    let inv = c.loop-source.invariant in
    let all = c.readers.result.now in
    let place = c.len-place.result in
    let files = c.index-readers-place.result in
    let name = (get_or all place files).replies in
    let at : place ≡ length c.loop-source.readers.items = search rules in
    let are : all ≡ readers_of given = search rules in
    let is : slice_get (replies_names given) place ≡ Some name =
    next_replies given c.loop-source.readers.items (into_iter_items c.loop-source.source-iterator)
    (into_iter_items c.next.new.self) c.args.sources.items c.in-Some.source all place files
    inv.sources c.in-Some.ensures.steps.0 c.requires.all at are c.index-readers-place.is in
    let fault : Memory ≡ c.without_source-in_default-new_ask_reader.result.fault = search rules in
    subst (λ (f : StartFault). UsesMore g.F.Files.holds g.F.Files.opened g.F.Files.made
    g.F.Files.unread g.F.Files.unmade given (file_names given) [] (sink_names given) (Some f) first
    c.open_sink.new.files) fault
    (memory_behind given (sinks_with_faults given ++ take (place + 1) (replies_names given))
    (sink_names given) first c.open_sink.new.files (front_of_names given (λ number. RepliesOf number)
    (sinks_with_faults given) (replies_names given) [] (place + 1) (reader_sinks given))
    (uses_one given (λ number. RepliesOf number) (sinks_with_faults given)
    (replies_names given) [] place (length c.loop-source.readers.items) name None first
    c.loop-source.files c.open_sink.new.files (reader_sinks given) at is tt (inv.files first uses)
    c.in_ok-replies.ensures.files))

pub loop-source-preserved : goal.loop-source-preserved
loop-source-preserved g c =
    let given = c.args.chosen.now in
    let inv = c.loop-source.invariant in
    let step = c.in-Some.ensures.steps in
    let all = c.readers.result.now in
    let place = c.len-place.result in
    let files = c.index-readers-place.result in
    let name = (get_or all place files).replies in
    let one = c.in-Ok-new_ask_reader.reader in
    let at : place ≡ length c.loop-source.readers.items = search rules in
    let are : all ≡ readers_of given = search rules in
    let is : slice_get (replies_names given) place ≡ Some name =
    next_replies given c.loop-source.readers.items (into_iter_items c.loop-source.source-iterator)
    (into_iter_items c.next.new.self) c.args.sources.items c.in-Some.source all place files
    inv.sources c.in-Some.ensures.steps.0 c.requires.all at are c.index-readers-place.is in
    let Unread = IsUnread g.F.Source.Source.has_told_end g.F.Source.Source.faults in
    let New = IsNewAskReader g.F.Source.Source.left g.F.Source.Source.faults
    g.F.Sink.Sink.written g.F.Sink.Sink.faults in
    let pushed = c.in-Ok-push.ensures.items in
    let many : place + 1 ≡ length c.push.new.self.items =
    omega (arith, at, ap length pushed, length-append c.loop-source.readers.items (one ∷ [])) in
    record {
      next = tt;
      finite = tt;
      left_over = omega (arith, step.1, inv.left_over, ap length step.0);
      sources = one_reader_more c.loop-source.readers.items c.push.new.self.items
          (into_iter_items c.loop-source.source-iterator) (into_iter_items c.next.new.self)
          c.args.sources.items c.in-Some.source one inv.sources step.0
          c.in-Ok-new_ask_reader.ensures.ok pushed;
      unread = All-tail Unread c.in-Some.source (into_iter_items c.next.new.self)
          (All-same Unread _ _ (sym step.0) inv.unread);
      new = All-same New c.push.new.self.items (c.loop-source.readers.items ++ one ∷ []) pushed
          (All-push New c.loop-source.readers.items one inv.new c.in-Ok-new_ask_reader.ensures.new);
      files = λ first uses. subst (λ (n : ℕ). UsesMore g.F.Files.holds g.F.Files.opened
          g.F.Files.made g.F.Files.unread g.F.Files.unmade given (file_names given) []
          (sinks_with_faults given ++ take n (replies_names given)) None first c.open_sink.new.files) many
          (uses_one given (λ number. RepliesOf number) (sinks_with_faults given)
          (replies_names given) [] place (length c.loop-source.readers.items) name None first
          c.loop-source.files c.open_sink.new.files (reader_sinks given) at is tt (inv.files first uses)
          c.in_ok-replies.ensures.files);
    }

pub returns-in_default-push-clause-files : goal.returns-in_default-push-clause-files
returns-in_default-push-clause-files g c = λ first uses.
    let given = c.args.chosen.now in
    let inv = c.loop-source.invariant in
    let all = c.readers.result.now in
    let place = c.len-place.result in
    let files = c.index-readers-place.result in
    let name = (get_or all place files).replies in
    let at : place ≡ length c.loop-source.readers.items = search rules in
    let are : all ≡ readers_of given = search rules in
    let is : slice_get (replies_names given) place ≡ Some name =
    next_replies given c.loop-source.readers.items (into_iter_items c.loop-source.source-iterator)
    (into_iter_items c.next.new.self) c.args.sources.items c.in-Some.source all place files
    inv.sources c.in-Some.ensures.steps.0 c.requires.all at are c.index-readers-place.is in
    let fault : Memory ≡ c.without_source-in_default-push.result.fault = search rules in
    subst (λ (f : StartFault). UsesMore g.F.Files.holds g.F.Files.opened g.F.Files.made
    g.F.Files.unread g.F.Files.unmade given (file_names given) [] (sink_names given) (Some f) first
    c.open_sink.new.files) fault
    (memory_behind given (sinks_with_faults given ++ take (place + 1) (replies_names given))
    (sink_names given) first c.open_sink.new.files (front_of_names given (λ number. RepliesOf number)
    (sinks_with_faults given) (replies_names given) [] (place + 1) (reader_sinks given))
    (uses_one given (λ number. RepliesOf number) (sinks_with_faults given)
    (replies_names given) [] place (length c.loop-source.readers.items) name None first
    c.loop-source.files c.open_sink.new.files (reader_sinks given) at is tt (inv.files first uses)
    c.in_ok-replies.ensures.files))

pub returns-clause-files : goal.returns-clause-files
returns-clause-files g c = λ first uses.
    let given = c.args.chosen.now in
    let inv = c.loop-source.invariant in
    let none : length (into_iter_items c.loop-source.source-iterator) ≡ 0 =
    omega (arith, inv.left_over, c.in-None.ensures.steps.0) in
    subst (λ (ns : List (List ℕ)). UsesMore g.F.Files.holds g.F.Files.opened g.F.Files.made
    g.F.Files.unread g.F.Files.unmade given (file_names given) [] (sinks_with_faults given ++ ns) None
    first c.loop-source.files)
    (all_taken given c.loop-source.readers.items (into_iter_items c.loop-source.source-iterator)
    c.args.sources.items inv.sources none c.requires.all)
    (inv.files first uses)
