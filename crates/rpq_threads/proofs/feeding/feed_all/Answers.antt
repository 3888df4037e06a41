use Rattle.std.proofs.Common.{◌≡◌, ℕ, ◌-◌, ◌<◌, List, [], ◌++◌, Option, take, length, sym, ap}
use Rattle.std.proofs.Common.{subst}
use Rattle.std.proofs.Common.{◌∙◌}
use Rattle.std.specs.Global.{Vec}
use Rattle.std.proofs.lemmas.List.{length-take-le}
use Rattle.std.proofs.lemmas.Result.{on_err_weaker, on_ok_weaker}
use Rattle.std.specs.Prelude.{OnOk}
use Rattle.std.specs.Result.{result_err}
use Rattle.entry_steps.specs.Evaluator.{StandsAfter, StandsInFor, queries_of}
use Rattle.entry_steps.specs.Steps.{CanRun}
use Rattle.rpq_base.specs.declared.data.Entry.{Entry}
use Rattle.history_model.specs.Lines.{entries, published, AllEnded}
use Rattle.history_model.specs.declared.line.Why.{Why}
use Rattle.standing.specs.Circles.{as_seen}
use Rattle.stream_history.specs.History.{HistoryValue, IsFeedingPass}
use Rattle.stream_threads.proofs.Numbering.{Each}
use Rattle.rpq_threads.specs.Fed.{HasFed}
use Rattle.rpq_threads.proofs.AllWritten.{HaveWritten}
use Rattle.rpq_threads.specs.Entries.{FeedsOn, IsNoted, front_of, given_by, kept_by}
use Rattle.rpq_threads.specs.Past.{window_of}
use Rattle.rpq_threads.specs.Window.{IsLeftOf}
use Rattle.rpq_threads.proofs.Closing.{has_fed, have_written, either, both_ok, where_ok, leaves}
use Rattle.rpq_threads.proofs.Closing.{all_given, feeds_first, noted_first}
use Rattle.rpq_threads.proofs.ComingNext.{all_told, told_at}
use Rattle.rpq_threads.proofs.Keeping.{feeds_at_first, keeps_at_first}
use Rattle.rpq_threads.proofs.feeding.feed_all.Goals as goal

pub answer_all-ended-requires-after_bounds : goal.answer_all-ended-requires-after_bounds
answer_all-ended-requires-after_bounds g c κs within =
    let history = c.args.shared.now.history.now in
    let work = c.args.work in
    let evaluator = work.evaluator in
    let fed = c.requires.fed in
    let source = c.new-source.result in
    let new = c.new-source.ensures in
    let none = new.none in
    let buffer = source.buffer.items in
    let seen = entries source.pass.seen in
    let queries = c.args.shared.now.queries.now in
    let first = keeps_at_first history.terms queries source.past seen buffer source.from source.to
    source.count new.past none.0 none.1 none.2 none.3 in
    let kept = kept_by source in
    let front = front_of source in
    let given = given_by source in
    let no_entries : kept ++ front ≡ [] =
    ap (λ (all : List Entry). all ++ front) first.0 ∙ first.1 in
    record {
      is_fed = record {
        on = subst (λ (h : HistoryValue). FeedsOn h source.pass source.past buffer source.from
            source.to source.count evaluator) (sym new.history)
            (subst (λ (pass : Each). FeedsOn history pass source.past buffer source.from source.to
            source.count evaluator) (sym new.pass)
            (feeds_at_first history work.pass queries source.past buffer source.from source.to
            source.count evaluator new.past c.requires.same none.0 none.1 none.2 none.3
            (feeds_first history evaluator work.pass fed)));
        noted = subst (λ (h : HistoryValue). IsNoted h source.pass source.shown source.known)
            (sym new.history)
            (subst (λ (pass : Each). IsNoted history pass source.shown source.known) (sym new.pass)
            (noted_first history evaluator work.pass source.shown source.known fed none.4 none.5));
      };
      runs = record {
        can_run = subst (CanRun evaluator.options) (sym fed.queries) fed.accepted;
        forwards = fed.forwards;
      };
      stands = subst (StandsAfter evaluator) (sym {A = List Entry} first.2) fed.stands;
      stands_in = subst (λ (history : List Entry). StandsInFor evaluator (kept ++ front) history)
          (sym {A = List Entry} first.2)
          (subst (λ (own : List Entry). StandsInFor evaluator own [])
          (sym {A = List Entry} no_entries) (c.entries_stand_in.ensures.itself evaluator []));
      as_many = sym (ap (λ (all : List Entry). length all) first.2);
    }

pub returns-clause-fed : goal.returns-clause-fed
returns-clause-fed g c =
    let history = c.args.shared.now.history.now in
    let work = c.args.work in
    let written = g.K.Sink.written in
    let faults = g.K.Sink.faults in
    let seen = g.O.Standing.seen in
    let first = as_seen seen work.circle in
    let source = c.answer_all-ended.new.source in
    let blocks = c.answer_all-ended.new.sink in
    let ended = c.answer_all-ended.result in
    let did = c.answer_all-ended.ensures in
    let going = c.into_parts-pass.result.0 in
    let pass_is : going ≡ source.pass = c.into_parts-pass.ensures.pass in
    let home : source.history.now ≡ history = did.home ∙ c.new-source.ensures.history in
    let feeds : IsFeedingPass history source.pass =
    subst (λ (h : HistoryValue). IsFeedingPass h source.pass) home
    (either ended (on_ok_weaker ended (λ along. along.is_fed.on.feeds_from.feeds) did.along)
    (on_err_weaker ended (λ last. last.1.on.feeds_from.feeds) did.feeds)) in
    let took = did.takes in
    let before = c.new-source.result in
    let wrote = have_written work.evaluator.options (queries_of work.evaluator)
    history.terms.queries (take before.count (entries before.pass.seen))
    (take source.count (entries source.pass.seen)) took.later took.steps (result_err ended)
    (written work.events.now) (written blocks.events.now) first (as_seen seen blocks.circle)
    c.requires.fed.queries
    (ap (λ (n : ℕ). take n (entries before.pass.seen)) c.new-source.ensures.none.3) took.all
    took.are_steps took.did.writes in
    let whole = both_ok ended (λ along over. (
      over.0,
      over.1,
      λ some.
          let fed = along.is_fed.on.feeds_from in
          let place = along.stands.fed.counted
          ∙ length-take-le source.count (entries source.pass.seen) fed.rest_comes.there in
          all_told source.history.now source.pass source.count over.1
          (told_at source.history.now source.pass c.answer_all-ended.new.evaluator.position
          source.count (sym place) (fed.told some)),
    )) did.along did.over in
    let last_past = either ended (on_ok_weaker ended (λ along. along.is_fed.on.past_is) did.along)
    (on_err_weaker ended (λ last. last.1.on.past_is) did.feeds) in
    let own : Option (Vec Entry) = window_of source.past in
    let first_given = take (source.count - (source.to - source.from)) (entries source.pass.seen) in
    let left = subst (λ (window : Option (Vec Entry)). IsLeftOf history.terms (entries going.seen)
    (result_err ended) window) (sym c.into_parts-pass.ensures.window)
    (subst (λ (each : Each). IsLeftOf history.terms (entries each.seen) (result_err ended) own)
    (sym pass_is)
    (subst (λ (h : HistoryValue). IsLeftOf h.terms (entries source.pass.seen) (result_err ended)
    own) home
    (leaves source.history.now.terms source.past (take source.from source.buffer.items)
    first_given (entries source.pass.seen) (result_err ended) last_past
    (λ none. let over = where_ok ended did.over none in
    all_given source.from source.to source.count source.buffer.items (entries source.pass.seen)
    over.2.from_first over.2.to_first over.1)))) in
    subst (λ (why : Option Why). HasFed written faults work.evaluator.options history
    work.events.now blocks.events.now first (as_seen seen blocks.circle) c.shut_for-why.new.pass
    why c.into_parts-pass.result.1) (sym c.shut_for-why.ensures.why)
    (has_fed written faults work.evaluator.options history work.events.now blocks.events.now first
    (as_seen seen blocks.circle) c.requires.fresh c.every_entry_has_a_step.ensures
    c.requires.fed.accepted going c.shut_for-why.new.pass source.count ended
    c.into_parts-pass.result.1
    (subst (IsFeedingPass history) (sym pass_is) feeds)
    (subst (λ (each : Each). OnOk ended (AllEnded history.terms.streams each.seen
    × (source.count ≡ length (entries each.seen))
    × (0 < history.readers → published each.mine ≡ source.count))) (sym pass_is)
    (subst (λ (h : HistoryValue). OnOk ended (AllEnded h.terms.streams source.pass.seen
    × (source.count ≡ length (entries source.pass.seen))
    × (0 < h.readers → published source.pass.mine ≡ source.count))) home whole))
    c.shut_for-why.ensures.as_it_was c.shut_for-why.ensures.shut
    (subst (λ (each : Each). HaveWritten work.evaluator.options history.terms.queries
    (take source.count (entries each.seen)) (result_err ended) (written work.events.now)
    (written blocks.events.now) first (as_seen seen blocks.circle)) (sym pass_is) wrote)
    took.did.faults_are left)
