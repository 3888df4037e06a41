use Rattle.std.proofs.Common.{◌≡◌, IfOk, Vec, Global, sym, subst, ◌∙◌}
use Rattle.std.proofs.lemmas.List.{get_or_default}
use Rattle.end_events.specs.declared.numbered_event.NumberedEvent.{NumberedEvent}
use Rattle.query_file.specs.Compiled.{CompiledValue}
use Rattle.path_engine.specs.Front.{HasAnsweredAll}
use Rattle.path_engine.proofs.Fronts.{ends_at, items_of}
use Rattle.path_engine.proofs.front.feed_one.Goals as goal

pub answer_all-owns-requires-clause-index : goal.answer_all-owns-requires-clause-index
answer_all-owns-requires-clause-index g c κs within =
    c.requires.ready.index c.index-queries-share.result c.index-queries-share.is

pub answer_all-owns-requires-clause-ends : goal.answer_all-owns-requires-clause-ends
answer_all-owns-requires-clause-ends g c κs within =
    ends_at c.args.names.now c.args.queries.now c.args.entries.now c.args.ends.now
    c.args.share.now.place c.index-queries-share.result c.requires.ready.inside
    c.index-queries-share.is c.requires.ends

pub returns : goal.returns
returns g c =
    let queries = c.args.queries.now in
    let place = c.args.share.now.place in
    let query = c.index-queries-share.result in
    record {
      place = c.answer_all-owns.ensures.place;
      fed = λ each is.
          let same : query ≡ each =
          c.index-queries-share.is
          ∙ (get_or_default queries place query each c.requires.ready.inside
          ∙ sym {A = CompiledValue} is) in
          subst (λ (one : CompiledValue). IfOk c.answer_all-owns.result
          (λ (owns : Vec (Vec NumberedEvent Global) Global).
          HasAnsweredAll c.args.names.now c.args.entries.now place one c.args.share.now.index
          c.answer_all-owns.new.share.index (items_of owns.items))) same c.answer_all-owns.ensures.answered;
    }
