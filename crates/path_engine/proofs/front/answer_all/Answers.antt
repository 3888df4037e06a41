use Rattle.std.proofs.Common.{◌≡◌, ◌+◌, ◌++◌, ◌∷◌, [], ℕ, List, take, slice_index_or, Option, None, Vec, Global, refl}
use Rattle.std.proofs.Common.{sym, ap, subst, ◌∙◌, arith}
use Rattle.std.proofs.lemmas.List.{take_all, take_more}
use Rattle.std.proofs.lemmas.Slice.Zip.{AllZip-long}
use Rattle.rpq_base.specs.declared.data.Entry.{Entry}
use Rattle.end_events.specs.declared.numbered_event.NumberedEvent.{NumberedEvent}
use Rattle.dfa_table.specs.DfaValue.{DfaValue}
use Rattle.path_engine.specs.declared.ends.EdgeNumbers.{EdgeNumbers}
use Rattle.path_engine.specs.Ends.{AreEndsFor}
use Rattle.path_engine.specs.Front.{HasAnsweredAll}
use Rattle.path_engine.proofs.Fronts.{history_at, items_of, items_push, one_more, zip_both}
use Rattle.path_engine.proofs.front.answer_all.Goals as goal

abbrev Suit : List (List ℕ) → ℕ → DfaValue → Entry → Option EdgeNumbers → Type 0
Suit names number dfa entry own = AreEndsFor names number dfa entry.tuple.act own

pub loop-place-init : goal.loop-place-init
loop-place-init g c =
    let index = c.args.share.now.index in
    record {
      same = refl;
      answered = subst (λ (owns : List (Vec NumberedEvent Global)).
          HasAnsweredAll c.args.names.now (take 0 c.args.entries.now) c.args.share.now.place
          c.args.query.now index index (items_of owns))
          (sym {A = List (Vec NumberedEvent Global)} c.in_ok-owns.ensures.items) refl;
    }

pub bounds-ends-place : goal.bounds-ends-place
bounds-ends-place g c =
    omega (
      arith,
      AllZip-long (Suit c.args.names.now c.args.share.now.place c.args.query.now.dfa)
          c.args.entries.now c.args.ends.now c.requires.ends,
      c.loop-place-test.true,
    )

pub answer-requires-clause-index : goal.answer-requires-clause-index
answer-requires-clause-index g c κs within =
    history_at c.args.names.now c.args.entries.now c.loop-place.place c.args.share.now.place
    c.args.query.now c.args.share.now.index c.loop-place.share.index
    (items_of c.loop-place.owns.items) c.requires.index c.loop-place-test.true
    c.loop-place.invariant.answered

pub answer-requires-clause-edge : goal.answer-requires-clause-edge
answer-requires-clause-edge g c κs within =
    let suit = Suit c.args.names.now c.args.share.now.place c.args.query.now.dfa in
    let entry : Entry = c.index-entries-place.result in
    c.edge_for-id.ensures c.args.names.now c.args.query.now.dfa entry.tuple.act
    (subst (λ (each : Entry). suit each (slice_index_or c.args.ends.now c.loop-place.place None))
    (sym c.index-entries-place.is)
    (zip_both suit c.args.entries.now c.args.ends.now c.loop-place.place entry None
    c.requires.ends c.loop-place-test.true))

pub loop-place-preserved : goal.loop-place-preserved
loop-place-preserved g c =
    let names = c.args.names.now in
    let entries = c.args.entries.now in
    let query = c.args.query.now in
    let number = c.args.share.now.place in
    let old = c.args.share.now.index in
    let new = c.answer.new.self in
    let place = c.loop-place.place in
    let entry : Entry = c.index-entries-place.result in
    let owns = c.loop-place.owns.items in
    let more : take place entries ++ entry ∷ [] ≡ take (place + 1) entries =
    ap (λ (each : Entry). take place entries ++ each ∷ []) c.index-entries-place.is
    ∙ sym (take_more entries place entry c.loop-place-test.true) in
    record {
      same = c.loop-place.invariant.same;
      answered = subst (λ (all : List Entry).
          HasAnsweredAll names all number query old new (items_of c.push.new.self.items)) more
          (subst (HasAnsweredAll names (take place entries ++ entry ∷ []) number query old new)
          (sym (items_push owns c.push.new.self.items c.in_ok-own.own c.in_ok-push.ensures.items))
          (one_more names (take place entries) entry number query old c.loop-place.share.index new
          (items_of owns) c.in_ok-own.own.items c.loop-place.invariant.answered
          c.in_ok-own.ensures));
    }

pub returns-clause-answered : goal.returns-clause-answered
returns-clause-answered g c =
    subst (λ (all : List Entry).
    HasAnsweredAll c.args.names.now all c.args.share.now.place c.args.query.now
    c.args.share.now.index c.loop-place.share.index (items_of c.loop-place.owns.items))
    (take_all c.loop-place.place c.args.entries.now c.loop-place-test.false)
    c.loop-place.invariant.answered
