use Rattle.std.proofs.Common.{◌≡◌, ◌+◌, ◌<◌, List, [], length, get_or, take, sym, subst, arith}
use Rattle.std.specs.List.{AllZip}
use Rattle.std.proofs.lemmas.List.{get_or_default, take_all}
use Rattle.rpq_base.specs.declared.data.Entry.{Entry}
use Rattle.rpq_model.specs.Query.{path_query}
use Rattle.answer_rows.specs.Answers.{Answer}
use Rattle.answer_view.specs.View.{AreRowsOf}
use Rattle.query_file.specs.Compiled.{CompiledValue}
use Rattle.query_index.specs.IndexValue.{IndexValue}
use Rattle.query_index.specs.Answering.{HasHistory}
use Rattle.query_index.specs.Index.{IsIndexFor}
use Rattle.path_engine.proofs.Each.{zip_at, zip_more}
use Rattle.path_engine.proofs.Still.{all_still, histories_more, still_more}
use Rattle.path_engine.proofs.showing.rows_of_each.Goals as goal

-- the rows are those of the queries
abbrev Have : List Entry → List CompiledValue → List (List Answer) → Type 0
Have history queries rows = AllZip (λ (query : CompiledValue) (own : List Answer).
    AreRowsOf (path_query query.def) history own) queries rows

pub loop-place-init : goal.loop-place-init
loop-place-init c = record {
  have = c.requires.indexes;
  still = all_still c.args.queries.now c.args.names.now c.args.indexes.now;
  shown = λ history fed are.
      subst (Have history []) (sym {A = List (List Answer)} c.in_ok-rows.ensures.items) tt;
}

pub rows-requires-clause-index : goal.rows-requires-clause-index
rows-requires-clause-index c =
    let found = c.index-indexes-place.result in
    let query = c.index-queries-place.result in
    subst (HasHistory query c.args.names.now) c.index-indexes-place.is
    (zip_at (λ (each : CompiledValue) (index : IndexValue). HasHistory each c.args.names.now index)
    c.args.queries.now c.loop-place.indexes c.loop-place.place query found
    c.loop-place.invariant.have
    (omega (arith, c.requires.as_many, c.loop-place-test.true)) c.index-queries-place.is
    c.index-indexes-place.is)

pub returns-in_err-own-clause-kept : goal.returns-in_err-own-clause-kept
returns-in_err-own-clause-kept c =
    let current = c.loop-place.indexes in
    let place = c.loop-place.place in
    let found = c.index-indexes-place.result in
    let within : place < length current =
    omega (arith, c.loop-place.auto.indexes, c.loop-place-test.true) in
    still_more c.args.queries.now c.args.names.now c.args.indexes.now current place
    c.index-queries-place.result (get_or current place found) c.rows.new.self
    (omega (arith, c.requires.as_many, c.loop-place-test.true)) within c.index-queries-place.is
    (get_or_default current place found (get_or current place found) within)
    c.rows.ensures.kept c.loop-place.invariant.still

pub returns-in_err-push-clause-kept : goal.returns-in_err-push-clause-kept
returns-in_err-push-clause-kept c =
    let current = c.loop-place.indexes in
    let place = c.loop-place.place in
    let found = c.index-indexes-place.result in
    let within : place < length current =
    omega (arith, c.loop-place.auto.indexes, c.loop-place-test.true) in
    still_more c.args.queries.now c.args.names.now c.args.indexes.now current place
    c.index-queries-place.result (get_or current place found) c.rows.new.self
    (omega (arith, c.requires.as_many, c.loop-place-test.true)) within c.index-queries-place.is
    (get_or_default current place found (get_or current place found) within)
    c.rows.ensures.kept c.loop-place.invariant.still

pub loop-place-preserved : goal.loop-place-preserved
loop-place-preserved c =
    let queries = c.args.queries.now in
    let names = c.args.names.now in
    let olds = c.args.indexes.now in
    let current = c.loop-place.indexes in
    let place = c.loop-place.place in
    let found = c.index-indexes-place.result in
    let query = c.index-queries-place.result in
    let old = get_or current place found in
    let was = c.loop-place.invariant in
    let inside : place < length queries =
    omega (arith, c.requires.as_many, c.loop-place-test.true) in
    let within : place < length current =
    omega (arith, c.loop-place.auto.indexes, c.loop-place-test.true) in
    let old_is : old ≡ get_or current place old = get_or_default current place found old within in
    record {
      have = histories_more queries names olds current place query old c.rows.new.self inside
          within c.index-queries-place.is old_is c.rows.ensures.kept was.have;
      still = still_more queries names olds current place query old c.rows.new.self inside
          within c.index-queries-place.is old_is c.rows.ensures.kept was.still;
      shown = λ history fed are.
          let is = zip_at (λ (each : CompiledValue) (index : IndexValue).
          IsIndexFor each history fed names index) queries current place query old
          (was.still.stand history fed are) inside c.index-queries-place.is old_is in
          subst (Have history (take (place + 1) queries))
          (sym {A = List (List Answer)} c.in_ok-push.ensures.items)
          (zip_more (λ (each : CompiledValue) (own : List Answer).
          AreRowsOf (path_query each.def) history own) queries c.loop-place.rows.items place query
          c.in_ok-own.own inside c.index-queries-place.is (was.shown history fed are)
          (c.in_ok-own.ensures.rows history fed is));
    }

pub returns-clause-rows : goal.returns-clause-rows
returns-clause-rows c = λ history fed are.
    subst (λ (all : List CompiledValue). Have history all c.loop-place.rows.items)
    (take_all c.loop-place.place c.args.queries.now
    (omega (arith, c.requires.as_many, c.loop-place-test.false)))
    (c.loop-place.invariant.shown history fed are)
