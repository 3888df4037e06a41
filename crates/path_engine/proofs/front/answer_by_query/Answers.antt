use Rattle.std.proofs.Common.{◌≡◌, ℕ, List, length, map, Vec, Global}
use Rattle.std.proofs.Common.{sym, ap, subst, ◌∙◌, arith}
use Rattle.std.specs.List.{AllZip}
use Rattle.std.proofs.lemmas.Slice.Zip.{AllZip-long}
use Rattle.query_file.specs.Compiled.{CompiledValue}
use Rattle.query_index.specs.IndexValue.{IndexValue}
use Rattle.path_engine.specs.Front.{HasHistoryFor, HaveAnsweredAll}
use Rattle.path_engine.proofs.Fronts.{are_ready, as_many_shares, gathered, index_of, items_of}
use Rattle.path_engine.proofs.front.answer_by_query.Goals as goal

abbrev Has : ℕ → List (List ℕ) → CompiledValue → IndexValue → Type 0
Has more names query index = HasHistoryFor more query names index

pub shares_of-requires : goal.shares_of-requires
shares_of-requires g c = record {
  few = omega (
    arith,
    c.requires.few,
    AllZip-long (Has (length c.args.entries.now) c.args.names.now) c.args.queries.now
        c.args.indexes.now.items c.requires.indexes,
    ap (λ (all : Vec IndexValue Global). length all.items) c.replace-taken.ensures.value,
  );
}

pub feed_shares-requires-clause-ready : goal.feed_shares-requires-clause-ready
feed_shares-requires-clause-ready g c κs within =
    let more = length c.args.entries.now in
    let names = c.args.names.now in
    let queries = c.args.queries.now in
    let taken : map index_of c.in_ok-shares.shares.items ≡ c.args.indexes.now.items =
    c.in_ok-shares.ensures.indexes
    ∙ ap (λ (all : Vec IndexValue Global). all.items) c.replace-taken.ensures.value in
    are_ready more names queries c.in_ok-shares.shares.items
    (subst (AllZip (Has more names) queries) (sym {A = List IndexValue} taken) c.requires.indexes)
    c.in_ok-shares.ensures.places

pub returns : goal.returns
returns g c =
    let names = c.args.names.now in
    let entries = c.args.entries.now in
    let queries = c.args.queries.now in
    let shares = c.in_ok-shares.shares.items in
    let fed = c.in_ok-fed.fed.items in
    let events = items_of c.in_ok-events.events.items in
    let taken : map index_of shares ≡ c.args.indexes.now.items =
    c.in_ok-shares.ensures.indexes
    ∙ ap (λ (all : Vec IndexValue Global). all.items) c.replace-taken.ensures.value in
    let many = as_many_shares (length entries) names queries c.args.indexes.now.items shares
    c.requires.indexes taken in
    let news : c.gather.new.indexes.items ≡ map index_of fed = c.in_ok-events.ensures.indexes in
    subst (λ (all : List IndexValue).
    HaveAnsweredAll names entries 0 queries all c.gather.new.indexes.items events) taken
    (subst (λ (all : List IndexValue).
    HaveAnsweredAll names entries 0 queries (map index_of shares) all events)
    (sym {A = List IndexValue} news)
    (gathered names entries queries shares fed events c.requires.some_queries (sym many)
    c.in_ok-shares.ensures.places c.in_ok-fed.ensures c.in_ok-events.ensures.events))
