use Rattle.std.proofs.Common.{◌≡◌, ℕ, ◌+◌, ◌<◌, length, get_or, sym, subst, ◌∙◌, arith}
use Rattle.std.proofs.Common.{length-set, get_or-set_other}
use Rattle.std.proofs.lemmas.List.{get_or_default}
use Rattle.query_file.specs.Compiled.{CompiledValue}
use Rattle.query_index.specs.IndexValue.{IndexValue}
use Rattle.query_index.specs.Showing.{StandsStill}
use Rattle.path_engine.proofs.Fronts.{each_more}
use Rattle.path_engine.proofs.refreshing.refresh_part.Goals as goal

pub loop-offset-preserved : goal.loop-offset-preserved
loop-offset-preserved c =
    let queries = c.args.queries.now in
    let names = c.args.names.now in
    let start = c.args.start in
    let olds = c.args.part.now in
    let current = c.loop-offset.part in
    let offset = c.loop-offset.offset in
    let found = c.index-part-offset.result in
    let asked = c.index-queries-start.result in
    let new = c.refresh_one.new.index in
    let was = c.loop-offset.invariant in
    let within : offset < length current =
    omega (arith, c.loop-offset.auto.part, c.loop-offset-test.true) in
    let inside : start + offset < length queries =
    omega (arith, within, was.as_many, c.requires.inside) in
    let here : (d : IndexValue) (query : CompiledValue) →
    query ≡ get_or queries (start + offset) query →
    StandsStill query names (get_or olds offset d) new =
    λ d query is.
    let same : asked ≡ query =
    c.index-queries-start.is
    ∙ (get_or_default queries (start + offset) asked query inside ∙ sym is) in
    subst (λ (each : CompiledValue). StandsStill each names (get_or olds offset d) new) same
    (subst (λ (old : IndexValue). StandsStill asked names old new)
    (get_or_default current offset found d within ∙ was.left offset d (omega arith))
    c.refresh_one.ensures) in
    record {
      as_many = length-set current offset new ∙ was.as_many;
      left = λ k d after.
          get_or-set_other current offset k new d (λ same. omega (arith, same, after))
          ∙ was.left k d (omega (arith, after));
      done = each_more
          (λ (k : ℕ) (old now : IndexValue). (query : CompiledValue) →
          query ≡ get_or queries (start + k) query → StandsStill query names old now)
          olds current offset new within here was.done;
    }
