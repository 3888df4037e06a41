use Rattle.std.proofs.Common.{◌+◌, List, take, slice_index_or, Option, None}
use Rattle.std.proofs.Common.{sym, subst}
use Rattle.std.proofs.lemmas.List.{take_all}
use Rattle.rpq_base.specs.declared.data.Entry.{Entry}
use Rattle.path_engine.specs.declared.ends.EdgeNumbers.{EdgeNumbers}
use Rattle.path_engine.specs.Ends.{AreEndsForEach}
use Rattle.path_engine.specs.Ends.{AreAllEndsFor, AreFirstEndsForEach}
use Rattle.path_engine.proofs.Each.{zip_more}
use Rattle.path_engine.proofs.Fronts.{zip_both}
use Rattle.path_engine.proofs.ends.last_ends.Goals as goal

pub loop-place-init : goal.loop-place-init
loop-place-init c = λ queries table firsts.
    subst (AreAllEndsFor c.args.names.now queries (take 0 c.args.entries.now))
    (sym {A = List (Option EdgeNumbers)} c.new-found.ensures.items) tt

pub loop-place-preserved : goal.loop-place-preserved
loop-place-preserved c = λ queries table firsts.
    let names = c.args.names.now in
    let entries = c.args.entries.now in
    let place = c.loop-place.place in
    let entry : Entry = c.index-entries-place.result in
    let first : Option EdgeNumbers = slice_index_or c.args.first.now place None in
    let ends : Option EdgeNumbers = c.last_of.result in
    let here : AreFirstEndsForEach names queries entry.tuple.act first =
    subst (λ (each : Entry). AreFirstEndsForEach names queries each.tuple.act first)
    (sym c.index-entries-place.is)
    (zip_both (λ (each : Entry) (own : Option EdgeNumbers).
    AreFirstEndsForEach names queries each.tuple.act own) entries c.args.first.now place entry
    None firsts c.loop-place-test.true) in
    subst (AreAllEndsFor names queries (take (place + 1) entries))
    (sym {A = List (Option EdgeNumbers)} c.in_ok-push.ensures.items)
    (zip_more (λ (each : Entry) (own : Option EdgeNumbers).
    AreEndsForEach names queries each.tuple.act own) entries c.loop-place.found.items place entry
    ends c.loop-place-test.true c.index-entries-place.is
    (c.loop-place.invariant queries table firsts)
    (subst (λ (each : Entry). AreEndsForEach names queries each.tuple.act ends) c.entry.view_is
    (c.last_of.ensures queries table
    (subst (λ (each : Entry). AreFirstEndsForEach names queries each.tuple.act first)
    (sym c.entry.view_is) here))))

pub returns : goal.returns
returns c = λ queries table firsts.
    subst (λ (all : List Entry).
    AreAllEndsFor c.args.names.now queries all c.loop-place.found.items)
    (take_all c.loop-place.place c.args.entries.now c.loop-place-test.false)
    (c.loop-place.invariant queries table firsts)
