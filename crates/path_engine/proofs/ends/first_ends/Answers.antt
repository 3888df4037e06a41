use Rattle.std.proofs.Common.{◌+◌, List, [], ◌∷◌, length, take, Option}
use Rattle.std.proofs.Common.{refl, sym, ap, subst, ◌∙◌, arith, length-append}
use Rattle.std.proofs.lemmas.List.{take_all}
use Rattle.rpq_base.specs.declared.data.Entry.{Entry}
use Rattle.path_engine.specs.declared.ends.EdgeNumbers.{EdgeNumbers}
use Rattle.path_engine.specs.Ends.{AreAllFirstEnds, AreFirstEndsForEach}
use Rattle.path_engine.specs.Keeping.{BringsNoName}
use Rattle.path_engine.proofs.Each.{zip_more}
use Rattle.path_engine.proofs.Fronts.{all_ends_more}
use Rattle.path_engine.proofs.ends.first_ends.Goals as goal

pub first_of-requires-clause-few : goal.first_of-requires-clause-few
first_of-requires-clause-few c =
    let was = c.loop-entry.invariant in
    omega (arith, was.grown, c.requires.few, c.loop-entry-test.true)

pub first_of-requires-clause-named : goal.first_of-requires-clause-named
first_of-requires-clause-named c = c.loop-entry.invariant.named

pub loop-entry-init : goal.loop-entry-init
loop-entry-init c = record {
  as_many = ap (λ (all : List (Option EdgeNumbers)). length all) c.new-found.ensures.items;
  kept = λ name number is. is;
  same = λ queries table none. refl;
  grown = omega arith;
  named = c.requires.named;
  ends = λ queries table.
      subst (AreAllFirstEnds c.args.names.now queries (take 0 c.args.entries.now))
      (sym {A = List (Option EdgeNumbers)} c.new-found.ensures.items) tt;
}

pub loop-entry-preserved : goal.loop-entry-preserved
loop-entry-preserved c =
    let was = c.loop-entry.invariant in
    let did = c.in_ok-ends.ensures in
    let names = c.first_of.new.names in
    let entries = c.args.entries.now in
    let place = c.loop-entry.entry-index in
    let entry : Entry = c.entry-item.result in
    let ends : Option EdgeNumbers = c.in_ok-ends.ends in
    record {
      as_many = omega (
        arith,
        was.as_many,
        ap (λ (all : List (Option EdgeNumbers)). length all) c.in_ok-push.ensures.items,
        length-append c.loop-entry.found.items (ends ∷ []),
      );
      kept = λ name number is. did.kept name number (was.kept name number is);
      same = λ queries table none.
          did.same queries table
          (subst (λ (each : Entry). BringsNoName each.tuple.act queries)
          (sym {A = Entry} c.entry.view_is)
          (subst (λ (each : Entry). BringsNoName each.tuple.act queries)
          (sym {A = Entry} c.entry-item.is) (none place entry (omega arith))))
          ∙ was.same queries table (λ k d below. none k d (omega (arith, below)));
      grown = omega (arith, was.grown, did.grown);
      named = did.named;
      ends = λ queries table.
          subst (AreAllFirstEnds names queries (take (place + 1) entries))
          (sym {A = List (Option EdgeNumbers)} c.in_ok-push.ensures.items)
          (zip_more (λ (each : Entry) (own : Option EdgeNumbers).
          AreFirstEndsForEach names queries each.tuple.act own)
          entries c.loop-entry.found.items place entry ends c.loop-entry-test.true c.entry-item.is
          (all_ends_more c.loop-entry.names names queries (take place entries)
          c.loop-entry.found.items did.kept (was.ends queries table))
          (subst (λ (each : Entry). AreFirstEndsForEach names queries each.tuple.act ends)
          c.entry.view_is (did.ends queries table)));
    }

pub returns-clause-as_many : goal.returns-clause-as_many
returns-clause-as_many c =
    omega (
      arith,
      c.loop-entry.invariant.as_many,
      c.loop-entry.auto.entry-index-end,
      c.loop-entry-test.false,
    )

pub returns-clause-ends : goal.returns-clause-ends
returns-clause-ends c = λ queries table.
    subst (λ (all : List Entry).
    AreAllFirstEnds c.loop-entry.names queries all c.loop-entry.found.items)
    (take_all c.loop-entry.entry-index c.args.entries.now c.loop-entry-test.false)
    (c.loop-entry.invariant.ends queries table)

pub returns-clause-kept : goal.returns-clause-kept
returns-clause-kept c = c.loop-entry.invariant.kept

pub returns-clause-grown : goal.returns-clause-grown
returns-clause-grown c =
    let was = c.loop-entry.invariant in
    omega (arith, was.grown, c.loop-entry.auto.entry-index-end)

pub returns-clause-named : goal.returns-clause-named
returns-clause-named c = c.loop-entry.invariant.named

pub returns-clause-same : goal.returns-clause-same
returns-clause-same c = λ queries table none.
    c.loop-entry.invariant.same queries table
    (λ k d below. none k d (omega (arith, below, c.loop-entry.auto.entry-index-end)))
