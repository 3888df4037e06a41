use Rattle.std.proofs.Common.{rules, Some, refl, sym, ap, subst, ◌∙◌}
use Rattle.dfa_table.specs.DfaValue.{DfaValue}
use Rattle.query_index.specs.Answering.{IsEdgeFor}
use Rattle.query_index.specs.IndexValue.{IndexValue}
use Rattle.query_index.specs.Stepping.{HasStepped}
use Rattle.query_index.proofs.Small.{raises_small}
use Rattle.query_index.proofs.Untouched.{leaves_both}
use Rattle.query_index.proofs.index.QueryIndex.step.Goals as goal

pub returns-in_ok-change_forest-in-Some : goal.returns-in_ok-change_forest-in-Some
returns-in_ok-change_forest-in-Some g c = λ names is.
    let new : IndexValue = record {
      clock = c.advance-now.new.self;
      forest = c.change_forest-in-Some.new.forest;
      shown = c.self.inside.shown;
      stale = c.change_forest-in-Some.new.stale;
    } in
    subst (λ (old : IndexValue).
    HasStepped names c.args.entry.now old new c.in_ok-first.first.items
    c.change_forest-in-Some.new.forest.log) c.self.view_is
    (record {
      window = search rules;
      time = search rules;
      middle = c.change_forest.new.forest;
      expired = search rules;
      change = Some c.in-Some.change;
      suits = c.in-Some.ensures names c.change_forest.new.forest.dfa
          (subst (λ (dfa : DfaValue).
          IsEdgeFor names dfa c.args.entry.now.tuple.act c.args.id)
          (sym (ap (λ (index : IndexValue). index.forest.dfa) c.self.view_is)
          ∙ sym c.in_ok-change_forest.ensures.applied.dfa) is);
      changed = search rules;
      shown = refl;
      fresh = leaves_both c.self.inside.stale c.change_forest.new.stale
          c.change_forest-in-Some.new.stale
          c.self.inside.forest c.change_forest.new.forest c.change_forest-in-Some.new.forest
          c.in_ok-change_forest.ensures.fresh c.in_ok-change_forest-in-Some.ensures.fresh;
    })

pub change_forest-requires-in-Some-clause-small : goal.change_forest-requires-in-Some-clause-small
change_forest-requires-in-Some-clause-small g c κs within =
    let names = c.requires.small.0 in
    let act = c.args.entry.now.tuple.act in
    raises_small names c.change_forest.new.forest.dfa c.advance-now.new.self
    c.args.entry.now.tuple.time act
    c.in-Some.change c.requires.small.1
    (c.in-Some.ensures names c.change_forest.new.forest.dfa
    (subst (λ (dfa : DfaValue). IsEdgeFor names dfa act c.args.id)
    (sym (ap (λ (index : IndexValue). index.forest.dfa) c.self.view_is)
    ∙ sym c.in_ok-change_forest.ensures.applied.dfa) c.requires.small.2))
