use Rattle.std.proofs.Common.{List, sym, ap, subst, ◌∙◌, arith}
use Rattle.source_tree.specs.Ends.{SourceValue}
use Rattle.source_table.specs.Sources.{AreApart, roots_of, source_in}
use Rattle.source_table.proofs.Placed.{are_apart, no_source, read_is, within}
use Rattle.source_table.proofs.table.SourceTable.get.Goals as goal

pub index-requires : goal.index-requires
index-requires c =
    omega (
      arith,
      within c.self.inside.sources.items c.self.inside.places.marks.items c.self.invariant.0
          c.in-Some.place c.args.root (sym c.in-Some.ensures),
      c.self.inside.sources.ok.0,
    )

pub returns-in-Some-clause-source : goal.returns-in-Some-clause-source
returns-in-Some-clause-source c =
    read_is c.self.inside.sources.items c.self.inside.places.marks.items c.self.invariant.0
    c.in-Some.place c.args.root c.index.result.now (sym c.in-Some.ensures)
    c.index.ensures
    ∙ ap (λ (all : List SourceValue). source_in all c.args.root) c.self.view_is

pub returns-in-Some-clause-apart : goal.returns-in-Some-clause-apart
returns-in-Some-clause-apart c =
    subst AreApart c.self.view_is
    (are_apart (roots_of c.self.inside.sources.items) c.self.inside.places.marks.items
    c.self.invariant.0)

pub returns-in-None-clause-source : goal.returns-in-None-clause-source
returns-in-None-clause-source c =
    sym (no_source c.self.inside.sources.items c.self.inside.places.marks.items c.self.invariant.0
    c.args.root (sym c.in-None.ensures))
    ∙ ap (λ (all : List SourceValue). source_in all c.args.root) c.self.view_is

pub returns-in-None-clause-apart : goal.returns-in-None-clause-apart
returns-in-None-clause-apart c =
    subst AreApart c.self.view_is
    (are_apart (roots_of c.self.inside.sources.items) c.self.inside.places.marks.items
    c.self.invariant.0)
