use Rattle.std.proofs.Common.{◌++◌, ◌∷◌, [], List, Some, cond, nat_eq, sym, ap, ap₂, subst, ◌∙◌, arith}
use Rattle.source_tree.specs.Ends.{SourceValue}
use Rattle.source_table.specs.Places.{ArePlaced, place_of}
use Rattle.source_table.specs.Sources.{roots_of, source_in}
use Rattle.source_table.proofs.Placed.{next_place, placed_more}
use Rattle.source_table.proofs.table.SourceTable.add.Goals as goal

pub invariant_of-self-2 : goal.invariant_of-self-2
invariant_of-self-2 c =
    let old = c.self.inside.sources.items in
    let source = c.args.source in
    let places = c.self.inside.places.marks.items in (
      subst (λ (items : List SourceValue). ArePlaced (roots_of items) c.add.new.self.marks.items)
          (sym (c.push_reserved.ensures.items
          ∙ ap (λ (items : List SourceValue). items ++ source ∷ []) c.reserve.ensures.items))
          (placed_more old places c.add.new.self.marks.items source c.self.invariant.0
          (ap (λ (all : List SourceValue). source_in all source.tree.root) c.self.view_is ∙ c.requires.new)
          (λ each. c.in_ok-add.ensures.given each
          ∙ ap₂ (λ root place. cond (nat_eq root each) (Some place) (place_of places each))
          c.root.ensures.root
          (omega (arith, c.len.ensures, c.reserve.ensures.len, c.self.inside.sources.ok.0)))),
      c.add.ensures.short,
    )

pub add-requires-clause-few : goal.add-requires-clause-few
add-requires-clause-few c =
    let old = c.self.inside.sources.items in
    let root = c.args.source.tree.root in
    omega (
      arith,
      c.len.ensures,
      c.reserve.ensures.len,
      c.self.inside.sources.ok.0,
      next_place old c.self.inside.places.marks.items root c.self.invariant.0
          (ap (λ (all : List SourceValue). source_in all root) c.self.view_is ∙ c.requires.new)
          c.self.invariant.1 c.requires.small,
    )
