use Rattle.std.proofs.Common.{◌≡◌, ◌+◌, ◌<◌, ℕ, List, All, Contains, filter_map, length, nat_eq, sym, ap, subst, ◌∙◌, arith}
use Rattle.std.specs.List.{IsDistinct}
use Rattle.source_tree.specs.Ends.{SourceValue}
use Rattle.source_table.specs.Places.{ArePlaced, place_of}
use Rattle.source_table.specs.Parts.{AreSound}
use Rattle.source_table.specs.Sources.{AreReady, HaveTaken, roots_of}
use Rattle.source_table.proofs.Chosen.{chosen_once}
use Rattle.source_table.proofs.Placed.{root_at}
use Rattle.source_table.proofs.Tried.{all_taken, all_within, can_take, on_ok, same_roots}
use Rattle.source_table.proofs.table.SourceTable.change_each.Goals as goal

pub change_all-requires-clause-once : goal.change_all-requires-clause-once
change_all-requires-clause-once g c κs within =
    subst (IsDistinct nat_eq) (sym (c.deref.ensures.value ∙ c.in_ok-choose.ensures))
    (chosen_once (place_of c.self.inside.places.marks.items)
    (λ one other place here there. root_at c.self.inside.sources.items
    c.self.inside.places.marks.items c.self.invariant.0 place one other here there)
    c.args.roots.now c.requires.sorted)

pub change_all-requires-clause-ready : goal.change_all-requires-clause-ready
change_all-requires-clause-ready g c κs within offset d below there =
    can_take c.args.change c.args.product.now c.self.inside.sources.items c.self.inside.places.marks.items
    c.args.roots.now offset d c.self.invariant.0
    (subst (AreReady c.args.change c.args.product.now
    c.args.roots.now) (sym c.self.view_is) c.requires.ready)
    (subst (λ (list : List ℕ). Contains list offset)
    (c.deref.ensures.value ∙ c.in_ok-choose.ensures)
    (let same : 0 + offset ≡ offset = omega arith in
    subst (Contains c.deref.result.now) same there))

pub check-requires : goal.check-requires
check-requires g c =
    subst (λ (list : List ℕ). All (λ place. place < length c.deref-2.result.now) list)
    (sym (c.deref-3.ensures.value ∙ c.in_ok-choose.ensures))
    (subst (λ count. All (λ place. place < count)
    (filter_map (place_of c.self.inside.places.marks.items) c.args.roots.now))
    (sym (ap length c.deref-2.ensures.value ∙ c.change_all.ensures.len))
    (all_within c.self.inside.sources.items c.self.inside.places.marks.items c.args.roots.now
    c.self.invariant.0))

pub invariant_of-self-2 : goal.invariant_of-self-2
invariant_of-self-2 g c = (
  subst (λ (roots : List ℕ). ArePlaced roots c.self.inside.places.marks.items)
      (sym (same_roots c.deref.result.now c.args.change c.args.product.now
      c.self.inside.sources.items
      c.change_all.new.sources.items c.change_all.ensures.len c.change_all.ensures.tries))
      c.self.invariant.0,
  c.self.invariant.1,
)

pub returns-clause-taken : goal.returns-clause-taken
returns-clause-taken g c =
    let product = c.args.product.now in
    let new = c.change_all.new.sources.items in
    let chosen = c.deref.result.now in
    on_ok c.check.result (λ sound.
    subst (λ (old : List SourceValue). HaveTaken c.args.change product
    c.args.roots.now old new) c.self.view_is
    (all_taken chosen c.args.change product c.self.inside.sources.items
    new c.self.inside.places.marks.items c.args.roots.now c.self.invariant.0
    (c.deref.ensures.value ∙ c.in_ok-choose.ensures) c.change_all.ensures.len
    c.change_all.ensures.tries
    (subst (λ (list : List ℕ). AreSound list new)
    (c.deref-3.ensures.value ∙ sym c.deref.ensures.value)
    (subst (AreSound c.deref-3.result.now) c.deref-2.ensures.value sound))))
    c.check.ensures

pub returns-clause-roots : goal.returns-clause-roots
returns-clause-roots g c =
    same_roots c.deref.result.now c.args.change c.args.product.now
    c.self.inside.sources.items
    c.change_all.new.sources.items c.change_all.ensures.len c.change_all.ensures.tries
    ∙ ap (λ (all : List SourceValue). roots_of all) c.self.view_is
