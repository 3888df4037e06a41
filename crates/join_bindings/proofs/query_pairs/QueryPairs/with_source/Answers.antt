use Rattle.std.proofs.Common.{◌≡◌, List, sym, subst}
use Rattle.std.specs.Prelude.{All}
use Rattle.rpq_base.specs.declared.data.Pair.{Pair}
use Rattle.join_bindings.specs.declared.overlap.Overlap.{Overlap}
use Rattle.join_bindings.specs.Overlaps.{IsOverlap, IsNarrow, Suffice}
use Rattle.join_bindings.specs.Partial.{atoms_at}
use Rattle.join_file.proofs.Mapping.{ok_map}
use Rattle.join_bindings.proofs.Narrowing.{HoldsAll, suffice_exactly, suffice_to}
use Rattle.join_bindings.proofs.query_pairs.QueryPairs.with_source.Goals as goal

pub returns-in-Some : goal.returns-in-Some
returns-in-Some c =
    let sets : List (List Pair) = c.args.self.now in
    let inside : List (List Pair) = c.self.inside.sets.items in
    let atoms = atoms_at c.args.atoms.now in
    let atom = c.args.atom.now in
    let are : All (IsOverlap inside) c.deref.result.now =
    subst (λ (list : List Overlap). All (IsOverlap inside) list) (sym c.deref.ensures.value) c.self.invariant in
    let narrow : HoldsAll sets atoms atom.to c.in-Some.targets.now =
    subst (λ (given : List (List Pair)). HoldsAll given atoms atom.to c.in-Some.targets.now) c.self.view_is
    (subst (IsNarrow inside atoms atom.to) c.in-Some.is (c.narrowest.ensures inside are)) in
    ok_map c.with_source_among.result _ (λ found. Suffice sets atoms atom (λ pair. c.args.from.now ≡ pair.from) found.items) (λ found fits.
    suffice_to sets atoms atom c.of-pairs.result.now found.items c.in-Some.targets.now (λ pair. c.args.from.now ≡ pair.from) c.of-pairs.ensures narrow fits)
    c.with_source_among.ensures

pub returns-in-None : goal.returns-in-None
returns-in-None c =
    let sets : List (List Pair) = c.args.self.now in
    let atoms = atoms_at c.args.atoms.now in
    let atom = c.args.atom.now in
    ok_map c.with_source.result _ (λ found. Suffice sets atoms atom (λ pair. c.args.from.now ≡ pair.from) found.items) (λ found fits.
    suffice_exactly sets atoms atom c.of-pairs.result.now found.items (λ pair. c.args.from.now ≡ pair.from) c.of-pairs.ensures fits)
    c.with_source.ensures
