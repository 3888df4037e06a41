use Rattle.std.proofs.Common.{◌≡◌, ℕ, List, Option, Some, None, Bor, subst, sym}
use Rattle.std.specs.Prelude.{IfOk}
use Rattle.rpq_base.specs.declared.data.Pair.{Pair}
use Rattle.join_file.specs.declared.data.JoinAtom.{JoinAtom}
use Rattle.join_bindings.specs.Overlaps.{Suffice}
use Rattle.join_bindings.specs.Partial.{Fits, atoms_at}
use Rattle.join_file.proofs.Mapping.{ok_map}
use Rattle.join_bindings.proofs.Narrowing.{suffice_exactly, suffice_still}
use Rattle.join_bindings.proofs.query_pairs.QueryPairs.fitting.Goals as goal

-- what is found suffices, where the ends are these
abbrev Found : List (List Pair) → List JoinAtom → JoinAtom → Option (Bor (List ℕ)) → Option (Bor (List ℕ)) → List Pair → Type 0
Found sets atoms atom from to found = Suffice sets atoms atom (λ pair. Fits from pair.from × Fits to pair.to) found

pub returns-in-Some-Some : goal.returns-in-Some-Some
returns-in-Some-Some c =
    let sets : List (List Pair) = c.args.self.now in
    let atoms = atoms_at c.args.atoms.now in
    let atom = c.args.atom.now in
    subst (λ (from : Option (Bor (List ℕ))). IfOk c.one.result (λ found. Found sets atoms atom from c.args.to found.items)) (sym c.in-Some-Some.is-0)
    (subst (λ (to : Option (Bor (List ℕ))). IfOk c.one.result (λ found. Found sets atoms atom (Some c.in-Some-Some.from) to found.items)) (sym c.in-Some-Some.is-1)
    (ok_map c.one.result _ (λ found. Found sets atoms atom (Some c.in-Some-Some.from) (Some c.in-Some-Some.to) found.items) (λ found fits.
    suffice_exactly sets atoms atom c.of-pairs.result.now found.items
    (λ pair. Fits (Some c.in-Some-Some.from) pair.from × Fits (Some c.in-Some-Some.to) pair.to) c.of-pairs.ensures fits) c.one.ensures))

pub returns-in-Some-None : goal.returns-in-Some-None
returns-in-Some-None c =
    let sets : List (List Pair) = c.args.self.now in
    let atoms = atoms_at c.args.atoms.now in
    let atom = c.args.atom.now in
    subst (λ (from : Option (Bor (List ℕ))). IfOk c.with_source.result (λ found. Found sets atoms atom from c.args.to found.items)) (sym c.in-Some-None.is-0)
    (subst (λ (to : Option (Bor (List ℕ))). IfOk c.with_source.result (λ found. Found sets atoms atom (Some c.in-Some-None.from) to found.items)) (sym c.in-Some-None.is-1)
    (ok_map c.with_source.result _ (λ found. Found sets atoms atom (Some c.in-Some-None.from) None found.items) (λ found suffice.
    suffice_still sets atoms atom found.items (λ pair. c.in-Some-None.from.now ≡ pair.from)
    (λ pair. Fits (Some c.in-Some-None.from) pair.from × Fits None pair.to) (λ pair fits. fits.0) suffice) c.with_source.ensures))

pub returns-in-None-Some : goal.returns-in-None-Some
returns-in-None-Some c =
    let sets : List (List Pair) = c.args.self.now in
    let atoms = atoms_at c.args.atoms.now in
    let atom = c.args.atom.now in
    subst (λ (from : Option (Bor (List ℕ))). IfOk c.with_target.result (λ found. Found sets atoms atom from c.args.to found.items)) (sym c.in-None-Some.is-0)
    (subst (λ (to : Option (Bor (List ℕ))). IfOk c.with_target.result (λ found. Found sets atoms atom None to found.items)) (sym c.in-None-Some.is-1)
    (ok_map c.with_target.result _ (λ found. Found sets atoms atom None (Some c.in-None-Some.to) found.items) (λ found suffice.
    suffice_still sets atoms atom found.items (λ pair. c.in-None-Some.to.now ≡ pair.to)
    (λ pair. Fits None pair.from × Fits (Some c.in-None-Some.to) pair.to) (λ pair fits. fits.1) suffice) c.with_target.ensures))

pub returns-in-None-None : goal.returns-in-None-None
returns-in-None-None c =
    let sets : List (List Pair) = c.args.self.now in
    let atoms = atoms_at c.args.atoms.now in
    let atom = c.args.atom.now in
    subst (λ (from : Option (Bor (List ℕ))). IfOk c.all.result (λ found. Found sets atoms atom from c.args.to found.items)) (sym c.in-None-None.is-0)
    (subst (λ (to : Option (Bor (List ℕ))). IfOk c.all.result (λ found. Found sets atoms atom None to found.items)) (sym c.in-None-None.is-1)
    (ok_map c.all.result _ (λ found. Found sets atoms atom None None found.items) (λ found all.
    suffice_exactly sets atoms atom c.of-pairs.result.now found.items (λ pair. Fits None pair.from × Fits None pair.to) c.of-pairs.ensures (λ pair. (
      (λ member. ((all pair).0 member, (tt, tt))),
      (λ both. (all pair).1 both.0),
    ))) c.all.ensures))
