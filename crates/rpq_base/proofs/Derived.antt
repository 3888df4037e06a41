-- The derived tests for equal values find exactly the equal ones.
use Rattle.std.proofs.Common.{◌≡◌, ℕ, Bool, true, ◌&&◌, Decides, refl, ap, Option, Some, None, nat_eq}
use Rattle.std.proofs.Math.Bool.{beq}
use Rattle.std.proofs.lemmas.Bool.{false≢true, and_parts}
use Rattle.std.proofs.lemmas.Bool.Decides.{Decides-eqb}
use Rattle.std.specs.Cmp.{booleans_Decides}
use Rattle.std.specs.Option.{option_eq}
use Rattle.rpq_base.specs.Same.{same_name, same_pair}
use Rattle.rpq_base.specs.TupleValue.{TupleValue}
use Rattle.rpq_base.specs.declared.data.Label.{Label}
use Rattle.rpq_base.specs.declared.data.Edge.{Edge}
use Rattle.rpq_base.specs.declared.data.Act.TheVariants.{Insert, Delete}
use Rattle.rpq_base.specs.declared.data.Entry.{Entry}
use Rattle.rpq_base.specs.declared.data.Event.{Event}
use Rattle.rpq_base.proofs.Equality.{names, pairs}

-- two tests together decide both
both_hold : (first second : Bool) → first ≡ true → second ≡ true → (first && second) ≡ true
both_hold first second p q = rw (p, q) refl

-- the derived test of two labels
pub labels : (first second : Label) →
    Decides (same_name first.name second.name && beq first.back second.back) (first ≡ second)
labels first second =
    let test = same_name first.name second.name in
    let name = names first.name second.name in
    let back = booleans_Decides first.back second.back in (
      λ e.
          let parts = and_parts test (beq first.back second.back) e in
          λ i. record { name = name.0 parts.0 i; back = back.0 parts.1 i },
      λ e. both_hold test (beq first.back second.back) (name.1 (ap (λ (each : Label). each.name) e)) (back.1 (ap (λ (each : Label). each.back) e)),
    )

-- that of two edges
pub edges : (first second : Edge) →
    Decides (same_name first.from second.from && ((same_name first.label.name second.label.name && beq first.label.back second.label.back)
    && same_name first.to second.to)) (first ≡ second)
edges first second =
    let label_test = same_name first.label.name second.label.name && beq first.label.back second.label.back in
    let from = names first.from second.from in
    let label = labels first.label second.label in
    let to = names first.to second.to in (
      λ e.
          let outer = and_parts (same_name first.from second.from) (label_test && same_name first.to second.to) e in
          let inner = and_parts label_test (same_name first.to second.to) outer.1 in
          λ i. record { from = from.0 outer.0 i; label = label.0 inner.0 i; to = to.0 inner.1 i },
      λ e. both_hold (same_name first.from second.from) (label_test && same_name first.to second.to)
          (from.1 (ap (λ (each : Edge). each.from) e))
          (both_hold label_test (same_name first.to second.to) (label.1 (ap (λ (each : Edge). each.label) e)) (to.1 (ap (λ (each : Edge). each.to) e))),
    )

-- that of two ends
pub ends : (first second : Option ℕ) → Decides (option_eq nat_eq first second) (first ≡ second)
ends None None = (λ e. refl, λ e. refl)
ends None (Some end) = (λ e. absurd (false≢true e), λ e. cc)
ends (Some end) None = (λ e. absurd (false≢true e), λ e. cc)
ends (Some end) (Some other) = (λ e. ap Some ((Decides-eqb end other).0 e), λ e. (Decides-eqb end other).1 cc)

-- that of two inserts, by those of their edges and ends
pub inserts : (edge other : Edge) (until end : Option ℕ) (same : Bool) → Decides same (edge ≡ other) →
    Decides (same && option_eq nat_eq until end) (Insert edge until ≡ Insert other end)
inserts edge other until end same edge_test = (
  λ e.
      let parts = and_parts same (option_eq nat_eq until end) e in
      let edge_is = edge_test.0 parts.0 in
      let until_is = (ends until end).0 parts.1 in
      λ i. Insert (edge_is i) (until_is i),
  λ e.
      let edge_is : edge ≡ other = cc in
      let until_is : until ≡ end = cc in
      both_hold same (option_eq nat_eq until end) (edge_test.1 edge_is) ((ends until end).1 until_is),
)

-- that of two deletes
pub deletes : (edge other : Edge) (same : Bool) → Decides same (edge ≡ other) → Decides same (Delete edge ≡ Delete other)
deletes edge other same edge_test = (λ e. ap Delete (edge_test.0 e), λ e. let edge_is : edge ≡ other = cc in edge_test.1 edge_is)

-- that of two tuples, by that of their acts
pub tuples : (first second : TupleValue) (same : Bool) → Decides same (first.act ≡ second.act) →
    Decides (nat_eq first.time second.time && same) (first ≡ second)
tuples first second same act_test =
    let time = Decides-eqb first.time second.time in (
      λ e.
          let parts = and_parts (nat_eq first.time second.time) same e in
          λ i. record { time = time.0 parts.0 i; act = act_test.0 parts.1 i },
      λ e. both_hold (nat_eq first.time second.time) same (time.1 (ap (λ (each : TupleValue). each.time) e)) (act_test.1 (ap (λ (each : TupleValue). each.act) e)),
    )

-- that of two entries, by that of their tuples
pub entries : (first second : Entry) (same : Bool) → Decides same (first.tuple ≡ second.tuple) →
    Decides (nat_eq first.stream second.stream && same) (first ≡ second)
entries first second same tuple_test =
    let stream = Decides-eqb first.stream second.stream in (
      λ e.
          let parts = and_parts (nat_eq first.stream second.stream) same e in
          λ i. record { stream = stream.0 parts.0 i; tuple = tuple_test.0 parts.1 i },
      λ e. both_hold (nat_eq first.stream second.stream) same (stream.1 (ap (λ (each : Entry). each.stream) e)) (tuple_test.1 (ap (λ (each : Entry). each.tuple) e)),
    )

-- that of two events
pub events : (first second : Event) →
    Decides (nat_eq first.query second.query && (beq first.added second.added && same_pair first.pair second.pair)) (first ≡ second)
events first second =
    let rest = beq first.added second.added && same_pair first.pair second.pair in
    let query = Decides-eqb first.query second.query in
    let added = booleans_Decides first.added second.added in
    let pair = pairs first.pair second.pair in (
      λ e.
          let outer = and_parts (nat_eq first.query second.query) rest e in
          let inner = and_parts (beq first.added second.added) (same_pair first.pair second.pair) outer.1 in
          λ i. record { query = query.0 outer.0 i; added = added.0 inner.0 i; pair = pair.0 inner.1 i },
      λ e. both_hold (nat_eq first.query second.query) rest (query.1 (ap (λ (each : Event). each.query) e))
          (both_hold (beq first.added second.added) (same_pair first.pair second.pair)
          (added.1 (ap (λ (each : Event). each.added) e)) (pair.1 (ap (λ (each : Event). each.pair) e))),
    )
