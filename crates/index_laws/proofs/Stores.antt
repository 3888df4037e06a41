-- Each history has a store.
use Rattle.std.proofs.Common.{◌≡◌, ℕ, ◌<◌, max, List, [], ◌∷◌, Option, Some}
use Rattle.std.proofs.Common.{None, refl, sym, ap, subst, ◌∙◌, ◌⊎◌, inl, inr, ⊎_elim, arith}
use Rattle.std.specs.Prelude.{◌↔◌, Contains}
use Rattle.std.proofs.lemmas.Bool.{cases_lt}
use Rattle.rpq_base.specs.declared.data.Edge.{Edge}
use Rattle.rpq_base.specs.declared.data.Act.{Act}
use Rattle.rpq_base.specs.declared.data.Act.TheVariants.{Insert, Delete, Tick}
use Rattle.rpq_base.specs.declared.data.Entry.{Entry}
use Rattle.rpq_base.proofs.Members.{cons_members, none_in}
use Rattle.rpq_model.specs.Window.{WindowValue, Placed, Inserts, inserted_edge, clock, live_entries}
use Rattle.rpq_model.specs.WindowLaws.{IsTupleDeadline}
use Rattle.rpq_model.proofs.OwnDeadlines.{deadline_of, deadline_is, one_deadline}
use Rattle.edge_store.specs.Edges.{raised}
use Rattle.tree_insert.specs.Best.{IsGreatestOf}
use Rattle.tree_insert.proofs.Bests.{greatest_one}
use Rattle.index_laws.specs.Store.{HasDeadline}
use Rattle.index_laws.specs.LawsOfStores.{HistoriesHaveStores}
use Rattle.index_laws.proofs.Told.{OrNot, edges_or_not}

-- ---- the greatest number of a kind

-- it is that of each kind with the same numbers
pub greatest_same : (value : Option ℕ) (kind other : ℕ → Type 0) →
    ((number : ℕ) → kind number ↔ other number) → IsGreatestOf kind value → IsGreatestOf other value
greatest_same None kind other alike greatest = λ number is. greatest number ((alike number).1 is)
greatest_same (Some value) kind other alike greatest = record {
  is = (alike value).0 greatest.is;
  most = λ number is. greatest.most number ((alike number).1 is);
}

-- with one number more it is the greater of both
greatest_raised : (value : Option ℕ) (kind other : ℕ → Type 0) (new : ℕ) →
    ((number : ℕ) → other number ↔ ((new ≡ number) ⊎ kind number)) → IsGreatestOf kind value →
    IsGreatestOf other (Some (raised value new))
greatest_raised None kind other new more greatest = record {
  is = (more new).1 (inl refl);
  most = λ number is. ⊎_elim
      (λ here. omega (arith, here))
      (λ there. absurd (greatest number there))
      ((more number).0 is);
}
greatest_raised (Some value) kind other new more greatest = record {
  is = (more (max value new)).1 (⊎_elim
      (λ less.
      let is : value ≡ max value new = omega (arith, less) in inr (subst kind is greatest.is))
      (λ le. inl (omega (arith, le)))
      (cases_lt new value));
  most = λ number is. ⊎_elim
      (λ here. omega (arith, here))
      (λ there. let le = greatest.most number there in omega (arith, le))
      ((more number).0 is);
}

-- ---- the greatest deadline of live entries

-- one of these entries inserts the edge and has the deadline
abbrev IsDueAmong : WindowValue → List Placed → Edge → ℕ → Type 0
IsDueAmong window entries edge deadline = (live : Placed) × Contains entries live
    × Inserts live.entry.tuple.act edge × IsTupleDeadline window live.entry.tuple deadline

-- an act inserts the edge, or not
inserts_or_not : (act : Act) (edge : Edge) → OrNot (Inserts act edge)
inserts_or_not (Insert other until) edge = ⊎_elim
    (λ is. inl (ap (λ (one : Edge). Some one) is))
    (λ differ. inr (λ is. let edges : other ≡ edge = cc in differ edges))
    (edges_or_not other edge)
inserts_or_not (Delete other) edge = inr (λ is. cc)
inserts_or_not Tick edge = inr (λ is. cc)

-- an entry more
due_more : (window : WindowValue) (first : Placed) (rest : List Placed) (edge : Edge) →
    0 < window.slide → Inserts first.entry.tuple.act edge → (number : ℕ) →
    IsDueAmong window (first ∷ rest) edge number
    ↔ ((deadline_of window first.entry.tuple ≡ number) ⊎ IsDueAmong window rest edge number)
due_more window first rest edge some inserts number =
    let tuple = first.entry.tuple in
    let due_is = deadline_is window tuple some in (
      (λ due. ⊎_elim
          (λ here.
          let is = subst (λ (each : Placed). IsTupleDeadline window each.entry.tuple number)
          (sym here) due.3 in
          inl (one_deadline window tuple (deadline_of window tuple) number due_is is))
          (λ later. inr (due.0, later, due.2, due.3))
          ((cons_members first rest due.0).0 due.1)),
      (λ either. ⊎_elim
          (λ here. (
            first,
            (cons_members first rest first).1 (inl refl),
            inserts,
            subst (IsTupleDeadline window tuple) here due_is,
          ))
          (λ due. (due.0, (cons_members first rest due.0).1 (inr due.1), due.2, due.3))
          either),
    )

due_same : (window : WindowValue) (first : Placed) (rest : List Placed) (edge : Edge) →
    (Inserts first.entry.tuple.act edge → ⊥) → (number : ℕ) →
    IsDueAmong window rest edge number ↔ IsDueAmong window (first ∷ rest) edge number
due_same window first rest edge other number = (
  (λ due. (due.0, (cons_members first rest due.0).1 (inr due.1), due.2, due.3)),
  (λ due. ⊎_elim
      (λ here. absurd (other (ap (λ (each : Placed). inserted_edge each.entry.tuple.act) here ∙ due.2)))
      (λ later. (due.0, later, due.2, due.3))
      ((cons_members first rest due.0).0 due.1)),
)

greatest_due : (entries : List Placed) (window : WindowValue) (edge : Edge) → 0 < window.slide →
    (value : Option ℕ) × IsGreatestOf (IsDueAmong window entries edge) value
greatest_due [] window edge some = (None, λ number due. none_in due.0 due.1)
greatest_due (first ∷ rest) window edge some =
    let before = greatest_due rest window edge some in
    let old = IsDueAmong window rest edge in
    let new = IsDueAmong window (first ∷ rest) edge in
    ⊎_elim
    (λ inserts.
    let tuple = first.entry.tuple in (
      Some (raised before.0 (deadline_of window tuple)),
      greatest_raised before.0 old new (deadline_of window tuple)
          (due_more window first rest edge some inserts) before.1,
    ))
    (λ other.
    (before.0, greatest_same before.0 old new (due_same window first rest edge other) before.1))
    (inserts_or_not first.entry.tuple.act edge)

due_is : (window : WindowValue) (history : List Entry) (edge : Edge) (number : ℕ) →
    IsDueAmong window (live_entries window (clock history) history) edge number
    ↔ HasDeadline window history edge number
due_is window history edge number = (
  (λ due. record { live = due.0; member = due.1; inserts = due.2; due = due.3 }),
  (λ has. (has.live, has.member, has.inserts, has.due)),
)

pub histories_have_stores : HistoriesHaveStores
histories_have_stores = record {
  some = λ window history some.
      let live = live_entries window (clock history) history in
      let found = λ (edge : Edge). greatest_due live window edge some in (
        (λ edge. (found edge).0),
        (λ edge. greatest_same (found edge).0 (IsDueAmong window live edge)
            (HasDeadline window history edge) (due_is window history edge) (found edge).1),
      );
  one = λ window history store other first second edge.
      greatest_one (store edge) (other edge) (HasDeadline window history edge) (first edge)
      (second edge);
}
